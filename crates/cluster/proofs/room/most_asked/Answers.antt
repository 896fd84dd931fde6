use Rattle.std.proofs.Common.{◌∙◌, ap, sym}
use Rattle.xid.specs.Transactions.{TxParts}
use Rattle.protocol.specs.declared.requests.Request.TheVariants.{Timeout}
use Rattle.cluster.proofs.Bounds.{asked_leader, asked_manager}
use Rattle.cluster.proofs.room.most_asked.Goals as goal

pub returns-in-L-clause-bound : goal.returns-in-L-clause-bound
returns-in-L-clause-bound c = λ config are facts memory.
    asked_leader config c.args.sizes are facts memory c.get-in-L.result c.args.who c.in-L.field-0 c.in-L.is c.args.request.now
    (c.in-Timeout.is ∙ ap (λ (tx : TxParts). Timeout tx) (sym c.get-in-L.ensures))
    c.count-in-L.ensures.valid c.count-in-L.result c.from-acceptors.result c.count-in-L.ensures.value c.from-acceptors.ensures

pub returns-in-R-clause-bound : goal.returns-in-R-clause-bound
returns-in-R-clause-bound c = λ config are facts memory.
    asked_manager config c.args.sizes are facts memory c.in-Timeout.tx c.args.who c.in-R.field-0 c.in-R.is
    c.args.request.now c.in-Timeout.is c.from-acceptors.result c.from.result c.from-acceptors.ensures c.from.ensures
