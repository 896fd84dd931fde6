use Rattle.std.proofs.Common.{◌∙◌, refl, arith}
use Rattle.serving.proofs.UntoldLemmas.{untold_both, untold_none}
use Rattle.node_process.proofs.AwaitLemmas.{begins_all, begins_next}
use Rattle.node_process.proofs.awaiting.begin_awaits.Goals as goal

pub loop-item-init : goal.loop-item-init
loop-item-init c = record { begins = λ last all. all; untold = untold_none c.args.clients.now.seats; count = refl }

pub loop-item-preserved : goal.loop-item-preserved
loop-item-preserved c = record {
  begins = λ last left. c.loop-item.invariant.begins last
      (begins_next c.args.who c.args.until c.args.items.now c.loop-item.item-index c.item-item.result c.loop-item.clients.seats
      c.begin_one.new.clients.seats last (omega arith) c.item-item.is c.in_ok-begin_one.ensures.ok left);
  untold = untold_both c.args.clients.now.seats c.loop-item.clients.seats c.begin_one.new.clients.seats c.loop-item.invariant.untold
      c.begin_one.ensures.untold;
  count = c.begin_one.ensures.count ∙ c.loop-item.invariant.count;
}

pub returns-in_err-begin_one-clause-untold : goal.returns-in_err-begin_one-clause-untold
returns-in_err-begin_one-clause-untold c =
    untold_both c.args.clients.now.seats c.loop-item.clients.seats c.begin_one.new.clients.seats c.loop-item.invariant.untold
    c.begin_one.ensures.untold

pub returns-clause-ok : goal.returns-clause-ok
returns-clause-ok c =
    c.loop-item.invariant.begins c.loop-item.clients.seats
    (begins_all c.args.who c.args.until c.args.items.now c.loop-item.item-index c.loop-item.clients.seats (omega arith))
