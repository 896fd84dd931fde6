use Rattle.std.proofs.Common.{Option, sym, subst}
use Rattle.xid.specs.Places.{Place}
use Rattle.floored.specs.Nodes.{IsFlooredSound}
use Rattle.floored.proofs.Taking.{opened_as, sound_opened, unopened_as}
use Rattle.floored.proofs.node.Floored.open.Goals as goal

pub invariant_of-result : goal.invariant_of-result
invariant_of-result g c =
    subst (λ (floor : Option Place). IsFlooredSound floor c.in-Ok-open.node) (sym (c.floor-floor.ensures c.in-Ok.ensures.ok.known))
    (sound_opened c.args.config.now c.args.who (g.R.Record.held c.args.device) c.in-Ok.behind c.in-Ok.ensures.ok c.in-Ok-open.node
    c.in-Ok-open.ensures.ok)

pub returns-in-Ok-open-clause-ok : goal.returns-in-Ok-open-clause-ok
returns-in-Ok-open-clause-ok g c =
    opened_as c.args.config.now c.args.who (g.R.Record.held c.args.device) c.in-Ok.behind c.in-Ok.ensures.ok c.in-Ok-open.node
    c.in-Ok-open.ensures.ok

pub returns-in-Err-open-clause-err : goal.returns-in-Err-open-clause-err
returns-in-Err-open-clause-err g c =
    unopened_as c.args.config.now c.args.who (g.R.Record.held c.args.device) c.in-Ok.behind c.in-Err-open.behind
    (g.R.Record.held c.into_inner.result) c.in-Err-open.refusal c.in-Ok.ensures.ok c.in-Err-open.ensures.err c.into_inner.ensures.held
    c.into_inner.ensures.bytes
