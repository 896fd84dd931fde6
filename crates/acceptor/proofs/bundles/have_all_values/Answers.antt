use Rattle.std.proofs.Common.{◌∙◌, sym, ap, arith}
use Rattle.std.specs.Prelude.{is_some}
use Rattle.protocol.specs.Acceptors.{report_after}
use Rattle.acceptor.specs.Slots.{slots_of}
use Rattle.acceptor.proofs.Instances.{all_goes_on, all_stops, all_ends}
use Rattle.acceptor.proofs.bundles.have_all_values.Goals as goal

pub loop-place-preserved : goal.loop-place-preserved
loop-place-preserved c =
    all_goes_on c.args.tx.now
    (λ j. is_some (report_after (slots_of c.args.tx.now c.args.slots.now) c.args.tx.now c.args.accepted.instance c.args.accepted.ballot
    c.args.accepted.vote j))
    c.loop-place.place (omega arith) (sym (ap is_some c.report_after.ensures.value) ∙ c.if-is_none.ensures) c.loop-place.invariant

pub returns-then-is_none : goal.returns-then-is_none
returns-then-is_none c =
    all_stops c.args.tx.now
    (λ j. is_some (report_after (slots_of c.args.tx.now c.args.slots.now) c.args.tx.now c.args.accepted.instance c.args.accepted.ballot
    c.args.accepted.vote j))
    c.loop-place.place (omega arith) (sym (ap is_some c.report_after.ensures.value) ∙ c.if-is_none.ensures) c.loop-place.invariant

pub returns : goal.returns
returns c =
    all_ends c.args.tx.now
    (λ j. is_some (report_after (slots_of c.args.tx.now c.args.slots.now) c.args.tx.now c.args.accepted.instance c.args.accepted.ballot
    c.args.accepted.vote j))
    c.loop-place.place (omega arith) c.loop-place.invariant
