use Rattle.std.proofs.Common.{◌++◌, arith, refl, subst, sym}
use Rattle.std.proofs.lemmas.Option.{get_or_from_slice_get}
use Rattle.transactions.proofs.Pieces.{next_put}
use Rattle.stable_record.specs.Written.{AddsFacts}
use Rattle.stable_record.proofs.Written.{more_added}
use Rattle.leader.specs.Places.{course_in}
use Rattle.leader.specs.Compaction.{ballot_facts}
use Rattle.leader.proofs.shorter.frames_of.Goals as goal

pub loop-i-preserved : goal.loop-i-preserved
loop-i-preserved c =
    let put = c.loop-i.invariant.put in
    let one = ballot_facts c.in-Some.tx (course_in c.args.courses.now c.in-Some.tx).greatest in
    more_added _ c.loop-i.frames.items c.write_ballot.new.frames.items put one _ _ c.loop-i.invariant.adds
    (subst (λ b. AddsFacts c.loop-i.frames.items c.write_ballot.new.frames.items (ballot_facts c.in-Some.tx b))
    c.begun_greatest-ballot.ensures c.in_ok-write_ballot.ensures.ok)
    (next_put (λ tx. ballot_facts tx (course_in c.args.courses.now tx).greatest) c.args.courses.now.begun c.loop-i.i c.in-Some.tx put
    (put ++ one) _ (omega (arith, c.loop-i-test.true, c.begun_count-i-end.ensures.value))
    (get_or_from_slice_get c.args.courses.now.begun c.loop-i.i c.in-Some.tx c.in-Some.tx (sym c.in-Some.ensures)) refl
    c.loop-i.invariant.left)
