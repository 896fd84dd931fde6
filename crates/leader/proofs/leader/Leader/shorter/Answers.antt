use Rattle.std.proofs.Common.{refl, subst}
use Rattle.std.proofs.lemmas.Result.{IfOk-weaker}
use Rattle.leader.specs.Compaction.{AreShorterFrames, compacted}
use Rattle.leader.specs.Places.{course_in}
use Rattle.leader.specs.contracts.leader.Leader.{the_view}
use Rattle.leader.proofs.Compacting.{is_compacted}
use Rattle.leader.proofs.leader.Leader.shorter.Goals as goal

pub returns-clause-ok : goal.returns-clause-ok
returns-clause-ok c =
    let courses = c.self.inside.courses in
    let kept = compacted courses.begun (λ tx. (course_in courses tx).greatest) in
    IfOk-weaker c.frames.result _ _ (λ frames written.
    subst (λ l. AreShorterFrames l frames.items) c.self.view_is
    (record { kept = kept; written = written; compacts = is_compacted (the_view c.self.inside) kept refl }))
    c.frames.ensures.ok
