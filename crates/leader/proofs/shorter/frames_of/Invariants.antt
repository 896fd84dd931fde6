use Rattle.std.proofs.Common.{drop}
use Rattle.stable_record.proofs.Written.{HasAdded}
use Rattle.leader.specs.Places.{course_in}
use Rattle.leader.specs.Compaction.{compacted}
use Rattle.leader.proofs.shorter.frames_of.Given as goal

abbrev pub invariant-loop-i : goal.invariant-loop-i
invariant-loop-i l =
    HasAdded l.initial.frames.items l.frames.items (compacted (drop l.i l.courses.begun) (λ tx. (course_in l.courses tx).greatest))
    (compacted l.courses.begun (λ tx. (course_in l.courses tx).greatest))
