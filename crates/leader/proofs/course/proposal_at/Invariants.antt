use Rattle.std.proofs.Common.{◌≡◌, drop}
use Rattle.leader.specs.Courses.{proposal_at}
use Rattle.leader.proofs.course.proposal_at.Given as goal

abbrev pub invariant-loop-row : goal.invariant-loop-row
invariant-loop-row l = proposal_at l.acceptors (drop l.row-index l.rows) l.instance ≡ proposal_at l.acceptors l.rows l.instance
