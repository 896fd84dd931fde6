use Rattle.std.proofs.Common.{◌≡◌, drop}
use Rattle.leader.specs.Courses.{first_report}
use Rattle.leader.proofs.instance.first_report.Given as goal

abbrev pub invariant-loop-item : goal.invariant-loop-item
invariant-loop-item l = first_report l.instance (drop l.item-index l.items) ≡ first_report l.instance l.items
