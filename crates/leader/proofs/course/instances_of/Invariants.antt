use Rattle.std.proofs.Common.{◌≡◌, map, take}
use Rattle.xid.specs.Transactions.{participants}
use Rattle.leader.specs.Courses.{fresh_instance}
use Rattle.leader.proofs.course.instances_of.Given as goal

abbrev pub invariant-loop-i : goal.invariant-loop-i
invariant-loop-i l = l.instances.items ≡ map fresh_instance (take l.i (participants l.tx))
