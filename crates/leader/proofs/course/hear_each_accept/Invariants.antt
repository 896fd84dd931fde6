use Rattle.std.proofs.Common.{◌≡◌, ◌≤◌, ◌+◌, ◌-◌, drop, length, vec_len}
use Rattle.std.specs.Vec.{vec_capacity}
use Rattle.leader.specs.Courses.{after_each_accept}
use Rattle.leader.proofs.course.hear_each_accept.Given as goal

abbrev pub invariant-loop-item : goal.invariant-loop-item
invariant-loop-item l = record {
  rest : after_each_accept l.acceptors l.acceptor (drop l.item-index l.items) (record { instances = l.instances; told = l.told.items })
      ≡ after_each_accept l.acceptors l.acceptor l.items (record { instances = l.initial.instances; told = l.initial.told.items });
  room : vec_len l.told + (length l.items - l.item-index) ≤ vec_capacity l.told;
}
