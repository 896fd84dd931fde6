use Rattle.std.proofs.Common.{◌≡◌, ◌-◌}
use Rattle.std.specs.Vec.{vec_len, vec_capacity}
use Rattle.cluster.proofs.Noticed.{told_up_to}
use Rattle.cluster.proofs.cluster.list_told.Given as goal

-- the notices up to a place are listed
abbrev pub invariant-loop-place : goal.invariant-loop-place
invariant-loop-place l = record {
  listed : l.told.items ≡ told_up_to l.before l.place l.notices;
  len : vec_len l.told ≡ l.place - l.before;
  capacity : vec_capacity l.told ≡ vec_capacity l.fn.told;
}
