use Rattle.std.proofs.Common.{◌≡◌, ◌≤◌, ◌-◌}
use Rattle.std.specs.Vec.{vec_len, vec_capacity}
use Rattle.cluster.proofs.Sent.{sent_up_to}
use Rattle.cluster.proofs.cluster.list_sent.Given as goal

-- the datagrams up to a place are listed
abbrev pub invariant-loop-place : goal.invariant-loop-place
invariant-loop-place l = record {
  listed : l.sent.items ≡ sent_up_to l.before l.place l.network;
  few : vec_len l.sent ≤ l.place - l.before;
  capacity : vec_capacity l.sent ≡ vec_capacity l.fn.sent;
}
