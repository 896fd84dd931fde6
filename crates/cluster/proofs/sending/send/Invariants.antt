use Rattle.std.proofs.Common.{◌≡◌, ℕ, ◌<◌, ◌+◌, ◌-◌, true, nat_lt, length, map, take}
use Rattle.wire.specs.declared.message.Kind.{Kind}
use Rattle.wire.specs.Grammar.{Spells}
use Rattle.protocol.specs.Worlds.{datagram_to}
use Rattle.node_core.specs.Receivers.{receivers_in}
use Rattle.cluster.specs.Sending.{HasRoom, HaveSent}
use Rattle.cluster.proofs.sending.send.Given as goal

-- it was sent to so many of its receivers
abbrev pub invariant-loop-i : goal.invariant-loop-i
invariant-loop-i l = record {
  sent : (message : Kind) → Spells message l.bytes
      → HaveSent l.fn.network l.network (map (datagram_to l.sender message) (take l.i (receivers_in l.receivers)));
  some : nat_lt 0 l.i ≡ true → 0 < length l.network.datagrams;
  room : (more : ℕ) → HasRoom (length (receivers_in l.receivers) + more) l.fn.network
      → HasRoom (length (receivers_in l.receivers) - l.i + more) l.network;
}
