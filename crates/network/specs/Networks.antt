-- What contracts see of a network, and which datagrams of the machine it stands for.
use Rattle.std.specs.Prelude.{◌≡◌, ℕ, suc, ◌-◌, ◌^◌, Bool, if◌then◌else◌, List, [], ◌∷◌, Option, Some, None}
use Rattle.std.specs.List.{AllZip}
use Rattle.std.specs.Option.{option_map}
use Rattle.wire.specs.Grammar.{Spells}
use Rattle.protocol.specs.declared.nodes.NodeId.{NodeId}
use Rattle.protocol.specs.Worlds.{Datagram, datagram_at}
use Rattle.network.specs.declared.entry.KeptDatagram.{KeptDatagram}

-- a datagram as it is kept: who sent it, for whom, its bytes, and whether it was handed over or lost
pub record DatagramParts : Type 0 where
  pub sender : NodeId
  pub receiver : NodeId
  pub bytes : List ℕ
  pub marked : Bool

-- the datagrams, from number 1 on; and for how many more of them, and for how many more bytes, there is room without memory
pub record NetworkParts : Type 0 where
  pub datagrams : List DatagramParts
  pub spare : ℕ
  pub spare_bytes : ℕ

-- how many datagrams have numbers
abbrev pub most_datagrams : ℕ
most_datagrams = 2 ^ 32 - 1

-- a datagram is kept: its bytes spell its message
pub record IsKept (kept : DatagramParts) (d : Datagram) : Type 0 where
  pub sender_is : kept.sender ≡ d.sender
  pub receiver_is : kept.receiver ≡ d.receiver
  pub marked_is : kept.marked ≡ d.marked
  pub spells : Spells d.message kept.bytes

-- a network keeps the datagrams of the machine
pub record StandsFor (network : NetworkParts) (net : List Datagram) : Type 0 where
  pub datagrams_are : AllZip IsKept network.datagrams net

-- a datagram as the code hands it out
abbrev pub shown : KeptDatagram → DatagramParts
shown d = record { sender = d.sender; receiver = d.receiver; bytes = d.bytes.now; marked = d.marked }

-- what is found of a number: the datagram that has it, if one has
abbrev pub Finds : List Datagram → ℕ → Option DatagramParts → Type 0
Finds net number None = datagram_at net number ≡ None
Finds net number (Some kept) = (d : Datagram) × (datagram_at net number ≡ Some d) × IsKept kept d

-- the least number of a datagram that isn't marked, if there is one
abbrev pub least_unmarked : List Datagram → Option ℕ
least_unmarked [] = None
least_unmarked (d ∷ net) = if d.marked then option_map suc (least_unmarked net) else Some 1
