-- How datagrams are sent: put into the network, for which there is room.
use Rattle.std.specs.Prelude.{ℕ, ◌+◌, ◌*◌, ◌≤◌, List, ◌++◌}
use Rattle.wire.specs.declared.grammar.TheConstants.{MAX_MESSAGE_BYTES}
use Rattle.protocol.specs.Worlds.{Datagram}
use Rattle.network.specs.Networks.{NetworkParts, StandsFor}

-- these datagrams were put after those before
abbrev pub HaveSent : (old new : NetworkParts) → (more : List Datagram) → Type 0
HaveSent old new more = (net : List Datagram) → StandsFor old net → StandsFor new (net ++ more)

-- there is room for so many more of them, and for their messages
pub record HasRoom (count : ℕ) (network : NetworkParts) : Type 0 where
  pub datagrams : count ≤ network.spare
  pub bytes : count * MAX_MESSAGE_BYTES ≤ network.spare_bytes

-- sending so many of them leaves room for the rest
abbrev pub KeepsRoom : (sent : ℕ) → (old new : NetworkParts) → Type 0
KeepsRoom sent old new = (more : ℕ) → HasRoom (sent + more) old → HasRoom more new
