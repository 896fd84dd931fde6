-- Which node a message is from.
use Rattle.std.specs.Prelude.{◌≡◌, ℕ, zero, suc, List}
use Rattle.wire.specs.declared.message.Kind.{Kind}
use Rattle.wire.specs.declared.message.Kind.TheVariants.{Prepare, P1a, P1b, P2a, P2b, Commit, Abort, Ask}
use Rattle.ballot.specs.Ballots.{owner_of}
use Rattle.safety.specs.Vocabulary.{NodeId, A, L, R}
use Rattle.protocol.specs.Effects.{Config}
use Rattle.protocol.specs.PaperItems.{unbundled}
use Rattle.protocol.specs.Worlds.{Datagram}
use Rattle.ballot.specs.Greatest.{IsIn}

-- the sender is some leader
abbrev pub IsFromLeader : NodeId → Type 0
IsFromLeader who = (l : ℕ) × (who ≡ L l)

-- of the paper's messages, phase 1a and, above ballot 0, phase 2a are from the ballot's owner, phase 2a of ballot 0 from the instance's
-- resource manager, phases 1b and 2b from the acceptor that they name
abbrev pub IsFrom : Config → NodeId → Kind → Type 0
IsFrom config who (Prepare tx) = IsFromLeader who
IsFrom config who (P1a tx i b) = who ≡ L (owner_of config.leaders b)
IsFrom config who (P1b tx i b report a) = who ≡ A a
IsFrom config who (P2a tx i zero v) = who ≡ R i
IsFrom config who (P2a tx i (suc b) v) = who ≡ L (owner_of config.leaders (suc b))
IsFrom config who (P2b tx i b v a) = who ≡ A a
IsFrom config who (Commit tx) = IsFromLeader who
IsFrom config who (Abort tx) = IsFromLeader who
IsFrom config who (Ask tx rm) = who ≡ R rm
IsFrom config who bundle = Unit {0}

-- each of the paper's messages that a datagram stands for is from the node that it says
abbrev pub AreFrom : Config → List Datagram → Type 0
AreFrom config net = (d : Datagram) → IsIn net d → (m : Kind) → IsIn (unbundled d.message) m → IsFrom config d.sender m
