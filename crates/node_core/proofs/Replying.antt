-- An acceptor's reply by its spelled bytes, and where it stands among what a node sends.
-- Needed by `Replied::count`, `Replied::get`, `Replied::put` and `Replied::spelled`.
use Rattle.std.proofs.Common.{◌≡◌, ℕ, zero, suc, ◌<◌, List, [], ◌∷◌, length, take, ap, arith}
use Rattle.wire.specs.declared.message.Kind.{Kind}
use Rattle.wire.specs.Decoding.{message_at}
use Rattle.wire.specs.Grammar.{Spells}
use Rattle.wire.proofs.DecodingLemmas.{found}
use Rattle.protocol.specs.declared.decisions.Address.{Address}
use Rattle.node_core.specs.Sends.{addressed, IsReplied}

-- bytes that spell a message are one message that is sent
pub one_replied : (to : Address) (bytes : List ℕ) (message : Kind) → Spells message bytes
    → addressed to (message_at bytes) ≡ record { to = to; message = message } ∷ []
one_replied to bytes message spells = ap (addressed to) (found message bytes spells)

-- a reply of some bytes is one message
pub count_replied : (to : Address) (len : ℕ) (bytes : List ℕ) → IsReplied len bytes → 0 < len
    → length (addressed to (message_at (take len bytes))) ≡ 1
count_replied to len bytes is some = let one = is.spells some in ap length (one_replied to (take len bytes) one.0 one.1)

-- a reply that has a message has bytes
pub some_replied : (to : Address) (len : ℕ) (bytes : List ℕ) → 0 < length (addressed to (message_at (take len bytes))) → 0 < len
some_replied to zero bytes lt = absurd (omega (arith, lt))
some_replied to (suc n) bytes lt = omega arith
