-- What it is that an effect is well-formed.
-- Needed by WellFormed.Acceptor, WellFormed.Leader, WellFormed.Manager, WellFormed.Nodes and WellFormed.Runs.
use Rattle.std.proofs.Common.{ℕ, List}
use Rattle.std.specs.Prelude.{IsTrue, IfSome}
use Rattle.std.specs.List.{AllByRecursion}
use Rattle.xid.specs.Transactions.{TxParts, IsTx, participants, is_participant}
use Rattle.wire.specs.Messages.{IsMessage, IsInstance, AreInstances}
use Rattle.stable_record.specs.Facts.{IsFact}
use Rattle.safety.specs.Vocabulary.{Answer, Outgoing}
use Rattle.protocol.specs.Effects.{Effect, answer_only, sends_only}
use Rattle.protocol.specs.Nodes.{Memory, in_memory}
use Rattle.ballot.specs.Greatest.{IsIn}
use Rattle.safety.proofs.Facts.{participates}
use Rattle.protocol.proofs.Lists.{all_in}

-- ---- instances

-- a participant's number is an instance
pub instance_of : (tx : TxParts) (i : ℕ) → IsTx tx → IsIn (participants tx) i → IsInstance tx i
instance_of tx i is h = record { valid = is; named = participates tx i h }

-- so is each of a bundle's
pub instance_among : {tx : TxParts} {instances : List ℕ} → AreInstances tx instances → (i : ℕ) → IsIn instances i → IsInstance tx i
instance_among {tx} {instances} are i h =
    record { valid = are.valid; named = all_in (λ rm. IsTrue (is_participant tx rm)) instances are.named i h }

-- ---- effects

-- what is sent is a message
abbrev pub IsSend : Outgoing → Type 0
IsSend send = IsMessage send.message

abbrev pub AreSends : List Outgoing → Type 0
AreSends sends = AllByRecursion IsSend sends

-- the fact of an effect is one that a record may hold, what it sends are messages, and its memory is in order
pub record IsWellFormed {M : Type 0} (Kept : M → Type 0) (e : Effect M) : Type 0 where
  pub fact : IfSome e.fact IsFact
  pub sends : AreSends e.sends
  pub memory : Kept e.memory

module _ {M : Type 0} (Kept : M → Type 0) (memory : M) (kept : Kept memory) where
  pub well_answered : (reply : Answer) → IsWellFormed Kept (answer_only memory reply)
  well_answered reply = record { fact = tt; sends = tt; memory = kept }

  pub well_sent : (sends : List Outgoing) → AreSends sends → IsWellFormed Kept (sends_only memory sends)
  well_sent sends are = record { fact = tt; sends = are; memory = kept }

-- the memory of a role in that of its node
pub well_in_memory : {M : Type 0} (Kept : M → Type 0) (Whole : Memory → Type 0) (whole : M → Memory) (e : Effect M)
    → ((m : M) → Kept m → Whole (whole m)) → IsWellFormed Kept e → IsWellFormed Whole (in_memory whole e)
well_in_memory Kept Whole whole e kept is = record { fact = is.fact; sends = is.sends; memory = kept e.memory is.memory }
