-- An acceptor's slot: what it keeps of one instance, and what it may promise, report and accept.
-- Needed by Acceptor.Effects.
use Rattle.std.proofs.Common.{ℕ, ◌<◌, ◌≤◌, Option, Some, None, le_trans, arith}
use Rattle.safety.specs.Items.{Vote, Item, Promised, Accepted, P2a, IsReportOfAccept, IsCovered, IsPromiseReport, IsAcceptable}

-- the accept that a slot keeps stands, in a ballot up to the slot's
abbrev pub IsSlotAccept : {Tx : Type 0} (Has : Item Tx → Type 0) (a : ℕ) (tx : Tx) (i mbal : ℕ) → Option (ℕ × Vote) → Type 0
IsSlotAccept Has a tx i mbal None = Unit {0}
IsSlotAccept Has a tx i mbal (Some last) = (last.0 ≤ mbal) × Has (Accepted a tx i last.0 last.1)

-- of acceptor a's facts on instance i of tx: no promise is above mbal, and last is the accept of the greatest ballot, if any
pub record IsStandingSlot {Tx : Type 0} (Has : Item Tx → Type 0) (a : ℕ) (tx : Tx) (i mbal : ℕ) (last : Option (ℕ × Vote)) : Type 0 where
  pub promises : {b : ℕ} → Has (Promised a tx i b) → b ≤ mbal
  pub accepts : {b : ℕ} {v : Vote} → Has (Accepted a tx i b v) → IsCovered last b
  pub held : IsSlotAccept Has a tx i mbal last

module _ {Tx : Type 0} {Has : Item Tx → Type 0} {a : ℕ} {tx : Tx} {i mbal : ℕ} {last : Option (ℕ × Vote)}
    (slot : IsStandingSlot Has a tx i mbal last) where
  -- an accept in the slot's ballot or a greater one
  pub slot_may_accept : (b : ℕ) (v : Vote) → mbal ≤ b → Has (P2a tx i b v) → IsAcceptable Has a tx i b v
  slot_may_accept b v up sent = record { sent = sent; promise_kept = λ h. le_trans (slot.promises h) up }

  module _ (Now : Item Tx → Type 0) (kept : (y : Item Tx) → Has y → Now y) where
    -- what a slot holds is reported, in a ballot below any greater one
    held_is_reported : (b : ℕ) (report : Option (ℕ × Vote)) → mbal < b → IsSlotAccept Has a tx i mbal report
        → IsReportOfAccept Now tx i b a report
    held_is_reported b None up h = tt
    held_is_reported b (Some top) up h = (omega (arith, h.0), kept _ h.1)

    -- a slot may be reported in a greater ballot, once that is promised
    pub slot_may_be_reported : (b : ℕ) → mbal < b → Now (Promised a tx i b)
        → ((d : ℕ) (v : Vote) → Now (Accepted a tx i d v) → Has (Accepted a tx i d v)) → IsPromiseReport Now tx i b last a
    slot_may_be_reported b up promised accepted = record {
      promised = promised;
      reported = held_is_reported b last up slot.held;
      covers = λ {c = d} {v} h l. slot.accepts (accepted d v h);
    }
