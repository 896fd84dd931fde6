-- An acceptor's slots of one transaction, one for each of its branches in their order, and how a fact changes them.
use Rattle.std.specs.Prelude.{ℕ, ◌<◌, ◌^◌, max, nat_lt, if◌then◌else◌, List, [], ◌∷◌, ◌++◌, map, Option, Some, None}
use Rattle.std.specs.List.{position_or_len, slice_index_or, slice_set}
use Rattle.xid.specs.Transactions.{TxParts, is_at}
use Rattle.wire.specs.Messages.{IsReportBelow}
use Rattle.wire.specs.declared.items.InstanceReport.{InstanceReport}
use Rattle.ballot.specs.declared.slot.Slot.{Slot}
use Rattle.ballot.specs.Choice.{Report}
use Rattle.ballot.specs.Slots.{empty_slot, promised, accepted_in}
use Rattle.stable_record.specs.declared.fact.FactKind.{FactKind as Fact}
use Rattle.protocol.specs.Facts.{ballot_joined, accept_of}
use Rattle.protocol.specs.Acceptors.{Slots}

-- a slot as it is kept: it accepted last in a ballot no higher than the greatest that it took part in
pub record IsKept (slot : Slot) : Type 0 where
  pub fits : slot.mbal < 2 ^ 32
  pub low : (ballot : ℕ) → slot.mbal < ballot → IsReportBelow ballot slot.report

-- the place of an instance among the branches of a transaction, or how many there are
abbrev pub place_of : TxParts → ℕ → ℕ
place_of tx instance = position_or_len (is_at instance) tx.branches

-- the slot at a place, one at first where none is kept
abbrev pub slot_at : List Slot → ℕ → Slot
slot_at slots place = slice_index_or slots place empty_slot

-- the slot of an instance
abbrev pub slot_of : TxParts → List Slot → ℕ → Slot
slot_of tx slots instance = slot_at slots (place_of tx instance)

-- the slots of a transaction where a rule asks for those of no other
abbrev pub slots_of : TxParts → List Slot → Slots
slots_of tx slots other instance = slot_of tx slots instance

-- the slots of a transaction after a fact of it
abbrev pub slots_after : TxParts → List Slot → Fact → List Slot
slots_after tx slots (Fact.Promise other i b) = slice_set slots (place_of tx i) (promised b (slot_of tx slots i))
slots_after tx slots (Fact.Accept other i b v) = slice_set slots (place_of tx i) (accepted_in b v (slot_of tx slots i))
slots_after tx slots (Fact.PromiseAll other b) = map (promised b) slots
slots_after tx slots fact = slots

-- a ballot, or a greater one that was joined
abbrev pub raised : ℕ → Option ℕ → ℕ
raised mbal None = mbal
raised mbal (Some ballot) = max mbal ballot

-- what was accepted last, after what is accepted now
abbrev pub latest : Report → Report → Report
latest before None = before
latest before (Some last) = Some last

-- a slot after one more fact
abbrev pub after_fact : TxParts → ℕ → Slot → Fact → Slot
after_fact tx i s fact = record { mbal = raised s.mbal (ballot_joined tx i fact); report = latest s.report (accept_of tx i fact) }

-- the items of a bundle, where there is one
abbrev pub listed_items : {X : Type 0} → Option (List X) → List X
listed_items None = []
listed_items (Some items) = items

-- they with one more, if there is one
abbrev pub with_item : {X : Type 0} → Option (List X) → Option X → Option (List X)
with_item items None = items
with_item items (Some item) = Some (listed_items items ++ item ∷ [])

-- what is reported of an instance that stands below a ballot
abbrev pub report_item : Slots → TxParts → (ballot instance : ℕ) → Option InstanceReport
report_item slots tx b i =
    if nat_lt (slots tx i).mbal b then Some (record { instance = i; report = (slots tx i).report }) else None
