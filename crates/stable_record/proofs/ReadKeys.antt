-- Reading touched keys one after the other stops where one isn't read.
-- Needed by `take_touched_keys`.
use Rattle.std.proofs.Common.{◌≡◌, ℕ, ◌-◌, ◌<◌, List, Option, None, ◌⊎◌, inl, inr}
use Rattle.xid.specs.declared.refusals.Refusal.{Refusal}
use Rattle.xid.specs.declared.refusals.Refusal.TheVariants.{Damaged, NoMemory}
use Rattle.wire.specs.Reading.{list_at}
use Rattle.wire.proofs.Loop.{with_front, ends}
use Rattle.stable_record.specs.declared.fact.Touched.{Touched}
use Rattle.stable_record.specs.Reading.{touched_at}

-- keys of which one isn't read aren't read
pub refused : (front : List Touched) (count i : ℕ) (bytes : List ℕ) (total : Option (List Touched × List ℕ)) (e : Refusal) → i < count
    → with_front front (list_at touched_at (count - i) bytes) ≡ total
    → ((e ≡ Damaged) × (touched_at bytes ≡ None)) ⊎ (e ≡ NoMemory) → ((e ≡ Damaged) × (total ≡ None)) ⊎ (e ≡ NoMemory)
refused front count i bytes total e lt same (inl h) = inl (h.0, ends touched_at front count i bytes total lt h.1 same)
refused front count i bytes total e lt same (inr h) = inr h
