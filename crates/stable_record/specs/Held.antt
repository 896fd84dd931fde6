-- What a record holds, and what its calls make of it.
use Rattle.std.specs.Prelude.{◌≡◌, ◌⊎◌, ℕ, ◌<◌, ◌≤◌, ◌-◌, ◌^◌, min, Bool, IsTrue, List, ◌++◌, length, take, Option, Some, None, Result, Ok}
use Rattle.std.specs.Prelude.{Err}
use Rattle.xid.specs.declared.refusals.Refusal.{Refusal}
use Rattle.xid.specs.declared.refusals.Refusal.TheVariants.{RecordFault, NoMemory}
use Rattle.stable_record.specs.declared.record.RecordError.{RecordError}
use Rattle.stable_record.specs.declared.record.RecordError.TheVariants.{Fault, Memory}

-- what no call changes of a record: whether it may also fail of itself, and, where it is over another record and holds what follows a
-- front there, that front; then those of the other, if it has some
pub record Nature : Type 0 where
  pub may_fail : Bool
  pub fronts : List (List ℕ)

-- a record: its bytes, how many of the last append were kept, how often it has failed, where the next append is stopped, if it is,
-- and what it is by nature
pub record Held : Type 0 where
  pub bytes : List ℕ
  pub kept : ℕ
  pub faults : ℕ
  pub armed : Option ℕ
  pub nature : Nature

-- the refusal of a record's error
abbrev pub refusal_of : RecordError → Refusal
refusal_of Fault = RecordFault
refusal_of Memory = NoMemory

-- the greatest count of faults
abbrev pub most_faults : ℕ
most_faults = 2 ^ 64 - 1

-- one fault more was counted, unless no greater count is left
abbrev pub IsCounted : ℕ → ℕ → Type 0
IsCounted old new = (old < new) ⊎ (new ≡ most_faults)

-- the same with other bytes
abbrev pub with_bytes : List ℕ → Held → Held
with_bytes bytes held =
    record { bytes = bytes; kept = held.kept; faults = held.faults; armed = held.armed; nature = held.nature }

-- the same with another tear
abbrev pub armed_with : Option ℕ → Held → Held
armed_with armed held =
    record { bytes = held.bytes; kept = held.kept; faults = held.faults; armed = armed; nature = held.nature }

-- the record failed of itself, which it may: its content is one of two, and a tear stays armed
pub record HasFailed (next : List ℕ) (old new : Held) : Type 0 where
  pub may : IsTrue old.nature.may_fail
  pub bytes : (new.bytes ≡ old.bytes) ⊎ (new.bytes ≡ next)
  pub armed : new.armed ≡ old.armed
  pub counted : IsCounted old.faults new.faults
  pub nature : new.nature ≡ old.nature

-- what a read leaves
abbrev pub HasRead : {T : Type 0} → Held → Held → Result T RecordError → Type 0
HasRead old new (Ok read) = new ≡ old
HasRead old new (Err Fault) = HasFailed old.bytes old new
HasRead old new (Err Memory) = new ≡ old

-- what a cut or a replacement leaves, by the bytes that are to stand
abbrev pub HasPut : List ℕ → Held → Held → Result (Unit {0}) RecordError → Type 0
HasPut next old new (Ok u) = new ≡ with_bytes next old
HasPut next old new (Err Fault) = HasFailed next old new
HasPut next old new (Err Memory) = new ≡ old

-- an append added all of a text: no tear was armed
pub record IsAdded (text : List ℕ) (old new : Held) : Type 0 where
  pub bytes : new.bytes ≡ old.bytes ++ text
  pub kept : new.kept ≡ length text
  pub faults : new.faults ≡ old.faults
  pub unarmed : old.armed ≡ None
  pub armed : new.armed ≡ None
  pub nature : new.nature ≡ old.nature

-- where an append was stopped: where the tear said, or, with no tear, where the record failed of itself
abbrev pub IsStoppedAt : Option ℕ → Bool → ℕ → ℕ → Type 0
IsStoppedAt (Some n) may_fail len kept = kept ≡ min n len
IsStoppedAt None may_fail len kept = IsTrue may_fail × (kept ≤ len)

-- an append was stopped: it added the first bytes of a text
pub record IsStopped (text : List ℕ) (old new : Held) : Type 0 where
  pub at : IsStoppedAt old.armed old.nature.may_fail (length text) new.kept
  pub bytes : new.bytes ≡ old.bytes ++ take new.kept text
  pub counted : IsCounted old.faults new.faults
  pub armed : new.armed ≡ None
  pub nature : new.nature ≡ old.nature

-- what an append leaves
abbrev pub HasAdded : List ℕ → Held → Held → Result (Unit {0}) RecordError → Type 0
HasAdded text old new (Ok u) = IsAdded text old new
HasAdded text old new (Err Fault) = IsStopped text old new
HasAdded text old new (Err Memory) = new ≡ old
