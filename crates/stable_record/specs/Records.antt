-- What the records of this crate hold.
use Rattle.std.specs.Prelude.{◌≡◌, ◌==◌, ◌||◌, ℕ, ◌+◌, ◌-◌, min, Bool, true, false, not, List, [], None, Result, Ok, Err}
use Rattle.stable_record.specs.declared.memory.MemRecord.{MemRecord}
use Rattle.stable_record.specs.declared.file.FileRecord.{FileRecord}
use Rattle.stable_record.specs.declared.failing.FailRecord.{FailRecord}
use Rattle.stable_record.specs.declared.failing.Leaves.{Leaves}
use Rattle.stable_record.specs.declared.failing.Leaves.TheVariants.{Old, New}
use Rattle.stable_record.specs.declared.record.RecordError.{RecordError}
use Rattle.stable_record.specs.declared.record.RecordError.TheVariants.{Fault, Memory}
use Rattle.stable_record.specs.Held.{Held, Nature, most_faults}

-- a record that isn't over another: whether it may fail of itself
abbrev pub alone : Bool → Nature
alone may_fail = record { may_fail = may_fail; fronts = [] }

-- a record in memory never fails of itself
abbrev pub mem_held : MemRecord → Held
mem_held m = record { bytes = m.bytes.items; kept = m.kept; faults = m.faults; armed = m.armed; nature = alone false }

-- a new record of these bytes
abbrev pub fresh : List ℕ → Held
fresh bytes = record { bytes = bytes; kept = 0; faults = 0; armed = None; nature = alone false }

-- a record over another may fail of itself, and counts faults and what was kept on its own
abbrev pub fail_held : {R : Type 0} → (R → Held) → FailRecord R → Held
fail_held held r = record {
  bytes = (held r.inner).bytes;
  kept = r.kept;
  faults = r.faults;
  armed = (held r.inner).armed;
  nature = record { may_fail = true; fronts = (held r.inner).nature.fronts };
}

-- a count of faults after a call of a record: one more if it failed, up to the greatest
abbrev pub faults_after : {T : Type 0} → ℕ → Result T RecordError → ℕ
faults_after faults (Ok value) = faults
faults_after faults (Err Fault) = min (faults + 1) most_faults
faults_after faults (Err Memory) = faults

-- what a call answers by what the record beneath answered: the call that shall fail answers a fault in the place of a success
abbrev pub answer_over : {T : Type 0} → (due : Bool) → Result T RecordError → Result T RecordError
answer_over true (Ok value) = Err Fault
answer_over false (Ok value) = Ok value
answer_over due (Err error) = Err error

-- a call was handed on to the record beneath, or it wasn't: then it is a fault, and that record is as it was
abbrev pub IsHandedOn : {R T : Type 0} → (R → R → Result T RecordError → Type 0) → (due is_handed_on : Bool) → (old new : R)
    → Result T RecordError → Type 0
IsHandedOn {R} {T} Does due true old new result = (answer : Result T RecordError) × Does old new answer × (result ≡ answer_over due answer)
IsHandedOn Does due false old new result = (new ≡ old) × (result ≡ Err Fault)

-- a call of a record of which one call fails, by what such a call does to the record beneath, and by whether the call that shall fail is
-- handed on. It is counted as a call. One that isn't the one that shall fail is what it is of the record beneath
pub record FailsInTurn {R T : Type 0} (Does : R → R → Result T RecordError → Type 0) (due_is_handed_on : Bool) (old new : FailRecord R)
    (result : Result T RecordError) : Type 0 where
  pub left : new.left ≡ old.left - 1
  pub leaves : new.leaves ≡ old.leaves
  pub faults : new.faults ≡ faults_after old.faults result
  pub beneath : IsHandedOn Does (old.left == 1) (not (old.left == 1) || due_is_handed_on) old.inner new.inner result

-- whether the cut or the replacement that shall fail is made all the same
abbrev pub is_made : Leaves → Bool
is_made Old = false
is_made New = true

-- a record in a file may fail of itself, and holds what was read and written; no tear can be armed
abbrev pub file_held : FileRecord → Held
file_held r = record { bytes = r.bytes.items; kept = r.kept; faults = r.faults; armed = None; nature = alone true }

-- a record that was just opened with these bytes in its file
abbrev pub just_opened : List ℕ → Held
just_opened bytes = record { bytes = bytes; kept = 0; faults = 0; armed = None; nature = alone true }
