-- Entries seen over the bytes that spell them, and what readings of them answer.
use Rattle.std.specs.Prelude.{◌≡◌, ◌⊎◌, List, Option, Some, None, Result, Ok, Err, ℕ}
use Rattle.std.specs.Borrow.{Bor}
use Rattle.xid.specs.declared.refusals.Refusal.{Refusal}
use Rattle.xid.specs.declared.refusals.Refusal.TheVariants.{Damaged, NoMemory}
use Rattle.stable_record.specs.declared.entry.EntryKind.{EntryKind as Entry}
use Rattle.stable_record.specs.declared.view.EntryView.{EntryView}
use Rattle.stable_record.specs.declared.view.EntryView.TheVariants as views
use Rattle.stable_record.specs.Grammar.{IsFramed, HasNoFrame}
use Rattle.stable_record.specs.Reading.{body_at}

-- the entry that a view is of
abbrev pub entry_seen : EntryView → Entry
entry_seen (views.Fact fact) = Entry.Fact fact
entry_seen (views.PastCommitted tx) = Entry.PastCommitted tx
entry_seen (views.PastAborted tx) = Entry.PastAborted tx

-- what a reading that takes memory answers, by what is to be read: what stands for the field, and the bytes after it, else that there is
-- none, or that memory ran out
abbrev pub IsReadAs : {X Y : Type 0} → (Y → X) → Option (X × List ℕ) → Result (Y × Bor (List ℕ)) Refusal → Type 0
IsReadAs means read (Ok x) = read ≡ Some (means x.0, x.1.now)
IsReadAs means read (Err e) = ((e ≡ Damaged) × (read ≡ None)) ⊎ (e ≡ NoMemory)

-- what a look at a body answers, by what is to be read: a view of it, or that there is no entry, or that memory ran out; or nothing at all
abbrev pub IsSeen : Option Entry → Result (Option EntryView) Refusal → Type 0
IsSeen read (Ok None) = Unit {0}
IsSeen read (Ok (Some seen)) = read ≡ Some (entry_seen seen)
IsSeen read (Err e) = ((e ≡ Damaged) × (read ≡ None)) ⊎ (e ≡ NoMemory)

-- a body stands in front behind its length, and these bytes after it: the frame is that of the body's entry, if it has one
pub record HasBody (bytes body after : List ℕ) : Type 0 where
  pub framed : (entry : Entry) → body_at body ≡ Some entry → IsFramed entry bytes after
  pub bad : body_at body ≡ None → HasNoFrame bytes
