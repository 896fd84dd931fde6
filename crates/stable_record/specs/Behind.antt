-- A record behind a floor's frame, and what it holds.
use Rattle.std.specs.Prelude.{◌≡◌, ◌⊎◌, ℕ, Bool, true, false, IsTrue, List, ◌∷◌, ◌++◌, length, drop, Option, Some, None, Result, Ok, Err}
use Rattle.stable_record.specs.declared.record.RecordError.{RecordError}
use Rattle.stable_record.specs.declared.record.RecordError.TheVariants.{Fault, Memory}
use Rattle.stable_record.specs.Held.{Held, Nature, IsCounted, HasRead}
use Rattle.xid.specs.Names.{IsBytes}
use Rattle.xid.specs.Places.{Place, IsPlace}
use Rattle.stable_record.specs.Floors.{floor_frame, front_of, floor_of}

-- what a record holds behind so many of its first bytes, which are its front
abbrev pub behind : (front : List ℕ) → Held → Held
behind front held = record {
  bytes = drop (length front) held.bytes;
  kept = held.kept;
  faults = held.faults;
  armed = held.armed;
  nature = record { may_fail = held.nature.may_fail; fronts = front ∷ held.nature.fronts };
}

-- bytes begin with others
pub record BeginsWith (front bytes : List ℕ) : Type 0 where
  pub rest : List ℕ
  pub same : bytes ≡ front ++ rest

-- a floor, and what a record holds behind its frame; and whether the floor is known. Where a replacement that was to raise it failed, it is
-- the one that the bytes begin with, and known once these are read
pub record BehindParts : Type 0 where
  pub floor : Option Place
  pub held : Held
  pub is_known : Bool

-- the floor of a record, where it is known, or else by its bytes
abbrev pub floor_now : (is_known : Bool) → Option Place → List ℕ → Option Place
floor_now true floor bytes = floor
floor_now false floor bytes = floor_of bytes

-- a record as it stands behind its floor
abbrev pub standing_behind : (is_known : Bool) → Option Place → Held → BehindParts
standing_behind is_known floor held =
    let now = floor_now is_known floor held.bytes in
    record { floor = now; held = behind (front_of now) held; is_known = is_known }

-- no floor, or one at a place that a floor may have
abbrev pub IsFloor : Option Place → Type 0
IsFloor None = Unit {0}
IsFloor (Some place) = IsPlace place

-- bytes begin with the front of that floor, and are bytes; and the floor is one
pub record IsFronted (is_known : Bool) (floor : Option Place) (bytes : List ℕ) : Type 0 where
  pub begins : BeginsWith (front_of (floor_now is_known floor bytes)) bytes
  pub are_bytes : IsBytes bytes
  pub valid : IsFloor floor

-- what is held stands behind the front of a floor, and that is in front of whatever fronts there are beneath
pub record IsFronting (floor : Option Place) (held : Held) : Type 0 where
  pub valid : IsFloor floor
  pub beneath : List (List ℕ)
  pub fronts_are : held.nature.fronts ≡ front_of floor ∷ beneath

-- all bytes: the front, and what is held behind it
abbrev pub whole_bytes : BehindParts → List ℕ
whole_bytes b = front_of b.floor ++ b.held.bytes

-- a record was taken up behind the floor that it begins with
pub record IsTakenUp (old : Held) (record_behind : BehindParts) : Type 0 where
  pub known : record_behind.is_known ≡ true
  pub floor_is : record_behind.floor ≡ floor_of old.bytes
  pub begins : BeginsWith (front_of record_behind.floor) old.bytes
  pub held_is : record_behind.held ≡ behind (front_of record_behind.floor) old
  pub fronting : IsFronting record_behind.floor record_behind.held

-- its floor was learned by a read, or was known; else the read left it
abbrev pub HasLearned : (old new : BehindParts) → Result (Option Place) RecordError → Type 0
HasLearned old new (Ok floor) = (floor ≡ old.floor) × (new ≡ record old { is_known = true }) × IsFronting floor old.held
HasLearned old new (Err error) =
    (new.floor ≡ old.floor) × (new.is_known ≡ old.is_known) × HasRead {T = Unit {0}} old.held new.held (Err error)

-- the nature of what is held behind another front
abbrev pub other_front : List ℕ → Nature → Nature
other_front front nature = record { may_fail = nature.may_fail; fronts = front ∷ drop 1 nature.fronts }

-- what is held behind a floor's frame that was put in the place of another's, with these bytes behind it
abbrev pub risen : Place → List ℕ → Held → Held
risen place next held = record {
  bytes = next;
  kept = held.kept;
  faults = held.faults;
  armed = held.armed;
  nature = other_front (floor_frame place) held.nature;
}

-- a replacement that was to raise a floor failed: the record counted it, and begins as it did, or with the new floor and what was to stand
-- behind that. Which floor it has its bytes say
pub record HasFailedToRise (place : Place) (next : List ℕ) (old new : BehindParts) : Type 0 where
  pub may : IsTrue old.held.nature.may_fail
  pub counted : IsCounted old.held.faults new.held.faults
  pub armed : new.held.armed ≡ old.held.armed
  pub valid : IsPlace place
  pub stood : IsFronting old.floor old.held
  pub were_bytes : IsBytes (whole_bytes old)
  pub bytes : (whole_bytes new ≡ whole_bytes old) ⊎ (whole_bytes new ≡ floor_frame place ++ next)
  pub floor_is : new.floor ≡ floor_of (whole_bytes new)
  pub unknown : new.is_known ≡ false
  pub nature : new.held.nature ≡ other_front (front_of new.floor) old.held.nature

-- what raising a floor leaves
abbrev pub HasRisen : Place → List ℕ → (old new : BehindParts) → Result (Unit {0}) RecordError → Type 0
HasRisen place next old new (Ok done) =
    IsPlace place × (new ≡ record { floor = Some place; held = risen place next old.held; is_known = true })
HasRisen place next old new (Err Fault) = HasFailedToRise place next old new
HasRisen place next old new (Err Memory) = new ≡ old
