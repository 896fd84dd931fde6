-- What the calls of a record make of what stands behind a floor that is known, and of a floor that was to rise.
-- Needed by `Behind::learn`, `Behind::open`, `Behind::raise`, `BehindRecord::cut` and `BehindRecord::replace`; crate node_core.
use Rattle.std.proofs.Common.{◌≡◌, ◌∙◌, ℕ, zero, suc, ◌+◌, ◌⊎◌, inl, inr, Bool, true, false, List, [], ◌∷◌, ◌++◌, length, take, drop}
use Rattle.std.proofs.Common.{Option, Some, refl, sym, ap, subst, arith}
use Rattle.std.specs.Prelude.{Result, Ok, Err}
use Rattle.std.specs.Option.{option_map}
use Rattle.std.proofs.lemmas.List.{drop_at}
use Rattle.xid.specs.Names.{IsBytes}
use Rattle.xid.specs.Places.{Place, IsPlace}
use Rattle.stable_record.specs.declared.record.RecordError.{RecordError}
use Rattle.stable_record.specs.declared.record.RecordError.TheVariants.{Fault, Memory}
use Rattle.stable_record.specs.declared.entry.EntryKind.{EntryKind as Entry}
use Rattle.stable_record.specs.Grammar.{IsStored}
use Rattle.stable_record.specs.Held.{Held, Nature, HasPut, HasFailed, with_bytes}
use Rattle.stable_record.specs.Floors.{floor_frame, floor_of, front_of}
use Rattle.stable_record.specs.Behind.{BeginsWith, HasFailedToRise, HasLearned, IsFloor, IsFronted, IsFronting, behind, floor_now}
use Rattle.stable_record.specs.Behind.{standing_behind, BehindParts, whole_bytes}
use Rattle.stable_record.proofs.Floors.{begins_with, floor_again, floor_stays}
use Rattle.stable_record.proofs.Fronts.{cut_begins, cut_behind, nature_behind, put_begins, rest_is}

-- ---- bytes

bytes_taken : (n : ℕ) (xs : List ℕ) → IsBytes xs → IsBytes (take n xs)
bytes_taken zero xs is i = omega arith
bytes_taken (suc n) [] is i = is i
bytes_taken (suc n) (x ∷ xs) is zero = is 0
bytes_taken (suc n) (x ∷ xs) is (suc i) = bytes_taken n xs (λ k. is (suc k)) i

put_bytes : (next : List ℕ) (old new : Held) (result : Result (Unit {0}) RecordError) → IsBytes old.bytes → IsBytes next
    → HasPut next old new result → IsBytes new.bytes
put_bytes next old new (Ok done) had put h = subst (λ (r : Held). IsBytes r.bytes) (sym h) put
put_bytes next old new (Err Fault) had put h = by h.bytes
  where
    by : (new.bytes ≡ old.bytes) ⊎ (new.bytes ≡ next) → IsBytes new.bytes
    by (inl same) = subst IsBytes (sym same) had
    by (inr same) = subst IsBytes (sym same) put
put_bytes next old new (Err Memory) had put h = subst (λ (r : Held). IsBytes r.bytes) (sym h) had

-- ---- a floor that was found

-- a record that was read begins with its floor
pub opened_fronted : (floor : Option Place) (read bytes : List ℕ) → floor ≡ floor_of read → BeginsWith (front_of (floor_of read)) read
    → IsBytes read → read ≡ bytes → IsFloor (floor_of read) → IsFronted true floor bytes
opened_fronted floor read bytes found begins are_bytes same valid = record {
  begins = subst (BeginsWith (front_of floor)) same (subst (λ (f : Option Place). BeginsWith (front_of f) read) (sym found) begins);
  are_bytes = subst IsBytes same are_bytes;
  valid = subst IsFloor (sym found) valid;
}

-- ---- a floor that is known

module _ (floor : Option Place) (old new : Held) (result : Result (Unit {0}) RecordError) where
  abbrev front : List ℕ
  front = front_of floor

  -- it does so after a cut behind a floor that is known
  pub cut_fronted : (is_known : Bool) (len : ℕ) → is_known ≡ true → IsFronted is_known floor old.bytes
      → HasPut (take (len + length front) old.bytes) old new result → IsFronted is_known floor new.bytes
  cut_fronted true len known fronted h = record {
    begins = cut_begins front old new len result fronted.begins h;
    are_bytes =
        put_bytes (take (len + length front) old.bytes) old new result fronted.are_bytes
        (bytes_taken (len + length front) old.bytes fronted.are_bytes) h;
    valid = fronted.valid;
  }
  cut_fronted false len known fronted h = absurd (cc (known))

  -- which is a cut of what stands behind the floor
  pub cut_known : (is_known : Bool) (len : ℕ) → is_known ≡ true → IsFronted is_known floor old.bytes
      → HasPut (take (len + length front) old.bytes) old new result
      → HasPut (take len (drop (length (front_of (floor_now is_known floor old.bytes))) old.bytes))
      (behind (front_of (floor_now is_known floor old.bytes)) old) (behind (front_of (floor_now is_known floor new.bytes)) new) result
  cut_known true len known fronted h = cut_behind front old new len result fronted.begins h
  cut_known false len known fronted h = absurd (cc (known))

  -- and after a replacement behind it
  pub put_fronted : (is_known : Bool) (next : List ℕ) → is_known ≡ true → IsFronted is_known floor old.bytes → IsBytes (front ++ next)
      → HasPut (front ++ next) old new result → IsFronted is_known floor new.bytes
  put_fronted true next known fronted put h = record {
    begins = put_begins front old new next result fronted.begins h;
    are_bytes = put_bytes (front ++ next) old new result fronted.are_bytes put h;
    valid = fronted.valid;
  }
  put_fronted false next known fronted put h = absurd (cc (known))

-- ---- a floor that is learned

-- a floor that is known is learned without a look
pub known_learned : (is_known : Bool) (floor : Option Place) (held : Held) → is_known ≡ true → IsFloor floor
    → HasLearned (standing_behind is_known floor held) (standing_behind is_known floor held) (Ok floor)
known_learned true floor held known valid = (refl, refl, record { valid = valid; beneath = held.nature.fronts; fronts_are = refl })
known_learned false floor held known valid = absurd (cc (known))

-- one that is read is known from then on
pub read_learned : (is_known : Bool) (floor found : Option Place) (old new : Held) → is_known ≡ false → new ≡ old
    → found ≡ floor_of old.bytes → IsFloor found
    → HasLearned (standing_behind is_known floor old) (standing_behind true found new) (Ok found)
read_learned false floor found old new unknown same is valid = (
  is,
  λ i. record { floor = is i; held = behind (front_of (is i)) (same i); is_known = true },
  record { valid = valid; beneath = old.nature.fronts; fronts_are = ap (λ (f : Option Place). front_of f ∷ old.nature.fronts) (sym is) },
)
read_learned true floor found old new unknown same is valid = absurd (cc (unknown))

-- ---- a floor that was to rise

-- a front, and what is behind it, are the bytes
whole_is : (front : List ℕ) (held : Held) → BeginsWith front held.bytes → front ++ drop (length front) held.bytes ≡ held.bytes
whole_is front held begins = ap (λ (xs : List ℕ). front ++ xs) (rest_is front held held begins) ∙ sym begins.same

module _ (floor : Option Place) (place : Place) (next : List ℕ) (old new : Held) (put : IsBytes (floor_frame place ++ next))
    (valid : IsPlace place) where
  -- a floor that rose stands in front
  pub risen_fronted : (is_known : Bool) → is_known ≡ true → new ≡ with_bytes (floor_frame place ++ next) old
      → IsFronted is_known (Some place) new.bytes
  risen_fronted true known h = record {
    begins = record { rest = next; same = ap (λ (r : Held). r.bytes) h };
    are_bytes = subst (λ (r : Held). IsBytes r.bytes) (sym h) put;
    valid = valid;
  }
  risen_fronted false known h = absurd (cc (known))

  failed_bytes : IsBytes old.bytes → HasFailed (floor_frame place ++ next) old new → IsBytes new.bytes
  failed_bytes had h = put_bytes (floor_frame place ++ next) old new (Err Fault) had put h

  -- where the replacement failed, the old floor or the new one does, and it isn't known which
  pub failed_fronted : (is_known : Bool) → IsFronted is_known floor old.bytes → HasFailed (floor_frame place ++ next) old new
      → IsFronted false floor new.bytes
  failed_fronted is_known fronted h =
      let are_bytes = failed_bytes fronted.are_bytes h in
      record { begins = begins_with new.bytes are_bytes; are_bytes = are_bytes; valid = fronted.valid }

  -- so the floor failed to rise
  pub failed_rising : (is_known : Bool) → is_known ≡ true → IsFronted is_known floor old.bytes
      → HasFailed (floor_frame place ++ next) old new
      → HasFailedToRise place next (standing_behind is_known floor old) (standing_behind false floor new)
  failed_rising true known fronted h =
      let whole_new = whole_is (front_of (floor_of new.bytes)) new (begins_with new.bytes (failed_bytes fronted.are_bytes h)) in
      let whole_old = whole_is (front_of floor) old fronted.begins in
      record {
        may = h.may;
        counted = h.counted;
        armed = h.armed;
        valid = valid;
        stood = record { valid = fronted.valid; beneath = old.nature.fronts; fronts_are = refl };
        were_bytes = subst IsBytes (sym whole_old) fronted.are_bytes;
        bytes = by h.bytes whole_new whole_old;
        floor_is = ap floor_of (sym whole_new);
        unknown = refl;
        nature = ap (nature_behind (front_of (floor_of new.bytes))) h.nature;
      }
    where
      by : {whole_new whole_old : List ℕ} → (new.bytes ≡ old.bytes) ⊎ (new.bytes ≡ floor_frame place ++ next) → whole_new ≡ new.bytes
          → whole_old ≡ old.bytes → (whole_new ≡ whole_old) ⊎ (whole_new ≡ floor_frame place ++ next)
      by (inl same) is_new is_old = inl (is_new ∙ same ∙ sym is_old)
      by (inr same) is_new is_old = inr (is_new ∙ same)
  failed_rising false known fronted h = absurd (cc (known))

-- ---- what is left where a floor failed to rise

-- which of the two it is, by its floor and by what it holds
abbrev pub IsEither : Place → List ℕ → (old new : BehindParts) → Type 0
IsEither place next old new =
    ((new.floor ≡ old.floor) × (new.held.bytes ≡ old.held.bytes)) ⊎ ((new.floor ≡ Some place) × (new.held.bytes ≡ next))

module _ (place : Place) (next : List ℕ) (old new : BehindParts) (h : HasFailedToRise place next old new) where
  -- what is behind a front, by the floor and by all bytes
  behind_is : (floor : Option Place) (rest : List ℕ) → new.floor ≡ floor → whole_bytes new ≡ front_of floor ++ rest → new.held.bytes ≡ rest
  behind_is floor rest is whole =
      sym (drop_at (front_of new.floor) new.held.bytes (length (front_of new.floor)) refl)
      ∙ (λ i. drop (length (front_of (is i))) (whole i)) ∙ drop_at (front_of floor) rest (length (front_of floor)) refl

  -- what stands there then is the old record or the new one
  pub failed_either : (all : List Entry) (tail : List ℕ) → IsStored old.held.bytes all tail → IsEither place next old new
  failed_either all tail stored = by h.bytes
    where
      by : (whole_bytes new ≡ whole_bytes old) ⊎ (whole_bytes new ≡ floor_frame place ++ next) → IsEither place next old new
      by (inl same) =
          let is = h.floor_is ∙ ap floor_of same ∙ floor_stays old.floor old.held.bytes all tail h.stood.valid h.were_bytes stored in
          inl (is, behind_is old.floor old.held.bytes is same)
      by (inr same) =
          let is = h.floor_is ∙ ap floor_of same ∙ ap (option_map (λ x. x.0)) (floor_again place next h.valid) in
          inr (is, behind_is (Some place) next is same)

  -- and begins with the floor of that one
  pub failed_fronting : IsEither place next old new → IsFronting new.floor new.held
  failed_fronting either =
      record { valid = by either; beneath = drop 1 old.held.nature.fronts; fronts_are = ap (λ (n : Nature). n.fronts) h.nature }
    where
      by : IsEither place next old new → IsFloor new.floor
      by (inl is) = subst IsFloor (sym is.0) h.stood.valid
      by (inr is) = subst IsFloor (sym is.0) h.valid
