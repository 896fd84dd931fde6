-- What the calls of a record make of what it holds behind a front.
-- Needed by Known.
use Rattle.std.proofs.Common.{◌≡◌, ◌∙◌, ℕ, suc, ◌+◌, List, [], ◌∷◌, ◌++◌, length, take, drop, ◌⊎◌, inl, inr, refl, sym, ap, subst, arith}
use Rattle.std.specs.Prelude.{Result, Ok, Err}
use Rattle.std.proofs.lemmas.List.{drop_at}
use Rattle.stable_record.specs.declared.record.RecordError.{RecordError}
use Rattle.stable_record.specs.declared.record.RecordError.TheVariants.{Fault, Memory}
use Rattle.stable_record.specs.Held.{Held, Nature, HasPut, HasFailed, with_bytes}
use Rattle.stable_record.specs.Behind.{behind, BeginsWith}

-- the nature of what is held behind a front
abbrev pub nature_behind : List ℕ → Nature → Nature
nature_behind front nature = record { may_fail = nature.may_fail; fronts = front ∷ nature.fronts }

-- the first bytes of a front and of what follows it
take_past : (front rest : List ℕ) (len : ℕ) → take (len + length front) (front ++ rest) ≡ front ++ take len rest
take_past [] rest len = ap (λ (n : ℕ). take n rest) (omega arith)
take_past (x ∷ front) rest len =
    let more : len + length (x ∷ front) ≡ suc (len + length front) = omega arith in
    ap (λ (n : ℕ). take n (x ∷ (front ++ rest))) more ∙ ap (λ (xs : List ℕ). x ∷ xs) (take_past front rest len)

module _ (front : List ℕ) (old new : Held) where
  -- a record failed, and holds what it held, or what was to stand
  failed_behind : (all next : List ℕ) → drop (length front) all ≡ next → HasFailed all old new
      → HasFailed next (behind front old) (behind front new)
  failed_behind all next e f = record {
    may = f.may;
    bytes = by f.bytes;
    armed = f.armed;
    counted = f.counted;
    nature = ap (nature_behind front) f.nature;
  }
    where
      by : (new.bytes ≡ old.bytes) ⊎ (new.bytes ≡ all)
          → (drop (length front) new.bytes ≡ drop (length front) old.bytes) ⊎ (drop (length front) new.bytes ≡ next)
      by (inl same) = inl (ap (drop (length front)) same)
      by (inr same) = inr (ap (drop (length front)) same ∙ e)

  -- the bytes behind the front, where they begin with it
  pub rest_is : (begins : BeginsWith front old.bytes) → drop (length front) old.bytes ≡ begins.rest
  rest_is begins = ap (drop (length front)) begins.same ∙ drop_at front begins.rest (length front) refl

  pub put_behind : (next : List ℕ) (result : Result (Unit {0}) RecordError) → HasPut (front ++ next) old new result
      → HasPut next (behind front old) (behind front new) result
  put_behind next (Ok done) h =
      ap (behind front) h ∙ ap (λ (xs : List ℕ). with_bytes xs (behind front old)) (drop_at front next (length front) refl)
  put_behind next (Err Fault) h = failed_behind (front ++ next) next (drop_at front next (length front) refl) h
  put_behind next (Err Memory) h = ap (behind front) h

  -- what is put behind a front keeps the front
  pub put_begins : (next : List ℕ) (result : Result (Unit {0}) RecordError) → BeginsWith front old.bytes
      → HasPut (front ++ next) old new result → BeginsWith front new.bytes
  put_begins next (Ok done) begins h = record { rest = next; same = ap (λ (r : Held). r.bytes) h }
  put_begins next (Err Fault) begins h = by h.bytes
    where
      by : (new.bytes ≡ old.bytes) ⊎ (new.bytes ≡ front ++ next) → BeginsWith front new.bytes
      by (inl same) = subst (BeginsWith front) (sym same) begins
      by (inr same) = record { rest = next; same = same }
  put_begins next (Err Memory) begins h = subst (λ (r : Held). BeginsWith front r.bytes) (sym h) begins

  -- the bytes that a cut leaves: the front, and the first of those behind it
  cut_is : (len : ℕ) → BeginsWith front old.bytes → take (len + length front) old.bytes ≡ front ++ take len (drop (length front) old.bytes)
  cut_is len begins =
      ap (take (len + length front)) begins.same ∙ take_past front begins.rest len
      ∙ ap (λ (xs : List ℕ). front ++ take len xs) (sym (rest_is begins))

  -- a cut behind a front is one of what stands behind it
  pub cut_behind : (len : ℕ) (result : Result (Unit {0}) RecordError) → BeginsWith front old.bytes
      → HasPut (take (len + length front) old.bytes) old new result
      → HasPut (take len (drop (length front) old.bytes)) (behind front old) (behind front new) result
  cut_behind len result begins h =
      put_behind (take len (drop (length front) old.bytes)) result
      (subst (λ (xs : List ℕ). HasPut xs old new result) (cut_is len begins) h)

  -- and keeps the front
  pub cut_begins : (len : ℕ) (result : Result (Unit {0}) RecordError) → BeginsWith front old.bytes
      → HasPut (take (len + length front) old.bytes) old new result → BeginsWith front new.bytes
  cut_begins len result begins h =
      put_begins (take len (drop (length front) old.bytes)) result begins
      (subst (λ (xs : List ℕ). HasPut xs old new result) (cut_is len begins) h)
