-- Transactions by their places, in an order of their own.
-- Needed by crates acceptor and leader.
use Rattle.std.proofs.Common.{◌≡◌, ◌∙◌, ℕ, zero, suc, ◌<◌, ◌≤◌, Bool, true, false, ◌||◌, ◌==◌, List, [], ◌∷◌, ◌++◌, length, get_or}
use Rattle.std.proofs.Common.{refl, sym, ap, subst, arith}
use Rattle.std.specs.Prelude.{if◌then◌else◌, nat_eq, Result, Ok, Err, OnOk, OnErr}
use Rattle.std.specs.Bool.{one_answer}
use Rattle.std.specs.List.{AllByRecursion, IsDistinct, list_any}
use Rattle.std.proofs.lemmas.Bool.{eqb-true, eq-eqb}
use Rattle.std.proofs.lemmas.List.{map-append}
use Rattle.std.proofs.lemmas.List.Sums.{passes_at_first}
use Rattle.xid.specs.Transactions.{TxParts, IsTx, tx_eq}
use Rattle.xid.specs.declared.refusals.Refusal.{Refusal}
use Rattle.xid.proofs.Deciding.{tx_decides}
use Rattle.transactions.specs.Seen.{place_in, seen_with, numbered_with, no_transaction, at_places, AreInside}
use Rattle.transactions.proofs.Rows.{front, number_at}

-- places within few transactions are within more
pub still_inside : (places : List ℕ) (n m : ℕ) → n ≤ m → AreInside n places → AreInside m places
still_inside [] n m more each = tt
still_inside (place ∷ places) n m more each = (omega (arith, more, each.0), still_inside places n m more each.1)

-- with one transaction more they are of the same
pub at_places_grown : (ts : List TxParts) (tx : TxParts) (places : List ℕ) → AreInside (length ts) places
    → at_places (ts ++ tx ∷ []) places ≡ at_places ts places
at_places_grown ts tx [] each = refl
at_places_grown ts tx (place ∷ places) each =
    λ k. front ts tx no_transaction place each.0 k ∷ at_places_grown ts tx places each.1 k

-- one transaction more changes nothing at places
pub at_places_seen : (ts : List TxParts) (tx : TxParts) (places : List ℕ) → AreInside (length ts) places
    → at_places (seen_with ts tx) places ≡ at_places ts places
at_places_seen ts tx places each = by (list_any (tx_eq tx) ts)
  where
    by : (b : Bool) → at_places (if b then ts else ts ++ tx ∷ []) places ≡ at_places ts places
    by true = refl
    by false = at_places_grown ts tx places each

module _ (ts : List TxParts) (once : IsDistinct tx_eq ts) where
  abbrev at : ℕ → TxParts
  at n = get_or ts n no_transaction

  module _ (tx : TxParts) (place : ℕ) (is : place ≡ place_in ts tx) (within : place < length ts) where
    -- it stands at its place
    stands_there : tx ≡ at place
    stands_there =
        let P : ℕ → Type 0 = λ n. n < length ts in
        (tx_decides tx _).0 (passes_at_first (tx_eq tx) ts no_transaction (subst P is within)) ∙ ap at (sym is)

    -- and at no other
    same_test : (n : ℕ) → n < length ts → (place == n) ≡ tx_eq tx (at n)
    same_test n less = one_answer (place == n) (tx_eq tx (at n)) (
      λ h. stands_there ∙ ap at (eqb-true place n h),
      λ e. eq-eqb place n (is ∙ ap (place_in ts) e ∙ number_at ts n no_transaction once less),
    ) (tx_decides tx (at n))

    pub any_same : (places : List ℕ) → AreInside (length ts) places
        → list_any (λ n. place == n) places ≡ list_any (tx_eq tx) (at_places ts places)
    any_same [] each = refl
    any_same (n ∷ places) each = λ k. same_test n each.0 k || any_same places each.1 k

    one_more : (places : List ℕ) (b : Bool) → at_places ts (if b then places else places ++ place ∷ [])
        ≡ (if b then at_places ts places else at_places ts places ++ tx ∷ [])
    one_more places true = refl
    one_more places false = map-append at places (place ∷ []) ∙ ap (λ t. at_places ts places ++ t ∷ []) (sym stands_there)

    -- listed by its place, it is listed
    pub listed : (places : List ℕ) → AreInside (length ts) places
        → at_places ts (numbered_with places place) ≡ seen_with (at_places ts places) tx
    listed places each =
        one_more places (list_any (λ n. place == n) places)
        ∙ ap (λ b. if b then at_places ts places else at_places ts places ++ tx ∷ []) (any_same places each)

  -- no two are the same
  all_apart : (a : ℕ) (places : List ℕ) → a < length ts → AreInside (length ts) places → AllByRecursion (λ b. nat_eq a b ≡ false) places
      → AllByRecursion (λ tx. tx_eq (at a) tx ≡ false) (at_places ts places)
  all_apart a [] less each apart = tt
  all_apart a (b ∷ places) less each apart = (
    sym (same_test (at a) a (sym (number_at ts a no_transaction once less)) less b each.0) ∙ apart.0,
    all_apart a places less each.1 apart.1,
  )

  -- places that are apart are transactions that are
  pub begun_once : (places : List ℕ) → AreInside (length ts) places → IsDistinct nat_eq places → IsDistinct tx_eq (at_places ts places)
  unfolding IsDistinct
  begun_once [] each apart = tt
  begun_once (a ∷ places) each apart = (all_apart a places each.0 each.1 apart.0, begun_once places each.1 apart.1)

pub inside_more : (n place : ℕ) (places : List ℕ) (b : Bool) → AreInside n places → place < n
    → AreInside n (if b then places else places ++ place ∷ [])
inside_more n place places true each less = each
inside_more n place [] false each less = (less, tt)
inside_more n place (first ∷ places) false each less = (each.0, inside_more n place places false each.1 less)

-- one place more
pub inside_with : (n place : ℕ) (places : List ℕ) → AreInside n places → place < n → AreInside n (numbered_with places place)
inside_with n place places each less = inside_more n place places (list_any (λ m. place == m) places) each less

-- what holds of all holds of those at places
pub at_places_valid : (ts : List TxParts) (places : List ℕ) → AreInside (length ts) places → AllByRecursion IsTx ts
    → AllByRecursion IsTx (at_places ts places)
at_places_valid ts [] each valid = tt
at_places_valid ts (place ∷ places) each valid = (one ts place each.0 valid, at_places_valid ts places each.1 valid)
  where
    one : (xs : List TxParts) (n : ℕ) → n < length xs → AllByRecursion IsTx xs → IsTx (get_or xs n no_transaction)
    one [] n less all = absurd (omega (arith, less))
    one (x ∷ xs) zero less all = all.0
    one (x ∷ xs) (suc n) less all = one xs n (omega (arith, less)) all.1

-- one more is listed, or isn't for want of memory
module _ (ts : List TxParts) (tx : TxParts) (number : ℕ) (old new : List ℕ) (is : number ≡ place_in ts tx)
    (seen : place_in ts tx < length ts) (inside : AreInside (length ts) old) (r : Result (Unit {0}) Refusal) where
  -- a place that was added, or was not
  pub begun_inside : OnOk r (new ≡ numbered_with old number) → OnErr r (new ≡ old) → AreInside (length ts) new
  begun_inside added kept = by r added kept
    where
      by : (r : Result (Unit {0}) Refusal) → OnOk r (new ≡ numbered_with old number) → OnErr r (new ≡ old) → AreInside (length ts) new
      by (Ok done) added kept =
          subst (AreInside (length ts)) (sym added) (inside_with (length ts) number old inside (omega (arith, is, seen)))
      by (Err e) added kept = subst (AreInside (length ts)) (sym kept) inside

  -- and the transaction that stands there
  pub begun_added : IsDistinct tx_eq ts → OnOk r (new ≡ numbered_with old number)
      → OnOk r (at_places ts new ≡ seen_with (at_places ts old) tx)
  begun_added once added = by r added
    where
      by : (r : Result (Unit {0}) Refusal) → OnOk r (new ≡ numbered_with old number)
          → OnOk r (at_places ts new ≡ seen_with (at_places ts old) tx)
      by (Ok done) added = ap (at_places ts) added ∙ listed ts once tx number is (omega (arith, is, seen)) old inside
      by (Err e) added = tt
