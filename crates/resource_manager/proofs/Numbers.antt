-- How far transactions have come, by number: after one more is seen, and after one has come further.
-- Needed by `Courses::see` and `Courses::set`.
use Rattle.std.proofs.Common.{◌≡◌, ◌∙◌, ℕ, zero, suc, ◌+◌, ◌<◌, true, nat_lt, cond, List, [], ◌∷◌, ◌++◌, length, get_or, set, refl, sym, ap}
use Rattle.std.proofs.Common.{subst, Option, Some, arith}
use Rattle.std.specs.Prelude.{filter_map, slice_get}
use Rattle.std.specs.List.{cons_option}
use Rattle.std.proofs.lemmas.Bool.{and_from, and_parts, lt-ltb, ltb-true}
use Rattle.std.proofs.lemmas.List.{length-append}
use Rattle.std.proofs.lemmas.List.Elements.{filter_map-append}
use Rattle.std.proofs.lemmas.List.Sums.{passes_at_first}
use Rattle.std.proofs.lemmas.Option.{slice_get-get_or}
use Rattle.xid.proofs.Deciding.{tx_decides}
use Rattle.xid.specs.Transactions.{TxParts, tx_eq}
use Rattle.transactions.specs.Seen.{place_in, seen_with, no_transaction}
use Rattle.transactions.proofs.Keys.{absent_from_place}
use Rattle.transactions.proofs.Rows.{number_same, is_seen, row_added, row_changed}
use Rattle.resource_manager.specs.declared.course.Course.{Course}
use Rattle.resource_manager.specs.Messages.{are_below}

-- the course of one that wasn't seen
abbrev new_course : TxParts → Course
new_course tx = Course.Working

get_front : {X : Type 0} (xs : List X) (x : X) (k : ℕ) → k < length xs → slice_get (xs ++ x ∷ []) k ≡ slice_get xs k
get_front [] x k lt = absurd (omega (arith, lt))
get_front (y ∷ xs) x zero lt = refl
get_front (y ∷ xs) x (suc k) lt = get_front xs x k (omega (arith, lt))

module _ (ts us : List TxParts) (tx : TxParts) (absent : place_in ts tx ≡ length ts) (added : us ≡ seen_with ts tx) where
  last : us ≡ ts ++ tx ∷ []
  last = added ∙ ap (λ t. cond t ts (ts ++ tx ∷ [])) (absent_from_place (tx_eq tx) ts absent)

  -- a transaction that was seen has its number
  pub saw_number : (place_in ts tx ≡ place_in us tx) × (place_in us tx < length us)
  saw_number =
      subst (λ xs. (place_in ts tx ≡ place_in xs tx) × (place_in xs tx < length xs)) (sym last)
      (number_same ts tx absent, is_seen ts tx absent)

  -- what is found by numbers from before is the same
  pub saw_begun : (numbers : List ℕ) → are_below (length ts) numbers ≡ true
      → filter_map (slice_get us) numbers ≡ filter_map (slice_get ts) numbers
  saw_begun [] below = refl
  saw_begun (k ∷ numbers) below =
      let parts = and_parts (nat_lt k (length ts)) (are_below (length ts) numbers) below in
      let same : slice_get us k ≡ slice_get ts k =
      ap (λ xs. slice_get xs k) last ∙ get_front ts tx k (ltb-true k (length ts) parts.0) in
      λ i. cons_option (same i) (saw_begun numbers parts.1 i)

  -- numbers below the old count are below the new one
  pub saw_below : (numbers : List ℕ) → are_below (length ts) numbers ≡ true → are_below (length us) numbers ≡ true
  saw_below [] below = refl
  saw_below (k ∷ numbers) below =
      let parts = and_parts (nat_lt k (length ts)) (are_below (length ts) numbers) below in
      let more : length us ≡ length ts + 1 = ap length last ∙ length-append ts (tx ∷ []) in
      let lt = ltb-true k (length ts) parts.0 in
      and_from (nat_lt k (length us)) (are_below (length us) numbers) (lt-ltb k (length us) (omega (arith, lt, more)))
      (saw_below numbers parts.1)

  module _ (cs ds : List Course) (pushed : ds ≡ cs ++ Course.Working ∷ []) (whole : length cs ≡ length ts) where
    -- there are as many courses as transactions
    pub saw_whole : length ds ≡ length us
    saw_whole =
        ap length pushed ∙ length-append cs (Course.Working ∷ []) ∙ ap (λ n. n + 1) whole ∙ sym (length-append ts (tx ∷ []))
        ∙ ap length (sym last)

    pub saw_same : (other : TxParts) → get_or ds (place_in us other) Course.Working ≡ get_or cs (place_in ts other) Course.Working
    saw_same other =
        (λ i. get_or (pushed i) (place_in (last i) other) Course.Working) ∙ row_added new_course ts cs whole tx absent other

-- the course of each after one has come further
pub set_course : (ts : List TxParts) (cs : List Course) (n : ℕ) (tx : TxParts) (course : Course) → n ≡ place_in ts tx
    → place_in ts tx < length ts → length cs ≡ length ts → (other : TxParts)
    → get_or (set cs n course) (place_in ts other) Course.Working
    ≡ cond (tx_eq other tx) course (get_or cs (place_in ts other) Course.Working)
set_course ts cs n tx course number seen whole other =
    ap (λ k. get_or (set cs k course) (place_in ts other) Course.Working) number
    ∙ row_changed new_course ts cs whole tx course seen other

-- a transaction that was seen is found by its number
place_gets : (ts : List TxParts) (tx : TxParts) → place_in ts tx < length ts → slice_get ts (place_in ts tx) ≡ Some tx
place_gets ts tx seen =
    slice_get-get_or ts (place_in ts tx) no_transaction seen
    ∙ ap Some (sym ((tx_decides tx (get_or ts (place_in ts tx) no_transaction)).0 (passes_at_first (tx_eq tx) ts no_transaction seen)))

-- and the transactions that have begun, with one more
pub begun_push : (ts : List TxParts) (numbers : List ℕ) (n : ℕ) (tx : TxParts) → n ≡ place_in ts tx → place_in ts tx < length ts
    → filter_map (slice_get ts) (numbers ++ n ∷ []) ≡ filter_map (slice_get ts) numbers ++ tx ∷ []
begun_push ts numbers n tx number seen =
    filter_map-append (slice_get ts) numbers (n ∷ [])
    ∙ ap (λ (o : Option TxParts). filter_map (slice_get ts) numbers ++ cons_option o []) (ap (slice_get ts) number ∙ place_gets ts tx seen)
