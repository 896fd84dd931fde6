-- The writes of a transaction, made participant by participant.
use Rattle.std.proofs.Common.{◌≡◌, ◌∙◌, ℕ, zero, suc, ◌+◌, ◌<◌, ◌≤◌, Bool, true, false, ◌==◌, ◌&&◌, ◌||◌, cond, List, [], ◌∷◌, length}
use Rattle.std.proofs.Common.{get_or, take, Some, None, refl, sym, ap, subst, arith}
use Rattle.std.specs.Prelude.{find}
use Rattle.std.specs.Cmp.{unsigned_Decides}
use Rattle.std.specs.List.{list_any}
use Rattle.std.specs.List.Sorted.{IsStrictlyIncreasing}
use Rattle.std.specs.Option.{option_map, option_and_then}
use Rattle.std.proofs.lemmas.Bool.{ne_eqb}
use Rattle.std.proofs.lemmas.List.{get_or-take, take_all}
use Rattle.std.proofs.lemmas.List.Folds.{list_any_none, list_any_more}
use Rattle.std.proofs.lemmas.List.Sums.{position_or_len_is}
use Rattle.xid.specs.Transactions.{BranchParts, TxParts, IsTx, is_at, nth_branch, rm_numbers, xid_of}
use Rattle.wire.proofs.Ascending.{later}
use Rattle.transactions.proofs.First.{or_true}
use Rattle.protocol.specs.Basics.{Touched}
use Rattle.safety.specs.Vocabulary.{Row}
use Rattle.protocol.specs.Tables.{with_writes}
use Rattle.safety.proofs.World.Changes.{or_none}
use Rattle.audit.specs.Stretches.{Stretches, writes_in, writes_at}
use Rattle.audit.specs.Books.{place_at}

nobody : BranchParts
nobody = record { rm = 0; bqual = [] }

taken_length : {X : Type 0} (xs : List X) (n : ℕ) → n ≤ length xs → length (take n xs) ≡ n
taken_length [] zero le = refl
taken_length [] (suc n) le = absurd (omega (arith, le))
taken_length (x ∷ xs) zero le = refl
taken_length (x ∷ xs) (suc n) le = let rest = taken_length xs n (omega (arith, le)) in omega (arith, rest)

any_default : {X : Type 0} (xs : List X) (n : ℕ) (d e : X) → n < length xs → get_or xs n d ≡ get_or xs n e
any_default [] n d e under = absurd (omega (arith, under))
any_default (x ∷ xs) zero d e under = refl
any_default (x ∷ xs) (suc n) d e under = any_default xs n d e (omega (arith, under))

-- ---- a resource manager takes part once

below : (m : ℕ) (bs : List BranchParts) (i : ℕ) (d : BranchParts) → IsStrictlyIncreasing (m ∷ rm_numbers bs) → i < length bs
    → m < (get_or bs i d).rm
below m [] i d up lt = absurd (omega (arith, lt))
below m (b ∷ bs) zero d up lt = up 0 (omega arith)
below m (b ∷ bs) (suc i) d up lt =
    let first : m < b.rm = up 0 (omega arith) in
    let next = below b.rm bs i d (later m b.rm (rm_numbers bs) up) (omega (arith, lt)) in
    omega (arith, first, next)

rest_of : (b : BranchParts) (bs : List BranchParts) → IsStrictlyIncreasing (b.rm ∷ rm_numbers bs) → IsStrictlyIncreasing (rm_numbers bs)
rest_of b [] up = λ k lt. absurd (omega (arith, lt))
rest_of b (c ∷ bs) up = later b.rm c.rm (rm_numbers bs) up

apart : (bs : List BranchParts) (k i : ℕ) (d e : BranchParts) → IsStrictlyIncreasing (rm_numbers bs) → k < i → i < length bs
    → (get_or bs k d).rm < (get_or bs i e).rm
apart [] k i d e up less lt = absurd (omega (arith, lt))
apart (b ∷ bs) zero zero d e up less lt = absurd (omega (arith, less))
apart (b ∷ bs) zero (suc i) d e up less lt = below b.rm bs i e up (omega (arith, lt))
apart (b ∷ bs) (suc k) zero d e up less lt = absurd (omega (arith, less))
apart (b ∷ bs) (suc k) (suc i) d e up less lt = apart bs k i d e (rest_of b bs up) (omega (arith, less)) (omega (arith, lt))

module _ (tx : TxParts) (is : IsTx tx) (i : ℕ) (lt : i < length tx.branches) where
  abbrev rm : ℕ
  rm = (nth_branch tx i).rm

  not_before : (k : ℕ) (d : BranchParts) → k < i → is_at rm (get_or tx.branches k d) ≡ false
  not_before k d less =
      ne_eqb (get_or tx.branches k d).rm rm
      (λ same. absurd (below_itself (apart tx.branches k i d (record { rm = 0; bqual = [] }) is.branches.ascending less lt) same))
    where
      below_itself : {a b : ℕ} → a < b → a ≡ b → ⊥
      below_itself less same = absurd (omega (arith, less, same))

  pub first_time : list_any (is_at rm) (take i tx.branches) ≡ false
  first_time =
      list_any_none (is_at rm) (take i tx.branches)
      (λ k d less.
      let short = taken_length tx.branches i (omega (arith, lt)) in
      let under : k < i = omega (arith, less, short) in
      ap (is_at rm) (get_or-take i tx.branches k d under) ∙ not_before k d under)

  pub own_place : place_at rm tx ≡ i
  own_place =
      position_or_len_is (is_at rm) tx.branches i nobody (omega (arith, lt)) (λ k less. not_before k nobody less)
      (λ _. (unsigned_Decides _ rm).1
      (ap (λ (b : BranchParts). b.rm) (any_default tx.branches i nobody (record { rm = 0; bqual = [] }) lt)))

-- ---- one participant more

module _ (w : ℕ → List Touched) (c : ℕ → Bool) (init now next : ℕ → List Row) (done : ℕ → Bool) (r : ℕ) (k : Bool)
    (so_far : (rm : ℕ) → now rm ≡ cond (done rm && c rm) (with_writes (init rm) (w rm)) (init rm))
    (step : (rm : ℕ) → next rm ≡ cond ((r == rm) && k) (with_writes (now r) (w r)) (now rm))
    (test : k ≡ c r) (fresh : done r ≡ false) where
  own : next r ≡ cond ((done r || true) && c r) (with_writes (init r) (w r)) (init r)
  own =
      let unchanged : now r ≡ init r = so_far r ∙ ap (λ b. cond (b && c r) (with_writes (init r) (w r)) (init r)) fresh in
      step r
      ∙ (λ i. cond ((unsigned_Decides r r).1 refl i && test i) (with_writes (unchanged i) (w r)) (unchanged i))
      ∙ sym (ap (λ b. cond (b && c r) (with_writes (init r) (w r)) (init r)) (or_true (done r)))

  pub one_more : (rm : ℕ) → next rm ≡ cond ((done rm || (r == rm)) && c rm) (with_writes (init rm) (w rm)) (init rm)
  one_more rm = by (r == rm) refl
    where
      by : (b : Bool) → (r == rm) ≡ b → next rm ≡ cond ((done rm || b) && c rm) (with_writes (init rm) (w rm)) (init rm)
      by true e =
          subst (λ n. next n ≡ cond ((done n || true) && c n) (with_writes (init n) (w n)) (init n)) ((unsigned_Decides r rm).0 e) own
      by false e =
          step rm ∙ ap (λ b. cond (b && k) (with_writes (now r) (w r)) (now rm)) e ∙ so_far rm
          ∙ sym (ap (λ b. cond (b && c rm) (with_writes (init rm) (w rm)) (init rm)) (or_none (done rm)))

-- the participants so far, and one more
pub taken_more : (tx : TxParts) (i : ℕ) → i < length tx.branches → (rm : ℕ)
    → list_any (is_at rm) (take (i + 1) tx.branches) ≡ (list_any (is_at rm) (take i tx.branches) || ((nth_branch tx i).rm == rm))
taken_more tx i lt rm = list_any_more (is_at rm) tx.branches i (record { rm = 0; bqual = [] }) lt

-- ---- all participants

none_found : {X : Type 0} (p : X → Bool) (xs : List X) → list_any p xs ≡ false → find p xs ≡ None
none_found p [] e = refl
none_found p (x ∷ xs) e = by (p x) e (none_found p xs)
  where
    by : (b : Bool) → (b || list_any p xs) ≡ false → (list_any p xs ≡ false → find p xs ≡ None) → cond b (Some x) (find p xs) ≡ None
    by true q rest = absurd (cc (q))
    by false q rest = rest q

pub no_writes : (done : Stretches) (rm : ℕ) (tx : TxParts) → list_any (is_at rm) tx.branches ≡ false → writes_at done rm tx ≡ []
no_writes done rm tx none =
    ap (λ o. writes_in (option_and_then (done rm) (option_map (xid_of tx) o))) (none_found (is_at rm) tx.branches none)

-- all writes were made, where no other participant has any
pub all_made : (named c : Bool) (rows : List Row) (w : List Touched) → (named ≡ false → w ≡ [])
    → cond (named && c) (with_writes rows w) rows ≡ cond c (with_writes rows w) rows
all_made true c rows w none = refl
all_made false true rows w none = sym (ap (with_writes rows) (none refl))
all_made false false rows w none = refl

-- ---- the whole loop

and_true : (b : Bool) → (b && true) ≡ b
and_true true = refl
and_true false = refl

module _ (tx : TxParts) (is : IsTx tx) (i : ℕ) (lt : i < length tx.branches) (w : ℕ → List Touched) (init now next : ℕ → List Row) where
  abbrev r : ℕ
  r = (nth_branch tx i).rm

  pub add_committed : (c : ℕ → Bool) (k : Bool) → k ≡ c r
      → ((rm : ℕ) → now rm ≡ cond (list_any (is_at rm) (take i tx.branches) && c rm) (with_writes (init rm) (w rm)) (init rm))
      → ((rm : ℕ) → next rm ≡ cond ((r == rm) && k) (with_writes (now r) (w r)) (now rm))
      → (rm : ℕ) → next rm ≡ cond (list_any (is_at rm) (take (i + 1) tx.branches) && c rm) (with_writes (init rm) (w rm)) (init rm)
  add_committed c k test so_far step rm =
      one_more w c init now next (λ n. list_any (is_at n) (take i tx.branches)) r k so_far step test (first_time tx is i lt) rm
      ∙ ap (λ b. cond (b && c rm) (with_writes (init rm) (w rm)) (init rm)) (sym (taken_more tx i lt rm))

  pub add_all : ((rm : ℕ) → now rm ≡ cond (list_any (is_at rm) (take i tx.branches)) (with_writes (init rm) (w rm)) (init rm))
      → ((rm : ℕ) → next rm ≡ cond (r == rm) (with_writes (now r) (w r)) (now rm))
      → (rm : ℕ) → next rm ≡ cond (list_any (is_at rm) (take (i + 1) tx.branches)) (with_writes (init rm) (w rm)) (init rm)
  add_all so_far step rm =
      add_committed (λ n. true) true refl
      (λ n. so_far n ∙ ap (λ b. cond b (with_writes (init n) (w n)) (init n)) (sym (and_true (list_any (is_at n) (take i tx.branches)))))
      (λ n. step n ∙ ap (λ b. cond b (with_writes (now r) (w r)) (now n)) (sym (and_true (r == n)))) rm
      ∙ ap (λ b. cond b (with_writes (init rm) (w rm)) (init rm)) (and_true (list_any (is_at rm) (take (i + 1) tx.branches)))

module _ (done : Stretches) (tx : TxParts) (rm : ℕ) (i : ℕ) (le : length tx.branches ≤ i) (rows now : List Row) where
  pub end_committed : (c : Bool)
      → now ≡ cond (list_any (is_at rm) (take i tx.branches) && c) (with_writes rows (writes_at done rm tx)) rows
      → now ≡ cond c (with_writes rows (writes_at done rm tx)) rows
  end_committed c is =
      is ∙ ap (λ bs. cond (list_any (is_at rm) bs && c) (with_writes rows (writes_at done rm tx)) rows) (take_all i tx.branches le)
      ∙ all_made (list_any (is_at rm) tx.branches) c rows (writes_at done rm tx) (no_writes done rm tx)

  pub end_all : now ≡ cond (list_any (is_at rm) (take i tx.branches)) (with_writes rows (writes_at done rm tx)) rows
      → now ≡ with_writes rows (writes_at done rm tx)
  end_all is =
      end_committed true (is ∙ ap (λ b. cond b (with_writes rows (writes_at done rm tx)) rows)
      (sym (and_true (list_any (is_at rm) (take i tx.branches)))))
