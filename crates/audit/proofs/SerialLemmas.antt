-- One serial order: transactions by their places, and which of them a resource manager has committed.
use Rattle.std.proofs.Common.{◌≡◌, ◌∙◌, ◌⊎◌, inl, inr, ℕ, zero, suc, ◌+◌, ◌<◌, Bool, true, false, ◌&&◌, cond, ltb, List, [], ◌∷◌, ◌++◌}
use Rattle.std.proofs.Common.{length, get_or, take, Option, Some, None, refl, sym, ap, subst, arith}
use Rattle.std.specs.Prelude.{find, filter, fold, not, slice_get}
use Rattle.std.specs.List.{AllByRecursion, IsDistinct, list_all, position_or_len}
use Rattle.std.specs.Option.{option_map, option_and_then, unwrap_or}
use Rattle.std.proofs.lemmas.Bool.{ltb-true, ltb-false}
use Rattle.std.proofs.Math.Seq.{take-suc}
use Rattle.std.proofs.lemmas.List.{get_or-map, length-map}
use Rattle.std.proofs.lemmas.List.Sums.{fold-append, passes_at_first, prefix_len-le-length}
use Rattle.std.proofs.lemmas.List.Elements.{filter-append}
use Rattle.xid.proofs.Texts.{list_all_get}
use Rattle.transactions.proofs.Before.{turned}
use Rattle.safety.specs.Vocabulary.{Step, Row, View}
use Rattle.audit.proofs.ListLemmas.{all_next, all_fails, participant_at, participants_many}
use Rattle.std.specs.Cmp.{unsigned_Decides}
use Rattle.xid.specs.Transactions.{BranchParts, is_at, rm_numbers, xid_of, TxParts, tx_eq, participants}
use Rattle.xid.proofs.Deciding.{tx_self}
use Rattle.protocol.specs.Tables.{with_writes}
use Rattle.history.specs.Lines.{view_back}
use Rattle.history.specs.SerialOrder.{those_before, first_commits}
use Rattle.history.specs.Writes.{is_committed_view}
use Rattle.audit.specs.Told.{views_back}
use Rattle.audit.specs.Stretches.{Stretches, stretches_back, branch_at, gets_in, writes_in, writes_at}
use Rattle.audit.specs.ToldTables.{are_tables}
use Rattle.audit.specs.Consistent.{serial_table, are_shown, read_after, committed_back, is_order_kept, reads_are_serial}
use Rattle.audit.specs.Books.{ViewsParts, stretch_of, rows_of, views_in, has_committed, has_committed_everywhere, place_at, IsReplayed}
use Rattle.audit.specs.Following.{Follows}
use Rattle.audit.specs.declared.ledger.Ledger.{Ledger}

-- ---- those before a transaction are the first of the order

all_at : {X : Type 0} (P : X → Type 0) (xs : List X) (n : ℕ) (d : X) → AllByRecursion P xs → n < length xs → P (get_or xs n d)
all_at P [] n d all lt = absurd (omega (arith, lt))
all_at P (x ∷ xs) zero d all lt = all.0
all_at P (x ∷ xs) (suc n) d all lt = all_at P xs n d all.1 (omega (arith, lt))

head_apart : (tx : TxParts) (txs : List TxParts) → IsDistinct tx_eq (tx ∷ txs) → AllByRecursion (λ y. tx_eq tx y ≡ false) txs
unfolding IsDistinct
head_apart tx txs distinct = distinct.0

tail_distinct : (tx : TxParts) (txs : List TxParts) → IsDistinct tx_eq (tx ∷ txs) → IsDistinct tx_eq txs
unfolding IsDistinct
tail_distinct tx txs distinct = distinct.1

pub before_is_first : (order : List TxParts) (n : ℕ) (d : TxParts) → IsDistinct tx_eq order → n < length order
    → those_before (get_or order n d) order ≡ take n order
before_is_first [] n d distinct lt = absurd (omega (arith, lt))
before_is_first (tx ∷ txs) zero d distinct lt = ap (λ b. cond b [] (tx ∷ those_before tx txs)) (tx_self tx)
before_is_first (tx ∷ txs) (suc n) d distinct lt =
    let under : n < length txs = omega (arith, lt) in
    let apart = turned tx (get_or txs n d) (all_at (λ y. tx_eq tx y ≡ false) txs n d (head_apart tx txs distinct) under) in
    ap (λ b. cond b [] (tx ∷ those_before (get_or txs n d) txs)) apart
    ∙ ap (λ rest. tx ∷ rest) (before_is_first txs n d (tail_distinct tx txs distinct) under)

-- ---- the transactions that a resource manager has committed

none_found : {X : Type 0} (p : X → Bool) (xs : List X) → position_or_len p xs ≡ length xs → find p xs ≡ None
none_found p [] e = refl
none_found p (x ∷ xs) e = by (p x) e (none_found p xs)
  where
    by : (b : Bool) → cond (not b) (1 + position_or_len p xs) 0 ≡ suc (length xs)
        → (position_or_len p xs ≡ length xs → find p xs ≡ None) → cond b (Some x) (find p xs) ≡ None
    by true q rest = absurd (omega (arith, q))
    by false q rest = rest (omega (arith, q))

-- a resource manager that has no part in a transaction writes nothing of it
no_part : (done : Stretches) (rm : ℕ) (tx : TxParts) → ltb (place_at rm tx) (length tx.branches) ≡ false → writes_at done rm tx ≡ []
no_part done rm tx e =
    let full : place_at rm tx ≡ length tx.branches =
    omega (arith, ltb-false _ _ e, prefix_len-le-length (λ b. not (is_at rm b)) tx.branches) in
    ap (λ o. writes_in (option_and_then (done rm) (option_map (xid_of tx) o))) (none_found (is_at rm) tx.branches full)

-- the number of the participant of a place, that of the first branch of a resource manager
own_number : (rm : ℕ) (tx : TxParts) → place_at rm tx < length tx.branches → get_or (participants tx) (place_at rm tx) 0 ≡ rm
own_number rm tx lt =
    participant_at tx (place_at rm tx) lt
    ∙ (unsigned_Decides _ rm).0 (passes_at_first (is_at rm) tx.branches (record { rm = 0; bqual = [] }) lt)

module _ (history : List Step) (ledger : Ledger) (views : (tx : TxParts) → views_in ledger.views tx ≡ views_back history tx) where
  -- what is kept of commits is what is looked back at, where that matters
  committed_so : (done : Stretches) (rm : ℕ) (tx : TxParts)
      → (has_committed ledger.views rm tx ≡ committed_back history rm tx) ⊎ (writes_at done rm tx ≡ [])
  committed_so done rm tx = by (ltb (place_at rm tx) (length tx.branches)) refl
    where
      by : (t : Bool) → ltb (place_at rm tx) (length tx.branches) ≡ t
          → (has_committed ledger.views rm tx ≡ committed_back history rm tx) ⊎ (writes_at done rm tx ≡ [])
      by true e =
          let lt : place_at rm tx < length tx.branches = ltb-true _ _ e in
          let nobody : BranchParts = record { rm = 0; bqual = [] } in
          let same : (get_or tx.branches (place_at rm tx) nobody).rm ≡ rm =
          (unsigned_Decides _ rm).0 (passes_at_first (is_at rm) tx.branches nobody lt) in
          let long : place_at rm tx < length (rm_numbers tx.branches) =
          subst (λ n. place_at rm tx < n) (sym (length-map tx.branches (λ (b : BranchParts). b.rm))) lt in
          inl (ap is_committed_view (ap (λ vs. get_or vs (place_at rm tx) View.Working) (views tx)
          ∙ get_or-map (λ r. view_back r history tx) (rm_numbers tx.branches) (place_at rm tx) 0 View.Working long
          ∙ ap (λ r. view_back r history tx) (get_or-map (λ (b : BranchParts). b.rm) tx.branches (place_at rm tx) nobody 0 lt ∙ same)))
      by false e = inr (no_part done rm tx e)

module _ (done : Stretches) (rm : ℕ) where
  abbrev pub with_tx : List Row → TxParts → List Row
  with_tx rows tx = with_writes rows (writes_at done rm tx)

  same_serial : (c d : TxParts → Bool) → ((tx : TxParts) → (c tx ≡ d tx) ⊎ (writes_at done rm tx ≡ []))
      → (txs : List TxParts) (rows : List Row)
      → fold with_tx rows (filter c txs) ≡ fold with_tx rows (filter d txs)
  same_serial c d so [] rows = refl
  same_serial c d so (tx ∷ txs) rows = by (so tx) (same_serial c d so txs)
    where
      left : ((rows : List Row) → fold with_tx rows (filter c txs) ≡ fold with_tx rows (filter d txs)) → (b : Bool)
          → fold with_tx rows (cond b (tx ∷ filter c txs) (filter c txs)) ≡ fold with_tx rows (cond b (tx ∷ filter d txs) (filter d txs))
      left rest true = rest (with_tx rows tx)
      left rest false = rest rows

      right : ((rows : List Row) → fold with_tx rows (filter c txs) ≡ fold with_tx rows (filter d txs)) → (a b : Bool)
          → writes_at done rm tx ≡ []
          → fold with_tx rows (cond a (tx ∷ filter c txs) (filter c txs)) ≡ fold with_tx rows (cond b (tx ∷ filter d txs) (filter d txs))
      right rest true true none = rest (with_tx rows tx)
      right rest true false none = ap (λ ws. fold with_tx (with_writes rows ws) (filter c txs)) none ∙ rest rows
      right rest false true none = rest rows ∙ sym (ap (λ ws. fold with_tx (with_writes rows ws) (filter d txs)) none)
      right rest false false none = rest rows

      by : (c tx ≡ d tx) ⊎ (writes_at done rm tx ≡ [])
          → ((rows : List Row) → fold with_tx rows (filter c txs) ≡ fold with_tx rows (filter d txs))
          → fold with_tx rows (filter c (tx ∷ txs)) ≡ fold with_tx rows (filter d (tx ∷ txs))
      by (inl e) rest = ap (λ b. fold with_tx rows (cond b (tx ∷ filter c txs) (filter c txs))) e ∙ left rest (d tx)
      by (inr none) rest = right rest (c tx) (d tx) none

-- ---- where all participants have committed all transactions

module _ (done : Stretches) (views : ViewsParts) where
  committed_or_none : (rm : ℕ) (tx : TxParts) → has_committed_everywhere views tx ≡ true
      → (has_committed views rm tx ≡ true) ⊎ (writes_at done rm tx ≡ [])
  committed_or_none rm tx all = by (ltb (place_at rm tx) (length tx.branches)) refl
    where
      by : (t : Bool) → ltb (place_at rm tx) (length tx.branches) ≡ t
          → (has_committed views rm tx ≡ true) ⊎ (writes_at done rm tx ≡ [])
      by true e =
          let lt : place_at rm tx < length tx.branches = ltb-true _ _ e in
          let many = participants_many tx in
          inl (ap (λ r. has_committed views r tx) (sym (own_number rm tx lt))
          ∙ list_all_get (λ r. has_committed views r tx) (participants tx) (place_at rm tx) 0 (omega (arith, lt, many)) all)
      by false e = inr (no_part done rm tx e)

  -- those that pass, or that another test lets by
  abbrev let_by : ℕ → TxParts → Bool
  let_by rm tx = cond (has_committed_everywhere views tx) true (has_committed views rm tx)

  same_test : (rm : ℕ) (tx : TxParts) → (has_committed views rm tx ≡ let_by rm tx) ⊎ (writes_at done rm tx ≡ [])
  same_test rm tx = by (has_committed_everywhere views tx) refl
    where
      by : (b : Bool) → has_committed_everywhere views tx ≡ b
          → (has_committed views rm tx ≡ cond b true (has_committed views rm tx)) ⊎ (writes_at done rm tx ≡ [])
      by true e = committed_or_none rm tx e
      by false e = inl refl

  all_let_by : (rm : ℕ) (order : List TxParts) → list_all (has_committed_everywhere views) order ≡ true → filter (let_by rm) order ≡ order
  all_let_by rm [] all = refl
  all_let_by rm (tx ∷ txs) all = by (has_committed_everywhere views tx) all (all_let_by rm txs)
    where
      by : (b : Bool) → (b && list_all (has_committed_everywhere views) txs) ≡ true
          → (list_all (has_committed_everywhere views) txs ≡ true → filter (let_by rm) txs ≡ txs)
          → cond (cond b true (has_committed views rm tx)) (tx ∷ filter (let_by rm) txs) (filter (let_by rm) txs) ≡ tx ∷ txs
      by true q rest = ap (λ more. tx ∷ more) (rest q)
      by false q rest = absurd (cc (q))

  -- the tables after all transactions are those of what is committed
  pub all_replayed : (first : ℕ → List Row) (order : List TxParts) → list_all (has_committed_everywhere views) order ≡ true
      → (last : List (List Row)) → ((rm : ℕ) → rows_of last rm ≡ serial_table first done rm order)
      → IsReplayed first done (has_committed views) order last
  all_replayed first order all last is = λ rm.
      is rm
      ∙ sym (same_serial done rm (has_committed views rm) (let_by rm) (same_test rm) order (first rm)
      ∙ ap (fold (with_tx done rm) (first rm)) (all_let_by rm order all))

-- an order is kept by a ledger, where it is by the history
pub order_so : (first : ℕ → List Row) (history : List Step) (ledger : Ledger) (finals : List (List Row)) → Follows first history ledger
    → is_order_kept first (stretch_of ledger.branches) (has_committed ledger.views) ledger.firsts finals
    ≡ is_order_kept first (stretches_back history) (committed_back history) (first_commits history) finals
order_so first history ledger finals follows =
    (λ i. is_order_kept first (λ rm x. follows.branches rm x i) (has_committed ledger.views) (follows.firsts i) finals)
    ∙ ap (λ b. reads_are_serial first (stretches_back history) (first_commits history) && b)
    (λ i. are_tables (λ rm. same_serial (stretches_back history) rm (has_committed ledger.views rm) (committed_back history rm)
    (committed_so history ledger follows.views (stretches_back history) rm) (first_commits history) (first rm) i) 0 finals)

-- ---- one transaction more of the order

nth_found : {X : Type 0} (xs : List X) (n : ℕ) (x : X) → Some x ≡ slice_get xs n → (n < length xs) × (get_or xs n x ≡ x)
nth_found {X} [] n x e = absurd (cc (e))
nth_found {X} (y ∷ ys) zero x e = (omega arith, ap (λ (o : Option X). unwrap_or o y) (sym e))
nth_found {X} (y ∷ ys) (suc n) x e = let rest = nth_found ys n x e in (omega (arith, rest.0), rest.1)

-- what holds of those before holds of this one too
pub holds_next : (p : TxParts → Bool) (order : List TxParts) (n : ℕ) (tx : TxParts) → Some tx ≡ slice_get order n
    → list_all p (take n order) ≡ true → p tx ≡ true → list_all p (take (n + 1) order) ≡ true
holds_next p order n tx found before here =
    let at = nth_found order n tx found in all_next p order n tx at.0 before (ap p at.1 ∙ here)

module _ (first : ℕ → List Row) (done : Stretches) (order : List TxParts) (n : ℕ) (tx : TxParts) (found : Some tx ≡ slice_get order n) where
  under : n < length order
  under = (nth_found order n tx found).0

  nth : get_or order n tx ≡ tx
  nth = (nth_found order n tx found).1

  longer : take (n + 1) order ≡ take n order ++ tx ∷ []
  longer =
      let next : n + 1 ≡ suc n = omega arith in
      ap (λ k. take k order) next ∙ take-suc order n tx under ∙ ap (λ t. take n order ++ t ∷ []) nth

  pub all_more : (rm : ℕ) (rows next : List Row) → rows ≡ serial_table first done rm (take n order)
      → next ≡ with_writes rows (writes_at done rm tx)
      → next ≡ serial_table first done rm (take (n + 1) order)
  all_more rm rows next is step =
      step ∙ ap (λ r. with_writes r (writes_at done rm tx)) is
      ∙ sym (ap (serial_table first done rm) longer ∙ fold-append (with_tx done rm) (first rm) (take n order) (tx ∷ []))

  pub committed_more : (c : TxParts → Bool) (rm : ℕ) (rows next : List Row) → rows ≡ serial_table first done rm (filter c (take n order))
      → next ≡ cond (c tx) (with_writes rows (writes_at done rm tx)) rows
      → next ≡ serial_table first done rm (filter c (take (n + 1) order))
  committed_more c rm rows next is step =
      step ∙ ap (λ r. cond (c tx) (with_writes r (writes_at done rm tx)) r) is ∙ by (c tx)
      ∙ sym (ap (λ txs. serial_table first done rm (filter c txs)) longer
      ∙ ap (serial_table first done rm) (filter-append c (take n order) (tx ∷ []))
      ∙ fold-append (with_tx done rm) (first rm) (filter c (take n order)) (filter c (tx ∷ [])))
    where
      by : (b : Bool) → cond b (with_writes (serial_table first done rm (filter c (take n order))) (writes_at done rm tx))
          (serial_table first done rm (filter c (take n order)))
          ≡ fold (with_tx done rm) (serial_table first done rm (filter c (take n order))) (cond b (tx ∷ []) [])
      by true = refl
      by false = refl

  abbrev pub reads : TxParts → Bool
  reads other = read_after first done (those_before other order) other

  pub read_so : IsDistinct tx_eq order → (all : ℕ → List Row) → ((rm : ℕ) → all rm ≡ serial_table first done rm (take n order))
      → list_all (λ rm. are_shown (all rm) (gets_in (branch_at done rm tx))) (participants tx) ≡ reads tx
  read_so distinct all is =
      (λ i. list_all (λ rm. are_shown (is rm i) (gets_in (branch_at done rm tx))) (participants tx))
      ∙ ap (λ txs. read_after first done txs tx)
      (sym (ap (λ t. those_before t order) (sym nth) ∙ before_is_first order n tx distinct under))

  pub read_more : list_all reads (take n order) ≡ true → reads tx ≡ true → list_all reads (take (n + 1) order) ≡ true
  read_more before here = holds_next reads order n tx found before here

  pub read_fails : reads tx ≡ false → list_all reads order ≡ false
  read_fails wrong = all_fails reads order n tx under (ap reads nth ∙ wrong)
