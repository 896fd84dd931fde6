-- Rows kept by the numbers of transactions: one more at the end, and another in the place of one.
-- Needed by Places; crates acceptor, leader, resource_manager and audit.
use Rattle.std.proofs.Common.{◌≡◌, ◌∙◌, ℕ, zero, suc, ◌+◌, ◌<◌, ◌≤◌, Bool, true, false, not, cond, ltb, List, [], ◌∷◌, ◌++◌}
use Rattle.std.proofs.Common.{length, get_or, set, refl, sym, ap, arith}
use Rattle.std.specs.Prelude.{if◌then◌else◌}
use Rattle.std.specs.List.{IsDistinct}
use Rattle.std.proofs.lemmas.Bool.{ltb-true, ltb-false, eq-eqb, ne_eqb, true≢false, false_from_ne_true}
use Rattle.std.proofs.lemmas.List.{get_or_past, get_or_at, get_or-set_same, get_or-set_other, length-append}
use Rattle.std.proofs.lemmas.List.Folds.{position_or_len_push}
use Rattle.std.proofs.lemmas.List.Sums.{passes_at_first, position_or_len_is, prefix_len-le-length}
use Rattle.std.proofs.lemmas.Map.Made.{AllPairs-from_IsDistinct}
use Rattle.xid.specs.Transactions.{TxParts, tx_eq}
use Rattle.xid.proofs.Deciding.{tx_self, tx_decides}
use Rattle.transactions.specs.Seen.{place_in, no_transaction}

-- in front of the end, rows are as they were
pub front : {X : Type 0} (xs : List X) (x d : X) (k : ℕ) → k < length xs → get_or (xs ++ x ∷ []) k d ≡ get_or xs k d
front [] x d k lt = absurd (omega arith)
front (y ∷ xs) x d zero lt = refl
front (y ∷ xs) x d (suc k) lt = front xs x d k (omega arith)

-- a place is within the transactions, or their end
pub place_le : (ts : List TxParts) (tx : TxParts) → place_in ts tx ≤ length ts
place_le ts tx = prefix_len-le-length (λ other. not (tx_eq tx other)) ts

-- two transactions at one place are one
pub one_at : (ts : List TxParts) (tx other : TxParts) → place_in ts tx < length ts → place_in ts other ≡ place_in ts tx → other ≡ tx
one_at ts tx other lt e =
    let of_tx = (tx_decides tx _).0 (passes_at_first (tx_eq tx) ts no_transaction lt) in
    let of_other = (tx_decides other _).0 (passes_at_first (tx_eq other) ts no_transaction (omega (arith, lt, e))) in
    of_other ∙ ap (λ n. get_or ts n no_transaction) e ∙ sym of_tx

-- a transaction's place is where it stands, where each stands once
pub number_at : (ts : List TxParts) (n : ℕ) (d : TxParts) → IsDistinct tx_eq ts → n < length ts → place_in ts (get_or ts n d) ≡ n
number_at ts n d once lt =
    position_or_len_is (tx_eq (get_or ts n d)) ts n d (omega (arith, lt)) earlier (λ within. tx_self (get_or ts n d))
  where
    earlier : (k : ℕ) → k < n → tx_eq (get_or ts n d) (get_or ts k d) ≡ false
    earlier k below = false_from_ne_true (tx_eq (get_or ts n d) (get_or ts k d)) (λ e.
        AllPairs-from_IsDistinct tx_decides ts once k n d below lt (sym ((tx_decides (get_or ts n d) (get_or ts k d)).0 e)))

-- ---- one more transaction

module _ (ts : List TxParts) (tx : TxParts) (absent : place_in ts tx ≡ length ts) where
  -- a transaction that was seen keeps its place
  pub place_stays : (other : TxParts) → place_in ts other < length ts → place_in (ts ++ tx ∷ []) other ≡ place_in ts other
  place_stays other lt =
      position_or_len_push (tx_eq other) ts tx
      ∙ ap (λ t. cond t (length ts + cond (tx_eq other tx) 0 1) (place_in ts other)) (ne_eqb _ _ (λ e. absurd (omega (arith, lt, e))))

  -- one that was not is at the end, or behind the new one
  pub place_ends : (other : TxParts) → place_in ts other ≡ length ts
      → place_in (ts ++ tx ∷ []) other ≡ length ts + cond (tx_eq other tx) 0 1
  place_ends other e =
      position_or_len_push (tx_eq other) ts tx
      ∙ ap (λ t. cond t (length ts + cond (tx_eq other tx) 0 1) (place_in ts other)) (eq-eqb _ _ e)

  -- its number is how many there were
  pub number_same : place_in ts tx ≡ place_in (ts ++ tx ∷ []) tx
  number_same =
      let e = place_ends tx absent in
      let zero_more : ◌≡◌ {A = ℕ} (cond (tx_eq tx tx) 0 1) 0 = ap (λ t. cond t 0 1) (tx_self tx) in
      omega (arith, absent, e, zero_more)

  -- the transactions are one more
  pub longer : length (ts ++ tx ∷ []) ≡ length ts + 1
  longer = length-append ts (tx ∷ [])

  -- the new one is seen
  pub is_seen : place_in (ts ++ tx ∷ []) tx < length (ts ++ tx ∷ [])
  is_seen = omega (arith, absent, number_same, longer)

-- ---- rows, one for each transaction; `first` is that of one which isn't seen

module _ {X : Type 0} (first : TxParts → X) (ts : List TxParts) (rows : List X) (each : length rows ≡ length ts) where
  -- the row of a transaction
  abbrev row_of : List TxParts → List X → TxParts → X
  row_of seen kept tx = get_or kept (place_in seen tx) (first tx)

  -- with the first row of one transaction more each row is as it was
  pub row_added : (tx : TxParts) → place_in ts tx ≡ length ts → (other : TxParts)
      → row_of (ts ++ tx ∷ []) (rows ++ first tx ∷ []) other ≡ row_of ts rows other
  row_added tx absent other = by (ltb (place_in ts other) (length ts)) (tx_eq other tx) refl refl
    where
      by : (t same : Bool) → ltb (place_in ts other) (length ts) ≡ t → tx_eq other tx ≡ same
          → row_of (ts ++ tx ∷ []) (rows ++ first tx ∷ []) other ≡ row_of ts rows other
      by true same t e =
          let lt = ltb-true _ _ t in
          ap (λ n. get_or (rows ++ first tx ∷ []) n (first other)) (place_stays ts tx absent other lt)
          ∙ front rows (first tx) (first other) (place_in ts other) (omega (arith, lt, each))
      by false true t e =
          let full : place_in ts other ≡ length ts = omega (arith, ltb-false _ _ t, place_le ts other) in
          let zero_more : ◌≡◌ {A = ℕ} (cond (tx_eq other tx) 0 1) 0 = ap (λ t. cond t 0 1) e in
          get_or_at rows (first tx) [] (first other) (place_in (ts ++ tx ∷ []) other)
          (omega (arith, full, zero_more, place_ends ts tx absent other full, each))
          ∙ ap first (sym ((tx_decides other tx).0 e))
          ∙ sym (get_or_past rows (place_in ts other) (first other) (omega (arith, full, each)))
      by false false t e =
          let full : place_in ts other ≡ length ts = omega (arith, ltb-false _ _ t, place_le ts other) in
          let one_more : ◌≡◌ {A = ℕ} (cond (tx_eq other tx) 0 1) 1 = ap (λ t. cond t 0 1) e in
          get_or_past (rows ++ first tx ∷ []) (place_in (ts ++ tx ∷ []) other) (first other)
          (omega (arith, full, one_more, place_ends ts tx absent other full, each, length-append rows (first tx ∷ [])))
          ∙ sym (get_or_past rows (place_in ts other) (first other) (omega (arith, full, each)))

  -- another row in the place of one
  pub row_changed : (tx : TxParts) (row : X) → place_in ts tx < length ts → (other : TxParts)
      → row_of ts (set rows (place_in ts tx) row) other ≡ (if tx_eq other tx then row else row_of ts rows other)
  row_changed tx row lt other =
      elim (tx_eq other tx) as (λ t. tx_eq other tx ≡ t
      → row_of ts (set rows (place_in ts tx) row) other ≡ (if t then row else row_of ts rows other)) [
        | true ↦ λ e.
            ap (row_of ts (set rows (place_in ts tx) row)) ((tx_decides other tx).0 e)
            ∙ get_or-set_same rows (place_in ts tx) row (first tx) (omega (arith, lt, each))
        | false ↦ λ e.
            get_or-set_other rows (place_in ts tx) (place_in ts other) row (first other)
            (λ same. true≢false (sym ((tx_decides other tx).1 (one_at ts tx other lt same)) ∙ e))
      ] refl
