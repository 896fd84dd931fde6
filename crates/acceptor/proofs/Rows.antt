-- The rows of a table: after one more transaction, and after a change of one.
-- Needed by `Table::change` and `Table::see`; Left.
use Rattle.std.proofs.Common.{◌≡◌, ◌≢◌, ◌∙◌, ℕ, zero, suc, ◌<◌, Bool, true, false, cond, ltb, List, [], ◌∷◌, ◌++◌}
use Rattle.std.proofs.Common.{length, get_or, set, map, replicate, refl, sym, ap, subst, arith}
use Rattle.std.proofs.lemmas.Bool.{ltb-true, ltb-false, true≢false}
use Rattle.std.proofs.lemmas.List.{get_or_past, get_or_at, get_or-set_same, get_or-set_other, length-set, length-append, length-replicate}
use Rattle.std.proofs.lemmas.List.{map-append}
use Rattle.xid.specs.Transactions.{TxParts, tx_eq}
use Rattle.xid.proofs.Deciding.{tx_decides}
use Rattle.ballot.specs.declared.slot.Slot.{Slot}
use Rattle.ballot.specs.Slots.{empty_slot}
use Rattle.stable_record.specs.declared.fact.FactKind.{FactKind as Fact}
use Rattle.stable_record.specs.Facts.{fact_tx}
use Rattle.transactions.specs.Seen.{place_in, seen_with}
use Rattle.transactions.proofs.Keys.{absent_from_place}
use Rattle.transactions.proofs.Rows.{front, place_le, one_at, place_stays, place_ends, number_same, longer, is_seen}
use Rattle.protocol.specs.Acceptors.{plays_at_acceptor}
use Rattle.acceptor.specs.Slots.{place_of, slot_at, slot_of, slots_after, after_fact}
use Rattle.acceptor.specs.SlotTables.{TableParts, IsSeen, IsTable, slots_in, slot_in}
use Rattle.acceptor.proofs.Played.{leads_to, stays, whole_after, plays_alone}

-- ---- one more transaction

module _ (ts : List TxParts) (tx : TxParts) (absent : place_in ts tx ≡ length ts) (rows : List (List Slot)) (row : List Slot)
    (is : IsTable (record { transactions = ts; slots = rows })) where
  before : TableParts
  before = record { transactions = ts; slots = rows }

  abbrev after : TableParts
  after = record { transactions = ts ++ tx ∷ []; slots = rows ++ row ∷ [] }

  row_stays : (other : TxParts) → place_in ts other < length ts → slots_in after other ≡ get_or rows (place_in ts other) []
  row_stays other lt =
      ap (λ n. get_or (rows ++ row ∷ []) n []) (place_stays ts tx absent other lt)
      ∙ front rows row [] (place_in ts other) (omega (arith, lt, is.rows))

  row_new : (other : TxParts) → place_in ts other ≡ length ts → tx_eq other tx ≡ true → slots_in after other ≡ row
  row_new other e same =
      let zero_more : ◌≡◌ {A = ℕ} (cond (tx_eq other tx) 0 1) 0 = ap (λ t. cond t 0 1) same in
      get_or_at rows row [] [] (place_in (ts ++ tx ∷ []) other) (omega (arith, e, zero_more, place_ends ts tx absent other e, is.rows))

  row_none : (other : TxParts) → place_in ts other ≡ length ts → tx_eq other tx ≡ false → slots_in after other ≡ []
  row_none other e apart =
      let one_more : ◌≡◌ {A = ℕ} (cond (tx_eq other tx) 0 1) 1 = ap (λ t. cond t 0 1) apart in
      get_or_past (rows ++ row ∷ []) (place_in (ts ++ tx ∷ []) other) []
      (omega (arith, e, one_more, place_ends ts tx absent other e, is.rows, length-append rows (row ∷ [])))

  -- with a row of slots at first each slot is as it was
  pub seen_same : ((n : ℕ) → slot_at row n ≡ empty_slot) → (other : TxParts) (i : ℕ)
      → slot_in after other i ≡ slot_in (record { transactions = ts; slots = rows }) other i
  seen_same fresh other i = by (ltb (place_in ts other) (length ts)) (tx_eq other tx) refl refl
    where
      by : (t same : Bool) → ltb (place_in ts other) (length ts) ≡ t → tx_eq other tx ≡ same
          → slot_in after other i ≡ slot_in (record { transactions = ts; slots = rows }) other i
      by true same t e = ap (λ slots. slot_of other slots i) (row_stays other (ltb-true _ _ t))
      by false true t e =
          let full : place_in ts other ≡ length ts = omega (arith, ltb-false _ _ t, place_le ts other) in
          ap (λ slots. slot_of other slots i) (row_new other full e) ∙ fresh (place_of other i)
          ∙ ap (λ slots. slot_of other slots i) (sym (get_or_past rows (place_in ts other) [] (omega (arith, full, is.rows))))
      by false false t e =
          let full : place_in ts other ≡ length ts = omega (arith, ltb-false _ _ t, place_le ts other) in
          ap (λ slots. slot_of other slots i) (row_none other full e)
          ∙ ap (λ slots. slot_of other slots i) (sym (get_or_past rows (place_in ts other) [] (omega (arith, full, is.rows))))

  -- each transaction has its slots, after one more is seen
  pub seen_table : length row ≡ length tx.branches → IsTable after
  seen_table len = record {
    rows = omega (arith, is.rows, length-append rows (row ∷ []), longer ts tx absent);
    branches = each;
  }
    where
      by : (other : TxParts) (t same : Bool) → ltb (place_in ts other) (length ts) ≡ t → tx_eq other tx ≡ same → IsSeen after other
          → length (slots_in after other) ≡ length other.branches
      by other true same t e seen = ap length (row_stays other (ltb-true _ _ t)) ∙ is.branches other (ltb-true _ _ t)
      by other false true t e seen =
          let full : place_in ts other ≡ length ts = omega (arith, ltb-false _ _ t, place_le ts other) in
          ap length (row_new other full e) ∙ len ∙ ap (λ (u : TxParts). length u.branches) (sym ((tx_decides other tx).0 e))
      by other false false t e seen =
          let full : place_in ts other ≡ length ts = omega (arith, ltb-false _ _ t, place_le ts other) in
          let one_more : ◌≡◌ {A = ℕ} (cond (tx_eq other tx) 0 1) 1 = ap (λ t. cond t 0 1) e in
          absurd (omega (arith, seen, place_ends ts tx absent other full, one_more, longer ts tx absent))

      each : (other : TxParts) → IsSeen after other → length (slots_in after other) ≡ length other.branches
      each other seen = by other (ltb (place_in ts other) (length ts)) (tx_eq other tx) refl refl seen

-- ---- a change of one transaction's slots

module _ (ts : List TxParts) (rows : List (List Slot)) (fact : Fact) (is : IsTable (record { transactions = ts; slots = rows }))
    (seen : place_in ts (fact_tx fact) < length ts) where
  abbrev changed_row : List Slot
  changed_row = slots_after (fact_tx fact) (get_or rows (place_in ts (fact_tx fact)) []) fact

  abbrev changed : TableParts
  changed = record { transactions = ts; slots = set rows (place_in ts (fact_tx fact)) changed_row }

  own_row : slots_in changed (fact_tx fact) ≡ changed_row
  own_row = get_or-set_same rows (place_in ts (fact_tx fact)) changed_row [] (omega (arith, seen, is.rows))

  other_row : (other : TxParts) → other ≢ fact_tx fact → slots_in changed other ≡ get_or rows (place_in ts other) []
  other_row other apart =
      get_or-set_other rows (place_in ts (fact_tx fact)) (place_in ts other) changed_row []
      (λ e. apart (one_at ts (fact_tx fact) other seen e))

  pub changed_table : IsTable changed
  changed_table = record {
    rows = length-set rows (place_in ts (fact_tx fact)) changed_row ∙ is.rows;
    branches = λ other there. by other (tx_eq other (fact_tx fact)) refl there;
  }
    where
      by : (other : TxParts) (t : Bool) → tx_eq other (fact_tx fact) ≡ t → IsSeen changed other
          → length (slots_in changed other) ≡ length other.branches
      by other true t there =
          subst (λ (u : TxParts). length (slots_in changed u) ≡ length u.branches) (sym ((tx_decides other (fact_tx fact)).0 t))
          (ap length own_row ∙ whole_after (fact_tx fact) (get_or rows (place_in ts (fact_tx fact)) []) fact
          ∙ is.branches (fact_tx fact) seen)
      by other false t there =
          ap length (other_row other (λ e. true≢false (sym ((tx_decides other (fact_tx fact)).1 e) ∙ t))) ∙ is.branches other there

  pub changed_slots : plays_at_acceptor (slot_in (record { transactions = ts; slots = rows })) fact ≡ true → (other : TxParts) (i : ℕ)
      → slot_in changed other i ≡ after_fact other i (slot_in (record { transactions = ts; slots = rows }) other i) fact
  changed_slots plays other i = by (tx_eq other (fact_tx fact)) refl
    where
      old : TxParts → Slot
      old u = slot_of u (get_or rows (place_in ts u) []) i

      by : (t : Bool) → tx_eq other (fact_tx fact) ≡ t
          → slot_in changed other i ≡ after_fact other i (slot_in (record { transactions = ts; slots = rows }) other i) fact
      by true t =
          subst (λ (u : TxParts). slot_in changed u i ≡ after_fact u i (slot_in (record { transactions = ts; slots = rows }) u i) fact)
          (sym ((tx_decides other (fact_tx fact)).0 t))
          (ap (λ slots. slot_of (fact_tx fact) slots i) own_row
          ∙ leads_to (get_or rows (place_in ts (fact_tx fact)) []) i fact (is.branches (fact_tx fact) seen)
          (plays_alone (slot_in (record { transactions = ts; slots = rows })) fact ∙ plays))
      by false t =
          ap (λ slots. slot_of other slots i) (other_row other (λ e. true≢false (sym ((tx_decides other (fact_tx fact)).1 e) ∙ t)))
          ∙ sym (stays other i (slot_in (record { transactions = ts; slots = rows }) other i) fact t)

-- ---- as the fields of a table are changed

get_or-replicate_same : (n k : ℕ) → slot_at (replicate n empty_slot) k ≡ empty_slot
get_or-replicate_same zero k = refl
get_or-replicate_same (suc n) zero = refl
get_or-replicate_same (suc n) (suc k) = get_or-replicate_same n k

map-set : {X Y : Type 0} (f : X → Y) (xs : List X) (n : ℕ) (x : X) → map f (set xs n x) ≡ set (map f xs) n (f x)
map-set f [] n x = refl
map-set f (y ∷ xs) zero x = refl
map-set f (y ∷ xs) (suc n) x = ap (λ ys. f y ∷ ys) (map-set f xs n x)

-- the same of a table of the same parts
pub same_table : (ts us : List TxParts) (rows sows : List (List Slot)) → ts ≡ us → rows ≡ sows → (P : TableParts → Type 0)
    → P (record { transactions = ts; slots = rows }) → P (record { transactions = us; slots = sows })
same_table ts us rows sows e f P p = subst P (λ k. record { transactions = e k; slots = f k }) p

module _ {V : Type 0} (items : V → List Slot) (ts us : List TxParts) (tx : TxParts) (vs ws : List V) (v : V)
    (absent : place_in ts tx ≡ length ts) (first : items v ≡ replicate (length tx.branches) empty_slot)
    (added : us ≡ seen_with ts tx) (pushed : ws ≡ vs ++ v ∷ [])
    (is : IsTable (record { transactions = ts; slots = map items vs })) where
  last : us ≡ ts ++ tx ∷ []
  last = added ∙ ap (λ t. cond t ts (ts ++ tx ∷ [])) (absent_from_place (tx_eq tx) ts absent)

  rows : map items ws ≡ map items vs ++ items v ∷ []
  rows = ap (map items) pushed ∙ map-append items vs (v ∷ [])

  -- a transaction that is seen again has its number
  pub saw_number : place_in ts tx ≡ place_in us tx
  saw_number = number_same ts tx absent ∙ ap (λ xs. place_in xs tx) (sym last)

  -- and is there
  pub saw_seen : place_in us tx < length us
  saw_seen = subst (λ xs. place_in xs tx < length xs) (sym last) (is_seen ts tx absent)

  -- each transaction has its slots after it
  pub saw_table : IsTable (record { transactions = us; slots = map items ws })
  saw_table =
      same_table _ _ _ _ (sym last) (sym rows) IsTable
      (seen_table ts tx absent (map items vs) (items v) is (ap length first ∙ length-replicate (length tx.branches) empty_slot))

  pub saw_same : (other : TxParts) (i : ℕ)
      → slot_in (record { transactions = us; slots = map items ws }) other i
      ≡ slot_in (record { transactions = ts; slots = map items vs }) other i
  saw_same other i =
      same_table _ _ _ _ (sym last) (sym rows)
      (λ table. slot_in table other i ≡ slot_in (record { transactions = ts; slots = map items vs }) other i)
      (seen_same ts tx absent (map items vs) (items v) is (λ n. ap (λ slots. slot_at slots n) first
      ∙ get_or-replicate_same (length tx.branches) n) other i)

module _ {V : Type 0} (items : V → List Slot) (ts : List TxParts) (vs : List V) (n : ℕ) (fact : Fact) (old new : V)
    (number : n ≡ place_in ts (fact_tx fact)) (seen : place_in ts (fact_tx fact) < length ts)
    (is : IsTable (record { transactions = ts; slots = map items vs }))
    (was : items old ≡ get_or (map items vs) n []) (now : items new ≡ slots_after (fact_tx fact) (items old) fact) where
  written : map items (set vs n new) ≡ set (map items vs) (place_in ts (fact_tx fact)) (changed_row ts (map items vs) fact is seen)
  written =
      map-set items vs n new
      ∙ (λ k. set (map items vs) (number k) ((now ∙ ap (λ slots. slots_after (fact_tx fact) slots fact)
      (was ∙ ap (λ m. get_or (map items vs) m []) number)) k))

  -- each has after a change of some slots
  pub wrote_table : IsTable (record { transactions = ts; slots = map items (set vs n new) })
  wrote_table = same_table ts ts _ _ refl (sym written) IsTable (changed_table ts (map items vs) fact is seen)

  -- and the slots are those after the fact
  pub wrote_slots : plays_at_acceptor (slot_in (record { transactions = ts; slots = map items vs })) fact ≡ true → (other : TxParts) (i : ℕ)
      → slot_in (record { transactions = ts; slots = map items (set vs n new) }) other i
      ≡ after_fact other i (slot_in (record { transactions = ts; slots = map items vs }) other i) fact
  wrote_slots plays other i =
      same_table ts ts _ _ refl (sym written)
      (λ table. slot_in table other i ≡ after_fact other i (slot_in (record { transactions = ts; slots = map items vs }) other i) fact)
      (changed_slots ts (map items vs) fact is seen plays other i)
