-- The slots that are left of a table where some of its transactions are put one after another into another.
-- Needed by `Table::above` and `Table::put`.
use Rattle.std.proofs.Common.{◌≡◌, ◌∙◌, ℕ, zero, suc, ◌+◌, ◌<◌, ◌≤◌, Bool, true, false, not, ◌||◌, ◌==◌}
use Rattle.std.proofs.Common.{cond, List, [], ◌∷◌, ◌++◌, length, get_or, Some, map, take, refl, sym, ap, subst, arith}
use Rattle.std.specs.Prelude.{if◌then◌else◌}
use Rattle.std.specs.List.{IsDistinct, list_any}
use Rattle.std.proofs.lemmas.Bool.{ne_eqb, true≢false}
use Rattle.std.proofs.lemmas.List.{append-nil, length_push, map-append, get_or_push, take_all}
use Rattle.std.proofs.lemmas.List.Elements.{filter_more}
use Rattle.xid.specs.Places.{Place, is_below}
use Rattle.xid.specs.Transactions.{TxParts, tx_eq}
use Rattle.xid.proofs.Deciding.{tx_decides}
use Rattle.ballot.specs.declared.slot.Slot.{Slot}
use Rattle.ballot.specs.Slots.{empty_slot}
use Rattle.transactions.specs.Seen.{AreInside, at_places, no_transaction, numbered_with, place_in, seen_with}
use Rattle.transactions.proofs.Before.{new_passing}
use Rattle.transactions.proofs.Keys.{absent_from_place, present_from_place}
use Rattle.transactions.proofs.Places.{at_places_grown, inside_with, still_inside}
use Rattle.transactions.proofs.Rows.{number_at, place_le}
use Rattle.acceptor.specs.Slots.{slot_of}
use Rattle.acceptor.specs.SlotTables.{IsLeft, IsSeen, IsTable, TableParts, slot_in, slots_in, txs_above}
use Rattle.acceptor.proofs.Rows.{same_table, seen_table}

-- ---- one transaction more, which wasn't seen

-- its place is how many there are
pub last_place : (ts : List TxParts) (tx : TxParts) → ¬ (place_in ts tx < length ts) → place_in ts tx ≡ length ts
last_place ts tx absent = omega (arith, absent, place_le ts tx)

module _ {V : Type 0} (items : V → List Slot) (ts us : List TxParts) (tx : TxParts) (vs ws : List V) (v : V)
    (absent : ¬ (place_in ts tx < length ts)) (added : us ≡ seen_with ts tx) (pushed : ws ≡ vs ++ v ∷ []) where
  last : us ≡ ts ++ tx ∷ []
  last =
      added
      ∙ ap (λ (b : Bool). cond b ts (ts ++ tx ∷ [])) (absent_from_place (tx_eq tx) ts (last_place ts tx absent))

  rows : map items ws ≡ map items vs ++ items v ∷ []
  rows = ap (map items) pushed ∙ map-append items vs (v ∷ [])

  -- a table with one transaction more
  pub put_parts : (row : List Slot) → items v ≡ row
      → ◌≡◌ {A = TableParts} (record { transactions = us; slots = map items ws })
      (record { transactions = ts ++ tx ∷ []; slots = map items vs ++ row ∷ [] })
  put_parts row is = λ k. record { transactions = last k; slots = (rows ∙ ap (λ (r : List Slot). map items vs ++ r ∷ []) is) k }

  -- each transaction there has its slots
  pub put_table : length (items v) ≡ length tx.branches → IsTable (record { transactions = ts; slots = map items vs })
      → IsTable (record { transactions = us; slots = map items ws })
  put_table whole is =
      same_table _ _ _ _ (sym last) (sym rows) IsTable (seen_table ts tx (last_place ts tx absent) (map items vs) (items v) is whole)

-- ---- what is left so far

-- the slots of some transactions of a table, in their order, and the numbers of these
pub record HasRowsOf (table : TableParts) (txs : List TxParts) (left : TableParts) (numbers : List ℕ) : Type 0 where
  pub transactions_are : left.transactions ≡ txs
  pub slots_are : left.slots ≡ map (slots_in table) txs
  pub inside : AreInside (length left.transactions) numbers
  pub listed : at_places left.transactions numbers ≡ txs

-- the row of a transaction, none where it isn't there
row_of : (f : TxParts → List Slot) (tx : TxParts) (ts : List TxParts)
    → get_or (map f ts) (place_in ts tx) [] ≡ (if list_any (tx_eq tx) ts then f tx else [])
row_of f tx [] = refl
row_of f tx (t ∷ ts) = by (tx_eq tx t) refl (row_of f tx ts)
  where
    by : (b : Bool) → tx_eq tx t ≡ b → get_or (map f ts) (place_in ts tx) [] ≡ (if list_any (tx_eq tx) ts then f tx else [])
        → get_or (f t ∷ map f ts) (cond (not b) (1 + place_in ts tx) 0) [] ≡ (if b || list_any (tx_eq tx) ts then f tx else [])
    by true e rest = ap f (sym ((tx_decides tx t).0 e))
    by false e rest =
        let next : 1 + place_in ts tx ≡ suc (place_in ts tx) = omega arith in
        ap (λ (n : ℕ). get_or (f t ∷ map f ts) n []) next ∙ rest

module _ (place : Place) (table : TableParts) (begun : List TxParts) where
  abbrev p : TxParts → Bool
  p tx = not (is_below (Some place) tx)

  slot_there : (tx : TxParts) (i : ℕ) (b : Bool)
      → slot_of tx (if b then slots_in table tx else []) i ≡ (if b then slot_in table tx i else empty_slot)
  slot_there tx i true = refl
  slot_there tx i false = refl

  -- in the end it is what is to be left
  pub is_left : (left : TableParts) (numbers : List ℕ) (n : ℕ) → length begun ≤ n
      → HasRowsOf table (txs_above place (take n begun)) left numbers → IsLeft place table begun left numbers
  is_left left numbers n all has =
      let whole : txs_above place (take n begun) ≡ txs_above place begun = ap (txs_above place) (take_all n begun all) in record {
        inside = has.inside;
        begun_are = has.listed ∙ whole;
        slots_are = λ tx i.
            (λ k. slot_of tx (get_or (has.slots_are k) (place_in (has.transactions_are k) tx) []) i)
            ∙ ap (λ (slots : List Slot). slot_of tx slots i) (row_of (slots_in table) tx (txs_above place (take n begun)))
            ∙ slot_there tx i (list_any (tx_eq tx) (txs_above place (take n begun)))
            ∙ ap (λ (txs : List TxParts). if list_any (tx_eq tx) txs then slot_in table tx i else empty_slot) whole;
      }

  module _ (n : ℕ) (tx : TxParts) (within : n < length begun) (here : get_or begun n no_transaction ≡ tx) where
    one_more : txs_above place (take (n + 1) begun) ≡ txs_above place (take n begun) ++ cond (p tx) (tx ∷ []) []
    one_more =
        filter_more p begun n no_transaction within
        ∙ ap (λ (t : TxParts). txs_above place (take n begun) ++ cond (p t) (t ∷ []) []) here

    -- one below is left out
    pub left_out : (left : TableParts) (numbers : List ℕ) → is_below (Some place) tx ≡ true
        → HasRowsOf table (txs_above place (take n begun)) left numbers
        → HasRowsOf table (txs_above place (take (n + 1) begun)) left numbers
    left_out left numbers below has =
        subst (λ (txs : List TxParts). HasRowsOf table txs left numbers)
        (sym (one_more ∙ ap (λ (b : Bool). txs_above place (take n begun) ++ cond (not b) (tx ∷ []) []) below
        ∙ append-nil (txs_above place (take n begun)))) has

    -- ---- one that isn't below is put after the others

    module _ (above : is_below (Some place) tx ≡ false) (left : TableParts) (numbers : List ℕ)
        (has : HasRowsOf table (txs_above place (take n begun)) left numbers) where
      -- it wasn't put before
      pub is_new : IsDistinct tx_eq begun → ¬ IsSeen left tx
      is_new once seen =
          true≢false (sym (present_from_place (tx_eq tx) left.transactions seen)
          ∙ ap (list_any (tx_eq tx)) has.transactions_are
          ∙ new_passing p begun n tx once within here (ap not above))

      none_so_far : (number : ℕ) (ns : List ℕ) → AreInside number ns → list_any (λ m. number == m) ns ≡ false
      none_so_far number [] each = refl
      none_so_far number (m ∷ ns) each =
          λ k. ne_eqb number m (λ e. absurd (omega (arith, e, each.0))) k || none_so_far number ns each.1 k

      abbrev after : TableParts
      after = record { transactions = left.transactions ++ tx ∷ []; slots = left.slots ++ slots_in table tx ∷ [] }

      next_numbers : numbered_with numbers (length left.transactions) ≡ numbers ++ length left.transactions ∷ []
      next_numbers =
          ap (λ (b : Bool). if b then numbers else numbers ++ length left.transactions ∷ [])
          (none_so_far (length left.transactions) numbers has.inside)

      put_last : HasRowsOf table (txs_above place (take (n + 1) begun)) after (numbered_with numbers (length left.transactions))
      put_last =
          let count : length after.transactions ≡ length left.transactions + 1 = length_push left.transactions tx in
          let more : txs_above place (take (n + 1) begun) ≡ txs_above place (take n begun) ++ tx ∷ [] =
          one_more ∙ ap (λ (b : Bool). txs_above place (take n begun) ++ cond (not b) (tx ∷ []) []) above in record {
            transactions_are = ap (λ (ts : List TxParts). ts ++ tx ∷ []) has.transactions_are ∙ sym more;
            slots_are =
                ap (λ (rows : List (List Slot)). rows ++ slots_in table tx ∷ []) has.slots_are
                ∙ sym (map-append (slots_in table) (txs_above place (take n begun)) (tx ∷ []))
                ∙ ap (map (slots_in table)) (sym more);
            inside =
                inside_with (length after.transactions) (length left.transactions) numbers
                (still_inside numbers (length left.transactions) (length after.transactions) (omega (arith, count)) has.inside)
                (omega (arith, count));
            listed =
                ap (at_places after.transactions) next_numbers
                ∙ map-append (λ m. get_or after.transactions m no_transaction) numbers (length left.transactions ∷ [])
                ∙ (λ k. (at_places_grown left.transactions tx numbers has.inside ∙ has.listed) k
                ++ get_or_push left.transactions tx no_transaction (length left.transactions) refl k ∷ [])
                ∙ sym more;
          }

      -- what is left, after one transaction more
      pub put_there : (row : List Slot) → row ≡ slots_in table tx → (number : ℕ) → number ≡ length left.transactions
          → (next : TableParts) → next ≡ record { transactions = left.transactions ++ tx ∷ []; slots = left.slots ++ row ∷ [] }
          → (more : List ℕ) → more ≡ numbered_with numbers number → HasRowsOf table (txs_above place (take (n + 1) begun)) next more
      put_there row is number last next put more added =
          let P : TableParts → List ℕ → Type 0 = HasRowsOf table (txs_above place (take (n + 1) begun)) in
          subst (P next) (sym (added ∙ ap (numbered_with numbers) last))
          (subst (λ (t : TableParts). P t (numbered_with numbers (length left.transactions)))
          (sym (put ∙ ap (λ (r : List Slot). record { transactions = left.transactions ++ tx ∷ []; slots = left.slots ++ r ∷ [] }) is))
          put_last)

-- ---- those of an order are seen

-- a transaction in a place was seen
pub seen_at : (ts : List TxParts) → IsDistinct tx_eq ts → (places : List ℕ) (i : ℕ) → AreInside (length ts) places → i < length places
    → place_in ts (get_or (at_places ts places) i no_transaction) < length ts
seen_at ts once [] i each less = absurd (omega (arith, less))
seen_at ts once (n ∷ places) zero each less = omega (arith, number_at ts n no_transaction once each.0, each.0)
seen_at ts once (n ∷ places) (suc i) each less = seen_at ts once places i each.1 (omega (arith, less))
