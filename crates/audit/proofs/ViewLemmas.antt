-- The views of transactions by number: after one more transaction is noted, and after a view is set.
use Rattle.std.proofs.Common.{◌≡◌, ◌∙◌, ℕ, ◌+◌, ◌<◌, Bool, true, false, cond, ltb, List, [], ◌∷◌, ◌++◌, length, map, get_or, set, zero, suc}
use Rattle.std.proofs.Common.{Some, None, refl, sym, ap, subst, arith}
use Rattle.std.specs.Prelude.{position}
use Rattle.std.specs.List.{position_or_len}
use Rattle.std.proofs.lemmas.Bool.{lt-ltb, le-ltb}
use Rattle.std.proofs.lemmas.List.{length-append, get_or_default, get_or_past}
use Rattle.std.proofs.lemmas.List.Sums.{position_or_len_is}
use Rattle.xid.proofs.Deciding.{tx_decides}
use Rattle.transactions.specs.Seen.{place_in, seen_with}
use Rattle.transactions.proofs.Keys.{absent_from_place}
use Rattle.transactions.proofs.Rows.{number_same, is_seen, row_added, row_changed}
use Rattle.std.specs.Option.{option_map_or}
use Rattle.xid.specs.Transactions.{is_at, TxParts, tx_eq, participants}
use Rattle.safety.specs.Vocabulary.{Change, View}
use Rattle.audit.specs.Told.{may_move}
use Rattle.audit.specs.Books.{ViewsParts, IsNumberOf, all_working, views_in, view_in, place_at, is_move_from, views_moved}

-- ---- the place of the first that passes

pub found_at : {X : Type 0} (p : X → Bool) (xs : List X) (i : ℕ) (d : X) → i < length xs → ((k : ℕ) → k < i → p (get_or xs k d) ≡ false)
    → p (get_or xs i d) ≡ true → Some i ≡ position p xs
found_at p xs i d lt before here =
    let is : position_or_len p xs ≡ i = position_or_len_is p xs i d (omega (arith, lt)) before (λ _. here) in
    sym (ap (λ n. cond (ltb n (length xs)) (Some n) None) is ∙ by (ltb i (length xs)) (lt-ltb i (length xs) lt))
  where
    by : (b : Bool) → b ≡ true → cond b (Some i) None ≡ Some i
    by b e = ap (λ t. cond t (Some i) None) e

pub found_none : {X : Type 0} (p : X → Bool) (xs : List X) (d : X) → ((k : ℕ) → k < length xs → p (get_or xs k d) ≡ false)
    → None ≡ position p xs
found_none p xs d all =
    let is : position_or_len p xs ≡ length xs =
    position_or_len_is p xs (length xs) d (omega arith) all (λ lt. absurd (omega (arith, lt))) in
    sym (ap (λ n. cond (ltb n (length xs)) (Some n) None) is
    ∙ ap (λ t. cond t (Some (length xs)) None) (le-ltb (length xs) (length xs) (omega arith)))

-- ---- views by number

abbrev pub views_of : List TxParts → List (List View) → ViewsParts
views_of ts rows = record { transactions = ts; views = rows }

module _ (ts us : List TxParts) (tx : TxParts) (absent : place_in ts tx ≡ length ts) (added : us ≡ seen_with ts tx)
    (rows more : List (List View)) (pushed : more ≡ rows ++ all_working tx ∷ []) (whole : length rows ≡ length ts) where
  last : us ≡ ts ++ tx ∷ []
  last = added ∙ ap (λ t. cond t ts (ts ++ tx ∷ [])) (absent_from_place (tx_eq tx) ts absent)

  pub noted_whole : length more ≡ length us
  noted_whole =
      ap length pushed ∙ length-append rows (all_working tx ∷ []) ∙ ap (λ n. n + 1) whole ∙ sym (length-append ts (tx ∷ []))
      ∙ ap length (sym last)

  pub noted_number : (number : ℕ) → number ≡ place_in ts tx → IsNumberOf (views_of us more) tx number
  noted_number number is =
      let place : number ≡ place_in us tx = is ∙ number_same ts tx absent ∙ ap (λ xs. place_in xs tx) (sym last) in
      let seen : place_in us tx < length us = subst (λ xs. place_in xs tx < length xs) (sym last) (is_seen ts tx absent) in
      record {
        place = place;
        seen = subst (λ n. n < length us) (sym place) seen;
        kept = subst (λ n. number < n) (sym noted_whole) (subst (λ n. n < length us) (sym place) seen);
      }

  pub noted_same : (other : TxParts) → views_in (views_of us more) other ≡ views_in (views_of ts rows) other
  noted_same other =
      (λ i. get_or (pushed i) (place_in (last i) other) (all_working other)) ∙ row_added all_working ts rows whole tx absent other

-- one view is set, of the transaction of a number
pub view_set : (ts : List TxParts) (rows : List (List View)) (n : ℕ) (tx : TxParts) (place : ℕ) (view : View) (row : List View)
    → IsNumberOf (views_of ts rows) tx n → length rows ≡ length ts → row ≡ set (views_in (views_of ts rows) tx) place view
    → (other : TxParts)
    → views_in (views_of ts (set rows n row)) other
    ≡ cond (tx_eq other tx) (set (views_in (views_of ts rows) other) place view) (views_in (views_of ts rows) other)
view_set ts rows n tx place view row number whole is other =
    ap (λ k. get_or (set rows k row) (place_in ts other) (all_working other)) number.place
    ∙ row_changed all_working ts rows whole tx row (subst (λ k. k < length ts) number.place number.seen) other
    ∙ by (tx_eq other tx) refl
  where
    by : (b : Bool) → tx_eq other tx ≡ b → cond b row (views_in (views_of ts rows) other)
        ≡ cond b (set (views_in (views_of ts rows) other) place view) (views_in (views_of ts rows) other)
    by true e = is ∙ ap (λ t. set (views_in (views_of ts rows) t) place view) (sym ((tx_decides other tx).0 e))
    by false e = refl

-- the participants of a transaction that wasn't noted are working
pub unnoted : (ts : List TxParts) (rows : List (List View)) (tx : TxParts) → length rows ≡ length ts → place_in ts tx ≡ length ts
    → (place : ℕ)
    → view_in (views_of ts rows) tx place ≡ View.Working
unnoted ts rows tx whole absent place =
    ap (λ vs. get_or vs place View.Working) (get_or_past rows (place_in ts tx) (all_working tx) (omega (arith, whole, absent)))
    ∙ working (participants tx) place
  where
    working : (ps : List ℕ) (i : ℕ) → get_or (map (λ _. View.Working) ps) i View.Working ≡ View.Working
    working [] i = refl
    working (p ∷ ps) zero = refl
    working (p ∷ ps) (suc i) = working ps i

-- the views that a number leads to
pub course_is : (ts : List TxParts) (rows : List (List View)) (tx : TxParts) (n : ℕ) → IsNumberOf (views_of ts rows) tx n
    → (now : List View) → now ≡ get_or rows n now → now ≡ views_in (views_of ts rows) tx
course_is ts rows tx n number now is =
    is ∙ get_or_default rows n now (all_working tx) number.kept ∙ ap (λ k. get_or rows k (all_working tx)) number.place

position_is : {X : Type 0} (p : X → Bool) (xs : List X) (i : ℕ) → Some i ≡ position p xs → position_or_len p xs ≡ i
position_is p xs i e = by (ltb (position_or_len p xs) (length xs)) e
  where
    by : (b : Bool) → Some i ≡ cond b (Some (position_or_len p xs)) None → position_or_len p xs ≡ i
    by true q = cc (q)
    by false q = absurd (cc (q))

-- a change was a step of TCommit, and was made
pub moved_so : (old mid new : ViewsParts) (change : Change) (place rm : ℕ) → rm ≡ change.rm
    → Some place ≡ position (is_at rm) change.tx.branches
    → ((tx : TxParts) → views_in mid tx ≡ views_in old tx) → (now : List View) → now ≡ views_in mid change.tx
    → true ≡ may_move now (get_or now place View.Working) change.view
    → ((tx : TxParts) → views_in new tx ≡ cond (tx_eq tx change.tx) (set (views_in mid tx) place change.view) (views_in mid tx))
    → (true ≡ is_move_from old change) × (true ≡ true → (tx : TxParts) → views_in new tx ≡ views_moved old change tx)
moved_so old mid new change place rm number found same now is moves made = (
  moves ∙ (λ i. may_move (views i) (get_or (views i) place View.Working) change.view)
      ∙ ap (λ o. option_map_or (λ n. may_move (views_in old change.tx) (view_in old change.tx n) change.view) o false) at,
  λ t tx. made tx ∙ by tx (tx_eq tx change.tx) refl,
)
  where
    views : now ≡ views_in old change.tx
    views = is ∙ same change.tx

    at : Some place ≡ position (is_at change.rm) change.tx.branches
    at = found ∙ ap (λ n. position (is_at n) change.tx.branches) number

    by : (tx : TxParts) (b : Bool) → tx_eq tx change.tx ≡ b → cond b (set (views_in mid tx) place change.view) (views_in mid tx)
        ≡ cond b (set (views_in old tx) (place_at change.rm tx) change.view) (views_in old tx)
    by tx true e =
        let own : place_at change.rm tx ≡ place =
        ap (place_at change.rm) ((tx_decides tx change.tx).0 e) ∙ position_is (is_at change.rm) change.tx.branches place at in
        (λ i. set (same tx i) (sym own i) change.view)
    by tx false e = same tx
