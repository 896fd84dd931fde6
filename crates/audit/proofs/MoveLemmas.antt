-- The views of a transaction's participants, by place and looked back at.
use Rattle.std.proofs.Common.{◌≡◌, ◌∙◌, ℕ, suc, ◌+◌, ◌<◌, ◌≤◌, Bool, true, false, ◌==◌, ◌&&◌, cond, ltb, List, [], ◌∷◌, length, map, get_or}
use Rattle.std.proofs.Common.{set, Option, Some, None, refl, sym, ap, subst, arith}
use Rattle.std.specs.Prelude.{find, position, not}
use Rattle.std.specs.Cmp.{unsigned_Decides}
use Rattle.std.specs.List.{cons_option, list_any, position_or_len}
use Rattle.std.specs.List.Sorted.{IsStrictlyIncreasing}
use Rattle.std.specs.Option.{option_map_or}
use Rattle.std.proofs.lemmas.Bool.{ltb-true, ltb-false, ne_eqb, false≢true}
use Rattle.std.proofs.lemmas.List.{get_or-map, length-map}
use Rattle.std.proofs.lemmas.List.Sums.{passes_at_first, prefix_len-le-length}
use Rattle.xid.specs.Transactions.{BranchParts, IsTx, is_at, rm_numbers, TxParts, tx_eq, participants}
use Rattle.xid.proofs.Deciding.{tx_decides}
use Rattle.transactions.proofs.Keys.{absent_from_place, present_from_place}
use Rattle.wire.proofs.Ascending.{later}
use Rattle.safety.specs.Vocabulary.{Answer, Event, Change, Step, View}
use Rattle.history.specs.Lines.{view_back, changes_at}
use Rattle.protocol.specs.declared.events.Sent.{Sent}
use Rattle.protocol.specs.declared.events.Told.{Told}
use Rattle.audit.specs.Told.{may_move, is_move, views_back}
use Rattle.audit.specs.Books.{ViewsParts, views_in, place_at, is_move_from}

off_so : (a b : ℕ) → (b == a) ≡ false → (a == b) ≡ false
off_so a b e = ne_eqb a b (λ same. false≢true (sym e ∙ (unsigned_Decides b a).1 (sym same)))

-- ---- by place

module _ (rm : ℕ) where
  abbrev place : List BranchParts → ℕ
  place bs = position_or_len (is_at rm) bs

  pub at_place : (bs : List BranchParts) (g : ℕ → View) (test : View → Bool)
      → option_map_or (λ n. test (get_or (map g (rm_numbers bs)) n View.Working)) (position (is_at rm) bs) false
      ≡ (list_any (is_at rm) bs && test (g rm))
  at_place bs g test = by (ltb (place bs) (length bs)) refl
    where
      by : (t : Bool) → ltb (place bs) (length bs) ≡ t
          → option_map_or (λ n. test (get_or (map g (rm_numbers bs)) n View.Working)) (cond t (Some (place bs)) None) false
          ≡ (list_any (is_at rm) bs && test (g rm))
      by true e =
          let lt : place bs < length bs = ltb-true _ _ e in
          let nobody : BranchParts = record { rm = 0; bqual = [] } in
          let same : (get_or bs (place bs) nobody).rm ≡ rm =
          (unsigned_Decides _ rm).0 (passes_at_first (is_at rm) bs nobody lt) in
          let long : place bs < length (rm_numbers bs) = subst (λ n. place bs < n) (sym (length-map bs (λ (b : BranchParts). b.rm))) lt in
          ap test (get_or-map g (rm_numbers bs) (place bs) 0 View.Working long
          ∙ ap g (get_or-map (λ (b : BranchParts). b.rm) bs (place bs) nobody 0 lt ∙ same))
          ∙ sym (ap (λ a. a && test (g rm)) (present_from_place (is_at rm) bs lt))
      by false e =
          let full : place bs ≡ length bs = omega (arith, ltb-false _ _ e, prefix_len-le-length (λ b. not (is_at rm b)) bs) in
          sym (ap (λ a. a && test (g rm)) (absent_from_place (is_at rm) bs full))

  -- a value for one number, where all are above another that is no less
  changed_none : {X : Type 0} (bs : List BranchParts) (g : ℕ → X) (v : X) (m : ℕ) → IsStrictlyIncreasing (m ∷ rm_numbers bs) → rm ≤ m
      → map (λ r. cond (rm == r) v (g r)) (rm_numbers bs) ≡ map g (rm_numbers bs)
  changed_none [] g v m up le = refl
  changed_none (b ∷ bs) g v m up le =
      let lt : m < b.rm = up 0 (omega arith) in
      let off : (rm == b.rm) ≡ false = ne_eqb rm b.rm (λ e. absurd (omega (arith, le, lt, e))) in
      (λ i. cond (off i) v (g b.rm) ∷ changed_none bs g v b.rm (later m b.rm (rm_numbers bs) up) (omega (arith, le, lt)) i)

  rest_up : (m : ℕ) (bs : List BranchParts) → IsStrictlyIncreasing (m ∷ rm_numbers bs) → IsStrictlyIncreasing (rm_numbers bs)
  rest_up m [] up = λ k lt. absurd (omega (arith, lt))
  rest_up m (b ∷ bs) up = later m b.rm (rm_numbers bs) up

  -- one place is set where the value for one number changes
  pub set_at : {X : Type 0} (bs : List BranchParts) (g : ℕ → X) (v : X) → IsStrictlyIncreasing (rm_numbers bs)
      → map (λ r. cond (rm == r) v (g r)) (rm_numbers bs) ≡ set (map g (rm_numbers bs)) (place bs) v
  set_at [] g v up = refl
  set_at (b ∷ bs) g v up = by (b.rm == rm) refl (set_at bs g v (rest_up b.rm bs up))
    where
      by : (t : Bool) → (b.rm == rm) ≡ t
          → map (λ r. cond (rm == r) v (g r)) (rm_numbers bs) ≡ set (map g (rm_numbers bs)) (place bs) v
          → cond (rm == b.rm) v (g b.rm) ∷ map (λ r. cond (rm == r) v (g r)) (rm_numbers bs)
          ≡ set (g b.rm ∷ map g (rm_numbers bs)) (cond (not t) (1 + place bs) 0) v
      by true e rest =
          let same : b.rm ≡ rm = (unsigned_Decides b.rm rm).0 e in
          let on : (rm == b.rm) ≡ true = (unsigned_Decides rm b.rm).1 (sym same) in
          (λ i. cond (on i) v (g b.rm) ∷ changed_none bs g v b.rm up (omega (arith, same)) i)
      by false e rest =
          let off : (rm == b.rm) ≡ false = off_so rm b.rm e in
          let next : suc (place bs) ≡ 1 + place bs = omega arith in
          (λ i. cond (off i) v (g b.rm) ∷ rest i)
          ∙ ap (λ n. set (g b.rm ∷ map g (rm_numbers bs)) n v) next

-- ---- looked back at

module _ (before : List Step) (event : Event) (answer : Answer) (sent : List Sent) (told : List Told) (change : Change) where
  abbrev pub with_change : Step
  with_change = record { event = event; answer = answer; now = Some change; sent = sent; told = told }

  view_more : (tx : TxParts) (rm : ℕ) → view_back rm (with_change ∷ before) tx
      ≡ cond (change.rm == rm) (cond (tx_eq tx change.tx) change.view (view_back rm before tx)) (view_back rm before tx)
  view_more tx rm = by (change.rm == rm)
    where
      out : (t : Bool) (o : Option Change)
          → option_map_or (λ (c : Change). c.view) (cond t (Some change) o) View.Working
          ≡ cond t change.view (option_map_or (λ (c : Change). c.view) o View.Working)
      out true o = refl
      out false o = refl

      by : (b : Bool)
          → option_map_or (λ (c : Change). c.view)
          (find (λ (c : Change). tx_eq tx c.tx) (cons_option (cond b (Some change) None) (changes_at rm before))) View.Working
          ≡ cond b (cond (tx_eq tx change.tx) change.view (view_back rm before tx)) (view_back rm before tx)
      by true = out (tx_eq tx change.tx) (find (λ (c : Change). tx_eq tx c.tx) (changes_at rm before))
      by false = refl

  pub views_more : IsTx change.tx → (tx : TxParts) → views_back (with_change ∷ before) tx
      ≡ cond (tx_eq tx change.tx) (set (views_back before tx) (place_at change.rm tx) change.view) (views_back before tx)
  views_more is tx = by (tx_eq tx change.tx) refl
    where
      by : (t : Bool) → tx_eq tx change.tx ≡ t → views_back (with_change ∷ before) tx
          ≡ cond t (set (views_back before tx) (place_at change.rm tx) change.view) (views_back before tx)
      by true e =
          let up = subst IsTx (sym ((tx_decides tx change.tx).0 e)) is in
          (λ i. map (λ rm. (view_more tx rm
          ∙ ap (λ t. cond (change.rm == rm) (cond t change.view (view_back rm before tx)) (view_back rm before tx)) e) i)
          (participants tx))
          ∙ set_at change.rm tx.branches (λ rm. view_back rm before tx) change.view up.branches.ascending
      by false e =
          (λ i. map (λ rm. (view_more tx rm
          ∙ ap (λ t. cond (change.rm == rm) (cond t change.view (view_back rm before tx)) (view_back rm before tx)) e
          ∙ same (change.rm == rm) (view_back rm before tx)) i) (participants tx))
        where
          same : (b : Bool) (v : View) → cond b v v ≡ v
          same true v = refl
          same false v = refl

-- a change is a step of TCommit by the views that are kept, where these are those looked back at
pub move_same : (views : ViewsParts) (before : List Step) (change : Change)
    → ((tx : TxParts) → views_in views tx ≡ views_back before tx) → is_move_from views change ≡ is_move before change
move_same views before change same =
    (λ i. option_map_or (λ n. may_move (same change.tx i) (get_or (same change.tx i) n View.Working) change.view)
    (position (is_at change.rm) change.tx.branches) false)
    ∙ at_place change.rm change.tx.branches (λ rm. view_back rm before change.tx)
    (λ from. may_move (views_back before change.tx) from change.view)
