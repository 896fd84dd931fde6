-- A step of TCommit is one by the definition of the machine.
use Rattle.std.proofs.Common.{◌≡◌, ◌≢◌, ◌∙◌, ℕ, Bool, true, false, ◌==◌, ◌||◌, List, [], ◌∷◌, map, refl, sym, ap}
use Rattle.std.specs.Prelude.{not, IsTrue}
use Rattle.std.specs.Cmp.{unsigned_Decides}
use Rattle.std.specs.List.{list_all, list_any}
use Rattle.std.proofs.lemmas.Bool.{and_parts, and_from, or_left, or_right}
use Rattle.safety.specs.Vocabulary.{Change, Step, View}
use Rattle.protocol.specs.TCommit.{IsReady, IsCommitMove}
use Rattle.xid.specs.Transactions.{BranchParts, is_at, rm_numbers, TxParts, is_participant}
use Rattle.history.specs.Lines.{view_back}
use Rattle.history.specs.Writes.{is_committed_view}
use Rattle.audit.specs.Told.{is_ready_view, may_move, is_move, views_back}

-- ---- each participant

module _ (p : View → Bool) (g : ℕ → View) where
  each_so : (bs : List BranchParts) → list_all p (map g (rm_numbers bs)) ≡ true → (r : ℕ) → list_any (is_at r) bs ≡ true → p (g r) ≡ true
  each_so [] all r named = absurd (cc (named))
  each_so (b ∷ bs) all r named = by (b.rm == r) refl (each_so bs)
    where
      by : (t : Bool) → (b.rm == r) ≡ t
          → (list_all p (map g (rm_numbers bs)) ≡ true → (r : ℕ) → list_any (is_at r) bs ≡ true → p (g r) ≡ true) → p (g r) ≡ true
      by true e rest =
          ap (λ n. p (g n)) (sym ((unsigned_Decides b.rm r).0 e)) ∙ (and_parts (p (g b.rm)) (list_all p (map g (rm_numbers bs))) all).0
      by false e rest =
          rest (and_parts (p (g b.rm)) (list_all p (map g (rm_numbers bs))) all).1 r (ap (λ t. t || list_any (is_at r) bs) (sym e) ∙ named)

  all_so : (bs : List BranchParts) → ((r : ℕ) → list_any (is_at r) bs ≡ true → p (g r) ≡ true) → list_all p (map g (rm_numbers bs)) ≡ true
  all_so [] each = refl
  all_so (b ∷ bs) each =
      and_from (p (g b.rm)) (list_all p (map g (rm_numbers bs)))
      (each b.rm (or_left (b.rm == b.rm) (list_any (is_at b.rm) bs) ((unsigned_Decides b.rm b.rm).1 refl)))
      (all_so bs (λ r named. each r (or_right (b.rm == r) (list_any (is_at r) bs) named)))

-- ---- views

ready_is : (v : View) → is_ready_view v ≡ true → IsReady v
ready_is View.Working e = absurd (cc (e))
ready_is View.Prepared e = tt
ready_is View.Committed e = tt
ready_is View.Aborted e = absurd (cc (e))

is_ready : (v : View) → IsReady v → is_ready_view v ≡ true
is_ready View.Working h = absurd h
is_ready View.Prepared h = refl
is_ready View.Committed h = refl
is_ready View.Aborted h = absurd h

uncommitted_is : (v : View) → not (is_committed_view v) ≡ true → v ≢ View.Committed
uncommitted_is View.Working e same = absurd (cc (same))
uncommitted_is View.Prepared e same = absurd (cc (same))
uncommitted_is View.Committed e same = absurd (cc (e))
uncommitted_is View.Aborted e same = absurd (cc (same))

is_uncommitted : (v : View) → v ≢ View.Committed → not (is_committed_view v) ≡ true
is_uncommitted View.Working h = refl
is_uncommitted View.Prepared h = refl
is_uncommitted View.Committed h = absurd (h refl)
is_uncommitted View.Aborted h = refl

-- ---- moves

module _ (tx : TxParts) (g : ℕ → View) where
  abbrev all : List View
  all = map g (rm_numbers tx.branches)

  none_committed : list_all (λ v. not (is_committed_view v)) all ≡ true → (r : ℕ) → IsTrue (is_participant tx r) → g r ≢ View.Committed
  none_committed h r named = uncommitted_is (g r) (each_so (λ v. not (is_committed_view v)) g tx.branches h r named)

  committed_none : ((r : ℕ) → IsTrue (is_participant tx r) → g r ≢ View.Committed) → list_all (λ v. not (is_committed_view v)) all ≡ true
  committed_none h = all_so (λ v. not (is_committed_view v)) g tx.branches (λ r named. is_uncommitted (g r) (h r named))

  move_is : (from to : View) → may_move all from to ≡ true → IsCommitMove (is_participant tx) g from to
  move_is View.Working View.Prepared e = tt
  move_is View.Prepared View.Committed e = λ r named. ready_is (g r) (each_so is_ready_view g tx.branches e r named)
  move_is View.Working View.Aborted e = none_committed e
  move_is View.Prepared View.Aborted e = none_committed e
  move_is View.Working View.Working e = absurd (cc (e))
  move_is View.Working View.Committed e = absurd (cc (e))
  move_is View.Prepared View.Working e = absurd (cc (e))
  move_is View.Prepared View.Prepared e = absurd (cc (e))
  move_is View.Committed to e = absurd (cc (e))
  move_is View.Aborted to e = absurd (cc (e))

  is_move_so : (from to : View) → IsCommitMove (is_participant tx) g from to → may_move all from to ≡ true
  is_move_so View.Working View.Prepared h = refl
  is_move_so View.Prepared View.Committed h = all_so is_ready_view g tx.branches (λ r named. is_ready (g r) (h r named))
  is_move_so View.Working View.Aborted h = committed_none h
  is_move_so View.Prepared View.Aborted h = committed_none h
  is_move_so View.Working View.Working h = absurd h
  is_move_so View.Working View.Committed h = absurd h
  is_move_so View.Prepared View.Working h = absurd h
  is_move_so View.Prepared View.Prepared h = absurd h
  is_move_so View.Committed to h = absurd h
  is_move_so View.Aborted to h = absurd h

pub a_move_is_named : (before : List Step) (change : Change) → is_move before change ≡ true → IsTrue (is_participant change.tx change.rm)
a_move_is_named before change e =
    (and_parts (is_participant change.tx change.rm)
    (may_move (views_back before change.tx) (view_back change.rm before change.tx) change.view) e).0

pub a_move_is_one : (before : List Step) (change : Change) → is_move before change ≡ true
    → IsCommitMove (is_participant change.tx) (λ rm. view_back rm before change.tx) (view_back change.rm before change.tx) change.view
a_move_is_one before change e =
    move_is change.tx (λ rm. view_back rm before change.tx) (view_back change.rm before change.tx) change.view
    (and_parts (is_participant change.tx change.rm)
    (may_move (views_back before change.tx) (view_back change.rm before change.tx) change.view) e).1

pub one_is_a_move : (before : List Step) (change : Change) → IsTrue (is_participant change.tx change.rm)
    → IsCommitMove (is_participant change.tx) (λ rm. view_back rm before change.tx) (view_back change.rm before change.tx) change.view
    → is_move before change ≡ true
one_is_a_move before change named move =
    and_from (is_participant change.tx change.rm)
    (may_move (views_back before change.tx) (view_back change.rm before change.tx) change.view) named
    (is_move_so change.tx (λ rm. view_back rm before change.tx) (view_back change.rm before change.tx) change.view move)
