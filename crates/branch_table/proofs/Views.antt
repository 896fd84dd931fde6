-- How branches show: after one was added, after one more act on a key, and which of them hinder.
-- Needed by CallSteps and Hindered; crates resource_manager, history and cluster_run.
use Rattle.std.proofs.Common.{◌≡◌, ◌≢◌, ◌∙◌, ℕ, Bool, true, false, not, ◌&&◌, cond, List, [], ◌∷◌, ◌++◌, refl, sym, ap}
use Rattle.std.specs.List.{list_any}
use Rattle.std.proofs.lemmas.Bool.{both_ways, cond_both, or_left, or_parts, or_right}
use Rattle.xid.specs.Names.{XidParts, xid_eq}
use Rattle.xid.proofs.Deciding.{xid_self, xid_decides, xid_other}
use Rattle.stable_record.specs.declared.fact.Act.{Act}
use Rattle.stable_record.specs.Facts.{AreAscending}
use Rattle.protocol.specs.declared.requests.Action.{Action}
use Rattle.protocol.specs.declared.requests.Action.TheVariants.{Start, Put, Del, Get, End, EndFail, Rollback}
use Rattle.protocol.specs.Branches.{BranchView, no_branch, hinders_use, hinders}
use Rattle.protocol.specs.Managers.{Branch, view_by, view_named, is_hindered, with_touched}
use Rattle.protocol.proofs.TouchedKeys.{has_touched, counts_touched, acts_touched}
use Rattle.branch_table.specs.OneCall.{SameView, view_with_act}

-- whether a branch has a name
abbrev pub is_of : XidParts → Branch → Bool
is_of x branch = xid_eq branch.xid x

-- how a branch shows
abbrev pub view_of : Branch → BranchView
view_of branch = view_by branch.state branch.keys

-- x shows as a view now, and all others as before
pub record ShowsOnly (old new : List Branch) (x : XidParts) (v : BranchView) : Type 0 where
  pub own : view_named new x ≡ v
  pub others : (y : XidParts) → y ≢ x → view_named new y ≡ view_named old y

-- a branch of x isn't one of another XID
other_of : (b : Branch) (x y : XidParts) → is_of x b ≡ true → y ≢ x → is_of y b ≡ false
other_of b x y own apart = xid_other b.xid y (λ e. apart (sym e ∙ (xid_decides b.xid x).0 own))

-- a branch in front that isn't of x
ShowsOnly-cons : (c : Branch) (old new : List Branch) (x : XidParts) (v : BranchView) → is_of x c ≡ false → ShowsOnly old new x v
    → ShowsOnly (c ∷ old) (c ∷ new) x v
ShowsOnly-cons c old new x v other shows = record {
  own = rw other shows.own;
  others = λ y apart. ap (λ (w : BranchView). cond (is_of y c) (view_of c) w) (shows.others y apart);
}

-- one branch more shows, and the others as before
pub shows_push : (bs : List Branch) (new : Branch) → list_any (is_of new.xid) bs ≡ false
    → ShowsOnly bs (bs ++ new ∷ []) new.xid (view_of new)
shows_push [] new absent = record {
  own = rw (xid_self new.xid) refl;
  others = λ y apart. rw (other_of new new.xid y (xid_self new.xid) apart) refl;
}
shows_push (b ∷ bs) new absent =
    let parts = or_parts (is_of new.xid b) (list_any (is_of new.xid) bs) absent in
    ShowsOnly-cons b bs (bs ++ new ∷ []) new.xid (view_of new) parts.0 (shows_push bs new parts.1)

-- a branch that doesn't exist hinders no call, nor any use of a key
pub none_hinders : (action : Action) → hinders action no_branch ≡ false
none_hinders Start = refl
none_hinders (Put key value) = refl
none_hinders (Del key) = refl
none_hinders (Get key) = refl
none_hinders End = refl
none_hinders EndFail = refl
none_hinders Rollback = refl

-- no branch hinders nobody
pub none_hinders_use : (writes : Bool) (key : List ℕ) → hinders_use writes key no_branch ≡ false
none_hinders_use true key = refl
none_hinders_use false key = refl

module _ (test : BranchView → Bool) (none : test no_branch ≡ false) where
  abbrev is_other : XidParts → Branch → Bool
  is_other x branch = not (xid_eq branch.xid x) && test (view_of branch)

  -- where another branch hinders, the test says so
  pub hindered_to : (bs : List Branch) (x y : XidParts) → y ≢ x → test (view_named bs y) ≡ true → is_hindered test bs x ≡ true
  hindered_to [] x y apart shown = absurd (both_ways (test no_branch) none shown)
  hindered_to (b ∷ bs) x y apart shown =
      let goal = λ (v : BranchView). test v ≡ true → is_hindered test (b ∷ bs) x ≡ true in
      cond_both (xid_eq b.xid y) (view_of b) (view_named bs y) goal
      (λ own here.
      let other : xid_eq b.xid x ≡ false = xid_other b.xid x (λ e. apart (sym ((xid_decides b.xid y).0 own) ∙ e)) in
      or_left (is_other x b) (list_any (is_other x) bs) (ap (λ (t : Bool). not t && test (view_of b)) other ∙ here))
      (λ other later. or_right (is_other x b) (list_any (is_other x) bs) (hindered_to bs x y apart later)) shown

-- a branch shows one act more
pub shows_touched : (b : Branch) (key : List ℕ) (act : Act) → AreAscending b.keys
    → SameView (view_of (record b { keys = with_touched b.keys key act })) (view_with_act (view_of b) key act)
shows_touched b key act ascending = record {
  state = refl;
  touched = λ other. has_touched b.keys key other act;
  count = counts_touched b.keys key act ascending;
  act = λ other. acts_touched b.keys key other act ascending;
}
