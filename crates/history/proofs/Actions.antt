-- How a branch shows with one more action done in it.
-- Needed by Kept and Told; crate cluster.
use Rattle.std.proofs.Common.{◌≡◌, ◌∙◌, ℕ, ◌+◌, Bool, true, false, cond, List, [], ◌∷◌, length, Option, Some, None, refl, sym, ap, arith}
use Rattle.std.specs.Prelude.{if◌then◌else◌, find}
use Rattle.std.specs.List.{list_any}
use Rattle.std.specs.Option.{option_map_or}
use Rattle.std.specs.Str.{bytes_eq}
use Rattle.std.proofs.lemmas.Bool.{cond_both}
use Rattle.xid.specs.Names.{XidParts, xid_eq}
use Rattle.protocol.specs.Basics.{Act, Touched}
use Rattle.safety.specs.Vocabulary.{BranchState, Action, Start, Put, Del, Get, End, EndFail, Rollback}
use Rattle.protocol.specs.Branches.{BranchView, no_branch}
use Rattle.protocol.specs.Managers.{Branch, view_named, view_by, last_act}
use Rattle.branch_table.specs.OneCall.{SameView, view_after_done, new_branch}
use Rattle.history.specs.LookingBack.{is_start, is_end, is_end_fail, is_rollback, state_by, touched_keys, distinct_keys, writes_in}
use Rattle.history.specs.LookingBack.{branch_by}
use Rattle.protocol.proofs.DoneCalls.{IsReadyFor}

-- views that show the same are equal
pub equal_views : (v w : BranchView) → SameView v w → v ≡ w
equal_views v w same = λ i. record {
  state = same.state i;
  touched = λ key. same.touched key i;
  count = same.count i;
  act = λ key. same.act key i;
}

-- a branch that doesn't exist shows nothing
abbrev pub IsPlain : BranchView → Type 0
IsPlain v = v.state ≡ None → v ≡ no_branch

-- so it is of the branches of a list
pub plain_at : (bs : List Branch) (x : XidParts) → IsPlain (view_named bs x)
plain_at [] x = λ e. refl
plain_at (b ∷ bs) x =
    cond_both (xid_eq b.xid x) (view_by b.state b.keys) (view_named bs x) IsPlain (λ own e. absurd (cc (e))) (λ other. plain_at bs x)

-- the tests behind a state
abbrev state_from : Bool → Bool → Bool → Option BranchState
state_from end_fail end start =
    if end_fail then Some BranchState.RollbackOnly else if end then Some BranchState.Idle
    else if start then Some BranchState.Active else None

tests_none : (end_fail end start : Bool) → state_from end_fail end start ≡ None → (end_fail ≡ false) × (end ≡ false)
tests_none true end start e = absurd (cc)
tests_none false true start e = absurd (cc)
tests_none false false start e = (refl, refl)

tests_active : (end_fail end start : Bool) → state_from end_fail end start ≡ Some BranchState.Active → end_fail ≡ false
tests_active true end start e = absurd (cc)
tests_active false end start e = refl

start_shows : (actions : List Action) → IsPlain (branch_by actions) → state_by actions ≡ None
    → SameView new_branch (branch_by (Start ∷ actions))
start_shows actions plain none =
    let tests = tests_none (list_any is_end_fail actions) (list_any is_end actions) (list_any is_start actions) none in
    let nothing : no_branch ≡ branch_by actions = sym (plain none) in
    record {
      state =
          sym (ap (λ (b : Bool). state_from b (list_any is_end actions) true) tests.0 ∙ ap (λ (b : Bool). state_from false b true) tests.1);
      touched = λ key. ap (λ (v : BranchView). v.touched key) nothing;
      count = ap (λ (v : BranchView). v.count) nothing;
      act = λ key. ap (λ (v : BranchView). v.act key) nothing;
    }

end_shows : (actions : List Action) → state_by actions ≡ Some BranchState.Active
    → SameView (view_after_done (branch_by actions) End) (branch_by (End ∷ actions))
end_shows actions active =
    let test = tests_active (list_any is_end_fail actions) (list_any is_end actions) (list_any is_start actions) active in
    record {
      state = sym (ap (λ (b : Bool). state_from b true (list_any is_start actions)) test);
      touched = λ key. refl;
      count = refl;
      act = λ key. refl;
    }

-- the count goes up where the key is new
counted : (old : Bool) (key : List ℕ) (keys : List (List ℕ))
    → cond old (length keys) (length keys + 1) ≡ length (cond old keys (key ∷ keys))
counted true key keys = refl
counted false key keys = omega arith

abbrev act_of : Option Touched → Act
act_of write = option_map_or (λ touched. touched.act) write Act.Read

-- a write in front is the last of its key
wrote : (same : Bool) (write : Touched) (last : Option Touched) → ((before : Act) → last_act before write.act ≡ write.act)
    → cond same (last_act (act_of last) write.act) (act_of last) ≡ act_of (cond same (Some write) last)
wrote true write last writes = writes (act_of last)
wrote false write last writes = refl

either_same : {A : Type 0} (b : Bool) (x : A) → cond b x x ≡ x
either_same true x = refl
either_same false x = refl

-- an action on a key touches it
module _ (actions : List Action) (key : List ℕ) where
  abbrev last_of : List ℕ → Option Touched
  last_of other = find (λ (write : Touched). bytes_eq write.key other) (writes_in actions)

  one_more :
      cond (list_any (λ other. bytes_eq other key) (touched_keys actions)) (branch_by actions).count ((branch_by actions).count + 1)
      ≡ length (distinct_keys (key ∷ touched_keys actions))
  one_more = counted (list_any (λ other. bytes_eq other key) (touched_keys actions)) key (distinct_keys (touched_keys actions))

  put_shows : (value : List ℕ) → SameView (view_after_done (branch_by actions) (Put key value)) (branch_by (Put key value ∷ actions))
  put_shows value = record {
    state = refl;
    touched = λ other. refl;
    count = one_more;
    act = λ other. wrote (bytes_eq key other) (record { key = key; act = Act.Put value }) (last_of other) (λ before. refl);
  }

  del_shows : SameView (view_after_done (branch_by actions) (Del key)) (branch_by (Del key ∷ actions))
  del_shows = record {
    state = refl;
    touched = λ other. refl;
    count = one_more;
    act = λ other. wrote (bytes_eq key other) (record { key = key; act = Act.Del }) (last_of other) (λ before. refl);
  }

  get_shows : SameView (view_after_done (branch_by actions) (Get key)) (branch_by (Get key ∷ actions))
  get_shows = record {
    state = refl;
    touched = λ other. refl;
    count = one_more;
    act = λ other. either_same (bytes_eq key other) (act_of (last_of other));
  }

-- an action that is done in its state
pub done_shows : (actions : List Action) (action : Action) → IsPlain (branch_by actions) → IsReadyFor action (state_by actions)
    → is_rollback action ≡ false → SameView (view_after_done (branch_by actions) action) (branch_by (action ∷ actions))
done_shows actions Start plain ready r = start_shows actions plain ready
done_shows actions (Put key value) plain ready r = put_shows actions key value
done_shows actions (Del key) plain ready r = del_shows actions key
done_shows actions (Get key) plain ready r = get_shows actions key
done_shows actions End plain ready r = end_shows actions ready
done_shows actions EndFail plain ready r = record { state = refl; touched = λ key. refl; count = refl; act = λ key. refl }
done_shows actions Rollback plain ready r = absurd (cc)
