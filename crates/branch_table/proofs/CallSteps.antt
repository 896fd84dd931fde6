-- What each client call meets and leaves, exit by exit.
-- Needed by 8 functions of this crate; TableKept; crates history and cluster_run.
use Rattle.std.proofs.Common.{◌≡◌, ◌≢◌, ◌∙◌, ℕ, Bool, true, false, ◌||◌, ◌&&◌, cond, ltb, List, [], length, Option, Some, None, Ok, Err}
use Rattle.std.proofs.Common.{refl, sym, ap, subst, Decides}
use Rattle.std.specs.Option.{option_map}
use Rattle.std.specs.Str.{bytes_eq}
use Rattle.std.proofs.lemmas.Bool.{cond_both, both_ways, false_from_ne_true}
use Rattle.std.proofs.lemmas.Slice.Eq.{bytes_eq-Decides}
use Rattle.xid.specs.Limits.{most_touched}
use Rattle.xid.specs.Names.{XidParts, xid_eq}
use Rattle.xid.proofs.Deciding.{xid_decides, xid_apart}
use Rattle.xid.specs.declared.codes.XaCode.TheVariants as code
use Rattle.xid.specs.declared.refusals.Refusal.TheVariants.{Busy, Full}
use Rattle.stable_record.specs.declared.fact.Act.{Act}
use Rattle.stable_record.specs.Facts.{AreAscending}
use Rattle.protocol.specs.declared.answers.Answer.{Answer}
use Rattle.protocol.specs.declared.answers.Answer.TheVariants.{Code, Refused}
use Rattle.protocol.specs.declared.requests.Action.{Action}
use Rattle.protocol.specs.declared.requests.Action.TheVariants.{Start, Put, Del, Get, End, EndFail, Rollback}
use Rattle.protocol.specs.declared.rows.Row.{Row}
use Rattle.protocol.specs.declared.states.BranchState.{BranchState}
use Rattle.protocol.specs.Branches.{BranchView, no_branch, is_write, hinders_use, hinders, key_of, key_fits}
use Rattle.protocol.specs.Branches.{value_fits, call_answer, touch_answer, is_done, by_state, rollback_answer, get_answer, read_of}
use Rattle.protocol.specs.Managers.{Branch, act_on, has_key, last_act, view_named}
use Rattle.protocol.proofs.TouchedKeys.{acts_touched, has_touched, untouched}
use Rattle.branch_table.specs.OneCall.{Answers, IsHindered, SameView, view_with_act, view_after_done}
use Rattle.branch_table.specs.TableStates.{TableState, AreHeldApart, ChangesOnly, Steps, branch_done, branch_named, can_be_rolled_back}
use Rattle.branch_table.specs.TableStates.{in_state, is_active, with_act}
use Rattle.branch_table.specs.Admission.{end_action, end_state, end_code, Admits, IsAdmitted, Meets, Touches}
use Rattle.branch_table.specs.Parts.{hold_of}
use Rattle.branch_table.specs.declared.hold.Hold.{Hold}
use Rattle.branch_table.specs.declared.table.Ending.{Ending}
use Rattle.branch_table.specs.declared.table.Ending.TheVariants as ending
use Rattle.branch_table.proofs.Found.{view_of_named, view_or_none}
use Rattle.branch_table.proofs.Views.{shows_touched}

-- how a branch shows that was found, or not
pub shown : (bs : List Branch) (x : XidParts) (o : Option Branch) → branch_named bs x ≡ o → view_named bs x ≡ view_or_none o
shown bs x o e = view_of_named bs x ∙ ap view_or_none e

-- a view is the same as itself
pub same : (v : BranchView) → SameView v v
same v = record { state = refl; touched = λ _. refl; count = refl; act = λ _. refl }

-- and as one that is equal
pub same_from : (v w : BranchView) → v ≡ w → SameView v w
same_from v w e = subst (λ (u : BranchView). SameView v u) e (same v)

-- other branches show as before
pub others_shown : (old new : List Branch) (x : XidParts) (w : Option Branch) → ChangesOnly old new x w
    → (y : XidParts) → y ≢ x → view_named new y ≡ view_named old y
others_shown old new x w only y apart = shown new y _ (only.others y apart) ∙ sym (view_of_named old y)

unchanged : (bs : List Branch) (x : XidParts) → ChangesOnly bs bs x (branch_named bs x)
unchanged bs x = record { own = refl; others = λ y apart. refl }

-- ---- a call that wasn't done leaves all, one that was done its own branch

pub undone_steps : (t : TableState) (x : XidParts) (action : Action) (answer : Answer) → is_done action answer ≡ false
    → Answers t.rows (view_named t.branches) x action answer → Steps t t x action answer
undone_steps t x action answer e answers = record {
  answers = answers;
  leaves = record {
    own = rw e (same (view_named t.branches x));
    others = λ other _. same (view_named t.branches other);
  };
  branches = rw e (unchanged t.branches x);
  rows = refl;
}

-- what a call that was done makes of its branch
pub record IsDoneCall (x : XidParts) (action : Action) (answer : Answer) (o w : Option Branch) : Type 0 where
  pub done : is_done action answer ≡ true
  pub branch : w ≡ branch_done o x action
  pub view : SameView (view_or_none w) (view_after_done (view_or_none o) action)

pub done_steps : (old new : TableState) (x : XidParts) (action : Action) (answer : Answer) (o w : Option Branch)
    → branch_named old.branches x ≡ o → ChangesOnly old.branches new.branches x w → new.rows ≡ old.rows
    → IsDoneCall x action answer o w → Answers old.rows (view_named old.branches) x action answer → Steps old new x action answer
done_steps old new x action answer o w found only same_rows call answers = record {
  answers = answers;
  leaves = record {
    own =
        rw (call.done, shown old.branches x o found, shown new.branches x w only.own) call.view;
    others = λ y apart. same_from _ _ (others_shown old.branches new.branches x w only y apart);
  };
  branches = rw (call.done, found, ← call.branch) only;
  rows = same_rows;
}

-- no branch hinders a call on no key
abbrev IsKeyless : Action → Type 0
IsKeyless action = (v : BranchView) → hinders action v ≡ false

never : (action : Action) (at : XidParts → BranchView) (x : XidParts) → IsKeyless action → Decides false (IsHindered (hinders action) at x)
never action at x keyless =
    (λ e. absurd (cc (e)), λ is. absurd (both_ways (hinders action (at is.0)) (keyless (at is.0)) is.2))

-- the answer of a call on no key, by what shows of its branch
keyless_answers : (t : TableState) (x : XidParts) (action : Action) (o : Option Branch) (answer : Answer) → IsKeyless action
    → branch_named t.branches x ≡ o → call_answer t.rows (view_or_none o) false action ≡ answer
    → Answers t.rows (view_named t.branches) x action answer
keyless_answers t x action o answer keyless found e = (
  false,
  never action (view_named t.branches) x keyless,
  sym e ∙ ap (λ v. call_answer t.rows v false action) (sym (shown t.branches x o found)),
)

-- ---- start

-- a start of a branch that exists
pub start_exists : (t : TableState) (x : XidParts) (b : Branch) → branch_named t.branches x ≡ Some b → Steps t t x Start (Code code.DupId)
start_exists t x b found =
    undone_steps t x Start (Code code.DupId) refl (keyless_answers t x Start (Some b) (Code code.DupId) (λ _. refl) found refl)

-- a branch that was started
abbrev pub started_branch : XidParts → Branch
started_branch x = record { xid = x; state = BranchState.Active; keys = [] }

-- a start
pub start_done : (old new : TableState) (x : XidParts) → branch_named old.branches x ≡ None
    → ChangesOnly old.branches new.branches x (Some (started_branch x)) → new.rows ≡ old.rows
    → Steps old new x Start (Code code.Ok)
start_done old new x none only same_rows =
    done_steps old new x Start (Code code.Ok) None (Some (started_branch x)) none only same_rows
    (record {
      done = refl;
      branch = refl;
      view = record { state = refl; touched = λ _. refl; count = refl; act = λ _. refl };
    })
    (keyless_answers old x Start None (Code code.Ok) (λ _. refl) none refl)

-- ---- end

ended_answer : (s : BranchState) (a b c : Answer) → is_active s ≡ false → by_state (Some s) a b c ≡ c
ended_answer BranchState.Active a b c e = absurd (cc (e))
ended_answer BranchState.Idle a b c e = refl
ended_answer BranchState.RollbackOnly a b c e = refl
ended_answer BranchState.Prepared a b c e = refl

active_answer : (s : BranchState) (a b c : Answer) → is_active s ≡ true → by_state (Some s) a b c ≡ b
active_answer BranchState.Active a b c e = refl
active_answer BranchState.Idle a b c e = absurd (cc (e))
active_answer BranchState.RollbackOnly a b c e = absurd (cc (e))
active_answer BranchState.Prepared a b c e = absurd (cc (e))

-- an end of a branch that doesn't exist
pub end_absent : (t : TableState) (x : XidParts) (e : Ending) → branch_named t.branches x ≡ None
    → Steps t t x (end_action e) (Code code.Nota)
end_absent t x ending.Success none =
    undone_steps t x End (Code code.Nota) refl (keyless_answers t x End None (Code code.Nota) (λ _. refl) none refl)
end_absent t x ending.Fail none =
    undone_steps t x EndFail (Code code.Nota) refl (keyless_answers t x EndFail None (Code code.Nota) (λ _. refl) none refl)

-- of one that has ended
pub end_ended : (t : TableState) (x : XidParts) (e : Ending) (b : Branch) → branch_named t.branches x ≡ Some b → is_active b.state ≡ false
    → Steps t t x (end_action e) (Code code.Proto)
end_ended t x ending.Success b found ended =
    undone_steps t x End (Code code.Proto) refl
    (keyless_answers t x End (Some b) (Code code.Proto) (λ _. refl) found
    (ended_answer b.state (Code code.Nota) (Code code.Ok) (Code code.Proto) ended))
end_ended t x ending.Fail b found ended =
    undone_steps t x EndFail (Code code.Proto) refl
    (keyless_answers t x EndFail (Some b) (Code code.Proto) (λ _. refl) found
    (ended_answer b.state (Code code.Nota) (Code code.RbRollback) (Code code.Proto) ended))

in_another : (b : Branch) (s : BranchState)
    → SameView (view_or_none (Some (in_state s b)))
    (record { state = Some s; touched = λ key. has_key key b.keys; count = length b.keys; act = act_on b.keys })
in_another b s = record { state = refl; touched = λ _. refl; count = refl; act = λ _. refl }

-- an end
pub end_done : (old new : TableState) (x : XidParts) (e : Ending) (b : Branch) → branch_named old.branches x ≡ Some b
    → is_active b.state ≡ true
    → ChangesOnly old.branches new.branches x (Some (in_state (end_state e) b)) → new.rows ≡ old.rows
    → Steps old new x (end_action e) (Code (end_code e))
end_done old new x ending.Success b found active only same_rows =
    done_steps old new x End (Code code.Ok) (Some b) (Some (in_state BranchState.Idle b)) found only same_rows
    (record { done = refl; branch = refl; view = in_another b BranchState.Idle })
    (keyless_answers old x End (Some b) (Code code.Ok) (λ _. refl) found
    (active_answer b.state (Code code.Nota) (Code code.Ok) (Code code.Proto) active))
end_done old new x ending.Fail b found active only same_rows =
    done_steps old new x EndFail (Code code.RbRollback) (Some b) (Some (in_state BranchState.RollbackOnly b)) found only same_rows
    (record { done = refl; branch = refl; view = in_another b BranchState.RollbackOnly })
    (keyless_answers old x EndFail (Some b) (Code code.RbRollback) (λ _. refl) found
    (active_answer b.state (Code code.Nota) (Code code.RbRollback) (Code code.Proto) active))

-- ---- rollback

no_rollback : (s : BranchState) → can_be_rolled_back s ≡ false → rollback_answer (Some s) ≡ Code code.Proto
no_rollback BranchState.Active e = refl
no_rollback BranchState.Idle e = absurd (cc (e))
no_rollback BranchState.RollbackOnly e = absurd (cc (e))
no_rollback BranchState.Prepared e = refl

ended_rollback : (s : BranchState) → can_be_rolled_back s ≡ true → rollback_answer (Some s) ≡ Code code.Ok
ended_rollback BranchState.Active e = absurd (cc (e))
ended_rollback BranchState.Idle e = refl
ended_rollback BranchState.RollbackOnly e = refl
ended_rollback BranchState.Prepared e = absurd (cc (e))

-- a rollback of a branch that doesn't exist
pub rollback_absent : (t : TableState) (x : XidParts) → branch_named t.branches x ≡ None → Steps t t x Rollback (Code code.Nota)
rollback_absent t x none =
    undone_steps t x Rollback (Code code.Nota) refl (keyless_answers t x Rollback None (Code code.Nota) (λ _. refl) none refl)

-- of one that can't be rolled back
pub rollback_refused : (t : TableState) (x : XidParts) (b : Branch) → branch_named t.branches x ≡ Some b
    → can_be_rolled_back b.state ≡ false → Steps t t x Rollback (Code code.Proto)
rollback_refused t x b found e =
    undone_steps t x Rollback (Code code.Proto) refl
    (keyless_answers t x Rollback (Some b) (Code code.Proto) (λ _. refl) found (no_rollback b.state e))

-- a rollback
pub rollback_done : (old new : TableState) (x : XidParts) (b : Branch) → branch_named old.branches x ≡ Some b
    → can_be_rolled_back b.state ≡ true → ChangesOnly old.branches new.branches x None → new.rows ≡ old.rows
    → Steps old new x Rollback (Code code.Ok)
rollback_done old new x b found e only same_rows =
    done_steps old new x Rollback (Code code.Ok) (Some b) None found only same_rows
    (record { done = refl; branch = refl; view = same no_branch })
    (keyless_answers old x Rollback (Some b) (Code code.Ok) (λ _. refl) found (ended_rollback b.state e))

-- ---- what a call on a key meets

-- whether a branch may touch a key
abbrev has_room : Branch → List ℕ → Bool
has_room b key = has_key key b.keys || ltb (length b.keys) most_touched

module _ (bs : List Branch) (x : XidParts) (writes : Bool) (key : List ℕ) where
  abbrev IsBusy : Bool → Type 0
  IsBusy busy = Decides busy (IsHindered (hinders_use writes key) (view_named bs) x)

  -- what a branch answers, by its state
  touch_by : (busy : Bool) (o : Option Branch) (admitted : Answer) → branch_named bs x ≡ o
      → touch_answer (view_named bs x) busy key admitted ≡ touch_answer (view_or_none o) busy key admitted
  touch_by busy o admitted found = ap (λ v. touch_answer v busy key admitted) (shown bs x o found)

  -- a call about a key of a branch that doesn't exist
  pub denies_absent : (busy : Bool) → IsBusy busy → branch_named bs x ≡ None → Admits bs x writes key (Err (Code code.Nota))
  denies_absent busy is none = λ admitted. (busy, is, touch_by busy None admitted none)

  -- of one that has ended
  pub denies_ended : (busy : Bool) (b : Branch) → IsBusy busy → branch_named bs x ≡ Some b → is_active b.state ≡ false
      → Admits bs x writes key (Err (Code code.Proto))
  denies_ended busy b is found ended = λ admitted.
      (busy, is, touch_by busy (Some b) admitted found ∙ ended_answer b.state (Code code.Nota) _ (Code code.Proto) ended)

  active_touch : (busy : Bool) (b : Branch) (admitted : Answer) → branch_named bs x ≡ Some b → is_active b.state ≡ true
      → touch_answer (view_named bs x) busy key admitted ≡ cond busy (Refused Busy) (cond (has_room b key) admitted (Refused Full))
  active_touch busy b admitted found active =
      touch_by busy (Some b) admitted found ∙ active_answer b.state (Code code.Nota) _ (Code code.Proto) active

  -- of one that another hinders
  pub denies_hindered : (b : Branch) → IsBusy true → branch_named bs x ≡ Some b → is_active b.state ≡ true
      → Admits bs x writes key (Err (Refused Busy))
  denies_hindered b is found active = λ admitted. (true, is, active_touch true b admitted found active)

  -- of one that has no room
  pub denies_full : (b : Branch) → IsBusy false → branch_named bs x ≡ Some b → is_active b.state ≡ true → has_room b key ≡ false
      → Admits bs x writes key (Err (Refused Full))
  denies_full b is found active full = λ admitted.
      (false, is, active_touch false b admitted found active ∙ ap (λ r. cond r admitted (Refused Full)) full)

  not_hindered : IsBusy false → IsHindered (hinders_use writes key) (view_named bs) x → ⊥
  not_hindered is hindered = both_ways false refl (is.1 hindered)

  -- and one that is admitted
  pub admits : (b : Branch) (own : Hold) → IsBusy false → branch_named bs x ≡ Some b → is_active b.state ≡ true → has_room b key ≡ true
      → AreAscending b.keys → own ≡ hold_of b.keys key → Admits bs x writes key (Ok own)
  admits b own is found active room up held =
      (record { branch = b; found = found; active = active; free = not_hindered is; ascending = up; room = room }, held)

  -- one that is let in meets its own answer
  pub admitted_meets : IsAdmitted bs x writes key → (answer : Answer) → Meets bs x writes key answer answer
  admitted_meets is answer = (
    false,
    (λ e. absurd (cc (e)), λ hindered. absurd (is.free hindered)),
    active_touch false is.branch answer is.found is.active ∙ ap (λ r. cond r answer (Refused Full)) is.room,
  )

-- ---- a call on a key, whole

-- a call that notes an act on a key of a branch which shows so; it is answered like this where it is let in
pub record IsKeyCall (rows : List Row) (v : BranchView) (action : Action) (key : List ℕ) (act : Act) (answer : Answer) : Type 0 where
  pub key_is : key_of action ≡ Some key
  pub hindered : hinders action ≡ hinders_use (is_write act) key
  pub answers : (busy : Bool) → call_answer rows v busy action ≡ touch_answer v busy key answer
  pub done : is_done action answer ≡ true
  pub leaves : (w : BranchView) → view_after_done w action ≡ view_with_act w key act
  pub branch : (o : Option Branch) (x : XidParts) → option_map (with_act key act) o ≡ branch_done o x action

-- a put
pub put_call : (rows : List Row) (v : BranchView) (key value : List ℕ) → (key_fits key && value_fits value) ≡ true
    → IsKeyCall rows v (Put key value) key (Act.Put value) (Code code.Ok)
put_call rows v key value fits = record {
  key_is = refl;
  hindered = refl;
  answers = λ busy. rw fits refl;
  done = refl;
  leaves = λ w. refl;
  branch = λ o x. refl;
}

-- a delete
pub del_call : (rows : List Row) (v : BranchView) (key : List ℕ) → key_fits key ≡ true
    → IsKeyCall rows v (Del key) key Act.Del (Code code.Ok)
del_call rows v key fits = record {
  key_is = refl;
  hindered = refl;
  answers = λ busy. rw fits refl;
  done = refl;
  leaves = λ w. refl;
  branch = λ o x. refl;
}

found_done : (key : List ℕ) (o : Option (List ℕ)) → is_done (Get key) (get_answer o) ≡ true
found_done key (Some bytes) = refl
found_done key None = refl

-- a get
pub get_call : (rows : List Row) (v : BranchView) (key : List ℕ) → key_fits key ≡ true
    → IsKeyCall rows v (Get key) key Act.Read (get_answer (read_of rows v key))
get_call rows v key fits = record {
  key_is = refl;
  hindered = refl;
  answers = λ busy. rw fits refl;
  done = found_done key (read_of rows v key);
  leaves = λ w. refl;
  branch = λ o x. refl;
}

-- a call on a key isn't done where it is answered by one of these
record IsUndone (action : Action) : Type 0 where
  nota : is_done action (Code code.Nota) ≡ false
  proto : is_done action (Code code.Proto) ≡ false
  inval : is_done action (Code code.Inval) ≡ false
  busy : is_done action (Refused Busy) ≡ false
  full : is_done action (Refused Full) ≡ false

undone : (action : Action) (key : List ℕ) → key_of action ≡ Some key → IsUndone action
undone (Put k value) key e = record { nota = refl; proto = refl; inval = refl; busy = refl; full = refl }
undone (Del k) key e = record { nota = refl; proto = refl; inval = refl; busy = refl; full = refl }
undone (Get k) key e = record { nota = refl; proto = refl; inval = refl; busy = refl; full = refl }
undone Start key e = absurd (cc (e))
undone End key e = absurd (cc (e))
undone EndFail key e = absurd (cc (e))
undone Rollback key e = absurd (cc (e))

undone_by : (action : Action) (state : Option BranchState) (answer : Answer) → IsUndone action → is_done action answer ≡ false
    → is_done action (by_state state (Code code.Nota) answer (Code code.Proto)) ≡ false
undone_by action None answer none e = none.nota
undone_by action (Some BranchState.Active) answer none e = e
undone_by action (Some BranchState.Idle) answer none e = none.proto
undone_by action (Some BranchState.RollbackOnly) answer none e = none.proto
undone_by action (Some BranchState.Prepared) answer none e = none.proto

-- a call that is answered whatever it asks isn't done
denied_undone : (action : Action) (v : BranchView) (busy : Bool) (key : List ℕ) → IsUndone action
    → is_done action (touch_answer v busy key (Refused Busy)) ≡ false
denied_undone action v busy key none =
    let goal = λ (answer : Answer). is_done action answer ≡ false in
    undone_by action v.state _ none
    (cond_both busy _ _ goal (λ held. none.busy)
    (λ free. cond_both (v.touched key || ltb v.count most_touched) _ _ goal (λ room. none.busy) (λ no_room. none.full)))

-- a key or a value of a length that doesn't fit; busy says whether another branch hinders the call, which isn't looked at
pub key_inval : (t : TableState) (x : XidParts) (action : Action) (key : List ℕ) (busy : Bool)
    → Decides busy (IsHindered (hinders action) (view_named t.branches) x)
    → key_of action ≡ Some key → call_answer t.rows (view_named t.branches x) busy action ≡ Code code.Inval
    → Steps t t x action (Code code.Inval)
key_inval t x action key busy is key-is inval =
    undone_steps t x action (Code code.Inval) (undone action key key-is).inval (busy, is, sym inval)

-- a branch that is not there or not active, another one that hinders, or no room
pub key_denied : {action : Action} {key : List ℕ} {act : Act} {answer : Answer} (t : TableState) (x : XidParts) (denial : Answer)
    → IsKeyCall t.rows (view_named t.branches x) action key act answer → Admits t.branches x (is_write act) key (Err denial)
    → Steps t t x action denial
key_denied {action} {key} {act} {answer} t x denial call denies =
    let met = denies answer in
    let other = denies (Refused Busy) in
    undone_steps t x action denial
    (subst (λ (a : Answer). is_done action a ≡ false) other.2
    (denied_undone action (view_named t.branches x) other.0 key (undone action key call.key_is)))
    (met.0, rw call.hindered met.1, sym (call.answers met.0 ∙ met.2))

-- a call that is done
pub key_done : {action : Action} {key : List ℕ} {act : Act} {answer : Answer} (old new : TableState) (x : XidParts)
    → IsKeyCall old.rows (view_named old.branches x) action key act answer → IsAdmitted old.branches x (is_write act) key
    → Touches old new x key act → Steps old new x action answer
key_done {action} {key} {act} {answer} old new x call admitted touched =
    let b = admitted.branch in
    let met = admitted_meets old.branches x (is_write act) key admitted answer in
    let only = subst (λ o. ChangesOnly old.branches new.branches x (option_map (with_act key act) o)) admitted.found touched.branches in
    done_steps old new x action answer (Some b) (Some (with_act key act b)) admitted.found only touched.rows
    (record {
      done = call.done;
      branch = call.branch (Some b) x;
      view = rw (call.leaves (view_or_none (Some b)))
          (shows_touched b key act admitted.ascending);
    })
    (met.0, rw call.hindered met.1, sym (call.answers met.0 ∙ met.2))

-- ---- no key is held by two branches of which one has written it

-- branches stay apart, where what one holds now no other holds
pub apart_after : (old new : XidParts → BranchView) (x : XidParts) → AreHeldApart old → ((y : XidParts) → y ≢ x → new y ≡ old y)
    → ((y : XidParts) → y ≢ x → (key : List ℕ) → is_write ((new x).act key) ≡ true → (old y).touched key ≡ false)
    → ((y : XidParts) → y ≢ x → (key : List ℕ) → is_write ((old y).act key) ≡ true → (new x).touched key ≡ false)
    → AreHeldApart new
apart_after old new x apart others wrote touched y z differ key written = by (xid_eq y x) (xid_eq z x) refl refl
  where
    by : (a b : Bool) → xid_eq y x ≡ a → xid_eq z x ≡ b → (new z).touched key ≡ false
    by true true p q = absurd (differ ((xid_decides y x).0 p ∙ sym ((xid_decides z x).0 q)))
    by true false p q =
        let apart-z = xid_apart z x q in
        ap (λ v. v.touched key) (others z apart-z)
        ∙ wrote z apart-z key (subst (λ u. is_write ((new u).act key) ≡ true) ((xid_decides y x).0 p) written)
    by false true p q =
        let apart-y = xid_apart y x p in
        subst (λ u. (new u).touched key ≡ false) (sym ((xid_decides z x).0 q))
        (touched y apart-y key (ap (λ v. is_write (v.act key)) (sym (others y apart-y)) ∙ written))
    by false false p q =
        ap (λ v. v.touched key) (others z (xid_apart z x q))
        ∙ apart y z differ key (ap (λ v. is_write (v.act key)) (sym (others y (xid_apart y x p))) ∙ written)

-- a branch that has written a key has touched it
written_touched : (o : Option Branch) (key : List ℕ) → is_write ((view_or_none o).act key) ≡ true → (view_or_none o).touched key ≡ true
written_touched None key e = absurd (cc (e))
written_touched (Some b) key e = by (has_key key b.keys) refl
  where
    by : (h : Bool) → has_key key b.keys ≡ h → has_key key b.keys ≡ true
    by true h = h
    by false h = absurd (both_ways _ (ap is_write (untouched b.keys key h)) e)

-- a key that a branch has written is one that it has touched
pub shows_written : (bs : List Branch) (y : XidParts) (key : List ℕ) → is_write ((view_named bs y).act key) ≡ true
    → (view_named bs y).touched key ≡ true
shows_written bs y key e =
    ap (λ v. v.touched key) (view_of_named bs y)
    ∙ written_touched (branch_named bs y) key (ap (λ v. is_write (v.act key)) (sym (view_of_named bs y)) ∙ e)

-- a branch without keys, or none
pub apart_without : (old new : List Branch) (x : XidParts) (w : Option Branch) → AreHeldApart (view_named old) → ChangesOnly old new x w
    → ((key : List ℕ) → (view_or_none w).touched key ≡ false) → AreHeldApart (view_named new)
apart_without old new x w apart only none =
    apart_after (view_named old) (view_named new) x apart (others_shown old new x w only)
    (λ y differ key written.
    absurd (both_ways _ (ap (λ v. v.touched key) (shown new x w only.own) ∙ none key) (shows_written new x key written)))
    (λ y differ key written. ap (λ v. v.touched key) (shown new x w only.own) ∙ none key)

-- a branch with the keys that it had
pub apart_same : (old new : List Branch) (x : XidParts) (b c : Branch) → AreHeldApart (view_named old) → branch_named old x ≡ Some b
    → ChangesOnly old new x (Some c) → c.keys ≡ b.keys → AreHeldApart (view_named new)
apart_same old new x b c apart found only keys =
    apart_after (view_named old) (view_named new) x apart (others_shown old new x (Some c) only)
    (λ y differ key written.
    apart x y (λ e. differ (sym e)) key
    (ap (λ v. is_write (v.act key)) (shown old x (Some b) found) ∙ ap (λ ks. is_write (act_on ks key)) (sym keys)
    ∙ ap (λ v. is_write (v.act key)) (sym (shown new x (Some c) only.own)) ∙ written))
    (λ y differ key written.
    ap (λ v. v.touched key) (shown new x (Some c) only.own) ∙ ap (has_key key) keys
    ∙ ap (λ v. v.touched key) (sym (shown old x (Some b) found)) ∙ apart y x differ key written)

-- what isn't hindered, said of one other branch
pub free_of : (bs : List Branch) (x y : XidParts) (writes : Bool) (key : List ℕ)
    → (IsHindered (hinders_use writes key) (view_named bs) x → ⊥)
    → y ≢ x → hinders_use writes key (view_named bs y) ≡ false
free_of bs x y writes key free differ = false_from_ne_true _ (λ e. free (y, differ, e))

-- a branch with one more act on a key, which no other hinders
pub apart_touched : (old new : List Branch) (x : XidParts) (key : List ℕ) (act : Act) → AreHeldApart (view_named old)
    → IsAdmitted old x (is_write act) key → ChangesOnly old new x (option_map (with_act key act) (branch_named old x))
    → AreHeldApart (view_named new)
apart_touched old new x key act apart is only =
    apart_after (view_named old) (view_named new) x apart (others_shown old new x _ only) wrote touched
  where
    b : Branch
    b = is.branch

    now : view_named new x ≡ view_or_none (Some (with_act key act b))
    now = shown new x _ only.own ∙ ap (λ o. view_or_none (option_map (with_act key act) o)) is.found

    before : view_named old x ≡ view_or_none (Some b)
    before = shown old x (Some b) is.found

    -- another branch hasn't touched the key where this act writes it
    unwritten : (act : Act) (y : XidParts) → y ≢ x → (IsHindered (hinders_use (is_write act) key) (view_named old) x → ⊥)
        → is_write (last_act (act_on b.keys key) act) ≡ true → (view_named old y).touched key ≡ false
    unwritten Act.Read y differ free written =
        apart x y (λ e. differ (sym e)) key (ap (λ v. is_write (v.act key)) before ∙ written)
    unwritten (Act.Put v) y differ free written = free_of old x y true key free differ
    unwritten Act.Del y differ free written = free_of old x y true key free differ

    -- another branch hasn't written it
    unread : (act : Act) (y : XidParts) → y ≢ x → (IsHindered (hinders_use (is_write act) key) (view_named old) x → ⊥)
        → is_write ((view_named old y).act key) ≡ false
    unread Act.Read y differ free = free_of old x y false key free differ
    unread (Act.Put v) y differ free =
        false_from_ne_true _ (λ e. both_ways _ (free_of old x y true key free differ) (shows_written old y key e))
    unread Act.Del y differ free =
        false_from_ne_true _ (λ e. both_ways _ (free_of old x y true key free differ) (shows_written old y key e))

    wrote : (y : XidParts) → y ≢ x → (k : List ℕ) → is_write ((view_named new x).act k) ≡ true → (view_named old y).touched k ≡ false
    wrote y differ k written = by (bytes_eq key k) refl
      where
        acts : is_write (cond (bytes_eq key k) (last_act (act_on b.keys k) act) (act_on b.keys k)) ≡ true
        acts = ap is_write (sym (acts_touched b.keys key k act is.ascending)) ∙ ap (λ v. is_write (v.act k)) (sym now) ∙ written

        by : (e : Bool) → bytes_eq key k ≡ e → (view_named old y).touched k ≡ false
        by true e =
            let same_key = (bytes_eq-Decides key k).0 e in
            let at_key = sym (ap (λ t. is_write (cond t (last_act (act_on b.keys k) act) (act_on b.keys k))) e) ∙ acts in
            subst (λ (q : List ℕ). (view_named old y).touched q ≡ false) same_key
            (unwritten act y differ is.free
            (subst (λ (q : List ℕ). is_write (last_act (act_on b.keys q) act) ≡ true) (sym same_key) at_key))
        by false e =
            let at_key = sym (ap (λ t. is_write (cond t (last_act (act_on b.keys k) act) (act_on b.keys k))) e) ∙ acts in
            apart x y (λ same_name. differ (sym same_name)) k (ap (λ v. is_write (v.act k)) before ∙ at_key)

    touched : (y : XidParts) → y ≢ x → (k : List ℕ) → is_write ((view_named old y).act k) ≡ true → (view_named new x).touched k ≡ false
    touched y differ k written = ap (λ v. v.touched k) now ∙ has_touched b.keys key k act ∙ by (bytes_eq key k) refl
      where
        old_free : has_key k b.keys ≡ false
        old_free = ap (λ v. v.touched k) (sym before) ∙ apart y x differ k written

        by : (e : Bool) → bytes_eq key k ≡ e → (bytes_eq key k || has_key k b.keys) ≡ false
        by true e =
            let same_key = (bytes_eq-Decides key k).0 e in
            absurd (both_ways _ (unread act y differ is.free)
            (subst (λ (q : List ℕ). is_write ((view_named old y).act q) ≡ true) (sym same_key) written))
        by false e = ap (λ t. t || has_key k b.keys) e ∙ old_free
