-- Results, and one branch that is set among others.
use Rattle.std.proofs.Common.{◌≡◌, ◌∙◌, ℕ, Bool, true, false, ◌==◌, ◌&&◌, cond, List, Option, Some, Result, Ok, Err, refl, sym, ap, subst}
use Rattle.std.specs.Prelude.{IfOk, OnOk}
use Rattle.std.specs.Cmp.{unsigned_Decides}
use Rattle.std.specs.Option.{option_map}
use Rattle.std.proofs.lemmas.Bool.{and_parts}
use Rattle.xid.specs.declared.refusals.Refusal.{Refusal}
use Rattle.xid.proofs.Deciding.{xid_decides}
use Rattle.xid.specs.Names.{XidParts, xid_eq}
use Rattle.safety.specs.Vocabulary.{Action, Answer, Event, Ask, Call, R}
use Rattle.audit.specs.Stretches.{StretchParts, stretch_after}
use Rattle.audit.specs.ToldTables.{is_call_right, is_event_right}
use Rattle.audit.specs.Books.{rows_of, stretch_of, Called, Sets}
use Rattle.audit.specs.Following.{IsHappened}
use Rattle.audit.specs.declared.branches.Name.{Name}
use Rattle.audit.specs.declared.ledger.Ledger.{Ledger}

-- what follows from an Ok
pub on_ok : {A E : Type 0} (r : Result A E) (P Q : Type 0) → (P → Q) → OnOk r P → OnOk r Q
on_ok (Ok a) P Q follows h = follows h
on_ok (Err e) P Q follows h = tt

abbrev Entries : Type 0
Entries = List (Name × StretchParts)

-- a branch that was found is set to what a change makes of it
pub set_found : (old new : Entries) (rm : ℕ) (x : XidParts) (v w : StretchParts) (f : StretchParts → StretchParts)
    → Some v ≡ stretch_of old rm x → w ≡ f v
    → ((r : ℕ) (y : XidParts) → stretch_of new r y ≡ cond ((rm == r) && xid_eq x y) (Some w) (stretch_of old r y))
    → Sets old new rm x (option_map f (stretch_of old rm x))
set_found old new rm x v w f found is each r y =
    each r y
    ∙ ap (λ o. cond ((rm == r) && xid_eq x y) o (stretch_of old r y)) (ap Some is ∙ ap (option_map f) found)

-- the branch of a call is that of its name
same_branch : (branches : Entries) (rm : ℕ) (x : XidParts) (r : ℕ) (y : XidParts) (f : Option StretchParts → Option StretchParts)
    → cond ((rm == r) && xid_eq x y) (f (stretch_of branches rm x)) (stretch_of branches r y)
    ≡ cond ((rm == r) && xid_eq x y) (f (stretch_of branches r y)) (stretch_of branches r y)
same_branch branches rm x r y f = by ((rm == r) && xid_eq x y) refl
  where
    by : (b : Bool) → ((rm == r) && xid_eq x y) ≡ b
        → cond b (f (stretch_of branches rm x)) (stretch_of branches r y) ≡ cond b (f (stretch_of branches r y)) (stretch_of branches r y)
    by false e = refl
    by true e =
        let parts = and_parts (rm == r) (xid_eq x y) e in
        (λ i. f (stretch_of branches ((unsigned_Decides rm r).0 parts.0 i) ((xid_decides x y).0 parts.1 i)))

happened_by : (old new : Ledger) (answer : Answer) (rm : ℕ) (x : XidParts) (action : Action)
    → Called old.branches new.branches rm x action answer → new.tables ≡ old.tables → new.views ≡ old.views → new.firsts ≡ old.firsts
    → IsHappened old new (Ask (R rm) (Call x action)) answer
happened_by old new answer rm x action called tables views firsts = record {
  branches = λ r y. called r y ∙ same_branch old.branches rm x r y (stretch_after action answer);
  tables = tables;
  views = views;
  firsts = firsts;
}

-- a call that was taken is an event that was
pub called_so : (r : Result Bool Refusal) (old new : Ledger) (event : Event) (answer : Answer) (rm : ℕ) (x : XidParts) (action : Action)
    → event ≡ Ask (R rm) (Call x action)
    → IfOk r (λ yes. (yes ≡ is_call_right (rows_of old.tables rm) (stretch_of old.branches rm x) action answer)
    × (yes ≡ true → Called old.branches new.branches rm x action answer))
    → OnOk r ((new.tables ≡ old.tables) × (new.views ≡ old.views) × (new.firsts ≡ old.firsts))
    → IfOk r (λ yes. (yes ≡ is_event_right (rows_of old.tables) (stretch_of old.branches) event answer)
    × (yes ≡ true → IsHappened old new event answer))
called_so (Ok b) old new event answer rm x action is ok rest = (
  ok.0 ∙ ap (λ e. is_event_right (rows_of old.tables) (stretch_of old.branches) e answer) (sym is),
  λ t. subst (λ e. IsHappened old new e answer) (sym is) (happened_by old new answer rm x action (ok.1 t) rest.0 rest.1 rest.2),
)
called_so (Err e) old new event answer rm x action is ok rest = tt
