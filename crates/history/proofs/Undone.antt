-- What is refused is no call that was done, and no restart.
-- Needed by Moves and Outages.
use Rattle.std.proofs.Common.{◌≡◌, ℕ, Bool, false, ◌&&◌, ◌==◌, if◌then◌else◌, Some, None, refl, ap}
use Rattle.xid.specs.Names.{XidParts, xid_eq}
use Rattle.xid.specs.declared.refusals.Refusal.{Refusal}
use Rattle.xid.specs.declared.codes.XaCode.TheVariants as codes
use Rattle.safety.specs.Vocabulary.{A, Action, Answer, Ask, Call, Code, Del, End, EndFail, Event, Get, L, Put, R, Recover, Refused}
use Rattle.safety.specs.Vocabulary.{Request, Restart, Rollback, Start, Timeout}
use Rattle.protocol.specs.Branches.{is_done}
use Rattle.history.specs.Calls.{call_done, is_restart}

-- an action that is refused is not done, and none is at a manager that is down
pub undone : (action : Action) (e : Refusal) → is_done action (Refused e) ≡ false
undone Start e = refl
undone (Put key value) e = refl
undone (Del key) e = refl
undone (Get key) e = refl
undone End e = refl
undone EndFail e = refl
undone Rollback e = refl

pub undone_down : (action : Action) → is_done action (Code codes.RmFail) ≡ false
undone_down Start = refl
undone_down (Put key value) = refl
undone_down (Del key) = refl
undone_down (Get key) = refl
undone_down End = refl
undone_down EndFail = refl
undone_down Rollback = refl

pub no_call_by : (rm q : ℕ) (x y : XidParts) (action : Action) (answer : Answer) → is_done action answer ≡ false
    → call_done rm x (Ask (R q) (Call y action)) answer ≡ None
no_call_by rm q x y action answer e = ap (λ (b : Bool). if b then if (q == rm) && xid_eq y x then Some action else None else None) e

pub no_call_refused : (rm : ℕ) (x : XidParts) (event : Event) (e : Refusal) → call_done rm x event (Refused e) ≡ None
no_call_refused rm x (Ask (R q) (Call y action)) e = no_call_by rm q x y action (Refused e) (undone action e)
no_call_refused rm x (Ask (R q) Recover) e = refl
no_call_refused rm x (Ask (R q) (Timeout tx)) e = refl
no_call_refused rm x (Ask (R q) (Request.View tx)) e = refl
no_call_refused rm x (Ask (R q) (Request.Commit tx)) e = refl
no_call_refused rm x (Ask (R q) (Request.Status tx)) e = refl
no_call_refused rm x (Ask (A a) request) e = refl
no_call_refused rm x (Ask (L l) request) e = refl
no_call_refused rm x event e = refl

pub no_restart_refused : (rm : ℕ) (event : Event) (e : Refusal) → is_restart rm event (Refused e) ≡ false
no_restart_refused rm (Restart (R q)) e = refl
no_restart_refused rm (Restart (A a)) e = refl
no_restart_refused rm (Restart (L l)) e = refl
no_restart_refused rm event e = refl
