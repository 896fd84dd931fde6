-- In which state of its branch a call is done.
-- Needed by crates resource_manager, history, cluster, audit and cluster_run.
use Rattle.std.proofs.Common.{◌≡◌, ◌≢◌, Bool, true, false, if◌then◌else◌, List, Option, Some, None, refl, ap}
use Rattle.std.proofs.lemmas.Bool.{both_ways}
use Rattle.xid.specs.declared.codes.XaCode.TheVariants as code
use Rattle.protocol.specs.declared.states.BranchState.TheVariants.{Active, Idle, RollbackOnly, Prepared}
use Rattle.protocol.specs.Vocabulary.{BranchState, Action, Start, Put, Del, Get, End, EndFail, Rollback, Answer, Code, Row}
use Rattle.protocol.specs.Branches.{BranchView, by_state, rollback_answer, call_answer, is_done}
use Rattle.protocol.proofs.Manager.Apart.{start_by}

-- the state in which a call is done
abbrev pub IsReadyFor : Action → Option BranchState → Type 0
IsReadyFor Start state = state ≡ None
IsReadyFor Rollback state = state ≢ Some Prepared
IsReadyFor action state = state ≡ Some Active

unprepared_only : (state : Option BranchState) → is_done Rollback (rollback_answer state) ≡ true → state ≢ Some Prepared
unprepared_only state done e =
    both_ways (is_done Rollback (rollback_answer state)) (ap (λ (s : Option BranchState). is_done Rollback (rollback_answer s)) e) done

-- the answers of calls on branches that don't exist or were ended, and of keys that don't fit
abbrev NeverDone : Action → Type 0
NeverDone action =
    (is_done action (Code code.Nota) ≡ false) × (is_done action (Code code.Proto) ≡ false) × (is_done action (Code code.Inval) ≡ false)

active_only : (action : Action) (fits : Bool) (state : Option BranchState) (active : Answer) → NeverDone action
    → is_done action (if fits then by_state state (Code code.Nota) active (Code code.Proto) else Code code.Inval) ≡ true
    → state ≡ Some Active
active_only action false state active never done = absurd (both_ways _ never.2 done)
active_only action true None active never done = absurd (both_ways _ never.0 done)
active_only action true (Some Active) active never done = refl
active_only action true (Some Idle) active never done = absurd (both_ways _ never.1 done)
active_only action true (Some RollbackOnly) active never done = absurd (both_ways _ never.1 done)
active_only action true (Some Prepared) active never done = absurd (both_ways _ never.1 done)

-- a call that is done found its branch in that state
pub ready : (rows : List Row) (v : BranchView) (busy : Bool) (action : Action) → is_done action (call_answer rows v busy action) ≡ true
    → IsReadyFor action v.state
ready rows v busy Start done = start_by v.state done
ready rows v busy (Put key value) done = active_only (Put key value) _ v.state _ (refl, refl, refl) done
ready rows v busy (Del key) done = active_only (Del key) _ v.state _ (refl, refl, refl) done
ready rows v busy (Get key) done = active_only (Get key) _ v.state _ (refl, refl, refl) done
ready rows v busy End done = active_only End true v.state (Code code.Ok) (refl, refl, refl) done
ready rows v busy EndFail done = active_only EndFail true v.state (Code code.RbRollback) (refl, refl, refl) done
ready rows v busy Rollback done = unprepared_only v.state done
