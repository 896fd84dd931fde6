-- What a call meets before it is done.
use Rattle.std.specs.Prelude.{◌≡◌, ℕ, List, Some, Bool, true, false, ◌||◌, nat_lt, length, Result, Ok, Err}
use Rattle.std.specs.Bool.{Decides}
use Rattle.std.specs.Option.{option_map}
use Rattle.xid.specs.Limits.{most_touched}
use Rattle.xid.specs.Names.{XidParts}
use Rattle.xid.specs.declared.codes.XaCode.{XaCode}
use Rattle.xid.specs.declared.codes.XaCode.TheVariants as code
use Rattle.stable_record.specs.declared.fact.Act.{Act}
use Rattle.stable_record.specs.Facts.{AreAscending}
use Rattle.protocol.specs.declared.answers.Answer.{Answer}
use Rattle.protocol.specs.declared.requests.Action.{Action}
use Rattle.protocol.specs.declared.requests.Action.TheVariants.{End, EndFail}
use Rattle.protocol.specs.declared.states.BranchState.{BranchState}
use Rattle.protocol.specs.Branches.{hinders_use, touch_answer}
use Rattle.protocol.specs.Managers.{Branch, has_key, view_named}
use Rattle.branch_table.specs.OneCall.{IsHindered}
use Rattle.branch_table.specs.Parts.{hold_of}
use Rattle.branch_table.specs.declared.hold.Hold.{Hold}
use Rattle.branch_table.specs.TableStates.{TableState, ChangesOnly, branch_named, is_active, with_act}
use Rattle.branch_table.specs.declared.table.Access.{Access}
use Rattle.branch_table.specs.declared.table.Access.TheVariants as access
use Rattle.branch_table.specs.declared.table.Ending.{Ending}
use Rattle.branch_table.specs.declared.table.Ending.TheVariants as ending

-- the call that ends a branch so
abbrev pub end_action : Ending → Action
end_action ending.Success = End
end_action ending.Fail = EndFail

-- the state that it leaves
abbrev pub end_state : Ending → BranchState
end_state ending.Success = BranchState.Idle
end_state ending.Fail = BranchState.RollbackOnly

-- the code that it is answered with, once it is done
abbrev pub end_code : Ending → XaCode
end_code ending.Success = code.Ok
end_code ending.Fail = code.RbRollback

-- whether an access writes
abbrev pub is_writing : Access → Bool
is_writing access.Read = false
is_writing access.Write = true

-- a call that writes or reads a key gets this answer, where `admitted` is that of one which is let in
abbrev pub Meets : List Branch → XidParts → (writes : Bool) → (key : List ℕ) → (admitted answer : Answer) → Type 0
Meets branches x writes key admitted answer =
    (busy : Bool) × Decides busy (IsHindered (hinders_use writes key) (view_named branches) x)
    × (touch_answer (view_named branches x) busy key admitted ≡ answer)

-- a branch of x may use a key, to write it or to read it
pub record IsAdmitted (branches : List Branch) (x : XidParts) (writes : Bool) (key : List ℕ) : Type 0 where
  pub branch : Branch
  pub found : branch_named branches x ≡ Some branch
  pub active : is_active branch.state ≡ true
  pub free : IsHindered (hinders_use writes key) (view_named branches) x → ⊥
  pub ascending : AreAscending branch.keys
  pub room : (has_key key branch.keys || nat_lt (length branch.keys) most_touched) ≡ true

-- a call on a key is let in, with the hold that its branch has on the key, or gets an answer, whatever it asks
abbrev pub Admits : List Branch → XidParts → (writes : Bool) → List ℕ → Result Hold Answer → Type 0
Admits branches x writes key (Ok own) = (is : IsAdmitted branches x writes key) × (own ≡ hold_of is.branch.keys key)
Admits branches x writes key (Err answer) = (admitted : Answer) → Meets branches x writes key admitted answer

-- the branch of x has one more act on a key
pub record Touches (old new : TableState) (x : XidParts) (key : List ℕ) (act : Act) : Type 0 where
  pub branches : ChangesOnly old.branches new.branches x
      (option_map (with_act key act) (branch_named old.branches x))
  pub rows : new.rows ≡ old.rows
  pub looks : new.looks ≡ old.looks
