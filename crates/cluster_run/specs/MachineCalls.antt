-- A client call of the machine as one call on branches. What it leaves is said of lists there, and of views here.
use Rattle.std.specs.Prelude.{◌≡◌, ℕ, Bool, true, List}
use Rattle.xid.specs.Names.{XidParts}
use Rattle.xid.specs.declared.codes.XaCode.TheVariants as code
use Rattle.protocol.specs.Basics.{Fact}
use Rattle.safety.specs.Vocabulary.{Action, Start, Answer, Code, Row}
use Rattle.protocol.specs.Facts.{bound_branches}
use Rattle.protocol.specs.Branches.{BranchView}
use Rattle.protocol.specs.Effects.{Effect}
use Rattle.protocol.specs.Managers.{Branch, all_branches, view_named}
use Rattle.branch_table.specs.OneCall.{Answers, Leaves}
use Rattle.protocol.specs.Holds.{AreInOrder}

-- how the branches of resource manager rm show, those that are prepared among them
abbrev pub branch_view : (rm : ℕ) → List Fact → List Branch → XidParts → BranchView
branch_view rm facts branches = view_named (all_branches rm (bound_branches facts) branches)

-- the effect of a call on branch x is that of one call: the answer that it gives, what that leaves, and the keys in order again
pub record IsOneCall (rm : ℕ) (facts : List Fact) (branches : List Branch) (x : XidParts) (action : Action)
    (e : Effect (List Branch)) : Type 0 where
  pub left : Leaves (branch_view rm facts branches) (branch_view rm facts e.memory) x action e.answer
  pub ordered : AreInOrder e.memory

-- the answer is that of the table of client calls; but of a spent name no branch can be started
abbrev pub AnswersNamed : (spent : Bool) → List Row → (XidParts → BranchView) → XidParts → Action → Answer → Type 0
AnswersNamed true rows at x Start answer = answer ≡ Code code.DupId
AnswersNamed spent rows at x action answer = Answers rows at x action answer
