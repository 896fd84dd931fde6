-- What contracts see of a resource manager, and which state of the machine it stands for.
use Rattle.std.specs.Prelude.{◌≡◌, ◌≢◌, ◌⊎◌, ℕ, ◌<◌, true, not, List, [], filter, Some, is_some, IfSome, Result, Ok, Err}
use Rattle.xid.specs.Names.{XidParts}
use Rattle.xid.specs.Transactions.{TxParts, xid_at}
use Rattle.xid.specs.declared.refusals.Refusal.{Refusal}
use Rattle.ballot.specs.Greatest.{IsIn}
use Rattle.stable_record.specs.declared.fact.FactKind.{FactKind as Fact}
use Rattle.protocol.specs.declared.answers.Answer.{Answer}
use Rattle.protocol.specs.declared.answers.Answer.TheVariants.{Stands, Refused}
use Rattle.protocol.specs.declared.decisions.Decision.{Decision}
use Rattle.protocol.specs.declared.nodes.NodeId.TheVariants.{R}
use Rattle.protocol.specs.declared.requests.Action.{Action}
use Rattle.protocol.specs.declared.states.BranchState.{BranchState}
use Rattle.protocol.specs.declared.states.View.{View}
use Rattle.protocol.specs.Effects.{Config, Effect, decision_of, view_standing}
use Rattle.protocol.specs.Facts.{is_spent, bound_branches, with_fact}
use Rattle.protocol.specs.Holds.{AreApart}
use Rattle.protocol.specs.Managers.{Branch, StoredVotes, stored_votes, all_branches, idle_keys, on_call, plays_at_manager}
use Rattle.protocol.specs.Nodes.{all_play, first_rows}
use Rattle.stable_record.specs.Parts.{Part}
use Rattle.protocol.specs.Tables.{table}
use Rattle.branch_table.specs.TableStates.{TableState, branch_named}
use Rattle.resource_manager.specs.Courses.{CoursesParts, IsSeen, course_in, stored_in, stored_by, begun_in}
use Rattle.resource_manager.specs.SpentNames.{SpentParts, is_spent_in}

-- which resource manager it is, of how many; how far each transaction has come, the spent names, and the branches with the table
pub record ManagerParts : Type 0 where
  pub number : ℕ
  pub managers : ℕ
  pub courses : CoursesParts
  pub spent : SpentParts
  pub table : TableState

-- all branches of a resource manager of the machine: those that its facts say are prepared, and the others
abbrev pub branches_in : ℕ → List Fact → List Branch → List Branch
branches_in number facts branches = all_branches number (bound_branches facts) branches

-- a resource manager is this one of a cluster, and stands for these facts, which played, and these branches that aren't prepared: of
-- each transaction the same is stored, they have come in the same order, the same names are spent, the rows are the same, and each name
-- has the same branch. No branch that isn't prepared has a spent name, or holds a key that another one writes
pub record StandsFor (config : Config) (number : ℕ) (m : ManagerParts) (facts : List Fact) (branches : List Branch) : Type 0 where
  pub number_is : m.number ≡ number
  pub managers_are : m.managers ≡ config.managers
  pub played : all_play config (R number) [] facts ≡ true
  pub apart : AreApart number facts branches
  pub unprepared : (branch : Branch) → IsIn branches branch → branch.state ≢ BranchState.Prepared
  pub stored_are : (tx : TxParts) → stored_in facts tx ≡ stored_by (course_in m.courses tx)
  pub begun_are : m.courses.begun ≡ begun_in facts
  pub spent_are : (x : XidParts) → is_spent number facts x ≡ is_spent_in m.spent x
  pub rows_are : m.table.rows ≡ table (first_rows config number) facts
  pub branches_are : (x : XidParts) → branch_named m.table.branches x ≡ branch_named (branches_in number facts branches) x

-- ---- decide, make ready, play

-- of some branches those whose names aren't spent: what a fact leaves of them
abbrev pub unspent_branches : ℕ → List Fact → List Branch → List Branch
unspent_branches number facts branches = filter (λ branch. not (is_spent number facts branch.xid)) branches

-- there are places for one fact more of a transaction
abbrev pub HasPlaces : ManagerParts → TxParts → Type 0
HasPlaces m tx = IsSeen m.courses tx × (0 < m.courses.room) × (0 < m.spent.room)

-- the name that a transaction has here, if it has one, has a branch
abbrev pub HasBranch : ManagerParts → TxParts → Type 0
HasBranch m tx = (x : XidParts) → xid_at tx m.number ≡ Some x → is_some (branch_named m.table.branches x) ≡ true

-- there are places for what a fact leaves. The branch of a prepared vote is none of them
abbrev pub HasRoomFor : ManagerParts → Fact → Type 0
HasRoomFor m (Fact.VotePrepared tx keys) = HasPlaces m tx
HasRoomFor m (Fact.VoteAborted tx) = HasPlaces m tx
HasRoomFor m (Fact.Aborted tx) = HasPlaces m tx
HasRoomFor m fact = Unit {0}

-- to play a fact takes no memory: there are places, and a prepared vote's branch is there
abbrev pub IsReadyFor : ManagerParts → Fact → Type 0
IsReadyFor m (Fact.VotePrepared tx keys) = HasPlaces m tx × HasBranch m tx
IsReadyFor m fact = HasRoomFor m fact

-- resource manager `number` of a cluster as a part of a node. In memory it has those of some branches whose names aren't spent
abbrev pub manager_part : (config : Config) (number : ℕ) → List Branch → Part ManagerParts
manager_part config number branches = record {
  StandsFor = λ m facts. StandsFor config number m facts (unspent_branches number facts branches);
  plays = λ facts fact. plays_at_manager number (stored_votes number facts) fact;
  IsReadyFor = IsReadyFor;
}

-- the same, made ready as far as it is asked to be: it has places for a fact
abbrev pub placed_part : (config : Config) (number : ℕ) → List Branch → Part ManagerParts
placed_part config number branches = record (manager_part config number branches) { IsReadyFor = HasRoomFor }

-- a prepared vote is of a branch that is idle with just its keys
abbrev pub IsOfIdleBranch : ℕ → List Branch → Fact → Type 0
IsOfIdleBranch number branches (Fact.VotePrepared tx keys) =
    (x : XidParts) × (xid_at tx number ≡ Some x) × (idle_keys branches x ≡ Some keys)
IsOfIdleBranch number branches fact = Unit {0}

-- a prepared vote is stored of a branch that is idle with just its keys; and where a record is replayed, there are none but prepared
-- branches
abbrev pub IsPlayable : ℕ → List Branch → Fact → Type 0
IsPlayable number branches (Fact.VotePrepared tx keys) =
    (branches ≡ []) ⊎ IsOfIdleBranch number branches (Fact.VotePrepared tx keys)
IsPlayable number branches fact = Unit {0}

-- a rule's decision: a fact of it plays, and in memory it leaves what the fact does
pub record IsDecision (number : ℕ) (facts : List Fact) (branches : List Branch) (decision : Decision)
    (effect : Effect (List Branch)) : Type 0 where
  pub effect_is : decision ≡ decision_of effect
  pub plays : IfSome decision.fact (λ fact. (plays_at_manager number (stored_votes number facts) fact ≡ true)
      × IsOfIdleBranch number branches fact)
  pub leaves : effect.memory ≡ unspent_branches number (with_fact facts decision.fact) branches

-- a rule of resource managers, at some input
abbrev pub Rule : Type 0
Rule = Config → (number : ℕ) → StoredVotes → List Branch → Effect (List Branch)

-- what a rule decides, for whatever the resource manager stands for
abbrev pub Decides : ManagerParts → Decision → Rule → Type 0
Decides m decision rule =
    (config : Config) (number : ℕ) (facts : List Fact) (branches : List Branch) → StandsFor config number m facts branches
    → IsDecision number facts branches decision (rule config number (stored_votes number facts) branches)

-- whatever one stands for, the other does
abbrev pub StandsForSame : (old new : ManagerParts) → Type 0
StandsForSame old new =
    (config : Config) (number : ℕ) (facts : List Fact) (branches : List Branch) → StandsFor config number old facts branches
    → StandsFor config number new facts branches

-- ---- client calls

-- what the machine makes of a client call
abbrev pub call_effect : Config → ℕ → List Fact → List Branch → XidParts → Action → Effect (List Branch)
call_effect config number facts branches x action =
    on_call number (stored_votes number facts) (table (first_rows config number) facts) branches x action

-- a client call got its answer, and has left what the machine's leaves
pub record IsCall (config : Config) (number : ℕ) (old new : ManagerParts) (x : XidParts) (action : Action) (answer : Answer) : Type 0 where
  pub answers : (facts : List Fact) (branches : List Branch) → StandsFor config number old facts branches
      → answer ≡ (call_effect config number facts branches x action).answer
  pub stands : (facts : List Fact) (branches : List Branch) → StandsFor config number old facts branches
      → StandsFor config number new facts (call_effect config number facts branches x action).memory

-- how a view is answered, or that it is refused
abbrev pub view_answer : Result View Refusal → Answer
view_answer (Ok view) = Stands (view_standing view)
view_answer (Err refusal) = Refused refusal
