-- What an event leaves of a cluster: how far its transactions moved, and what stands among them.
use Rattle.std.specs.Prelude.{◌≡◌, ◌≢◌, ◌⊎◌, ℕ, true, if◌then◌else◌, List, [], IsTrue, Option, Some, None, is_some}
use Rattle.std.specs.List.{All}
use Rattle.xid.specs.Names.{XidParts}
use Rattle.xid.specs.Transactions.{TxParts, is_participant}
use Rattle.xid.specs.declared.codes.XaCode.{XaCode}
use Rattle.xid.specs.declared.refusals.Refusal.{Refusal}
use Rattle.stable_record.specs.declared.fact.Act.{Act}
use Rattle.protocol.specs.declared.answers.Answer.TheVariants.{Code, Refused}
use Rattle.protocol.specs.declared.events.Event.{Event}
use Rattle.protocol.specs.declared.events.Event.TheVariants.{Ask, Restart}
use Rattle.protocol.specs.declared.events.Step.{Step}
use Rattle.protocol.specs.declared.nodes.NodeId.{NodeId}
use Rattle.protocol.specs.declared.nodes.NodeId.TheVariants.{R}
use Rattle.protocol.specs.declared.requests.Action.{Action}
use Rattle.protocol.specs.declared.requests.Request.TheVariants.{Call}
use Rattle.protocol.specs.declared.states.View.TheVariants as views
use Rattle.protocol.specs.Branches.{BranchView, no_branch}
use Rattle.protocol.specs.Effects.{Config}
use Rattle.protocol.specs.Facts.{bound_branches}
use Rattle.protocol.specs.Managers.{Branch, all_branches, view_named}
use Rattle.protocol.specs.Nodes.{NodeState, Fault}
use Rattle.protocol.specs.Tables.{with_writes, keys_voted}
use Rattle.protocol.specs.TCommit.{IsReady, IsCommitStep}
use Rattle.protocol.specs.Worlds.{World, node_at, table_at}
use Rattle.safety.specs.CommitSteps.{IsConsistent}
use Rattle.safety.specs.Runs.{views_in}
use Rattle.safety.specs.Standing.{facts_at}
use Rattle.history.specs.LookingBack.{write_by}
use Rattle.resource_manager.specs.Left.{AreAlike}
use Rattle.node_core.specs.Nodes.{Kept, Holds}
use Rattle.floors.specs.Worlds.{FlooredWorld, step_with_floors}
use Rattle.floors.specs.Runs.{IsFlooredReachable}
use Rattle.floored.specs.Nodes.{FlooredParts}
use Rattle.cluster.specs.Clusters.{ClusterParts, ClusterStands, OccursAs}

-- no transaction became committed at a resource manager, and its table is as it was
pub record IsKept (config : Config) (world next : World) (rm : ℕ) : Type 0 where
  pub views_are : (tx : TxParts) → views_in config next tx rm ≡ views.Committed → views_in config world tx rm ≡ views.Committed
  pub table_is : table_at config next rm ≡ table_at config world rm

-- one transaction became committed at a resource manager, which was prepared, and what its branch wrote went into the table: the last
-- acts on the keys with which its vote is stored
pub record IsWritten (config : Config) (world next : World) (rm : ℕ) : Type 0 where
  pub tx : TxParts
  pub was : views_in config world tx rm ≡ views.Prepared
  pub is : views_in config next tx rm ≡ views.Committed
  pub alone : (other : TxParts) → views_in config next other rm ≡ views.Committed → views_in config world other rm ≢ views.Committed
      → other ≡ tx
  pub table_is : table_at config next rm ≡ with_writes (table_at config world rm) (keys_voted (facts_at config world (R rm)) tx)

-- what a node's record has behind its floor is whole frames, what they keep plays in a cluster that is alike, and there is a tail only
-- while the node is down
pub record IsInOrder (config : Config) (floored : FlooredParts) : Type 0 where
  pub from : Config
  pub alike : AreAlike floored.node.who from config
  pub kept : Kept
  pub tail : List ℕ
  pub holds : Holds from floored.node.who floored.node.held.bytes kept tail
  pub up : is_some floored.node.role ≡ true → tail ≡ []

-- the branches of a resource manager, each with its last act on every key that it touched: those that are prepared, as their votes were
-- stored, and while it is up those in its memory
abbrev pub branches_kept : ℕ → Option NodeState → List Branch
branches_kept rm None = []
branches_kept rm (Some node) = all_branches rm (bound_branches node.facts) (if node.up then node.memory.branches else [])

-- how the branch of a name at a resource manager shows: its act on a key is what it keeps to be written there, if that isn't to read it
abbrev pub branch_kept : Config → World → ℕ → XidParts → BranchView
branch_kept config world rm x = view_named (branches_kept rm (node_at config world (R rm))) x

-- a step is a put or a delete of a key in a branch, which was answered ok
pub record IsAcceptedWrite (step : Step) (rm : ℕ) (x : XidParts) (key : List ℕ) (act : Act) : Type 0 where
  pub action : Action
  pub event_is : step.event ≡ Ask (R rm) (Call x action)
  pub writes : write_by action ≡ Some (record { key = key; act = act })
  pub answer_is : step.answer ≡ Code XaCode.Ok

-- what a step leaves kept for a branch on a key: what was kept, or what the step wrote, if it is a put or a delete that was answered ok;
-- unless there is no such branch any more
abbrev pub LeavesKept : Step → ℕ → XidParts → List ℕ → (before after : BranchView) → Type 0
LeavesKept step rm x key before after =
    (after.act key ≡ before.act key) ⊎ ((after ≡ no_branch) ⊎ IsAcceptedWrite step rm x key (after.act key))

-- from a world a step led to another, which a cluster stands for and which can come to be. Each transaction has moved by at most one step
-- of the specification; no participant is committed while another is aborted; one that became committed found each prepared; each table
-- has changed only where a view became committed, and by that branch's writes; nothing came to be kept for a branch but what a put or a
-- delete wrote that was answered ok; each record is in order; and no restart is refused as damaged
pub record IsSafeMove (config : Config) (world : FlooredWorld) (step : Step) (next : FlooredWorld) (new : ClusterParts) : Type 0 where
  pub reached : IsFlooredReachable config next
  pub stands : ClusterStands config new next
  pub moved : (tx : TxParts) → IsCommitStep (is_participant tx) (views_in config world.machine tx) (views_in config next.machine tx)
  pub consistent : (tx : TxParts) → IsConsistent (is_participant tx) (views_in config next.machine tx)
  pub found_prepared : (tx : TxParts) (r q : ℕ) → IsTrue (is_participant tx r) → IsTrue (is_participant tx q)
      → views_in config world.machine tx r ≢ views.Committed → views_in config next.machine tx r ≡ views.Committed
      → IsReady (views_in config world.machine tx q)
  pub tables : (rm : ℕ) → IsKept config world.machine next.machine rm ⊎ IsWritten config world.machine next.machine rm
  pub kept : (rm : ℕ) (x : XidParts) (key : List ℕ)
      → LeavesKept step rm x key (branch_kept config world.machine rm x) (branch_kept config next.machine rm x)
  pub records : All (IsInOrder config) new.nodes
  pub restarts : (who : NodeId) (fault : Fault) → (step_with_floors config next (Restart who) fault).answer ≢ Refused Refusal.Damaged

-- a cluster stood for a world that can come to be; an event was handled as there; and the one world to which that led it is a safe move
-- away
pub record MovesSafely (event : Event) (old new : ClusterParts) (step : Step) : Type 0 where
  pub config : Config
  pub world : FlooredWorld
  pub reached : IsFlooredReachable config world
  pub stood : ClusterStands config old world
  pub occurs : OccursAs config world event old new step
  pub safe : IsSafeMove config world step (step_with_floors config world event occurs.fault).world new
