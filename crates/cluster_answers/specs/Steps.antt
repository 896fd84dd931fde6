-- Answers of leaders among a cluster's steps and among what happened in groups, and where steps end.
use Rattle.std.specs.Prelude.{◌≡◌, ◌⊎◌, ℕ, List, ◌∷◌}
use Rattle.ballot.specs.Greatest.{IsIn}
use Rattle.xid.specs.Transactions.{TxParts}
use Rattle.protocol.specs.declared.events.Step.{Step}
use Rattle.protocol.specs.declared.states.Standing.{Standing}
use Rattle.safety.specs.Vocabulary.{L, Request, Stands}
use Rattle.protocol.specs.Effects.{Config}
use Rattle.protocol.specs.Nodes.{Input, Asked}
use Rattle.protocol.specs.Worlds.{World}
use Rattle.answers.specs.Answers.{IsQuestion}
use Rattle.floors.specs.Worlds.{FlooredWorld, floored_world_after}
use Rattle.node_core.specs.declared.output.Output.{Output}
use Rattle.cluster.specs.Clusters.{ClusterParts}
use Rattle.cluster.specs.Runs.{FollowMachine}
use Rattle.groups.specs.Runs.{Happening, Handled, IsReached, all_happened}

-- steps end in the world to which their events lead: the cluster stands for it, and what of it is the machine's has a property
pub record EndIn (config : Config) (world : FlooredWorld) (steps : List Step) (last : ClusterParts) (P : World → Type 0) : Type 0 where
  pub follow : FollowMachine config world steps last
  pub holds : P (floored_world_after config world follow.occurrences).machine

-- what happened is that leader l was asked to commit a transaction or for its status, and answered so
pub record TellsIn (l : ℕ) (tx : TxParts) (standing : Standing) (happened : Happening) : Type 0 where
  pub request : Request
  pub asks : IsQuestion tx request
  pub is : happened ≡ Handled (L l) (Asked request) (Stands standing)

-- among what happened in a cluster whose nodes work in groups is such an answer
pub record HasTold (config : Config) (world : World) (l : ℕ) (tx : TxParts) (standing : Standing) : Type 0 where
  pub reach : IsReached config world
  pub told : Happening
  pub among : IsIn (all_happened config world reach) told
  pub tells : TellsIn l tx standing told

-- one of the inputs of a group is such a request, whose output answers it so
abbrev pub IsToldAmong : TxParts → Standing → List Input → List Output → Type 0
IsToldAmong tx standing (input ∷ inputs) (out ∷ outs) =
    ((request : Request) × (input ≡ Asked request) × IsQuestion tx request × (out.reply ≡ Stands standing))
    ⊎ IsToldAmong tx standing inputs outs
IsToldAmong tx standing inputs outs = ⊥
