-- Events of a cluster one after another, and clusters whose records don't fail.
use Rattle.std.specs.Prelude.{◌≡◌, false, List, [], ◌∷◌}
use Rattle.std.specs.List.{All}
use Rattle.protocol.specs.declared.events.Step.{Step}
use Rattle.protocol.specs.Effects.{Config}
use Rattle.protocol.specs.Worlds.{Occurrence}
use Rattle.floors.specs.Worlds.{FlooredWorld, floored_trace, floored_world_after}
use Rattle.cluster.specs.Clusters.{ClusterParts, ClusterStands, Occurs}

-- these steps were made one after another, each handled as in a world with floors
abbrev pub HaveOccurred : (first : ClusterParts) → List Step → (last : ClusterParts) → Type 0
HaveOccurred first [] last = last ≡ first
HaveOccurred first (step ∷ steps) last = (next : ClusterParts) × Occurs step.event first next step × HaveOccurred next steps last

-- steps are those of a world with floors, under some faults, and the cluster stands for the world to which these events lead
pub record FollowMachine (config : Config) (world : FlooredWorld) (steps : List Step) (last : ClusterParts) : Type 0 where
  pub occurrences : List Occurrence
  pub steps_are : steps ≡ floored_trace config world occurrences
  pub stands : ClusterStands config last (floored_world_after config world occurrences)

-- none of a cluster's records may fail of itself
abbrev pub IsFirm : ClusterParts → Type 0
IsFirm cluster = All (λ floored. floored.node.held.nature.may_fail ≡ false) cluster.nodes
