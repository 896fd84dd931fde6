-- Events handed to a cluster one after another, and what they lead to where nothing but the machine's own tears hinders them.
use Rattle.std.specs.Prelude.{◌≡◌, ◌≢◌, ℕ, Bool, true, false, List, [], ◌∷◌, map}
use Rattle.std.specs.List.{AllByRecursion}
use Rattle.xid.specs.Places.{is_below}
use Rattle.xid.specs.Transactions.{TxParts}
use Rattle.xid.specs.declared.refusals.Refusal.TheVariants.{NoMemory}
use Rattle.protocol.specs.declared.answers.Answer.TheVariants.{Refused}
use Rattle.protocol.specs.declared.events.Event.{Event}
use Rattle.protocol.specs.declared.events.Step.{Step}
use Rattle.protocol.specs.declared.events.Event.TheVariants.{Ask}
use Rattle.protocol.specs.declared.nodes.NodeId.{NodeId}
use Rattle.protocol.specs.declared.nodes.NodeId.TheVariants.{L}
use Rattle.protocol.specs.declared.requests.Request.TheVariants.{Commit}
use Rattle.protocol.specs.Effects.{Config}
use Rattle.protocol.specs.Nodes.{NoFault, RecordFails}
use Rattle.floors.specs.Worlds.{FlooredWorld, step_with_floors}
use Rattle.floors.specs.Runs.{are_on, floored_after}
use Rattle.cluster.specs.Clusters.{ClusterParts, ClusterStands, Occurs, BefallsIn}

-- no step was refused memory
abbrev pub NoneWantsMemory : List Step → Type 0
NoneWantsMemory steps = AllByRecursion (λ step. step.answer ≢ Refused NoMemory) steps

-- these steps were made one after another, from a cluster that stands for a world: each handled as its event is in a world with floors,
-- none refused memory, and in none did a record fail of itself; a tear that is armed on one is the world's too
abbrev pub GoWell : Config → FlooredWorld → (first : ClusterParts) → List Step → (last : ClusterParts) → Type 0
GoWell config world first [] last = last ≡ first
GoWell config world first (step ∷ steps) last =
    (next : ClusterParts) × Occurs step.event first next step × (step.answer ≢ Refused NoMemory)
    × ((whole : Bool) → ¬ BefallsIn config world step.event first.nodes next.nodes (RecordFails whole))
    × GoWell config (step_with_floors config world step.event NoFault).world next steps last

-- no node that takes part has its floor above a transaction
abbrev pub NoneForgets : FlooredWorld → (NodeId → Bool) → TxParts → Type 0
NoneForgets world takes_part tx = (who : NodeId) → takes_part who ≡ true → is_below (world.floor who) tx ≡ false

-- the world after a client has asked a leader to commit a transaction
abbrev pub after_asked : Config → FlooredWorld → (leader : ℕ) → TxParts → FlooredWorld
after_asked config world l tx = (step_with_floors config world (Ask (L l) (Commit tx)) NoFault).world

-- events, each at a node that takes part, after which a world has a property; and a cluster that was handed them one after another, and
-- for which they went well, stands for that world
pub record LeadsOn (config : Config) (takes_part : NodeId → Bool) (tx : TxParts) (P : FlooredWorld → Type 0) (world : FlooredWorld)
    (first : ClusterParts) : Type 0 where
  pub events : List Event
  pub at : are_on config takes_part tx world events ≡ true
  pub holds : P (floored_after config world events)
  pub leads : (last : ClusterParts) (steps : List Step) → map (λ step. step.event) steps ≡ events → GoWell config world first steps last
      → ClusterStands config last (floored_after config world events)
