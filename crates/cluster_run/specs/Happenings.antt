-- What the commands of a script make happen in its cluster, event by event.
use Rattle.std.specs.Prelude.{◌≡◌, ◌⊎◌, ℕ, ◌≤◌, List, [], ◌∷◌, ◌++◌, length, Some, None}
use Rattle.safety.specs.Vocabulary.{Deliver}
use Rattle.protocol.specs.Effects.{Config}
use Rattle.protocol.specs.Nodes.{Fault, NoFault, RecordFails}
use Rattle.protocol.specs.Worlds.{Occurrence}
use Rattle.floors.specs.Worlds.{FlooredWorld, floored_world_after, step_with_floors}
use Rattle.network.specs.Networks.{least_unmarked}
use Rattle.net_script.specs.declared.values.Command.{Command}
use Rattle.net_script.specs.declared.values.Command.TheVariants.{Do, Flow}

-- a fault is none, or want of memory: a record in memory never fails of itself
abbrev pub IsOfMemory : Fault → Type 0
IsOfMemory (RecordFails whole) = ⊥
IsOfMemory fault = Unit {0}

-- the fault of each event is such
abbrev pub AreOfMemory : List Occurrence → Type 0
AreOfMemory [] = Unit {0}
AreOfMemory (first ∷ rest) = IsOfMemory first.fault × AreOfMemory rest

-- no event meets a fault
abbrev pub AreUnmet : List Occurrence → Type 0
AreUnmet [] = Unit {0}
AreUnmet (first ∷ rest) = (first.fault ≡ NoFault) × AreUnmet rest

-- an event delivers the datagram of least number that isn't marked
abbrev pub IsNext : FlooredWorld → Occurrence → Type 0
IsNext world next = (number : ℕ) × (least_unmarked world.machine.net ≡ Some number) × (next.event ≡ Deliver number)

-- each of some events does, in the world that those before it left
abbrev pub AreNext : Config → FlooredWorld → List Occurrence → Type 0
AreNext config world [] = Unit {0}
AreNext config world (first ∷ rest) =
    IsNext world first × AreNext config (step_with_floors config world first.event first.fault).world rest

-- a flow: at most so many deliveries, each of the datagram of least number that isn't marked then, and fewer only where none is left
pub record IsFlow (config : Config) (world : FlooredWorld) (count : ℕ) (happened : List Occurrence) : Type 0 where
  pub next : AreNext config world happened
  pub at_most : length happened ≤ count
  pub ends : (length happened ≡ count) ⊎ (least_unmarked (floored_world_after config world happened).machine.net ≡ None)

-- what a command makes happen: its event, with whatever fault, or a flow
abbrev pub IsDoneBy : Config → FlooredWorld → Command → List Occurrence → Type 0
IsDoneBy config world (Do event) happened = (fault : Fault) × (happened ≡ record { event = event; fault = fault } ∷ [])
IsDoneBy config world (Flow count) happened = IsFlow config world count happened

-- what commands make happen, one after another
abbrev pub AreDoneBy : Config → FlooredWorld → List Command → List Occurrence → Type 0
AreDoneBy config world [] happened = happened ≡ []
AreDoneBy config world (command ∷ commands) happened =
    (first : List Occurrence) × (rest : List Occurrence) × (happened ≡ first ++ rest) × IsDoneBy config world command first
    × AreDoneBy config (floored_world_after config world first) commands rest
