-- A node that stood for a node of the machine still does.
-- Needed by `Node::step_into`; Grouped.
use Rattle.std.proofs.Common.{◌≡◌, ℕ, true, Option, Some, None, refl, sym, ap, subst}
use Rattle.stable_record.specs.declared.fact.FactKind.{FactKind as Fact}
use Rattle.stable_record.specs.Held.{Held}
use Rattle.protocol.specs.Effects.{Config}
use Rattle.protocol.specs.Nodes.{NodeState, Input, node_step, Fault, NoFault, NoMemoryBefore, NoMemoryAt, RecordFails}
use Rattle.node_core.specs.declared.output.Output.{Output}
use Rattle.node_core.specs.declared.role.Role.{Role}
use Rattle.node_core.specs.Nodes.{AreSizes, Stands, Steps, StepsFreely, StepsAs, NodeParts, NodeStands, IsSound, HasMet, Befalls}
use Rattle.node_core.specs.Nodes.{fact_to_store}
use Rattle.node_core.specs.Sparing.{is_free}

-- ---- whether the record may fail of itself stays

met_nature : (armed : Option ℕ) (fact : Fact) (old new : Held) → HasMet armed fact old new → new.nature ≡ old.nature
met_nature None fact old new met = met.nature
met_nature (Some n) fact old new met = met.nature

-- what befalls a record leaves its nature
pub step_nature : (fact : Option Fact) (old new : Held) (fault : Fault) → Befalls fact old new fault → new.nature ≡ old.nature
step_nature fact old new NoMemoryBefore b = absurd b
step_nature fact old new NoMemoryAt b = ap (λ (r : Held). r.nature) b
step_nature None old new NoFault b = ap (λ (r : Held). r.nature) b
step_nature None old new (RecordFails whole) b = absurd b
step_nature (Some fact) old new NoFault b = met_nature old.armed fact old new b
step_nature (Some fact) old new (RecordFails whole) b = b.1.stopped.nature

-- ---- the whole node

module _ (node : NodeParts) (held : Held) (role : Option Role) where
  abbrev with_state : NodeParts
  with_state = record { who = node.who; sizes = node.sizes; rows = node.rows; held = held; role = role }

  -- a sound node is sound after a step
  pub sound_step : (input : Input) (out : Output) → IsSound node
      → ((config : Config) (m : NodeState) → AreSizes config node.sizes → Stands config node.who node.rows node.held node.role m
      → Steps config node.who node.rows m input node.held held role out) → IsSound with_state
  sound_step input out sound steps =
      let s = steps sound.config sound.state sound.is.sizes_are sound.is.stands in
      record {
        sized = sound.sized;
        among = sound.among;
        short = sound.short;
        config = sound.config;
        state = (node_step sound.config node.who sound.state input s.fault).node;
        is = record { sizes_are = sound.is.sizes_are; stands = s.shows.stands };
      }

  -- a step of the parts is a step of the node
  pub steps_as : (config : Config) (m : NodeState) (input : Input) (out : Output)
      → Steps config node.who node.rows m input node.held held role out
      → (is_free node.who input ≡ true → fact_to_store config node.who m input ≡ None
      → StepsFreely config node.who node.rows m input node.held held role out)
      → StepsAs config m input node with_state out
  steps_as config m input out s free = record {
    same = record {
      who_is = refl;
      sizes_are = refl;
      rows_are = refl;
      nature_is = step_nature (fact_to_store config node.who m input) node.held held s.fault s.befalls;
    };
    steps = s;
    free = free;
  }

-- the same of the node as it is seen
pub steps_from : (inside old new : NodeParts) (input : Input) (out : Output) → inside ≡ old
    → ((config : Config) (m : NodeState) → NodeStands config inside m → StepsAs config m input inside new out)
    → (config : Config) (m : NodeState) → NodeStands config old m → StepsAs config m input old new out
steps_from inside old new input out is h config m s =
    subst (λ o. StepsAs config m input o new out) is (h config m (subst (λ o. NodeStands config o m) (sym is) s))
