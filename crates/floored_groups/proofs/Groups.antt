-- A group under a floor does what the group of those of its inputs does that aren't below it. Worlds with floors are then worlds of groups.
-- Needed by `groups_with_floors_are_groups`; Reached.
use Rattle.std.proofs.Common.{◌≡◌, ◌∙◌, Bool, true, false, if◌then◌else◌, List, [], ◌∷◌, ◌++◌, Option, refl, sym, ap}
use Rattle.std.specs.List.{AllByRecursion, flat_map}
use Rattle.std.proofs.lemmas.Bool.{cond-true, cond-false}
use Rattle.xid.specs.Places.{Place}
use Rattle.protocol.specs.declared.decisions.Outgoing.{Outgoing}
use Rattle.protocol.specs.declared.nodes.NodeId.{NodeId}
use Rattle.protocol.specs.Effects.{Config}
use Rattle.protocol.specs.Nodes.{NodeState, Outcome, node_step}
use Rattle.protocol.specs.Worlds.{World, datagrams_of}
use Rattle.groups.specs.Runs.{Handed, CanBeHanded, Happening, Handled as Took, node_after, sends_after, handled_in, group_result}
use Rattle.groups.proofs.Steps.{put}
use Rattle.floors.specs.Nodes.{floored_node_step, is_input_below}
use Rattle.floors.proofs.Nodes.{below_stays, above_is}
use Rattle.floors.proofs.Refusing.{below_silent}
use Rattle.floored_groups.specs.Runs.{above_floor, floored_node_after, floored_sends_after, floored_group_machine, handled_above}

-- ---- a group

-- what a group comes to under a floor is what the group above it comes to
record ComesAbove (config : Config) (who : NodeId) (floor : Option Place) (node : NodeState) (group : List Handed) : Type 0 where
  pub node_is : floored_node_after config who floor node group ≡ node_after config who node (above_floor floor group)
  pub sends_are : floored_sends_after config who floor node group ≡ sends_after config who node (above_floor floor group)
  pub handled_is : handled_above config who floor node group ≡ handled_in config who node (above_floor floor group)

module _ (config : Config) (who : NodeId) (floor : Option Place) where
  comes_above : (group : List Handed) (node : NodeState) → ComesAbove config who floor node group
  comes_above [] node = record { node_is = refl; sends_are = refl; handled_is = refl }
  comes_above (first ∷ rest) node = by_test (λ n. comes_above rest n) (is_input_below floor first.input) refl
    where
      taken : Outcome
      taken = floored_node_step config who floor node first.input first.fault

      step : Outcome
      step = node_step config who node first.input first.fault

      by_test : ((n : NodeState) → ComesAbove config who floor n rest) → (t : Bool) → is_input_below floor first.input ≡ t
          → ComesAbove config who floor node (first ∷ rest)
      by_test later true e =
          let stays = below_stays config who floor node first.input first.fault e in
          let c = later node in
          let left : above_floor floor (first ∷ rest) ≡ above_floor floor rest =
          cond-true (is_input_below floor first.input) (above_floor floor rest) (first ∷ above_floor floor rest) e in record {
            node_is =
                ap (λ (n : NodeState). floored_node_after config who floor n rest) stays ∙ c.node_is
                ∙ ap (node_after config who node) (sym left);
            sends_are =
                ap (λ (sends : List Outgoing). sends ++ floored_sends_after config who floor taken.node rest)
                (below_silent config who floor node first.input first.fault e)
                ∙ ap (λ (n : NodeState). floored_sends_after config who floor n rest) stays ∙ c.sends_are
                ∙ ap (sends_after config who node) (sym left);
            handled_is =
                cond-true (is_input_below floor first.input) (handled_above config who floor taken.node rest)
                (Took who first.input taken.answer ∷ handled_above config who floor taken.node rest) e
                ∙ ap (λ (n : NodeState). handled_above config who floor n rest) stays ∙ c.handled_is
                ∙ ap (handled_in config who node) (sym left);
          }
      by_test later false e =
          let is = above_is config who floor node first.input first.fault e in
          let c = later step.node in
          let left : above_floor floor (first ∷ rest) ≡ first ∷ above_floor floor rest =
          cond-false (is_input_below floor first.input) (above_floor floor rest) (first ∷ above_floor floor rest) e in record {
            node_is =
                ap (λ (o : Outcome). floored_node_after config who floor o.node rest) is ∙ c.node_is
                ∙ ap (node_after config who node) (sym left);
            sends_are =
                ap (λ (o : Outcome). o.sends ++ floored_sends_after config who floor o.node rest) is
                ∙ ap (λ (sends : List Outgoing). step.sends ++ sends) c.sends_are ∙ ap (sends_after config who node) (sym left);
            handled_is =
                cond-false (is_input_below floor first.input) (handled_above config who floor taken.node rest)
                (Took who first.input taken.answer ∷ handled_above config who floor taken.node rest) e
                ∙ ap (λ (o : Outcome). Took who first.input o.answer ∷ handled_above config who floor o.node rest) is
                ∙ ap (λ (h : List Happening). Took who first.input step.answer ∷ h) c.handled_is
                ∙ ap (handled_in config who node) (sym left);
          }

  -- in the machine a group under a floor is a group
  pub is_group : (world : World) (node : NodeState) (group : List Handed) (is_stored : Bool)
      → floored_group_machine config world who floor node group is_stored
      ≡ group_result config world who node (above_floor floor group) is_stored
  is_group world node group is_stored = λ i. record {
    nodes = put config who ((comes_above group node).node_is i) world.nodes;
    net = if is_stored then world.net ++ flat_map (datagrams_of config who) ((comes_above group node).sends_are i) else world.net;
  }

  -- and what happened is what happened of those above it
  pub is_handled : (node : NodeState) (group : List Handed)
      → handled_above config who floor node group ≡ handled_in config who node (above_floor floor group)
  is_handled node group = (comes_above group node).handled_is

  -- those above it could be handed too
  pub all_above : (world : World) (group : List Handed) → AllByRecursion (λ (h : Handed). CanBeHanded world who h.input) group
      → AllByRecursion (λ (h : Handed). CanBeHanded world who h.input) (above_floor floor group)
  all_above world [] all = tt
  all_above world (first ∷ rest) all = by_test (all_above world rest all.1) (is_input_below floor first.input)
    where
      by_test : AllByRecursion (λ (h : Handed). CanBeHanded world who h.input) (above_floor floor rest) → (t : Bool)
          → AllByRecursion (λ (h : Handed). CanBeHanded world who h.input)
          (if t then above_floor floor rest else first ∷ above_floor floor rest)
      by_test later true = later
      by_test later false = (all.0, later)

  -- a group and another input
  pub above_append : (before more : List Handed)
      → above_floor floor (before ++ more) ≡ above_floor floor before ++ above_floor floor more
  above_append [] more = refl
  above_append (first ∷ rest) more = by_test (above_append rest more) (is_input_below floor first.input)
    where
      by_test : above_floor floor (rest ++ more) ≡ above_floor floor rest ++ above_floor floor more → (t : Bool)
          → (if t then above_floor floor (rest ++ more) else first ∷ above_floor floor (rest ++ more))
          ≡ (if t then above_floor floor rest else first ∷ above_floor floor rest) ++ above_floor floor more
      by_test later true = later
      by_test later false = ap (λ (hs : List Handed). first ∷ hs) later
