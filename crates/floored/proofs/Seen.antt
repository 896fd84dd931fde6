-- What is said of a node with a floor, of the node as its callers see it.
-- Needed by 5 functions of this crate; crates cluster and port.
use Rattle.std.proofs.Common.{◌≡◌, ◌∙◌, Bool, true, false, List, Option, Some, None, is_some, is_none, refl, sym, ap, subst}
use Rattle.std.specs.Prelude.{Result, Ok, Err}
use Rattle.xid.specs.Places.{Place, is_lower}
use Rattle.xid.specs.declared.refusals.Refusal.{Refusal}
use Rattle.stable_record.specs.declared.record.RecordError.{RecordError}
use Rattle.stable_record.specs.Held.{HasRead, Held, refusal_of}
use Rattle.protocol.specs.Effects.{Config}
use Rattle.protocol.specs.Nodes.{Input, NodeState}
use Rattle.node_core.specs.declared.output.Output.{Output}
use Rattle.node_core.specs.declared.role.Role.{Role}
use Rattle.node_core.specs.Compacting.{CompactsAs}
use Rattle.node_core.specs.Groups.{GroupsAs}
use Rattle.node_core.specs.Nodes.{NodeParts, NodeStands, StepsAs}
use Rattle.node_core.specs.Opening.{RestartsAs}
use Rattle.node_core.specs.Raising.{RaisesAs}
use Rattle.node_core.specs.Storing.{output_of}
use Rattle.floors.specs.Nodes.{forgotten_answer}
use Rattle.floored.specs.Nodes.{FlooredCompacts, FlooredGroupsAs, FlooredParts, FlooredRaises, FlooredRestarts, FlooredStands}
use Rattle.floored.specs.Nodes.{FlooredStepsAs, RaisesNode, IsFlooredSound, are_above, floor_before, is_over, with_floor}
use Rattle.floored.proofs.Grouping.{groups_from}
use Rattle.floored.proofs.Handling.{passed_from, stepped_from}
use Rattle.floored.proofs.Restarting.{compacts_from, restarts_from, stopped_node, unread_from}
use Rattle.floored.proofs.Rising.{raises_from}

pub is_up : (role : Option Role) → is_none role ≡ false → is_some role ≡ true
is_up None up = absurd (cc (up))
is_up (Some role) up = refl

pub is_down : (role : Option Role) → is_none role ≡ true → is_some role ≡ false
is_down None down = refl
is_down (Some role) down = absurd (cc (down))

-- while it is up, the floor that it knows is the one in front
pub lower_now : (known : Option Place) (node : NodeParts) (now : FlooredParts) (place : Place) (down higher test : Bool)
    → with_floor node ≡ now → IsFlooredSound known node → down ≡ is_none now.node.role → down ≡ false
    → higher ≡ is_lower known (Some place) → higher ≡ test
    → is_lower (floor_before node.held) (Some place) ≡ test
lower_now known node now place down higher test is sound told up asked high =
    let role = ap (λ (f : FlooredParts). is_none f.node.role) is ∙ sym told ∙ up in
    ap (λ (f : Option Place). is_lower f (Some place)) (sym (sound.known_is (is_up node.role role))) ∙ sym asked ∙ high

-- it is up where its callers see that it isn't down
pub up_now : (node : NodeParts) (now : FlooredParts) (down : Bool) → with_floor node ≡ now → down ≡ is_none now.node.role → down ≡ false
    → is_some node.role ≡ true
up_now node now down is told up = is_up node.role (ap (λ (f : FlooredParts). is_none f.node.role) is ∙ sym told ∙ up)

-- ---- what comes of it

module _ (old : NodeParts) (now : FlooredParts) (is : with_floor old ≡ now) where
  pub passed_seen : (input : Input) (out : Output) → is_over now.node.who now.floor now.node.role input ≡ true
      → out ≡ output_of (forgotten_answer input) None → (config : Config) (m : NodeState) → FlooredStands config now m
      → FlooredStepsAs config m input now now out
  passed_seen input out over answer =
      subst (λ (f : FlooredParts). is_over f.node.who f.floor f.node.role input ≡ true → (config : Config) (m : NodeState)
      → FlooredStands config f m → FlooredStepsAs config m input f f out) is (λ o. passed_from old input out o answer) over

  pub stepped_seen : (new : NodeParts) (input : Input) (out : Output) → is_over now.node.who now.floor now.node.role input ≡ false
      → ((config : Config) (m : NodeState) → NodeStands config old m → StepsAs config m input old new out)
      → (config : Config) (m : NodeState) → FlooredStands config now m → FlooredStepsAs config m input now (with_floor new) out
  stepped_seen new input out over steps =
      subst (λ (f : FlooredParts). is_over f.node.who f.floor f.node.role input ≡ false → (config : Config) (m : NodeState)
      → FlooredStands config f m → FlooredStepsAs config m input f (with_floor new) out) is
      (λ o. stepped_from old new input out o steps) over

  -- whether it is over, of the node itself
  pub over_inside : (input : Input) (t : Bool) → is_over now.node.who now.floor now.node.role input ≡ t
      → is_over old.who (floor_before old.held) old.role input ≡ t
  over_inside input t over = ap (λ (f : FlooredParts). is_over f.node.who f.floor f.node.role input) is ∙ over

  pub above_inside : (inputs : List Input) → are_above now.floor inputs ≡ true → are_above (floor_before old.held) inputs ≡ true
  above_inside inputs high = ap (λ (f : FlooredParts). are_above f.floor inputs) is ∙ high

  pub groups_seen : (new : NodeParts) (inputs : List Input) (outs : List Output) (result : Result (Unit {0}) RecordError)
      → are_above now.floor inputs ≡ true
      → ((config : Config) (m : NodeState) → NodeStands config old m → GroupsAs config m inputs old new outs result)
      → (config : Config) (m : NodeState) → FlooredStands config now m
      → FlooredGroupsAs config m inputs now (with_floor new) outs result
  groups_seen new inputs outs result high groups =
      subst (λ (f : FlooredParts). (config : Config) (m : NodeState) → FlooredStands config f m
      → FlooredGroupsAs config m inputs f (with_floor new) outs result) is
      (groups_from old new inputs outs result (above_inside inputs high) groups)

  pub compacts_seen : (new : NodeParts) (result : Result (Unit {0}) Refusal)
      → ((config : Config) (m : NodeState) → NodeStands config old m → CompactsAs config m old new result)
      → (config : Config) (m : NodeState) → FlooredStands config now m → FlooredCompacts config m now (with_floor new) result
  compacts_seen new result compacts =
      subst (λ (f : FlooredParts). (config : Config) (m : NodeState) → FlooredStands config f m
      → FlooredCompacts config m f (with_floor new) result) is (compacts_from old new result compacts)

  pub restarts_seen : (new : NodeParts) (result : Result (Unit {0}) Refusal)
      → ((config : Config) (m : NodeState) → NodeStands config old m → RestartsAs config m old new result)
      → (config : Config) (m : NodeState) → FlooredStands config now m → FlooredRestarts config m now (with_floor new) result
  restarts_seen new result restarts =
      subst (λ (f : FlooredParts). (config : Config) (m : NodeState) → FlooredStands config f m
      → FlooredRestarts config m f (with_floor new) result) is (restarts_from old new result restarts)

  pub unread_seen : (held : Held) (error : RecordError) (refusal : Refusal) → refusal ≡ refusal_of error
      → HasRead {T = Unit {0}} old.held held (Err error) → (config : Config) (m : NodeState) → FlooredStands config now m
      → FlooredRestarts config m now (with_floor (stopped_node old held)) (Err refusal)
  unread_seen held error refusal why read =
      subst (λ (f : FlooredParts). (config : Config) (m : NodeState) → FlooredStands config f m
      → FlooredRestarts config m f (with_floor (stopped_node old held)) (Err refusal)) is (unread_from old held error refusal why read)

  pub raises_seen : (new : NodeParts) (place : Place) (result : Result (Unit {0}) Refusal)
      → is_lower (floor_before old.held) (Some place) ≡ true
      → ((config : Config) (m : NodeState) → NodeStands config old m → RaisesAs config m place old new result)
      → (config : Config) (m : NodeState) → FlooredStands config now m → FlooredRaises config m place now (with_floor new) result
  raises_seen new place result high raises =
      subst (λ (f : FlooredParts). (config : Config) (m : NodeState) → FlooredStands config f m
      → FlooredRaises config m place f (with_floor new) result) is (raises_from old new place result high raises)

  pub node_rises : (new : NodeParts) (place : Place) (result : Result (Unit {0}) Refusal) → is_some old.role ≡ true
      → is_lower (floor_before old.held) (Some place) ≡ true
      → ((config : Config) (m : NodeState) → NodeStands config old m → RaisesAs config m place old new result)
      → RaisesNode place now (with_floor new) result
  node_rises new place result up high raises =
      subst (λ (f : FlooredParts). RaisesNode place f (with_floor new) result) is (record {
        down = λ down. absurd (cc (up, down));
        low = λ on low. absurd (cc (high, low));
        higher = λ on higher. raises;
      })

  pub node_is_low : (place : Place) → is_some old.role ≡ true → is_lower (floor_before old.held) (Some place) ≡ false
      → RaisesNode place now now (Ok tt)
  node_is_low place up low =
      subst (λ (f : FlooredParts). RaisesNode place f f (Ok tt)) is (record {
        down = λ down. absurd (cc (up, down));
        low = λ on lower. (refl, refl);
        higher = λ on higher. absurd (cc (low, higher));
      })

  pub node_is_down : (place : Place) → is_none now.node.role ≡ true → RaisesNode place now now (Err Refusal.Down)
  node_is_down place down =
      let none = is_down now.node.role down in
      record {
        down = λ off. (refl, refl);
        low = λ on low. absurd (cc (none, on));
        higher = λ on higher. absurd (cc (none, on));
      }
