-- What holds of every world of the machine holds of a cluster whose nodes work in groups.
-- Needed by 9 functions of this crate; Leading; crates cluster_answers and floored_groups.
use Rattle.std.proofs.Common.{◌≡◌, ◌∙◌, Bool, true, false, List, [], ◌∷◌, ◌++◌, Some, refl, sym, ap, subst}
use Rattle.std.specs.List.{AllByRecursion}
use Rattle.ballot.specs.Greatest.{IsIn}
use Rattle.xid.specs.Transactions.{TxParts, is_participant}
use Rattle.protocol.specs.declared.events.Event.{Event}
use Rattle.protocol.specs.declared.nodes.NodeId.{NodeId}
use Rattle.protocol.specs.Effects.{Config}
use Rattle.protocol.specs.Nodes.{NodeState, Fault, Outcome, node_step}
use Rattle.protocol.specs.TCommit.{IsCommitStep}
use Rattle.protocol.specs.Worlds.{World, Datagram, Occurrence, opening, node_at, world_step}
use Rattle.protocol.proofs.Lists.{IsIn-map, IsIn-mapped}
use Rattle.progress.proofs.Mail.{Letter, letter_of, mail}
use Rattle.progress.proofs.Backed.{IsBacked}
use Rattle.safety.specs.CommitSteps.{IsConsistent}
use Rattle.safety.specs.Runs.{IsReachable, views_in}
use Rattle.safety.specs.Runs as reachable
use Rattle.safety.proofs.World.Reachable as proved
use Rattle.safety.proofs.World.Events.{reachable_after}
use Rattle.groups.specs.Runs.{Handed, node_after, CanBeHanded, group_result, is_upkeep, IsReached, Opening, Grouped, Kept, IsSent}
use Rattle.groups.specs.Runs.{IsMachines, Happening, Upkept, all_happened}
use Rattle.groups.proofs.Steps.{put, put_twice, step_comes}
use Rattle.groups.proofs.Following.{Follows, led, after_append, same_append, group_followed, mailed, there_next}
use Rattle.groups.proofs.Upkeep.{upkeep_nodes, upkeep_net, upkeep_answer}

-- events of the machine that follow a world
record IsFollowed (config : Config) (world : World) (happened : List Happening) : Type 0 where
  pub events : List Occurrence
  pub follows : Follows config world happened events

reached : (config : Config) (events : List Occurrence) → IsReachable config (led config events)
reached config events = reachable_after config (opening config) reachable.Opening events

followed : (config : Config) (world : World) (reach : IsReached config world) → IsFollowed config world (all_happened config world reach)
followed config world Opening = record { events = []; follows = record { same = tt; nodes_are = refl; mail_is = λ letter h. h } }
followed config world (Grouped before who node group is_stored reach is all) =
    let f = followed config before reach in
    let g = group_followed config who before (all_happened config before reach) f.events node group is_stored f.follows is all in
    record { events = g.0; follows = g.1 }
followed config world (Kept before event fault reach is) =
    let f = followed config before reach in
    let machine : World = led config f.events in
    let last : List Occurrence = record { event = event; fault = fault } ∷ [] in
    let there : led config (f.events ++ last) ≡ (world_step config machine event fault).world =
    after_append config (opening config) f.events last in
    let net : List Datagram = (world_step config before event fault).world.net in
    record {
      events = f.events ++ last;
      follows = record {
        same =
            same_append config (opening config) f.events last (all_happened config before reach)
            (Upkept event (world_step config before event fault).answer ∷ []) f.follows.same
            ((refl, upkeep_answer config machine before f.follows.nodes_are event fault is), tt);
        nodes_are =
            ap (λ (w : World). w.nodes) there ∙ upkeep_nodes config machine before f.follows.nodes_are event fault is;
        mail_is =
            subst (λ (w : World). (letter : Letter) → IsIn (mail net) letter → IsIn (mail w.net) letter) (sym there)
            (λ letter h. subst (λ (ds : List Datagram). IsIn (mail ds) letter) (sym (upkeep_net config machine event fault is))
            (f.follows.mail_is letter (subst (λ (ds : List Datagram). IsIn (mail ds) letter) (upkeep_net config before event fault is) h)));
      };
    }

all_sent : (world machine : World) → ((letter : Letter) → IsIn (mail world.net) letter → IsIn (mail machine.net) letter)
    → (d : Datagram) → IsIn world.net d → IsSent machine d
all_sent world machine some d h =
    let source = IsIn-mapped letter_of machine.net (letter_of d) (some (letter_of d) (IsIn-map letter_of world.net d h)) in
    record {
      sent = source.source;
      there = source.among;
      receiver_is = ap (λ (l : Letter). l.receiver) source.maps;
      message_is = ap (λ (l : Letter). l.message) source.maps;
    }

pub are_machines : (config : Config) (world : World) (reach : IsReached config world)
    → IsMachines config world (all_happened config world reach)
are_machines config world reach =
    let f = followed config world reach in record {
      events = f.events;
      same = f.follows.same;
      nodes_are = f.follows.nodes_are;
      sent = all_sent world (led config f.events) f.follows.mail_is;
    }

-- such a world is backed by one of the machine
pub backed : (config : Config) (world : World) → IsReached config world → IsBacked config world
backed config world reach =
    let f = followed config world reach in record {
      machine = led config f.events;
      reach = reached config f.events;
      nodes_are = f.follows.nodes_are;
      sent = f.follows.mail_is;
    }

-- ---- views are of nodes

abbrev pub with_nodes : World → List NodeState → World
with_nodes world nodes = record { nodes = nodes; net = world.net }

pub consistent : (config : Config) (world : World) → IsReached config world → (tx : TxParts)
    → IsConsistent (is_participant tx) (views_in config world tx)
consistent config world reach tx =
    let f = followed config world reach in
    subst (λ (nodes : List NodeState). IsConsistent (is_participant tx) (views_in config (with_nodes world nodes) tx)) f.follows.nodes_are
    (proved.consistent config (led config f.events) (reached config f.events) tx)

-- a step of the machine between two worlds is one between any with the same nodes
step_between : (config : Config) (machine old new : World) → IsReachable config machine → machine.nodes ≡ old.nodes
    → (event : Event) (fault : Fault) → (world_step config machine event fault).world.nodes ≡ new.nodes → (tx : TxParts)
    → IsCommitStep (is_participant tx) (views_in config old tx) (views_in config new tx)
step_between config machine old new reach before event fault after tx =
    subst (λ (nodes : List NodeState). IsCommitStep (is_participant tx) (views_in config old tx)
    (views_in config (with_nodes new nodes) tx))
    after
    (subst (λ (nodes : List NodeState). IsCommitStep (is_participant tx) (views_in config (with_nodes old nodes) tx)
    (views_in config (world_step config machine event fault).world tx)) before (proved.steps config machine reach event fault tx))

pub upkeep_step : (config : Config) (world : World) → IsReached config world → (event : Event) (fault : Fault) → is_upkeep event ≡ true
    → (tx : TxParts)
    → IsCommitStep (is_participant tx) (views_in config world tx) (views_in config (world_step config world event fault).world tx)
upkeep_step config world reach event fault is tx =
    let f = followed config world reach in
    step_between config (led config f.events) world (world_step config world event fault).world (reached config f.events)
    f.follows.nodes_are event fault (upkeep_nodes config (led config f.events) world f.follows.nodes_are event fault is) tx

-- one input more of a group
after_more : (config : Config) (who : NodeId) (node : NodeState) (before : List Handed) (next : Handed)
    → node_after config who node (before ++ next ∷ [])
    ≡ (node_step config who (node_after config who node before) next.input next.fault).node
after_more config who node [] next = refl
after_more config who node (first ∷ rest) next = after_more config who (node_step config who node first.input first.fault).node rest next

module _ (config : Config) (world : World) (reach : IsReached config world) (who : NodeId) (node : NodeState)
    (is : node_at config world who ≡ Some node) where
  pub input_step : (before : List Handed) → AllByRecursion (λ (h : Handed). CanBeHanded world who h.input) before → (next : Handed)
      → CanBeHanded world who next.input → (is_stored : Bool) (tx : TxParts)
      → IsCommitStep (is_participant tx) (views_in config (group_result config world who node before is_stored) tx)
      (views_in config (group_result config world who node (before ++ next ∷ []) is_stored) tx)
  input_step before all next can is_stored tx =
      let f = followed config world reach in
      let g = group_followed config who world (all_happened config world reach) f.events node before false f.follows is all in
      let machine : World = led config g.0 in
      let last : NodeState = node_after config who node before in
      let here : node_at config machine who ≡ Some last =
      there_next config who world node last is machine.nodes g.1.nodes_are in
      let outcome : Outcome = node_step config who last next.input next.fault in
      let c = step_comes config machine who last here next.input
      (mailed config who world machine last here next.input g.1.mail_is can) next.fault in
      let nodes_are : (world_step config machine c.event c.fault).world.nodes
      ≡ put config who (node_after config who node (before ++ next ∷ [])) world.nodes =
      c.nodes_are ∙ ap (put config who outcome.node) g.1.nodes_are ∙ put_twice config who world.nodes last outcome.node
      ∙ ap (λ (n : NodeState). put config who n world.nodes) (sym (after_more config who node before next)) in
      step_between config machine (group_result config world who node before is_stored)
      (group_result config world who node (before ++ next ∷ []) is_stored) (reached config g.0) g.1.nodes_are c.event c.fault nodes_are tx
