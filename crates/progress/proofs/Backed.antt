-- Worlds that a world of the machine backs: it has the same nodes, and all that was sent there, and maybe more. So every world of the
-- machine is backed, and so is one in which some sends were lost before they were sent.
use Rattle.std.proofs.Common.{◌≡◌, ◌∙◌, inl, inr, true, List, [], ◌++◌, refl, sym, ap, subst}
use Rattle.std.specs.Prelude.{slice_get}
use Rattle.std.specs.List.{slice_set}
use Rattle.std.specs.Option.{option_and_then, option_map_or}
use Rattle.ballot.specs.Greatest.{IsIn}
use Rattle.protocol.specs.Basics.{Fact}
use Rattle.safety.specs.Vocabulary.{NodeId, Event}
use Rattle.safety.specs.Runs.{IsReachable, After}
use Rattle.safety.specs.Standing.{facts_at, facts_of}
use Rattle.safety.proofs.World.Reachable as proved
use Rattle.protocol.specs.Effects.{Config}
use Rattle.protocol.specs.Nodes.{NodeState, NoFault, Outcome, all_play}
use Rattle.protocol.specs.Worlds.{World, Datagram, place, node_at, outcome_result, world_step}
use Rattle.protocol.proofs.Lists.{IsIn-append, IsIn-before, IsIn-after}
use Rattle.progress.proofs.Mail.{Letter, mail, letters, posted_mail}

-- all letters of the one are among the other's
abbrev pub AllAmong : (some all : List Letter) → Type 0
AllAmong some all = (letter : Letter) → IsIn some letter → IsIn all letter

-- the world of the machine that backs a world
pub record IsBacked (config : Config) (world : World) : Type 0 where
  pub machine : World
  pub reach : IsReachable config machine
  pub nodes_are : machine.nodes ≡ world.nodes
  pub sent : AllAmong (mail world.net) (mail machine.net)

-- a world of the machine backs itself
pub backed : (config : Config) (world : World) → IsReachable config world → IsBacked config world
backed config world reach = record { machine = world; reach = reach; nodes_are = refl; sent = λ letter h. h }

module _ (config : Config) (world : World) (b : IsBacked config world) where
  -- the same nodes
  pub backing_node : (who : NodeId) → node_at config b.machine who ≡ node_at config world who
  backing_node who = ap (λ (nodes : List NodeState). option_and_then (λ at. slice_get nodes at) (place config who)) b.nodes_are

  pub backing_facts : (who : NodeId) → facts_at config b.machine who ≡ facts_at config world who
  backing_facts who = ap facts_of (backing_node who)

  -- facts play
  pub play : (who : NodeId) → all_play config who [] (facts_at config world who) ≡ true
  play who =
      subst (λ (facts : List Fact). all_play config who [] facts ≡ true) (backing_facts who) (proved.play config b.machine b.reach who)

  -- marks are nothing
  pub backed_marked : (net : List Datagram) → mail net ≡ mail world.net → IsBacked config (record world { net = net })
  backed_marked net same = record {
    machine = b.machine;
    reach = b.reach;
    nodes_are = b.nodes_are;
    sent = λ letter h. b.sent letter (subst (λ (post : List Letter). IsIn post letter) same h);
  }

-- an event of a world, without a fault, by which a node comes to an outcome
pub record HasOutcomeThere (config : Config) (world : World) (who : NodeId) (facts : List Fact) (left : Outcome) : Type 0 where
  pub event : Event
  pub net : List Datagram
  pub same : mail net ≡ mail world.net
  pub comes : (world_step config world event NoFault).world ≡ (outcome_result config (record world { net = net }) who facts left).world

-- where the machine comes to the same outcome, the world after it is backed too
pub backed_after : (config : Config) (world : World) (b : IsBacked config world) (who : NodeId) (facts : List Fact) (left : Outcome)
    → HasOutcomeThere config b.machine who facts left → (net : List Datagram) → mail net ≡ mail world.net → (after : World)
    → after ≡ (outcome_result config (record world { net = net }) who facts left).world → IsBacked config after
backed_after config world b who facts left there net same after e = record {
  machine = next;
  reach = After b.machine there.event NoFault b.reach;
  nodes_are = ap (λ (w : World). w.nodes) there.comes
      ∙ ap (λ (nodes : List NodeState). option_map_or (λ at. slice_set nodes at left.node) (place config who) nodes) b.nodes_are
      ∙ sym (ap (λ (w : World). w.nodes) e);
  sent = λ letter h.
      subst (λ (post : List Letter). IsIn post letter) (sym now)
      (elim (IsIn-append (mail world.net) more letter (subst (λ (post : List Letter). IsIn post letter) posted h)) [
        | inl old ↦ IsIn-before (mail b.machine.net) more letter (b.sent letter old)
        | inr new ↦ IsIn-after (mail b.machine.net) more letter new
      ]);
}
  where
    more : List Letter
    more = letters config left.sends

    next : World
    next = (world_step config b.machine there.event NoFault).world

    now : mail next.net ≡ mail b.machine.net ++ more
    now = ap (λ (w : World). mail w.net) there.comes ∙ posted_mail config who there.net left.sends
        ∙ ap (λ (first : List Letter). first ++ more) there.same

    posted : mail after.net ≡ mail world.net ++ more
    posted = ap (λ (w : World). mail w.net) e ∙ posted_mail config who net left.sends ∙ ap (λ (first : List Letter). first ++ more) same
