-- Events of the machine follow a cluster whose nodes work in groups.
-- Needed by Reached.
use Rattle.std.proofs.Common.{◌≡◌, ◌∙◌, Bool, true, false, if◌then◌else◌, List, [], ◌∷◌, ◌++◌, Some, inl, inr, refl, sym, ap, subst}
use Rattle.std.specs.List.{AllByRecursion, flat_map}
use Rattle.std.proofs.lemmas.Grind.{flat_map-append}
use Rattle.ballot.specs.Greatest.{IsIn}
use Rattle.protocol.specs.declared.decisions.Outgoing.{Outgoing}
use Rattle.protocol.specs.declared.nodes.NodeId.{NodeId}
use Rattle.protocol.specs.Effects.{Config}
use Rattle.protocol.specs.Nodes.{NodeState, Input, Asked, Received, ReceivedNoise, Outcome, node_step}
use Rattle.protocol.specs.Worlds.{World, Datagram, opening, node_at, datagrams_of, Occurrence, world_step, world_after}
use Rattle.protocol.proofs.Lists.{IsIn-append, IsIn-before, IsIn-after, IsIn-map}
use Rattle.progress.proofs.Mail.{Letter, letter_of, mail, letters, letters_of, posted_mail}
use Rattle.progress.proofs.Backed.{AllAmong}
use Rattle.safety.proofs.World.NodePlaces.{node_there}
use Rattle.groups.specs.Runs.{Handed, node_after, sends_after, handled_in, CanBeHanded, group_result, Happening, AreSame}
use Rattle.groups.proofs.Steps.{among, put, put_twice, put_same, step_comes, IsMailed}

-- where events lead from the opening world
abbrev pub led : Config → List Occurrence → World
led config events = world_after config (opening config) events

-- events of the machine are what happened, and lead to the nodes of a world, and to its letters
pub record Follows (config : Config) (world : World) (happened : List Happening) (events : List Occurrence) : Type 0 where
  pub same : AreSame config (opening config) events happened
  pub nodes_are : (led config events).nodes ≡ world.nodes
  pub mail_is : AllAmong (mail world.net) (mail (led config events).net)

-- events lead from a world of the machine to one in which a node has handled a group, and all of it was sent
record HasHandled (config : Config) (machine : World) (who : NodeId) (node : NodeState) (group : List Handed) : Type 0 where
  pub more : List Occurrence
  pub same : AreSame config machine more (handled_in config who node group)
  pub nodes_are : (world_after config machine more).nodes ≡ put config who (node_after config who node group) machine.nodes
  pub kept : AllAmong (mail machine.net) (mail (world_after config machine more).net)
  pub sent : AllAmong (letters config (sends_after config who node group)) (mail (world_after config machine more).net)

-- ---- events after others

pub after_append : (config : Config) (world : World) (events more : List Occurrence)
    → world_after config world (events ++ more) ≡ world_after config (world_after config world events) more
after_append config world [] more = refl
after_append config world (first ∷ rest) more = after_append config (world_step config world first.event first.fault).world rest more

pub same_append : (config : Config) (world : World) (events more : List Occurrence) (happened later : List Happening)
    → AreSame config world events happened → AreSame config (world_after config world events) more later
    → AreSame config world (events ++ more) (happened ++ later)
same_append config world [] more [] later same rest = rest
same_append config world (first ∷ events) more (h ∷ happened) later same rest =
    (same.0, same_append config (world_step config world first.event first.fault).world events more happened later same.1 rest)
same_append config world [] more (h ∷ happened) later same rest = absurd same
same_append config world (first ∷ events) more [] later same rest = absurd same

module _ (config : Config) (who : NodeId) where
  pub mailed : (world machine : World) (node : NodeState) (is : node_at config machine who ≡ Some node) (input : Input)
      → AllAmong (mail world.net) (mail machine.net) → CanBeHanded world who input → IsMailed config machine who node is input
  mailed world machine node is (Asked request) some can = tt
  mailed world machine node is (Received message) some (d, there, to, said) =
      some (record { receiver = who; message = message })
      (subst (IsIn (mail world.net)) (λ i. record { receiver = to i; message = said i }) (IsIn-map letter_of world.net d there))
  mailed world machine node is ReceivedNoise some can = tt

  -- a node that was put in its place is there
  pub there_next : (world : World) (node next : NodeState) → node_at config world who ≡ Some node → (nodes : List NodeState)
      → nodes ≡ put config who next world.nodes → among config nodes who ≡ Some next
  there_next world node next is nodes nodes_are = ap (λ ns. among config ns who) nodes_are ∙ node_there config world who node next is

  handled : (group : List Handed) (world machine : World) (node : NodeState)
      → node_at config machine who ≡ Some node → AllAmong (mail world.net) (mail machine.net)
      → AllByRecursion (λ (h : Handed). CanBeHanded world who h.input) group → HasHandled config machine who node group
  handled [] world machine node is some all = record {
    more = [];
    same = tt;
    nodes_are = sym (put_same config who machine.nodes node is);
    kept = λ letter h. h;
    sent = λ letter h. absurd h;
  }
  handled (first ∷ rest) world machine node is some all =
      let outcome : Outcome = node_step config who node first.input first.fault in
      let c = step_comes config machine who node is first.input (mailed world machine node is first.input some all.0) first.fault in
      let next : World = (world_step config machine c.event c.fault).world in
      let kept : AllAmong (mail machine.net) (mail next.net) = λ letter h.
      subst (λ (ls : List Letter). IsIn ls letter) (sym c.mail_is)
      (IsIn-before (mail machine.net) (letters config outcome.sends) letter h) in
      let posted : AllAmong (letters config outcome.sends) (mail next.net) = λ letter h.
      subst (λ (ls : List Letter). IsIn ls letter) (sym c.mail_is)
      (IsIn-after (mail machine.net) (letters config outcome.sends) letter h) in
      let r = handled rest world next outcome.node
      (there_next machine node outcome.node is next.nodes c.nodes_are) (λ letter h. kept letter (some letter h)) all.1 in
      let last : NodeState = node_after config who outcome.node rest in
      record {
        more = record { event = c.event; fault = c.fault } ∷ r.more;
        same = ((c.hands, c.answer_is), r.same);
        nodes_are = r.nodes_are ∙ ap (put config who last) c.nodes_are ∙ put_twice config who machine.nodes outcome.node last;
        kept = λ letter h. r.kept letter (kept letter h);
        sent = λ letter h.
            elim (IsIn-append (letters config outcome.sends) (letters config (sends_after config who outcome.node rest)) letter
            (subst (λ (ls : List Letter). IsIn ls letter)
            (flat_map-append (letters_of config) outcome.sends (sends_after config who outcome.node rest)) h)) [
              | inl here ↦ r.kept letter (posted letter here)
              | inr later ↦ r.sent letter later
            ];
      }

  -- a group, stored or stopped, is followed
  sent_by : (world after : World) (sends : List Outgoing) → AllAmong (mail world.net) (mail after.net)
      → AllAmong (letters config sends) (mail after.net) → (is_stored : Bool)
      → AllAmong (mail (if is_stored then world.net ++ flat_map (datagrams_of config who) sends else world.net)) (mail after.net)
  sent_by world after sends old new true = λ letter h.
      elim (IsIn-append (mail world.net) (letters config sends) letter
      (subst (λ (ls : List Letter). IsIn ls letter) (posted_mail config who world.net sends) h)) [
        | inl before ↦ old letter before
        | inr later ↦ new letter later
      ]
  sent_by world after sends old new false = old

  pub group_followed : (world : World) (happened : List Happening) (events : List Occurrence) (node : NodeState) (group : List Handed)
      → (is_stored : Bool) → Follows config world happened events → node_at config world who ≡ Some node
      → AllByRecursion (λ (h : Handed). CanBeHanded world who h.input) group
      → (after : List Occurrence)
      × Follows config (group_result config world who node group is_stored) (happened ++ handled_in config who node group) after
  group_followed world happened events node group is_stored f is all =
      let machine : World = led config events in
      let h = handled group world machine node (ap (λ ns. among config ns who) f.nodes_are ∙ is) f.mail_is all in
      let after : World = world_after config machine h.more in
      let there : led config (events ++ h.more) ≡ after = after_append config (opening config) events h.more in
      let net : List Datagram = (group_result config world who node group is_stored).net in (
        events ++ h.more,
        record {
          same = same_append config (opening config) events h.more happened (handled_in config who node group) f.same h.same;
          nodes_are =
              ap (λ (w : World). w.nodes) there ∙ h.nodes_are ∙ ap (put config who (node_after config who node group)) f.nodes_are;
          mail_is =
              subst (λ (w : World). AllAmong (mail net) (mail w.net)) (sym there)
              (sent_by world after (sends_after config who node group) (λ letter here. h.kept letter (f.mail_is letter here)) h.sent
              is_stored);
        },
      )
