-- Runs of well-formed events: whatever has happened, all datagrams are messages, and all facts could be stored.
-- Needed by `datagrams_are_messages`, `facts_are_storable` and `well_formed_runs_reach`; crate run_traces.
use Rattle.std.proofs.Common.{◌≡◌, inl, inr, ◌∙◌, ℕ, ◌<◌, zero, suc, true, false, List, [], ◌∷◌, ◌++◌, Option, Some, None}
use Rattle.std.proofs.Common.{unwrap_or, refl, sym, ap, subst, arith, nat_lt}
use Rattle.std.specs.Prelude.{length, slice_get, take, drop, is_some}
use Rattle.std.proofs.lemmas.List.{take-append-drop, length-drop}
use Rattle.std.specs.List.{AllByRecursion, flat_map}
use Rattle.std.specs.Option.{option_and_then}
use Rattle.std.proofs.lemmas.Bool.{cond_both, ltb-true}
use Rattle.xid.specs.declared.refusals.Refusal.TheVariants.{NoSuch, Forged, Down}
use Rattle.wire.specs.declared.message.Kind.{Kind}
use Rattle.wire.specs.Decoding.{message_at, spells_message}
use Rattle.wire.specs.Grammar.{spelling}
use Rattle.wire.proofs.DecodingLemmas.{spelled}
use Rattle.wire.proofs.OneSpelling.{begins_none}
use Rattle.wire.specs.Messages.{IsMessage, IsAcceptor, message_tx}
use Rattle.ballot.specs.Greatest.{IsIn}
use Rattle.protocol.specs.Basics.{Fact}
use Rattle.safety.specs.Vocabulary.{NodeId, A, L, R, Outgoing, Done, Refused, Event, Ask, Deliver, Lose, Cut, Noise, Tear, Restart}
use Rattle.safety.specs.Vocabulary.{Compact}
use Rattle.safety.specs.Forms.{IsEvent, IsSized, IsWellReached}
use Rattle.safety.specs.Forms as forms
use Rattle.safety.specs.Runs.{IsReachable, Opening, After}
use Rattle.safety.specs.Standing.{facts_of}
use Rattle.protocol.specs.Effects.{Config, receivers}
use Rattle.protocol.specs.Nodes.{NodeState, Input, Asked, Received, ReceivedNoise, Fault, NoMemoryBefore, Outcome, node_step, effect_of}
use Rattle.protocol.specs.Nodes.{restart_outcome, compact_outcome, all_play}
use Rattle.protocol.specs.Worlds.{Occurrence, world_after}
use Rattle.protocol.specs.Worlds.{World, Datagram, StepResult, opening, node_at, set_node, answer_result, datagrams_of, outcome_result}
use Rattle.protocol.specs.Worlds.{if_found, at_node, datagram_at, mark_at, with_mark, cut_result, dispatch, world_step}
use Rattle.protocol.proofs.Lists.{IsIn-append, IsIn-mapped, IsIn-joined, all_in}
use Rattle.protocol.specs.Holds.{AreApart}
use Rattle.safety.proofs.World.Events.{safe_ever, restarted_is, compacted_is, datagram_among}
use Rattle.safety.proofs.World.Growth.{same_node}
use Rattle.safety.proofs.World.NodePlaces.{node_there, node_elsewhere, opening_node}
use Rattle.safety.proofs.World.Outcomes.{KeepsFacts, step_is}
use Rattle.safety.proofs.World.SafeSteps.{IsSafe}
use Rattle.safety.proofs.WellFormed.Effects.{AreSends, IsSend, well_answered}
use Rattle.safety.proofs.WellFormed.Branches.{AreHeld}
use Rattle.safety.proofs.WellFormed.Nodes.{IsInput, IsWell, IsWellNode, IsWellLeft, acceptor_rule, leader_rule, manager_rule, left_well}

-- ---- a world and its nodes

-- its datagrams are messages, and its nodes store facts and hold keys that could be stored
pub record IsWellWorld (config : Config) (world : World) : Type 0 where
  pub sent : (d : Datagram) → IsIn world.net d → IsMessage d.message
  pub nodes : (who : NodeId) (node : NodeState) → node_at config world who ≡ Some node → IsWellNode node

-- what is known of nodes besides: their facts play, and the branches of resource managers are apart
record IsOrderly (config : Config) (nodes : NodeId → Option NodeState) : Type 0 where
  plays : (who : NodeId) (node : NodeState) → nodes who ≡ Some node → all_play config who [] node.facts ≡ true
  apart : (rm : ℕ) (node : NodeState) → nodes (R rm) ≡ Some node → AreApart rm node.facts node.memory.branches

orderly : (config : Config) (world : World) → IsSafe config world → IsOrderly config (node_at config world)
orderly config world safe = record {
  plays = λ who node is. subst (λ (facts : List Fact). all_play config who [] facts ≡ true) (ap facts_of is) (safe.played who);
  apart = safe.apart;
}

-- an acceptor that stands in a world has a number that messages have
acceptor_fits : (config : Config) → IsSized config → (world : World) (a : ℕ) (node : NodeState) → node_at config world (A a) ≡ Some node
    → IsAcceptor a
acceptor_fits config sized world a node = cond_both (nat_lt a config.acceptors) (Some a) None
    (λ (place : Option ℕ). option_and_then (λ at. slice_get world.nodes at) place ≡ Some node → IsAcceptor a)
    (λ below is. let lt = ltb-true a config.acceptors below in omega (arith, lt, sized.acceptors)) (λ above is. absurd (cc (is)))

marked_well : (net : List Datagram) (n : ℕ) → ((d : Datagram) → IsIn net d → IsMessage d.message)
    → (d : Datagram) → IsIn (mark_at net n) d → IsMessage d.message
marked_well [] n are x h = are x h
marked_well (d ∷ net) zero are x h = are x h
marked_well (d ∷ net) (suc zero) are x (inl e) = subst (λ (y : Datagram). IsMessage y.message) e (are d (inl refl))
marked_well (d ∷ net) (suc zero) are x (inr h) = are x (inr h)
marked_well (d ∷ net) (suc (suc n)) are x (inl e) = are x (inl e)
marked_well (d ∷ net) (suc (suc n)) are x (inr h) = marked_well net (suc n) (λ y k. are y (inr k)) x h

-- ---- one event

module _ (config : Config) (sized : IsSized config) (world : World) (order : IsOrderly config (node_at config world))
    (well : IsWellWorld config world) where
  found_well : {X : Type 0} (o : Option X) (f : X → StepResult) → ((x : X) → o ≡ Some x → IsWellWorld config (f x).world)
      → IsWellWorld config (if_found world f o).world
  found_well None f next = well
  found_well (Some x) f next = next x refl

  -- a node put in its place
  nodes_well : (who : NodeId) (node new : NodeState) → node_at config world who ≡ Some node → IsWellNode new
      → (n : NodeId) (x : NodeState) → node_at config (set_node config world who new) n ≡ Some x → IsWellNode x
  nodes_well who node new is good n x at = elim (same_node n who) [
    | inl e ↦
        let here : node_at config (set_node config world who new) who ≡ Some x =
        subst (λ (m : NodeId). node_at config (set_node config world who new) m ≡ Some x) e at in
        subst IsWellNode (ap (λ (o : Option NodeState). unwrap_or o new) (sym (node_there config world who node new is) ∙ here)) good
    | inr apart ↦ well.nodes n x (sym (node_elsewhere config world who n new apart) ∙ at)
  ]

  -- datagrams of what is sent
  sent_well : (who : NodeId) (sends : List Outgoing) → AreSends sends → (d : Datagram)
      → IsIn (world.net ++ flat_map (datagrams_of config who) sends) d → IsMessage d.message
  sent_well who sends are d h = elim (IsIn-append world.net (flat_map (datagrams_of config who) sends) d h) [
    | inl old ↦ well.sent d old
    | inr new ↦
        let from = IsIn-joined (datagrams_of config who) sends d new in
        let to = IsIn-mapped (λ (receiver : NodeId). record
        { sender = who; receiver = receiver; message = from.source.message; marked = false })
        (receivers config from.source.to (message_tx from.source.message)) d from.inside in
        subst (λ (x : Datagram). IsMessage x.message) to.maps (all_in IsSend sends are from.source from.among)
  ]

  outcome_well : (who : NodeId) (node : NodeState) (left : Outcome) → node_at config world who ≡ Some node → IsWellLeft left
      → IsWellWorld config (outcome_result config world who node.facts left).world
  outcome_well who node left is good = record {
    sent = sent_well who left.sends good.sends;
    nodes = nodes_well who node left.node is good.node;
  }

  -- ---- an input at a node

  rule_well : (who : NodeId) (node : NodeState) → node_at config world who ≡ Some node → (input : Input) → IsInput input
      → IsWell (effect_of config who node.facts node.memory input)
  rule_well (A a) node is input good =
      let known = well.nodes (A a) node is in
      acceptor_rule config node.facts node.memory known.held a (acceptor_fits config sized world a node is) known.stored
      (order.plays (A a) node is) input good
  rule_well (L l) node is input good = leader_rule config node.facts node.memory (well.nodes (L l) node is).held l input good
  rule_well (R rm) node is input good =
      manager_rule config node.facts node.memory (well.nodes (R rm) node is).held rm (order.plays (R rm) node is) (order.apart rm node is)
      input good

  at_node_well : (who : NodeId) (input : Input) (fault : Fault) → IsInput input
      → IsWellWorld config (at_node config world who input fault).world
  at_node_well who input fault good = found_well (node_at config world who)
      (λ node. outcome_result config world who node.facts (node_step config who node input fault))
      (λ node is. outcome_well who node (node_step config who node input fault) is
      (left_well node (effect_of config who node.facts node.memory input) (node_step config who node input fault) (well.nodes who node is)
      (rule_well who node is input good) (step_is config who node input fault)))

  -- ---- what keeps the facts of a node

  kept_well : (who : NodeId) (node : NodeState) (left : Outcome) → node_at config world who ≡ Some node → KeepsFacts node left
      → IsWellWorld config (outcome_result config world who node.facts left).world
  kept_well who node left is keeps =
      let known = well.nodes who node is in
      outcome_well who node left is (left_well node _ left known
      (well_answered (λ memory. AreHeld memory.branches) node.memory known.held Done) (inl keeps))

  -- a mark changes no message and no node
  marks_well : (n : ℕ) → IsWellWorld config (with_mark world n)
  marks_well n = record { sent = marked_well world.net n well.sent; nodes = well.nodes }

module _ (config : Config) (sized : IsSized config) (world : World) (safe : IsSafe config world) (well : IsWellWorld config world) where
  order : IsOrderly config (node_at config world)
  order = orderly config world safe

  delivers_well : (n : ℕ) (fault : Fault) → IsWellWorld config (dispatch config world (Deliver n) fault).world
  delivers_well n fault = found_well config sized world order well (datagram_at world.net n)
      (λ d. at_node config (with_mark world n) d.receiver (Received d.message) fault)
      (λ d is. at_node_well config sized (with_mark world n) order (marks_well config sized world order well n) d.receiver
      (Received d.message) fault (well.sent d (datagram_among world.net n d is)))

  cuts_well : (n k : ℕ) (fault : Fault) → IsWellWorld config (cut_result config world n k fault).world
  cuts_well n k fault = found_well config sized world order well (datagram_at world.net n) _
      (λ d is. cond_both (nat_lt k (length (spelling d.message))) (at_node config world d.receiver ReceivedNoise fault)
      (answer_result world (Refused NoSuch)) (λ (result : StepResult). IsWellWorld config result.world)
      (λ fewer. at_node_well config sized world order well d.receiver ReceivedNoise fault tt) (λ all. well))

  noise_well : (who : NodeId) (bytes : List ℕ) (fault : Fault) → IsWellWorld config (dispatch config world (Noise who bytes) fault).world
  noise_well who bytes fault = cond_both (spells_message bytes)
      (if_found world (λ node. answer_result world (Refused Forged)) (node_at config world who))
      (at_node config world who ReceivedNoise fault)
      (λ (result : StepResult). IsWellWorld config result.world)
      (λ spelled. found_well config sized world order well (node_at config world who) _ (λ node is. well))
      (λ garbled. at_node_well config sized world order well who ReceivedNoise fault tt)

  tears_well : (who : NodeId) (n : ℕ) (fault : Fault) → IsWellWorld config (dispatch config world (Tear who n) fault).world
  tears_well who n fault = found_well config sized world order well (node_at config world who) _ (λ node is.
      let known = well.nodes who node is in
      let new : NodeState = record node { tear = Some n } in
      let good : IsWellNode new = record { stored = known.stored; held = known.held } in
      let after : IsWellWorld config (set_node config world who new) =
      record { sent = well.sent; nodes = nodes_well config sized world order well who node new is good } in
      after)

  compacts_well : (who : NodeId) (fault : Fault) → IsWellWorld config (dispatch config world (Compact who) fault).world
  compacts_well who fault = found_well config sized world order well (node_at config world who) _
      (λ node is. cond_both node.up (outcome_result config world who node.facts (compact_outcome node fault))
      (answer_result world (Refused Down)) (λ (result : StepResult). IsWellWorld config result.world)
      (λ up. kept_well config sized world order well who node (compact_outcome node fault) is (compacted_is config world safe node fault))
      (λ down. well))

  does_well : (event : Event) (fault : Fault) → IsEvent event → IsWellWorld config (dispatch config world event fault).world
  does_well (Ask who request) fault is = at_node_well config sized world order well who (Asked request) fault is
  does_well (Deliver n) fault is = delivers_well n fault
  does_well (Lose n) fault is = found_well config sized world order well (datagram_at world.net n) _
      (λ d at. marks_well config sized world order well n)
  does_well (Cut n k) fault is = cuts_well n k fault
  does_well (Noise who bytes) fault is = noise_well who bytes fault
  does_well (Tear who n) fault is = tears_well who n fault
  does_well (Restart who) fault is = found_well config sized world order well (node_at config world who) _
      (λ node at. kept_well config sized world order well who node (restart_outcome config who node fault) at
      (restarted_is config world safe who node fault))
  does_well (Compact who) fault is = compacts_well who fault
  does_well event fault is = well

  happens_well : (event : Event) (fault : Fault) → IsEvent event → IsWellWorld config (world_step config world event fault).world
  happens_well event NoMemoryBefore is = well
  happens_well event fault is = does_well event fault is

-- ---- every world that such runs lead to

pub reached : (config : Config) (world : World) → IsWellReached config world → IsReachable config world
reached config _ forms.Opening = Opening
reached config _ (forms.After world event fault is before) = After world event fault (reached config world before)

opening_is_well : (config : Config) → IsWellWorld config (opening config)
opening_is_well config = record {
  sent = λ d h. absurd h;
  nodes = λ who node is.
      subst IsWellNode (opening_node config who node is) (record { stored = λ fact h. absurd h; held = λ b h. absurd h });
}

pub well_ever : (config : Config) → IsSized config → (world : World) → IsWellReached config world → IsWellWorld config world
well_ever config sized _ forms.Opening = opening_is_well config
well_ever config sized _ (forms.After world event fault is before) =
    happens_well config sized world (safe_ever config world (reached config world before)) (well_ever config sized world before)
    event fault is

-- a run of such events from such a world ends in one
pub well_reached_after : (config : Config) (world : World) → IsWellReached config world → (events : List Occurrence)
    → AllByRecursion (λ occurrence. IsEvent occurrence.event) events → IsWellReached config (world_after config world events)
well_reached_after config world before [] are = before
well_reached_after config world before (first ∷ rest) are =
    well_reached_after config (world_step config world first.event first.fault).world
    (forms.After world first.event first.fault are.0 before) rest are.1

-- ---- what is left of a datagram

-- the first bytes of a message, fewer than all, spell none
no_message : (m : Kind) (k : ℕ) → IsMessage m → k < length (spelling m) → (o : Option Kind) → message_at (take k (spelling m)) ≡ o
    → is_some o ≡ false
no_message m k is fewer None e = refl
no_message m k is fewer (Some other) e =
    let bytes = spelling m in
    let whole = spelled other (take k bytes) e in
    let joined : spelling other ++ drop k bytes ≡ bytes =
    ap (λ (xs : List ℕ). xs ++ drop k bytes) (sym whole.spelled) ∙ take-append-drop k bytes in
    let none : length (drop k bytes) ≡ 0 = ap length (begins_none other m (drop k bytes) whole.message is joined).1 in
    absurd (omega (arith, none, length-drop k bytes, fewer))

pub cut_spells_none : (m : Kind) (k : ℕ) → IsMessage m → k < length (spelling m) → spells_message (take k (spelling m)) ≡ false
cut_spells_none m k is fewer = no_message m k is fewer (message_at (take k (spelling m))) refl
