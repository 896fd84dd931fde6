-- A node of a cluster is handed an input: what comes of it is what comes of it in a world with floors.
-- Needed by `most_delivered` and `most_sent`; Handed and Occurring.
use Rattle.std.proofs.Common.{◌≡◌, ◌∙◌, ℕ, ◌*◌, ◌≤◌, Bool, true, false, not, List, [], ◌++◌, length, get_or, set}
use Rattle.std.proofs.Common.{Option, Some, None, sym, ap, subst, arith}
use Rattle.std.specs.Prelude.{if◌then◌else◌, slice_get}
use Rattle.std.specs.List.{flat_map}
use Rattle.std.specs.Option.{option_map_or}
use Rattle.std.proofs.lemmas.Bool.{cond_both}
use Rattle.std.proofs.Math.Nat.{mul-le-mul_right}
use Rattle.wire.specs.declared.grammar.TheConstants.{MAX_MESSAGE_BYTES}
use Rattle.wire.specs.declared.message.Kind.{Kind}
use Rattle.wire.specs.Decoding.{spells_message}
use Rattle.wire.proofs.DecodingLemmas.{found as message_found}
use Rattle.xid.specs.declared.refusals.Refusal.TheVariants as refusals
use Rattle.stable_record.specs.declared.fact.FactKind.{FactKind as Fact}
use Rattle.protocol.specs.declared.answers.Answer.TheVariants.{Refused}
use Rattle.protocol.specs.declared.events.Event.{Event}
use Rattle.protocol.specs.declared.events.Event.TheVariants.{Ask, Deliver, Noise}
use Rattle.protocol.specs.declared.nodes.NodeId.{NodeId}
use Rattle.protocol.specs.declared.requests.Request.{Request}
use Rattle.protocol.specs.Effects.{Config, Effect}
use Rattle.protocol.specs.Nodes.{NodeState, Memory, Input, Asked, Received, ReceivedNoise, Fault, Outcome, NoFault, NoMemoryBefore}
use Rattle.protocol.specs.Nodes.{NoMemoryAt, RecordFails, effect_of, effect_outcome, accepts_input}
use Rattle.protocol.specs.Worlds.{World, Datagram, StepResult, place, node_at, at_node, datagrams_of, if_found, outcome_result}
use Rattle.protocol.specs.Worlds.{answer_result, with_mark}
use Rattle.node_core.specs.declared.config.Sizes.{Sizes}
use Rattle.node_core.specs.declared.output.Output.{Output}
use Rattle.node_core.specs.Groups.{Place as At}
use Rattle.node_core.specs.Nodes.{AreSizes, Befalls, datagram_input}
use Rattle.node_core.proofs.Addressed.{datagrams_as}
use Rattle.stable_record.specs.Held.{Held}
use Rattle.xid.specs.Places.{Place}
use Rattle.floors.specs.Nodes.{floored_node_step, is_input_below}
use Rattle.floors.specs.Worlds.{FlooredResult, FlooredWorld, at_floored_node, floored_dispatch, step_with_floors, with_floors}
use Rattle.node_core.specs.Configs.{config_by}
use Rattle.floored.specs.Nodes.{FlooredDoes, FlooredParts, FlooredStands, FlooredStepsAs, IsOutput, floored_fact}
use Rattle.network.specs.Networks.{DatagramParts, NetworkParts, StandsFor, Finds}
use Rattle.cluster.specs.declared.handing.Answered.{Answered}
use Rattle.cluster.specs.Clusters.{NoticesParts, cluster_of, ClusterStands, ReachesAs, ComesTo, BefallsAt}
use Rattle.cluster.specs.Sending.{HaveSent, HasRoom}
use Rattle.cluster.proofs.Standing.{there, placed, found, named, floor_there, node_put, at_place, same_but, same_floored, others_stay}
use Rattle.cluster.proofs.Bounds.{count}

-- what came of a machine's event that says nothing of floors
abbrev pub came_of : FlooredWorld → StepResult → FlooredResult
came_of world result = record {
  world = record world { machine = result.world };
  answer = result.answer;
  now = result.now;
  sent = result.sent;
  noticed = [];
}

-- ---- how much a step sends

module _ (config : Config) (who : NodeId) (n : ℕ) where
  effect_few : (node : NodeState) (e : Effect Memory) (fact : Option Fact) (tear : Option ℕ) (fault : Fault)
      → count config who e.sends ≤ n → count config who (effect_outcome node e fact tear fault).sends ≤ n
  effect_few node e fact tear NoMemoryAt le = omega arith
  effect_few node e None tear NoFault le = le
  effect_few node e None tear NoMemoryBefore le = le
  effect_few node e None tear (RecordFails whole) le = le
  effect_few node e (Some fact) (Some k) NoFault le = omega arith
  effect_few node e (Some fact) (Some k) NoMemoryBefore le = omega arith
  effect_few node e (Some fact) (Some k) (RecordFails whole) le = omega arith
  effect_few node e (Some fact) None NoFault le = le
  effect_few node e (Some fact) None NoMemoryBefore le = le
  effect_few node e (Some fact) None (RecordFails whole) le = omega arith

  outcome_if : (b : Bool) (o p : Outcome) → count config who o.sends ≤ n → count config who p.sends ≤ n
      → count config who (if b then o else p).sends ≤ n
  outcome_if true o p yes_case no_case = yes_case
  outcome_if false o p yes_case no_case = no_case

  none_few : count config who [] ≤ n
  none_few = omega arith

  pub step_few : (floor : Option Place) (node : NodeState) (input : Input) (fault : Fault)
      → count config who (effect_of config who node.facts node.memory input).sends ≤ n
      → count config who (floored_node_step config who floor node input fault).sends ≤ n
  step_few floor node input fault le =
      outcome_if (not (accepts_input who input)) _ _ none_few
      (outcome_if (not node.up) _ _ none_few (outcome_if (is_input_below floor input) _ _ none_few
      (effect_few node (effect_of config who node.facts node.memory input)
      (effect_of config who node.facts node.memory input).fact node.tear fault le)))

-- an input that sends few datagrams, at whatever node
pub sent_few : (config : Config) (world : World) (floor : Option Place) (who : NodeId) (input : Input) (fault : Fault) (n : ℕ)
    → ((facts : List Fact) (memory : Memory) → count config who (effect_of config who facts memory input).sends ≤ n)
    → length (at_floored_node config world floor who input fault).sent ≤ n
sent_few config world floor who input fault n bound = found_few (node_at config world who)
  where
    found_few : (o : Option NodeState) → length (if_found world (λ node. outcome_result config world who node.facts
        (floored_node_step config who floor node input fault)) o).sent ≤ n
    found_few None = omega arith
    found_few (Some node) = step_few config who n floor node input fault (bound node.facts node.memory)

-- an event sends few that does where it reaches its node
few_sent : (config : Config) (world : FlooredWorld) (event : Event) (most : ℕ)
    → ((fault : Fault) → length (floored_dispatch config world (with_floors event) fault).sent ≤ most) → (fault : Fault)
    → length (step_with_floors config world event fault).sent ≤ most
few_sent config world event most few NoMemoryBefore = omega arith
few_sent config world event most few fault = few fault

-- a request sends as few
pub asked_few : (config : Config) (world : FlooredWorld) (who : NodeId) (request : Request) (fault : Fault) (most : ℕ)
    → ((facts : List Fact) (memory : Memory) → count config who (effect_of config who facts memory (Asked request)).sends ≤ most)
    → length (step_with_floors config world (Ask who request) fault).sent ≤ most
asked_few config world who request fault most bound =
    few_sent config world (Ask who request) most
    (λ fault. sent_few config world.machine (world.floor who) who (Asked request) fault most bound) fault

-- a datagram that is handed over sends as few
pub delivered_few : (config : Config) (world : FlooredWorld) (n : ℕ) (kept : DatagramParts) (fault : Fault) (most : ℕ)
    → Finds world.machine.net n (Some kept)
    → ((facts : List Fact) (memory : Memory)
    → count config kept.receiver (effect_of config kept.receiver facts memory (datagram_input kept.bytes)).sends ≤ most)
    → length (step_with_floors config world (Deliver n) fault).sent ≤ most
delivered_few config world n kept fault most (d, at, is) bound = few_sent config world (Deliver n) most handed fault
  where
    input_is : datagram_input kept.bytes ≡ Received d.message
    input_is = ap (λ (o : Option Kind). option_map_or Received o ReceivedNoise) (message_found d.message kept.bytes is.spells)

    handed : (fault : Fault) → length (floored_dispatch config world (with_floors (Deliver n)) fault).sent ≤ most
    handed fault =
        subst (λ (o : Option Datagram). length (if_found world.machine (λ d.
        at_floored_node config (with_mark world.machine n) (world.floor d.receiver) d.receiver (Received d.message) fault) o).sent ≤ most)
        (sym at)
        (sent_few config (with_mark world.machine n) (world.floor d.receiver) d.receiver (Received d.message) fault most (λ facts memory.
        subst (λ (input : Input). count config d.receiver (effect_of config d.receiver facts memory input).sends ≤ most) input_is
        (subst (λ (who : NodeId). count config who (effect_of config who facts memory (datagram_input kept.bytes)).sends ≤ most)
        is.receiver_is (bound facts memory))))

-- noise sends nothing
pub noise_silent : (config : Config) (world : FlooredWorld) (who : NodeId) (bytes : List ℕ) (fault : Fault)
    → length (step_with_floors config world (Noise who bytes) fault).sent ≤ 0
noise_silent config world who bytes fault = few_sent config world (Noise who bytes) 0 handed fault
  where
    forged : (o : Option NodeState)
        → length (if_found world.machine (λ node. answer_result world.machine (Refused refusals.Forged)) o).sent ≤ 0
    forged None = omega arith
    forged (Some node) = omega arith

    handed : (fault : Fault) → length (floored_dispatch config world (with_floors (Noise who bytes)) fault).sent ≤ 0
    handed fault =
        cond_both (spells_message bytes)
        (if_found world.machine (λ node. answer_result world.machine (Refused refusals.Forged)) (node_at config world.machine who))
        (at_node config world.machine who ReceivedNoise fault) (λ (r : StepResult). length r.sent ≤ 0)
        (λ spelled. forged (node_at config world.machine who))
        (λ garbled. sent_few config world.machine None who ReceivedNoise fault 0 (λ facts memory. omega arith))

-- less room will do
pub room_less : (network : NetworkParts) (few many : ℕ) → few ≤ many → HasRoom many network → HasRoom few network
room_less network few many le room =
    let bytes : few * MAX_MESSAGE_BYTES ≤ many * MAX_MESSAGE_BYTES = mul-le-mul_right MAX_MESSAGE_BYTES le in
    record {
      datagrams = omega (arith, room.datagrams, le);
      bytes = through (few * MAX_MESSAGE_BYTES) (many * MAX_MESSAGE_BYTES) network.spare_bytes bytes room.bytes;
    }
  where
    through : (a b c : ℕ) → a ≤ b → b ≤ c → a ≤ c
    through a b c p q = omega (arith, p, q)

-- ---- a node is reached

module _ (config : Config) (world : FlooredWorld) (sizes : Sizes) (nodes : List FlooredParts) (network : NetworkParts)
    (notices : NoticesParts) (s : ClusterStands config (cluster_of sizes nodes network notices) world) (who : NodeId) (at : ℕ)
    (is : place (config_by sizes []) who ≡ Some at) (input : Input) (d new : FlooredParts) (out : Output)
    (steps : (config : Config) (m : NodeState) → FlooredStands config (get_or nodes at d) m → FlooredStepsAs config m input
    (get_or nodes at d) new out) where
  abbrev old : FlooredParts
  old = get_or nodes at d

  own : (m : NodeState) × (slice_get world.machine.nodes at ≡ Some m) × FlooredStands config old m
  own = there config world sizes nodes network notices s who at is d

  abbrev state : NodeState
  state = own.0

  abbrev floor : Option Place
  floor = world.floor who

  who_is : old.node.who ≡ who
  who_is = named config world sizes nodes network notices s who at is d

  floor_was : old.floor ≡ floor
  floor_was = floor_there config world sizes nodes network notices s who at is d

  stepped : FlooredStepsAs config state input old new out
  stepped = steps config state own.2

  abbrev from : At
  from = record { state = state; held = old.node.held; role = old.node.role }

  does : FlooredDoes config who floor from input out stepped.to
  does =
      subst (λ (f : Option Place). FlooredDoes config who f from input out stepped.to) floor_was
      (subst (λ (n : NodeId). FlooredDoes config n old.floor from input out stepped.to) who_is stepped.does)

  abbrev outcome : Outcome
  outcome = floored_node_step config who floor state input does.fault

  shows : IsOutput who state.facts out outcome
  shows = does.output_is

  befalls : Befalls (floored_fact config who floor state input) old.node.held new.node.held does.fault
  befalls =
      subst (λ (held : Held). Befalls (floored_fact config who floor state input) old.node.held held does.fault) stepped.held_is
      does.befalls

  new_stands : FlooredStands config new outcome.node
  new_stands = subst (FlooredStands config new) does.state_is stepped.stands

  node_is : node_at config world.machine who ≡ Some state
  node_is = found config world sizes nodes network notices s who at is state own.1

  -- how many datagrams it sends, where the input can't send more
  pub sends_few : (n : ℕ)
      → ((config : Config) → AreSizes config sizes → (facts : List Fact) (memory : Memory)
      → count config who (effect_of config who facts memory input).sends ≤ n)
      → length (flat_map (datagrams_of (config_by sizes []) who) out.sends) ≤ n
  sends_few n bound =
      subst (λ (ds : List Datagram). length ds ≤ n)
      (ap (flat_map (datagrams_of config who)) (sym shows.sends_are) ∙ sym (datagrams_as config sizes s.sizes_are who out.sends))
      (step_few config who n floor state input does.fault (bound config s.sizes_are state.facts state.memory))

  befallen : (o : Option NodeState) → o ≡ Some state
      → BefallsAt config world nodes (set nodes at new) (who, input) o does.fault
  befallen None e = absurd (cc (e))
  befallen (Some m) e =
      let m_is : state ≡ m = cc (e) in
      at_place config world sizes nodes network notices s who at is
      (λ (before after : FlooredParts). Befalls (floored_fact config who floor m input) before.node.held after.node.held does.fault) d new
      (subst (λ (a : NodeState). Befalls (floored_fact config who floor a input) old.node.held new.node.held does.fault) m_is befalls)

  -- what comes of an input at a node of a cluster
  pub reached : (after : NetworkParts) (answered : Answered)
      → HaveSent network after (flat_map (datagrams_of (config_by sizes []) who) out.sends)
      → answered.answer ≡ out.reply → answered.now ≡ out.now
      → ReachesAs config world world.machine who input (cluster_of sizes nodes network notices)
      (cluster_of sizes (set nodes at new) after notices) answered
  reached after answered so answer_is now_is =
      let datagrams : flat_map (datagrams_of (config_by sizes []) who) out.sends ≡ flat_map (datagrams_of config who) outcome.sends =
      datagrams_as config sizes s.sizes_are who out.sends ∙ ap (flat_map (datagrams_of config who)) shows.sends_are in
      let result : StepResult = outcome_result config world.machine who state.facts outcome in
      let comes : ComesTo config (cluster_of sizes (set nodes at new) after notices) answered (came_of world result) =
      record {
        answer_is = answer_is ∙ shows.reply_is;
        now_is = now_is ∙ shows.now_is;
        stands =
            node_put config world sizes nodes network notices s who at is d new outcome.node stepped.same stepped.floor_is new_stands after
            (world.machine.net ++ flat_map (datagrams_of config who) outcome.sends)
            (subst (λ (ds : List Datagram). StandsFor after (world.machine.net ++ ds)) datagrams (so world.machine.net s.net_is));
      } in
      record {
        fault = does.fault;
        reached = λ e. subst (λ (f : Fault). Befalls (floored_fact config who floor state input) old.node.held new.node.held f) e befalls;
        same = same_but sizes nodes network after notices notices at d new (same_floored old new stepped.same);
        others = others_stay (place config who) at nodes new (placed config world sizes nodes network notices s who at is);
        befalls = befallen (node_at config world.machine who) node_is;
        comes =
            subst (λ (o : Option NodeState). ComesTo config (cluster_of sizes (set nodes at new) after notices) answered (by_found o))
            (sym node_is) comes;
      }
    where
      -- what comes of it, by the node that there is
      by_found : Option NodeState → FlooredResult
      by_found o =
          came_of world (if_found world.machine (λ (node : NodeState). outcome_result config world.machine who node.facts
          (floored_node_step config who floor node input does.fault)) o)
