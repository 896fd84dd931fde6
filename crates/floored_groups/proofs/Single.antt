-- What becomes of a cluster whose nodes have floors and work in groups is what events with floors make, one at a time. So its floors pass
-- nothing that is prepared.
-- Needed by `groups_are_floored_events` and `nothing_is_below`; crate process_history.
use Rattle.std.proofs.Common.{◌≡◌, ◌∙◌, inl, inr, ℕ, Bool, true, false, not, if◌then◌else◌, List, [], ◌∷◌, ◌++◌, Option, Some, None}
use Rattle.std.proofs.Common.{refl, sym, ap, subst, append-nil}
use Rattle.std.specs.Prelude.{slice_get}
use Rattle.std.specs.List.{AllByRecursion, flat_map}
use Rattle.std.proofs.lemmas.Grind.{flat_map-append}
use Rattle.xid.specs.Places.{Place}
use Rattle.xid.specs.declared.refusals.Refusal.TheVariants.{NoSuch, Down}
use Rattle.ballot.specs.Greatest.{IsIn}
use Rattle.wire.specs.declared.message.Kind.{Kind}
use Rattle.stable_record.specs.declared.fact.FactKind.{FactKind as Fact}
use Rattle.protocol.specs.declared.requests.Request.{Request}
use Rattle.safety.specs.Vocabulary.{NodeId, A, L, R, Outgoing, Done, Refused, Event, Ask, Deliver, Noise, Restart, Compact, Tear}
use Rattle.protocol.proofs.Lists.{IsIn-append, IsIn-before, IsIn-after, IsIn-map, IsIn-mapped}
use Rattle.progress.proofs.Mail.{Letter, letter_of, mail, marked_mail, deliverable, letters, letters_of, posted_mail}
use Rattle.progress.proofs.Backed.{AllAmong}
use Rattle.safety.proofs.World.NodePlaces.{node_there}
use Rattle.protocol.specs.Effects.{Config, Effect}
use Rattle.protocol.specs.Nodes.{NodeState, Memory, Input, Asked, Received, ReceivedNoise, Fault, NoFault, NoMemoryBefore, NoMemoryAt}
use Rattle.protocol.specs.Nodes.{RecordFails, Outcome, node_step, accepts_input, effect_of, effect_outcome, answer_outcome, down_answer}
use Rattle.protocol.specs.Nodes.{restart_outcome, compact_outcome}
use Rattle.protocol.specs.Worlds.{World, Datagram, node_at, set_node, datagrams_of, datagram_at, with_mark, mark_at, if_found}
use Rattle.protocol.specs.Worlds.{outcome_result, answer_result, at_node, world_after}
use Rattle.groups.specs.Runs.{Handed, CanBeHanded, is_upkeep}
use Rattle.groups.proofs.Steps.{put_twice}
use Rattle.groups.proofs.Upkeep.{upkeep_net}
use Rattle.floors.specs.Nodes.{floored_node_step, is_input_below, forgotten_answer, may_replace, is_unread, on_raise}
use Rattle.floors.specs.Worlds.{FlooredWorld, FlooredEvent, FlooredResult, Notice, Machine, Raise, Hear, Replace, floored_step}
use Rattle.floors.specs.Worlds.{floored_if_found, hear_at, hear_result, is_manager, raise_at, raise_result, replace_at, replace_result}
use Rattle.floors.specs.Worlds.{at_floored_node, with_entry, with_told_lost, nothing_told}
use Rattle.floors.specs.Runs.{IsFlooredReachable, After, does_raise, does_rise, events_in_machine, is_put_in, receiver_of, with_fault}
use Rattle.floors.specs.Runs as reachable
use Rattle.floors.proofs.Nodes.{above_is, restart_silent, compact_silent}
use Rattle.floors.proofs.Places.{put_same}
use Rattle.floors.proofs.Steps.{in_machine}
use Rattle.floored_groups.specs.Runs.{IsFlooredReached, Opening, Grouped, Kept, IsOneByOne, floored_node_after}
use Rattle.floored_groups.specs.Runs.{floored_sends_after, is_floored_upkeep, with_net}
use Rattle.floored_groups.proofs.Going.{IsMet}

-- a world in which a node has become another
abbrev with_node : Config → FlooredWorld → NodeId → NodeState → FlooredWorld
with_node config world who node = record world { machine = set_node config world.machine who node }

-- ---- one input

module _ (config : Config) (who : NodeId) (floor : Option Place) (node : NodeState) (input : Input) where
  unreached_by : (accepts up below : Bool) (fact : Option Fact) (tear : Option ℕ) (e : Effect Memory)
      → (if not accepts then answer_outcome node (Refused NoSuch) else if not up then answer_outcome node (down_answer input)
      else if below then answer_outcome node (forgotten_answer input) else effect_outcome node e fact tear NoFault)
      ≡ (if not accepts then answer_outcome node (Refused NoSuch) else if not up then answer_outcome node (down_answer input)
      else if below then answer_outcome node (forgotten_answer input) else effect_outcome node e fact tear NoMemoryBefore)
  unreached_by false up below fact tear e = refl
  unreached_by true false below fact tear e = refl
  unreached_by true true true fact tear e = refl
  unreached_by true true false None tear e = refl
  unreached_by true true false (Some fact) None e = refl
  unreached_by true true false (Some fact) (Some n) e = refl

  -- want of memory before a node is reached isn't told from no fault at the node
  unreached : floored_node_step config who floor node input NoFault ≡ floored_node_step config who floor node input NoMemoryBefore
  unreached =
      let e = effect_of config who node.facts node.memory input in
      unreached_by (accepts_input who input) node.up (is_input_below floor input) e.fact node.tear e

-- an input leads on, one event more
record LeadsOn (config : Config) (world : FlooredWorld) (net : List Datagram) (who : NodeId) (outcome : Outcome) : Type 0 where
  pub more : List Datagram
  pub reach : IsFlooredReachable config (with_net (with_node config world who outcome.node) more)
  pub mail_is : mail more ≡ mail net ++ letters config outcome.sends

module _ (config : Config) (world : FlooredWorld) (net : List Datagram) (who : NodeId) (node : NodeState)
    (is : node_at config world.machine who ≡ Some node) (reach : IsFlooredReachable config (with_net world net)) where
  abbrev step : Input → Fault → Outcome
  step input fault = floored_node_step config who (world.floor who) node input fault

  -- by an event after which the world is so
  leads_by : (input : Input) (fault : Fault) (event : Event) (fault_of : Fault) (marked : List Datagram) → mail marked ≡ mail net
      → (floored_step config (with_net world net) (Machine event) fault_of).world
      ≡ with_net (with_node config world who (step input fault).node)
      (marked ++ flat_map (datagrams_of config who) (step input fault).sends)
      → LeadsOn config world net who (step input fault)
  leads_by input fault event fault_of marked same e = record {
    more = marked ++ flat_map (datagrams_of config who) (step input fault).sends;
    reach = subst (IsFlooredReachable config) e (After (with_net world net) (Machine event) fault_of reach);
    mail_is =
        posted_mail config who marked (step input fault).sends
        ∙ ap (λ (ls : List Letter). ls ++ letters config (step input fault).sends) same;
  }

  abbrev came : List Datagram → Input → Fault → World
  came marked input fault = (at_floored_node config (record world.machine { net = marked }) (world.floor who) who input fault).world

  came_is : (marked : List Datagram) (input : Input) (fault : Fault)
      → record world { machine = came marked input fault }
      ≡ with_net (with_node config world who (step input fault).node)
      (marked ++ flat_map (datagrams_of config who) (step input fault).sends)
  came_is marked input fault =
      ap (λ (o : Option NodeState). record world {
        machine = (if_found (record world.machine { net = marked }) (λ found.
            outcome_result config (record world.machine { net = marked }) who found.facts
            (floored_node_step config who (world.floor who) found input fault)) o).world;
      }) is

  asked : (request : Request) (fault : Fault) → IsMet fault → LeadsOn config world net who (step (Asked request) fault)
  asked request NoMemoryBefore at = absurd at
  asked request NoFault at = leads_by (Asked request) NoFault (Ask who request) NoFault net refl (came_is net (Asked request) NoFault)
  asked request NoMemoryAt at =
      leads_by (Asked request) NoMemoryAt (Ask who request) NoMemoryAt net refl (came_is net (Asked request) NoMemoryAt)
  asked request (RecordFails whole) at =
      leads_by (Asked request) (RecordFails whole) (Ask who request) (RecordFails whole) net refl
      (came_is net (Asked request) (RecordFails whole))

  module _ (message : Kind) (n : ℕ) (d : Datagram) (there : datagram_at net n ≡ Some d)
      (same : letter_of d ≡ record { receiver = who; message = message }) where
    -- what comes of a delivery
    delivered : (fault : Fault)
        → record world {
          machine = (if_found (with_net world net).machine (λ x.
              at_floored_node config (with_mark (with_net world net).machine n) (world.floor x.receiver) x.receiver (Received x.message)
              fault)
              (datagram_at net n)).world;
        } ≡ record world { machine = came (mark_at net n) (Received message) fault }
    delivered fault =
        ap (λ (o : Option Datagram). record world {
          machine = (if_found (with_net world net).machine (λ x.
              at_floored_node config (with_mark (with_net world net).machine n) (world.floor x.receiver) x.receiver (Received x.message)
              fault)
              o).world;
        }) there
        ∙ ap (λ (l : Letter). record world {
          machine = (at_floored_node config (with_mark (with_net world net).machine n) (world.floor l.receiver) l.receiver
              (Received l.message) fault).world;
        }) same

    heard_by : (fault : Fault) → IsMet fault → LeadsOn config world net who (step (Received message) fault)
    heard_by NoMemoryBefore at = absurd at
    heard_by NoFault at =
        leads_by (Received message) NoFault (Deliver n) NoFault (mark_at net n) (marked_mail net n)
        (delivered NoFault ∙ came_is (mark_at net n) (Received message) NoFault)
    heard_by NoMemoryAt at =
        leads_by (Received message) NoMemoryAt (Deliver n) NoMemoryAt (mark_at net n) (marked_mail net n)
        (delivered NoMemoryAt ∙ came_is (mark_at net n) (Received message) NoMemoryAt)
    heard_by (RecordFails whole) at =
        leads_by (Received message) (RecordFails whole) (Deliver n) (RecordFails whole) (mark_at net n) (marked_mail net n)
        (delivered (RecordFails whole) ∙ came_is (mark_at net n) (Received message) (RecordFails whole))

  heard : (message : Kind) → IsIn (mail net) (record { receiver = who; message = message }) → (fault : Fault) → IsMet fault
      → LeadsOn config world net who (step (Received message) fault)
  heard message among fault at =
      let d = deliverable net (record { receiver = who; message = message }) among in
      heard_by message d.number d.datagram d.there d.is fault at

  -- noise is below no floor
  noise_is : (fault : Fault)
      → record world { machine = (at_node config (with_net world net).machine who ReceivedNoise fault).world }
      ≡ record world { machine = came net ReceivedNoise fault }
  noise_is fault =
      ap (λ (o : Option NodeState). record world {
        machine = (if_found (with_net world net).machine (λ found.
            outcome_result config (with_net world net).machine who found.facts (node_step config who found ReceivedNoise fault)) o).world;
      }) is
      ∙ ap (λ (o : Outcome). record world { machine = (outcome_result config (with_net world net).machine who node.facts o).world })
      (sym (above_is config who (world.floor who) node ReceivedNoise fault refl))
      ∙ sym (ap (λ (o : Option NodeState). record world {
        machine = (if_found (with_net world net).machine (λ found.
            outcome_result config (with_net world net).machine who found.facts
            (floored_node_step config who (world.floor who) found ReceivedNoise fault)) o).world;
      }) is)

  noise : (fault : Fault) → IsMet fault → LeadsOn config world net who (step ReceivedNoise fault)
  noise NoMemoryBefore at = absurd at
  noise NoFault at =
      leads_by ReceivedNoise NoFault (Noise who []) NoFault net refl (noise_is NoFault ∙ came_is net ReceivedNoise NoFault)
  noise NoMemoryAt at =
      leads_by ReceivedNoise NoMemoryAt (Noise who []) NoMemoryAt net refl (noise_is NoMemoryAt ∙ came_is net ReceivedNoise NoMemoryAt)
  noise (RecordFails whole) at =
      leads_by ReceivedNoise (RecordFails whole) (Noise who []) (RecordFails whole) net refl
      (noise_is (RecordFails whole) ∙ came_is net ReceivedNoise (RecordFails whole))

  -- what can be received was sent
  abbrev IsMailed : Input → Type 0
  IsMailed (Asked request) = Unit {0}
  IsMailed (Received message) = IsIn (mail net) (record { receiver = who; message = message })
  IsMailed ReceivedNoise = Unit {0}

  by_input : (input : Input) → IsMailed input → (fault : Fault) → IsMet fault → LeadsOn config world net who (step input fault)
  by_input (Asked request) mailed fault at = asked request fault at
  by_input (Received message) mailed fault at = heard message mailed fault at
  by_input ReceivedNoise mailed fault at = noise fault at

  one_input : (input : Input) → IsMailed input → (fault : Fault) → LeadsOn config world net who (step input fault)
  one_input input mailed NoFault = by_input input mailed NoFault tt
  one_input input mailed NoMemoryAt = by_input input mailed NoMemoryAt tt
  one_input input mailed (RecordFails whole) = by_input input mailed (RecordFails whole) tt
  one_input input mailed NoMemoryBefore =
      subst (LeadsOn config world net who) (unreached config who (world.floor who) node input) (by_input input mailed NoFault tt)

-- ---- a group

-- a group was handled one input after another, and all of it was sent
record HasLed (config : Config) (world : FlooredWorld) (net : List Datagram) (who : NodeId) (node : NodeState) (group : List Handed)
    : Type 0 where
  pub more : List Datagram
  pub reach : IsFlooredReachable config
      (with_net (with_node config world who (floored_node_after config who (world.floor who) node group)) more)
  pub kept : AllAmong (mail net) (mail more)
  pub sent : AllAmong (letters config (floored_sends_after config who (world.floor who) node group)) (mail more)

module _ (config : Config) (who : NodeId) where
  mailed_in : (machine : World) (world : FlooredWorld) (net : List Datagram) (node : NodeState)
      (is : node_at config world.machine who ≡ Some node) (reach : IsFlooredReachable config (with_net world net)) (input : Input)
      → AllAmong (mail machine.net) (mail net) → CanBeHanded machine who input → IsMailed config world net who node is reach input
  mailed_in machine world net node is reach (Asked request) some can = tt
  mailed_in machine world net node is reach (Received message) some (d, there, to, said) =
      some (record { receiver = who; message = message })
      (subst (IsIn (mail machine.net)) (λ i. record { receiver = to i; message = said i }) (IsIn-map letter_of machine.net d there))
  mailed_in machine world net node is reach ReceivedNoise some can = tt

  -- a node put twice in its place
  twice : (world : FlooredWorld) (net : List Datagram) (x y : NodeState)
      → with_net (with_node config (with_node config world who x) who y) net ≡ with_net (with_node config world who y) net
  twice world net x y = λ i. record world { machine = record { nodes = put_twice config who world.machine.nodes x y i; net = net } }

  led_on : (group : List Handed) (machine : World) (world : FlooredWorld) (net : List Datagram) (node : NodeState)
      → node_at config world.machine who ≡ Some node → IsFlooredReachable config (with_net world net)
      → AllAmong (mail machine.net) (mail net) → AllByRecursion (λ (h : Handed). CanBeHanded machine who h.input) group
      → HasLed config world net who node group
  led_on [] machine world net node is reach some all = record {
    more = net;
    reach =
        subst (λ (m : World). IsFlooredReachable config (with_net (record world { machine = m }) net))
        (sym (put_same config world.machine who node is)) reach;
    kept = λ letter h. h;
    sent = λ letter h. absurd h;
  }
  led_on (first ∷ rest) machine world net node is reach some all =
      let outcome : Outcome = floored_node_step config who (world.floor who) node first.input first.fault in
      let c = one_input config world net who node is reach first.input (mailed_in machine world net node is reach first.input some all.0)
      first.fault in
      let kept : AllAmong (mail net) (mail c.more) = λ letter h.
      subst (λ (ls : List Letter). IsIn ls letter) (sym c.mail_is) (IsIn-before (mail net) (letters config outcome.sends) letter h) in
      let posted : AllAmong (letters config outcome.sends) (mail c.more) = λ letter h.
      subst (λ (ls : List Letter). IsIn ls letter) (sym c.mail_is) (IsIn-after (mail net) (letters config outcome.sends) letter h) in
      let r = led_on rest machine (with_node config world who outcome.node) c.more outcome.node
      (node_there config world.machine who node outcome.node is) c.reach (λ letter h. kept letter (some letter h)) all.1 in
      let last : NodeState = floored_node_after config who (world.floor who) outcome.node rest in
      record {
        more = r.more;
        reach = subst (IsFlooredReachable config) (twice world r.more outcome.node last) r.reach;
        kept = λ letter h. r.kept letter (kept letter h);
        sent = λ letter h.
            elim (IsIn-append (letters config outcome.sends)
            (letters config (floored_sends_after config who (world.floor who) outcome.node rest)) letter
            (subst (λ (ls : List Letter). IsIn ls letter)
            (flat_map-append (letters_of config) outcome.sends (floored_sends_after config who (world.floor who) outcome.node rest)) h)) [
              | inl here ↦ r.kept letter (posted letter here)
              | inr later ↦ r.sent letter later
            ];
      }

  sent_by : (net more : List Datagram) (sends : List Outgoing) → AllAmong (mail net) (mail more)
      → AllAmong (letters config sends) (mail more) → (is_stored : Bool)
      → AllAmong (mail (if is_stored then net ++ flat_map (datagrams_of config who) sends else net)) (mail more)
  sent_by net more sends old new true = λ letter h.
      elim (IsIn-append (mail net) (letters config sends) letter
      (subst (λ (ls : List Letter). IsIn ls letter) (posted_mail config who net sends) h)) [
        | inl before ↦ old letter before
        | inr later ↦ new letter later
      ]
  sent_by net more sends old new false = old

-- ---- other events don't see the net

module _ (config : Config) (world : FlooredWorld) (net : List Datagram) where
  abbrev bare : World
  bare = (with_net world net).machine

  silent_is : (who : NodeId) (node : NodeState) (outcome : Outcome) → outcome.sends ≡ []
      → (outcome_result config bare who node.facts outcome).world ≡ record (set_node config world.machine who outcome.node) { net = net }
  silent_is who node outcome silent = λ i. record {
    nodes = (set_node config world.machine who outcome.node).nodes;
    net = (ap (λ (sends : List Outgoing). net ++ flat_map (datagrams_of config who) sends) silent ∙ append-nil net) i;
  }

  -- of an outcome with nothing sent
  machine_by : (who : NodeId) (told : NodeId → ℕ → Option Place) (outcome : NodeState → Outcome)
      → ((node : NodeState) → (outcome node).sends ≡ []) → (o : Option NodeState)
      → record world { machine = (if_found bare (λ node. outcome_result config bare who node.facts (outcome node)) o).world; told = told }
      ≡ with_net (record world {
        machine = (if_found world.machine (λ node. outcome_result config world.machine who node.facts (outcome node)) o).world;
        told = told;
      }) net
  machine_by who told outcome silent None = refl
  machine_by who told outcome silent (Some node) =
      ap (λ (m : World). record world { machine = m; told = told }) (silent_is who node (outcome node) (silent node))

  compact_by : (who : NodeId) (fault : Fault) (o : Option NodeState)
      → record world {
        machine = (if_found bare (λ node. if node.up then outcome_result config bare who node.facts (compact_outcome node fault)
            else answer_result bare (Refused Down)) o).world;
      }
      ≡ with_net (record world {
        machine = (if_found world.machine (λ node.
            if node.up then outcome_result config world.machine who node.facts (compact_outcome node fault)
            else answer_result world.machine (Refused Down)) o).world;
      }) net
  compact_by who fault None = refl
  compact_by who fault (Some node) = by_up node.up
    where
      by_up : (up : Bool)
          → record world {
            machine = (if up then outcome_result config bare who node.facts (compact_outcome node fault)
                else answer_result bare (Refused Down)).world;
          }
          ≡ with_net (record world {
            machine = (if up then outcome_result config world.machine who node.facts (compact_outcome node fault)
                else answer_result world.machine (Refused Down)).world;
          }) net
      by_up true =
          ap (λ (m : World). record world { machine = m })
          (silent_is who node (compact_outcome node fault) (compact_silent node fault))
      by_up false = refl

  torn_by : (who : NodeId) (n : ℕ) (o : Option NodeState)
      → record world {
        machine = (if_found bare (λ node. answer_result (set_node config bare who (record node { tear = Some n })) Done) o).world;
      }
      ≡ with_net (record world {
        machine = (if_found world.machine (λ node.
            answer_result (set_node config world.machine who (record node { tear = Some n })) Done) o).world;
      }) net
  torn_by who n None = refl
  torn_by who n (Some node) = refl

  -- of results that differ in the net alone
  abbrev IsBeside : FlooredResult → FlooredResult → Type 0
  IsBeside a b = a.world ≡ with_net b.world net

  beside_if : (t : Bool) (a b c d : FlooredResult) → IsBeside a c → IsBeside b d → IsBeside (if t then a else b) (if t then c else d)
  beside_if true a b c d x y = x
  beside_if false a b c d x y = y

  raise_by : (rm : ℕ) (place : Place) (fault : Fault) (o : Option NodeState)
      → IsBeside
      (floored_if_found (with_net world net) (λ node.
      raise_result config (with_net world net) rm (on_raise (world.floor (R rm)) node place fault)) o)
      (floored_if_found world (λ node. raise_result config world rm (on_raise (world.floor (R rm)) node place fault)) o)
  raise_by rm place fault None = refl
  raise_by rm place fault (Some node) = refl

  raised : (who : NodeId) (place : Place) (fault : Fault)
      → IsBeside (raise_at config (with_net world net) who place fault) (raise_at config world who place fault)
  raised (R rm) place fault = raise_by rm place fault (node_at config world.machine (R rm))
  raised (A a) place fault = refl
  raised (L l) place fault = refl

  hear_by : (notice : Notice) (fault : Fault) (o : Option NodeState)
      → IsBeside (floored_if_found (with_net world net) (hear_result config (with_net world net) notice fault) o)
      (floored_if_found world (hear_result config world notice fault) o)
  hear_by notice fault None = refl
  hear_by notice fault (Some node) = beside_if node.up _ _ _ _ refl refl

  heard_at : (fault : Fault) (o : Option Notice)
      → IsBeside (floored_if_found (with_net world net) (hear_at config (with_net world net) fault) o)
      (floored_if_found world (hear_at config world fault) o)
  heard_at fault None = refl
  heard_at fault (Some notice) =
      beside_if (is_manager notice.receiver) _ _ _ _ refl (hear_by notice fault (node_at config world.machine notice.receiver))

  lost_by : (who : NodeId) (t : Bool) → with_told_lost (with_net world net) who t ≡ with_net (with_told_lost world who t) net
  lost_by who true = refl
  lost_by who false = refl

  replace_by : (who : NodeId) (place : Place) (fault : Fault) (o : Option NodeState)
      → IsBeside (floored_if_found (with_net world net) (replace_result config (with_net world net) who place fault) o)
      (floored_if_found world (replace_result config world who place fault) o)
  replace_by who place fault None = refl
  replace_by who place fault (Some node) =
      beside_if (may_replace (world.floor who) node place) _ _ _ _ refl (lost_by who (is_unread node fault))

  replaced : (who : NodeId) (place : Place) (fault : Fault)
      → IsBeside (replace_at config (with_net world net) who place fault) (replace_at config world who place fault)
  replaced who place fault =
      beside_if (is_manager who) _ _ _ _ refl (replace_by who place fault (node_at config world.machine who))

  abbrev IsKept : FlooredEvent → Fault → Type 0
  IsKept event fault = IsBeside (floored_step config (with_net world net) event fault) (floored_step config world event fault)

  restart_kept : (who : NodeId) (fault : Fault) → IsKept (Machine (Restart who)) fault
  restart_kept who NoMemoryBefore = refl
  restart_kept who fault =
      machine_by who (with_entry world.told who nothing_told) (λ (node : NodeState). restart_outcome config who node fault)
      (λ node. restart_silent config who node fault) (node_at config world.machine who)

  compact_kept : (who : NodeId) (fault : Fault) → IsKept (Machine (Compact who)) fault
  compact_kept who NoMemoryBefore = refl
  compact_kept who fault = compact_by who fault (node_at config world.machine who)

  tear_kept : (who : NodeId) (n : ℕ) (fault : Fault) → IsKept (Machine (Tear who n)) fault
  tear_kept who n NoMemoryBefore = refl
  tear_kept who n fault = torn_by who n (node_at config world.machine who)

  -- an event that hands no input leads to the same world, whatever the net
  pub beside : (event : FlooredEvent) (fault : Fault) → is_floored_upkeep event ≡ true → IsKept event fault
  beside (Machine (Restart who)) fault is = restart_kept who fault
  beside (Machine (Compact who)) fault is = compact_kept who fault
  beside (Machine (Tear who n)) fault is = tear_kept who n fault
  beside (Machine event) fault is = absurd (cc (is))
  beside (Raise who place) NoMemoryBefore is = refl
  beside (Raise who place) fault is = raised who place fault
  beside (Hear n) NoMemoryBefore is = refl
  beside (Hear n) fault is = heard_at fault (slice_get world.notices n)
  beside (Replace who place) NoMemoryBefore is = refl
  beside (Replace who place) fault is = replaced who place fault

-- ---- and send nothing

module _ (config : Config) (world : FlooredWorld) where
  none_if : (t : Bool) (event : Event) (fault : Fault) → is_upkeep event ≡ true
      → (world_after config world.machine (with_fault fault (if t then event ∷ [] else []))).net ≡ world.machine.net
  none_if true event fault is = upkeep_net config world.machine event fault is
  none_if false event fault is = refl

  none_by : (event : FlooredEvent) (fault : Fault) → is_floored_upkeep event ≡ true
      → (world_after config world.machine (with_fault fault (events_in_machine config world event))).net ≡ world.machine.net
  none_by (Machine (Restart who)) fault is = none_if true (Restart who) fault is
  none_by (Machine (Compact who)) fault is = none_if true (Compact who) fault is
  none_by (Machine (Tear who n)) fault is = none_if true (Tear who n) fault is
  none_by (Machine event) fault is = absurd (cc (is))
  none_by (Raise who place) fault is = none_if (does_raise config world who place) (Compact who) fault refl
  none_by (Hear n) fault is =
      none_if (does_rise config world (slice_get world.notices n)) (Compact (receiver_of (slice_get world.notices n))) fault refl
  none_by (Replace who place) fault is = none_if (is_put_in config world who place) (Restart who) fault refl

  none_sent : (event : FlooredEvent) (fault : Fault) → is_floored_upkeep event ≡ true
      → (floored_step config world event fault).world.machine.net ≡ world.machine.net
  none_sent event fault is = ap (λ (w : World). w.net) (in_machine config world event fault) ∙ none_by event fault is

-- ---- any such world

record IsBacked (config : Config) (world : FlooredWorld) : Type 0 where
  pub net : List Datagram
  pub reach : IsFlooredReachable config (with_net world net)
  pub some : AllAmong (mail world.machine.net) (mail net)

backed : (config : Config) (world : FlooredWorld) → IsFlooredReached config world → IsBacked config world
backed config _ Opening = record { net = []; reach = reachable.Opening; some = λ letter h. h }
backed config _ (Grouped world who node group is_stored reach is all) =
    let b = backed config world reach in
    let l = led_on config who group world.machine world b.net node is b.reach b.some all in
    record {
      net = l.more;
      reach = l.reach;
      some =
          sent_by config who world.machine.net l.more (floored_sends_after config who (world.floor who) node group)
          (λ letter h. l.kept letter (b.some letter h)) l.sent is_stored;
    }
backed config _ (Kept world event fault reach is) =
    let b = backed config world reach in
    record {
      net = b.net;
      reach = subst (IsFlooredReachable config) (beside config world b.net event fault is)
          (After (with_net world b.net) event fault b.reach);
      some = λ letter h.
          b.some letter (subst (λ (ds : List Datagram). IsIn (mail ds) letter) (none_sent config world event fault is) h);
    }

-- events with floors, one at a time, lead to each world that groups lead to
pub one_by_one : (config : Config) (world : FlooredWorld) → IsFlooredReached config world → IsOneByOne config world
one_by_one config world reach =
    let b = backed config world reach in
    record {
      net = b.net;
      reached = b.reach;
      sent = λ d h.
          let source = IsIn-mapped letter_of b.net (letter_of d) (b.some (letter_of d) (IsIn-map letter_of world.machine.net d h)) in
          record {
            sent = source.source;
            there = source.among;
            receiver_is = ap (λ (l : Letter). l.receiver) source.maps;
            message_is = ap (λ (l : Letter). l.message) source.maps;
          };
    }
