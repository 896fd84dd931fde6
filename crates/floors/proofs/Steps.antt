-- An event in a world with floors is an event of the machine, or none.
use Rattle.std.proofs.Common.{◌≡◌, ◌∙◌, ℕ, Bool, true, false, not, ◌&&◌, if◌then◌else◌, List, [], ◌∷◌, ◌++◌, Option, Some, None, refl, sym}
use Rattle.std.proofs.Common.{ap, append-nil}
use Rattle.std.specs.Prelude.{slice_get}
use Rattle.std.specs.Option.{option_map_or}
use Rattle.std.specs.List.{flat_map}
use Rattle.std.proofs.lemmas.Bool.{cond_both, cond-true, cond-false}
use Rattle.xid.specs.declared.refusals.Refusal.TheVariants.{NoSuch, Down, Busy}
use Rattle.protocol.specs.declared.requests.Request.{Request}
use Rattle.protocol.specs.declared.requests.Request.TheVariants as requests
use Rattle.safety.specs.Vocabulary.{NodeId, A, L, R, Outgoing, Done, Refused, Event, Ask, Deliver, Lose, Restart, Compact}
use Rattle.protocol.specs.Effects.{Config}
use Rattle.protocol.specs.Nodes.{NodeState, Input, Asked, Received, Fault, NoMemoryBefore, Outcome, node_step, answer_outcome}
use Rattle.protocol.specs.Nodes.{restart_outcome, compact_outcome, ReceivedNoise, accepts_input}
use Rattle.protocol.specs.Worlds.{World, Datagram, StepResult, answer_result, if_found, datagram_at, with_mark, node_at, set_node}
use Rattle.protocol.specs.Worlds.{datagrams_of, outcome_result, at_node, dispatch, world_step, world_after}
use Rattle.xid.specs.Places.{Place, is_lower}
use Rattle.floors.specs.Nodes.{floored_node_step, floor_after, is_passed_over, forgotten_answer, is_free_below, risen, on_raise, on_least}
use Rattle.floors.specs.Nodes.{kept_rise, is_input_below, may_replace, is_unread, not_put_in}
use Rattle.floors.specs.Worlds.{FlooredWorld, FlooredEvent, FlooredResult, Notice, Machine, Raise, Hear, Replace, at_floored_node}
use Rattle.floors.specs.Worlds.{machine_part, on_machine, machine_result, is_manager, raise_at, raise_result, told_with, least_told}
use Rattle.floors.specs.Worlds.{hear_at, hear_result, is_put, with_told_lost, replace_at, replace_result, floored_answer, with_rise}
use Rattle.floors.specs.Worlds.{with_entry, nothing_told, floored_if_found, floored_step}
use Rattle.floors.specs.Runs.{passes_over, is_lost, machine_events, does_raise, does_rise, is_put_in, receiver_of, events_in_machine}
use Rattle.floors.specs.Runs.{with_fault}
use Rattle.xid.proofs.Places.{not_below_none}
use Rattle.floors.proofs.Places.{put_same, same_world, still}
use Rattle.floors.proofs.Nodes.{floored_is, restart_silent, compact_silent}

-- ---- inputs

module _ (config : Config) (base : World) (floor : Option Place) (who : NodeId) (input : Input) (fault : Fault) where
  abbrev PassedOr : Option NodeState → StepResult
  PassedOr o =
      if option_map_or (λ node. is_passed_over who floor node input) o false
      then answer_result base (forgotten_answer input)
      else if_found base (λ node. outcome_result config base who node.facts (node_step config who node input fault)) o

  floored_by : (o : Option NodeState) → node_at config base who ≡ o
      → if_found base (λ node. outcome_result config base who node.facts (floored_node_step config who floor node input fault)) o
      ≡ PassedOr o
  floored_by None is = refl
  floored_by (Some node) is =
      ap (outcome_result config base who node.facts) (floored_is config who floor node input fault)
      ∙ passed_by (is_passed_over who floor node input)
    where
      passed_by : (t : Bool)
          → outcome_result config base who node.facts
          (if t then answer_outcome node (forgotten_answer input) else node_step config who node input fault)
          ≡ (if t then answer_result base (forgotten_answer input)
          else outcome_result config base who node.facts (node_step config who node input fault))
      passed_by true = still config base who node is (forgotten_answer input)
      passed_by false = refl

  -- an input at a node is passed over, or comes to what it comes to without floors
  pub at_floored_is : at_floored_node config base floor who input fault ≡ PassedOr (node_at config base who)
  at_floored_is = floored_by (node_at config base who) refl

module _ (config : Config) (world : FlooredWorld) (fault : Fault) where
  -- a request isn't made, or comes to what it comes to in the machine
  pub asked_is : (who : NodeId) (request : Request)
      → machine_result config world (Ask who request) fault
      ≡ (if passes_over config world who (Asked request) then answer_result world.machine (forgotten_answer (Asked request))
      else dispatch config world.machine (Ask who request) fault)
  asked_is who request = at_floored_is config world.machine (world.floor who) who (Asked request) fault

  delivered_by : (n : ℕ) (o : Option Datagram) → datagram_at world.machine.net n ≡ o
      → if_found world.machine (λ d.
      at_floored_node config (with_mark world.machine n) (world.floor d.receiver) d.receiver (Received d.message) fault) o
      ≡ dispatch config world.machine (if is_lost config world o then Lose n else Deliver n) fault
  delivered_by n None is =
      sym (ap (λ (o : Option Datagram).
      if_found world.machine (λ d. at_node config (with_mark world.machine n) d.receiver (Received d.message) fault) o) is)
  delivered_by n (Some d) is =
      at_floored_is config (with_mark world.machine n) (world.floor d.receiver) d.receiver (Received d.message) fault
      ∙ lost_by (passes_over config world d.receiver (Received d.message))
    where
      lost_by : (t : Bool)
          → (if t then answer_result (with_mark world.machine n) Done
          else at_node config (with_mark world.machine n) d.receiver (Received d.message) fault)
          ≡ dispatch config world.machine (if t then Lose n else Deliver n) fault
      lost_by true = sym (ap (λ (o : Option Datagram).
          if_found world.machine (λ e. answer_result (with_mark world.machine n) Done) o) is)
      lost_by false = sym (ap (λ (o : Option Datagram).
          if_found world.machine (λ e. at_node config (with_mark world.machine n) e.receiver (Received e.message) fault) o) is)

  -- a datagram is lost, or comes to what it comes to in the machine
  pub delivered_is : (n : ℕ)
      → machine_result config world (Deliver n) fault
      ≡ dispatch config world.machine (if is_lost config world (datagram_at world.machine.net n) then Lose n else Deliver n) fault
  delivered_is n = delivered_by n (datagram_at world.machine.net n) refl

-- ---- rises

-- a node that sends nothing
silent_result : (config : Config) (world : World) (who : NodeId) (node : NodeState) (left : Outcome) → left.sends ≡ []
    → (outcome_result config world who node.facts left).world ≡ set_node config world who left.node
silent_result config world who node left silent =
    same_world (outcome_result config world who node.facts left).world (set_node config world who left.node) refl
    (ap (λ (sends : List Outgoing). world.net ++ flat_map (datagrams_of config who) sends) silent ∙ append-nil world.net)

module _ (config : Config) (world : FlooredWorld) (fault : Fault) where
  abbrev compacted : NodeId → Option NodeState → World
  compacted who o = (if_found world.machine (λ node.
      if node.up then outcome_result config world.machine who node.facts (compact_outcome node fault)
      else answer_result world.machine (Refused Down)) o).world

  abbrev restarted : NodeId → Option NodeState → World
  restarted who o = (if_found world.machine (λ node.
      outcome_result config world.machine who node.facts (restart_outcome config who node fault)) o).world

  -- where a floor rises the node is as after a compaction
  risen_is : (who : NodeId) (node : NodeState) → node.up ≡ true
      → set_node config world.machine who (compact_outcome node fault).node ≡ compacted who (Some node)
  risen_is who node up =
      sym (silent_result config world.machine who node (compact_outcome node fault) (compact_silent node fault))
      ∙ sym (ap (λ (r : StepResult). r.world) (cond-true node.up
      (outcome_result config world.machine who node.facts (compact_outcome node fault)) (answer_result world.machine (Refused Down)) up))

  module _ (rm : ℕ) (place : Place) where
    raised_by : (o : Option NodeState) → node_at config world.machine (R rm) ≡ o
        → (floored_if_found world (λ node. raise_result config world rm (on_raise (world.floor (R rm)) node place fault)) o).world.machine
        ≡ (if option_map_or (λ node. node.up && is_lower (world.floor (R rm)) (Some place) && is_free_below place node) o false
        then compacted (R rm) o else world.machine)
    raised_by None is = refl
    raised_by (Some node) is =
        by_tests node.up (is_lower (world.floor (R rm)) (Some place)) (is_free_below place node) refl
      where
        by_tests : (up rises free : Bool) → node.up ≡ up
            → set_node config world.machine (R rm)
            (if not up then kept_rise (world.floor (R rm)) node (Refused Down)
            else if not rises then kept_rise (world.floor (R rm)) node Done
            else if not free then kept_rise (world.floor (R rm)) node (Refused Busy)
            else risen (world.floor (R rm)) node place fault).node
            ≡ (if up && rises && free then compacted (R rm) (Some node) else world.machine)
        by_tests true true true up = risen_is (R rm) node up
        by_tests true true false up = put_same config world.machine (R rm) node is
        by_tests true false free up = put_same config world.machine (R rm) node is
        by_tests false rises free up = put_same config world.machine (R rm) node is

  raised_is : (who : NodeId) (place : Place)
      → (raise_at config world who place fault).world.machine
      ≡ (if does_raise config world who place then compacted who (node_at config world.machine who) else world.machine)
  raised_is (R rm) place = raised_by rm place (node_at config world.machine (R rm)) refl
  raised_is (A a) place = refl
  raised_is (L l) place = refl

  module _ (notice : Notice) where
    abbrev who : NodeId
    who = notice.receiver

    abbrev told : ℕ → Option Place
    told = told_with (world.told who) notice

    abbrev least : Option Place
    least = least_told config told

    least_by : (node : NodeState) → node_at config world.machine who ≡ Some node → node.up ≡ true → (place : Option Place)
        → set_node config world.machine who (on_least (world.floor who) node place fault).node
        ≡ (if is_lower (world.floor who) place then compacted who (Some node) else world.machine)
    least_by node is up None =
        put_same config world.machine who node is
        ∙ sym (cond-false (is_lower (world.floor who) None) (compacted who (Some node)) world.machine (not_below_none (world.floor who)))
    least_by node is up (Some place) = by_test (is_lower (world.floor who) (Some place))
      where
        by_test : (rises : Bool)
            → set_node config world.machine who
            (if rises then risen (world.floor who) node place fault else kept_rise (world.floor who) node Done).node
            ≡ (if rises then compacted who (Some node) else world.machine)
        by_test true = risen_is who node up
        by_test false = put_same config world.machine who node is

    heard_by : (o : Option NodeState) → node_at config world.machine who ≡ o
        → (floored_if_found world (hear_result config world notice fault) o).world.machine
        ≡ (if option_map_or (λ node. node.up && is_lower (world.floor who) least) o false then compacted who o else world.machine)
    heard_by None is = refl
    heard_by (Some node) is = by_test node.up refl
      where
        by_test : (up : Bool) → node.up ≡ up
            → (if up then floored_answer (record (with_rise config world who (on_least (world.floor who) node least fault))
            { told = with_entry world.told who told }) (on_least (world.floor who) node least fault).answer
            else floored_answer world (Refused Down)).world.machine
            ≡ (if up && is_lower (world.floor who) least then compacted who (Some node) else world.machine)
        by_test true up = least_by node is up least
        by_test false up = refl

    heard_is : (hear_at config world fault notice).world.machine
        ≡ (if does_rise config world (Some notice) then compacted who (node_at config world.machine who) else world.machine)
    heard_is = by_test (is_manager who)
      where
        by_test : (t : Bool)
            → (if t then floored_answer world Done
            else floored_if_found world (hear_result config world notice fault) (node_at config world.machine who)).world.machine
            ≡ (if not t && option_map_or (λ node. node.up && is_lower (world.floor who) least) (node_at config world.machine who) false
            then compacted who (node_at config world.machine who) else world.machine)
        by_test true = refl
        by_test false = heard_by (node_at config world.machine who) refl

  handed_is : (o : Option Notice)
      → (floored_if_found world (hear_at config world fault) o).world.machine
      ≡ (if does_rise config world o then compacted (receiver_of o) (node_at config world.machine (receiver_of o)) else world.machine)
  handed_is None = refl
  handed_is (Some notice) = heard_is notice

  module _ (who : NodeId) (place : Place) where
    replaced_by : (o : Option NodeState) → node_at config world.machine who ≡ o
        → (floored_if_found world (replace_result config world who place fault) o).world.machine
        ≡ (if option_map_or (λ node. may_replace (world.floor who) node place) o false then restarted who o else world.machine)
    replaced_by None is = refl
    replaced_by (Some node) is = by_test (may_replace (world.floor who) node place)
      where
        left : Outcome
        left = restart_outcome config who node fault

        by_test : (t : Bool)
            → (if t then floored_answer (record (with_rise config world who
            (record { node = left.node; floor = floor_after (world.floor who) place fault; answer = left.answer })) {
              told = with_entry world.told who nothing_told;
              is_replaced = if is_put fault then with_entry world.is_replaced who true else world.is_replaced;
            }) left.answer
            else floored_answer (with_told_lost world who (is_unread node fault)) (not_put_in config who node fault)).world.machine
            ≡ (if t then restarted who (Some node) else world.machine)
        by_test true = sym (silent_result config world.machine who node left (restart_silent config who node fault))
        by_test false =
            cond_both (is_unread node fault) _ world (λ (w : FlooredWorld). w.machine ≡ world.machine) (λ unread. refl) (λ told. refl)

    replaced_is : (replace_at config world who place fault).world.machine
        ≡ (if is_put_in config world who place then restarted who (node_at config world.machine who) else world.machine)
    replaced_is = by_test (is_manager who)
      where
        by_test : (t : Bool)
            → (if t then floored_answer world (Refused NoSuch)
            else floored_if_found world (replace_result config world who place fault) (node_at config world.machine who)).world.machine
            ≡ (if not t && option_map_or (λ node. may_replace (world.floor who) node place) (node_at config world.machine who) false
            then restarted who (node_at config world.machine who) else world.machine)
        by_test true = refl
        by_test false = replaced_by (node_at config world.machine who) refl

-- ---- one event

module _ (config : Config) (world : World) where
  -- one event, where a test says so
  one_if : (t : Bool) (event : Event) (fault : Fault)
      → (if t then (world_step config world event fault).world else world)
      ≡ world_after config world (with_fault fault (if t then event ∷ [] else []))
  one_if true event fault = refl
  one_if false event fault = refl

  one_unless : (t : Bool) (event : Event) (fault : Fault)
      → (if t then world else (world_step config world event fault).world)
      ≡ world_after config world (with_fault fault (if t then [] else event ∷ []))
  one_unless true event fault = refl
  one_unless false event fault = refl

  unreached : (events : List Event) → world ≡ world_after config world (with_fault NoMemoryBefore events)
  unreached [] = refl
  unreached (event ∷ events) = unreached events

module _ (config : Config) (world : FlooredWorld) where
  world_if : (t : Bool) (a b : StepResult) → (if t then a else b).world ≡ (if t then a.world else b.world)
  world_if true a b = refl
  world_if false a b = refl

  abbrev IsInMachine : FlooredEvent → Fault → World → Type 0
  IsInMachine event fault after = after ≡ world_after config world.machine (with_fault fault (events_in_machine config world event))

  -- an event leads to the same world as those of the machine
  pub in_machine : (event : FlooredEvent) (fault : Fault)
      → IsInMachine event fault (floored_step config world event fault).world.machine
  in_machine event NoMemoryBefore = unreached config world.machine (events_in_machine config world event)
  in_machine (Machine (Ask who request)) fault =
      let t = passes_over config world who (Asked request) in
      ap (λ (r : StepResult). r.world) (asked_is config world fault who request)
      ∙ world_if t (answer_result world.machine (forgotten_answer (Asked request))) (dispatch config world.machine (Ask who request) fault)
      ∙ one_unless config world.machine t (Ask who request) fault
  in_machine (Machine (Deliver n)) fault =
      ap (λ (r : StepResult). r.world) (delivered_is config world fault n)
      ∙ lost_step (is_lost config world (datagram_at world.machine.net n))
    where
      lost_step : (t : Bool) → (dispatch config world.machine (if t then Lose n else Deliver n) fault).world
          ≡ world_after config world.machine (with_fault fault ((if t then Lose n else Deliver n) ∷ []))
      lost_step true = refl
      lost_step false = refl
  in_machine (Machine event) fault = refl
  in_machine (Raise who place) fault =
      raised_is config world fault who place ∙ one_if config world.machine (does_raise config world who place) (Compact who) fault
  in_machine (Hear n) fault =
      handed_is config world fault (slice_get world.notices n)
      ∙ one_if config world.machine (does_rise config world (slice_get world.notices n))
      (Compact (receiver_of (slice_get world.notices n))) fault
  in_machine (Replace who place) fault =
      replaced_is config world fault who place ∙ one_if config world.machine (is_put_in config world who place) (Restart who) fault

-- ---- an event of the machine, in full

module _ (config : Config) (world : FlooredWorld) where
  unasked_by : (who : NodeId) (request : Request) (fault : Fault) (t : Bool) → passes_over config world who (Asked request) ≡ t
      → (if t then [] else Ask who request ∷ []) ≡ Ask who request ∷ []
      → machine_result config world (Ask who request) fault ≡ dispatch config world.machine (Ask who request) fault
  unasked_by who request fault true e is = absurd (cc (is))
  unasked_by who request fault false e is =
      asked_is config world fault who request
      ∙ cond-false (passes_over config world who (Asked request)) (answer_result world.machine (forgotten_answer (Asked request)))
      (dispatch config world.machine (Ask who request) fault) e

  unlost_by : (n : ℕ) (fault : Fault) (t : Bool) → is_lost config world (datagram_at world.machine.net n) ≡ t
      → (if t then Lose n else Deliver n) ∷ [] ≡ Deliver n ∷ []
      → machine_result config world (Deliver n) fault ≡ dispatch config world.machine (Deliver n) fault
  unlost_by n fault true e is = absurd (cc (is))
  unlost_by n fault false e is =
      delivered_is config world fault n ∙ ap (λ (t : Bool). dispatch config world.machine (if t then Lose n else Deliver n) fault) e

  -- an event that isn't below a floor
  pub same_event : (event : Event) (fault : Fault) → machine_events config world event ≡ event ∷ []
      → machine_part (floored_step config world (Machine event) fault) ≡ world_step config world.machine event fault
  same_event event NoMemoryBefore is = refl
  same_event (Ask who request) fault is = unasked_by who request fault (passes_over config world who (Asked request)) refl is
  same_event (Deliver n) fault is = unlost_by n fault (is_lost config world (datagram_at world.machine.net n)) refl is
  same_event event fault is = refl

  -- a datagram that is
  pub lost_event : (n : ℕ) (fault : Fault) → is_lost config world (datagram_at world.machine.net n) ≡ true
      → machine_part (floored_step config world (Machine (Deliver n)) fault) ≡ world_step config world.machine (Lose n) fault
  lost_event n NoMemoryBefore is = refl
  lost_event n fault is =
      delivered_is config world fault n ∙ ap (λ (t : Bool). dispatch config world.machine (if t then Lose n else Deliver n) fault) is

  -- a request that is
  pub unasked_event : (who : NodeId) (request : Request) (fault : Fault) → passes_over config world who (Asked request) ≡ true
      → on_machine config world (Ask who request) fault ≡ floored_answer world (forgotten_answer (Asked request))
  unasked_event who request fault is =
      ap (λ (r : StepResult). as_floored r)
      (asked_is config world fault who request
      ∙ cond-true (passes_over config world who (Asked request)) (answer_result world.machine (forgotten_answer (Asked request)))
      (dispatch config world.machine (Ask who request) fault) is)
    where
      as_floored : StepResult → FlooredResult
      as_floored r = record {
        world = record world { machine = r.world };
        answer = r.answer;
        now = r.now;
        sent = r.sent;
        noticed = [];
      }

-- ---- no floor

none_below : (input : Input) → is_input_below None input ≡ false
none_below (Asked (requests.Call x action)) = refl
none_below (Asked requests.Recover) = refl
none_below (Asked (requests.View tx)) = refl
none_below (Asked (requests.Commit tx)) = refl
none_below (Asked (requests.Status tx)) = refl
none_below (Asked (requests.Timeout tx)) = refl
none_below (Received m) = refl
none_below ReceivedNoise = refl

module _ (config : Config) (world : FlooredWorld) (none : (who : NodeId) → world.floor who ≡ None) where
  never_passed : (who : NodeId) (input : Input) → passes_over config world who input ≡ false
  never_passed who input = by_there (node_at config world.machine who)
    where
      last_false : (b c : Bool) → (b && c && false) ≡ false
      last_false true true = refl
      last_false true false = refl
      last_false false c = refl

      by_there : (o : Option NodeState) → option_map_or (λ node. is_passed_over who (world.floor who) node input) o false ≡ false
      by_there None = refl
      by_there (Some node) =
          ap (λ (floor : Option Place). accepts_input who input && node.up && is_input_below floor input) (none who)
          ∙ ap (λ (b : Bool). accepts_input who input && node.up && b) (none_below input) ∙ last_false (accepts_input who input) node.up

  never_lost : (o : Option Datagram) → is_lost config world o ≡ false
  never_lost None = refl
  never_lost (Some d) = never_passed d.receiver (Received d.message)

  -- where there is no floor nothing is below one
  pub unfloored : (event : Event) → machine_events config world event ≡ event ∷ []
  unfloored (Ask who request) = ap (λ (t : Bool). if t then [] else Ask who request ∷ []) (never_passed who (Asked request))
  unfloored (Deliver n) =
      ap (λ (t : Bool). (if t then Lose n else Deliver n) ∷ []) (never_lost (datagram_at world.machine.net n))
  unfloored event = refl
