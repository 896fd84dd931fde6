-- Each answer of a run is right by the steps before it.
-- Needed by `answers_look_back`; crates floored_history, audit and cluster_run.
use Rattle.std.proofs.Common.{◌≡◌, inl, inr, ◌∙◌, ℕ, zero, suc, ◌+◌, ◌<◌, Bool, true, false, not, ◌&&◌, if◌then◌else◌, MatchBool, List, []}
use Rattle.std.proofs.Common.{◌∷◌, length, Option, Some, None, refl, sym, ap, subst, nat_lt, arith}
use Rattle.std.specs.Prelude.{slice_get, slice_set}
use Rattle.std.specs.Option.{option_map_or, option_and_then}
use Rattle.std.proofs.lemmas.Bool.{cond_both, both_ways, false_from_ne_true, and_left, and_right, and_from, ltb-true}
use Rattle.std.proofs.lemmas.List.{length-set, length-replicate}
use Rattle.xid.specs.declared.refusals.Refusal.TheVariants.{NoSuch, NoMemory, Forged, Down}
use Rattle.wire.specs.Decoding.{spells_message}
use Rattle.wire.specs.Grammar.{spelling}
use Rattle.protocol.specs.Basics.{Fact}
use Rattle.safety.specs.Vocabulary.{NodeId, A, L, R, Event, Ask, Deliver, Lose, Cut, Noise, Tear, Restart, Compact, Request, Answer, Done}
use Rattle.safety.specs.Vocabulary.{Refused, Step}
use Rattle.protocol.specs.Effects.{Config, Effect}
use Rattle.protocol.specs.Nodes.{Memory, NodeState, new_node, Input, Asked, Received, ReceivedNoise, Fault, NoFault, NoMemoryBefore}
use Rattle.protocol.specs.Nodes.{NoMemoryAt, RecordFails, accepts_request, down_answer, answer_outcome, effect_of, effect_outcome}
use Rattle.protocol.specs.Nodes.{node_step, restart_outcome, compact_outcome}
use Rattle.protocol.specs.Worlds.{World, StepResult, place, node_at, set_node, answer_result, outcome_result, if_found, at_node}
use Rattle.protocol.specs.Worlds.{datagram_at, with_mark, dispatch, world_step}
use Rattle.history.specs.Outages.{is_record_fault, is_out}
use Rattle.history.specs.Answers.{IsAmple, IsAnswerOf, IsAnswered, AreAnswered}
use Rattle.history.proofs.Runs.{IsRun, AtFirst, Then}
use Rattle.history.proofs.Laws as laws

-- ---- the nodes of a world are as many as at first

set_count : (nodes : List NodeState) (node : NodeState) (o : Option ℕ)
    → length (option_map_or (λ at. slice_set nodes at node) o nodes) ≡ length nodes
set_count nodes node None = refl
set_count nodes node (Some at) = length-set nodes at node

abbrev KeepsCount : World → StepResult → Type 0
KeepsCount world result = length result.world.nodes ≡ length world.nodes

module _ (config : Config) (world : World) where
  found_count : {X : Type 0} (o : Option X) (f : X → StepResult) → ((x : X) → KeepsCount world (f x))
      → KeepsCount world (if_found world f o)
  found_count None f keeps = refl
  found_count (Some x) f keeps = keeps x

  input_count : (who : NodeId) (input : Input) (fault : Fault) → KeepsCount world (at_node config world who input fault)
  input_count who input fault = found_count (node_at config world who)
      (λ node. outcome_result config world who node.facts (node_step config who node input fault))
      (λ node. set_count world.nodes (node_step config who node input fault).node (place config who))

module _ (config : Config) (world : World) where
  dispatch_count : (event : Event) (fault : Fault) → KeepsCount world (dispatch config world event fault)
  dispatch_count (Ask who request) fault = input_count config world who (Asked request) fault
  dispatch_count (Deliver n) fault = found_count config world (datagram_at world.net n)
      (λ d. at_node config (with_mark world n) d.receiver (Received d.message) fault)
      (λ d. input_count config (with_mark world n) d.receiver (Received d.message) fault)
  dispatch_count (Lose n) fault = found_count config world (datagram_at world.net n) (λ d. answer_result (with_mark world n) Done)
      (λ d. refl)
  dispatch_count (Cut n k) fault = found_count config world (datagram_at world.net n)
      (λ d. if nat_lt k (length (spelling d.message)) then at_node config world d.receiver ReceivedNoise fault
      else answer_result world (Refused NoSuch))
      (λ d. cond_both (nat_lt k (length (spelling d.message))) (at_node config world d.receiver ReceivedNoise fault)
      (answer_result world (Refused NoSuch)) (KeepsCount world) (λ fewer. input_count config world d.receiver ReceivedNoise fault)
      (λ all. refl))
  dispatch_count (Noise who bytes) fault = cond_both (spells_message bytes)
      (if_found world (λ node. answer_result world (Refused Forged)) (node_at config world who))
      (at_node config world who ReceivedNoise fault) (KeepsCount world)
      (λ spelled. found_count config world (node_at config world who) (λ node. answer_result world (Refused Forged)) (λ node. refl))
      (λ garbled. input_count config world who ReceivedNoise fault)
  dispatch_count (Tear who n) fault = found_count config world (node_at config world who)
      (λ node. answer_result (set_node config world who (record node { tear = Some n })) Done)
      (λ node. set_count world.nodes (record node { tear = Some n }) (place config who))
  dispatch_count (Restart who) fault = found_count config world (node_at config world who)
      (λ node. outcome_result config world who node.facts (restart_outcome config who node fault))
      (λ node. set_count world.nodes (restart_outcome config who node fault).node (place config who))
  dispatch_count (Compact who) fault = found_count config world (node_at config world who)
      (λ node. if node.up then outcome_result config world who node.facts (compact_outcome node fault)
      else answer_result world (Refused Down))
      (λ node. cond_both node.up (outcome_result config world who node.facts (compact_outcome node fault))
      (answer_result world (Refused Down)) (KeepsCount world)
      (λ up. set_count world.nodes (compact_outcome node fault).node (place config who)) (λ down. refl))
  dispatch_count event fault = refl

  event_count : (event : Event) (fault : Fault) → KeepsCount world (world_step config world event fault)
  event_count event NoMemoryBefore = refl
  event_count event fault = dispatch_count event fault

count_ever : (config : Config) (world : World) (before : List Step) → IsRun config world before
    → length world.nodes ≡ config.acceptors + config.leaders + config.managers
count_ever config _ _ AtFirst = length-replicate (config.acceptors + config.leaders + config.managers) new_node
count_ever config _ _ (Then world before event fault run) = event_count config world event fault ∙ count_ever config world before run

within : (nodes : List NodeState) (n : ℕ) → n < length nodes → slice_get nodes n ≡ None → ⊥
within [] n less none = absurd (omega (arith, less))
within (node ∷ nodes) zero less none = absurd (cc (none))
within (node ∷ nodes) (suc n) less none = within nodes n (omega (arith, less)) none

-- a manager of the cluster stands there
pub inside_stands : (config : Config) (world : World) (before : List Step) (rm : ℕ) → IsRun config world before
    → node_at config world (R rm) ≡ None → nat_lt rm config.managers ≡ false
inside_stands config world before rm run none = by_test (nat_lt rm config.managers) refl
  where
    by_test : (b : Bool) → nat_lt rm config.managers ≡ b → nat_lt rm config.managers ≡ false
    by_test false e = e
    by_test true e =
        let less : rm < config.managers = ltb-true rm config.managers e in
        let count = count_ever config world before run in
        let at = config.acceptors + config.leaders + rm in
        let there : slice_get world.nodes at ≡ None =
        sym (ap (λ (b : Bool). option_and_then (λ p. slice_get world.nodes p) (if b then Some at else None)) e) ∙ none in
        absurd (within world.nodes at (omega (arith, less, count)) there)

pub standing_inside : (config : Config) (world : World) (rm : ℕ) (node : NodeState) → node_at config world (R rm) ≡ Some node
    → nat_lt rm config.managers ≡ true
standing_inside config world rm node stands = by_test (nat_lt rm config.managers) refl
  where
    by_test : (b : Bool) → nat_lt rm config.managers ≡ b → nat_lt rm config.managers ≡ true
    by_test true e = e
    by_test false e =
        let none : None ≡ Some node =
        sym (ap (λ (b : Bool). option_and_then (λ p. slice_get world.nodes p)
        (if b then Some (config.acceptors + config.leaders + rm) else None)) e) ∙ stands in
        absurd (cc (none))

-- ---- an answer

-- a fault that doesn't come before a node is reached
abbrev pub IsAtNode : Fault → Type 0
IsAtNode NoMemoryBefore = ⊥
IsAtNode fault = Unit {0}

wanting : (node : NodeState) (e : Effect Memory) (o : Option Fact) (tear : Option ℕ)
    → (effect_outcome node e o tear NoMemoryAt).answer ≡ Refused NoMemory
wanting node e None tear = refl
wanting node e (Some fact) tear = refl

module _ (config : Config) (world : World) (before : List Step) (rm : ℕ) (run : IsRun config world before) (request : Request) where
  abbrev takes : Bool
  takes = nat_lt rm config.managers && accepts_request (R rm) request

  abbrev Fits : Answer → Type 0
  Fits answer = IsAnswered config before (Ask (R rm) request) answer

  refused : takes ≡ false → Fits (Refused NoSuch)
  refused e = inr (subst (λ (b : Bool). MatchBool b (IsAnswerOf config rm before request (Refused NoSuch))
      (Refused NoSuch ≡ Refused NoSuch))
      (sym e) refl)

  given : (answer : Answer) → takes ≡ true → IsAnswerOf config rm before request answer → Fits answer
  given answer e is = inr (subst (λ (b : Bool). MatchBool b (IsAnswerOf config rm before request answer) (answer ≡ Refused NoSuch))
      (sym e) is)

  module _ (node : NodeState) (stands : node_at config world (R rm) ≡ Some node) (taken : takes ≡ true)
      (accepts : accepts_request (R rm) request ≡ true) where
    not_out : node.up ≡ true → is_out is_record_fault rm before ≡ false
    not_out up = false_from_ne_true (is_out is_record_fault rm before)
        (λ e. both_ways node.up (laws.must_be_out config world before rm run node stands e) up)

    looked : (fault : Fault) → IsAmple fault → node.up ≡ true → Fits (node_step config (R rm) node (Asked request) fault).answer
    looked fault ample up = given _ taken (inr (not_out up, laws.stepped config world before rm run node stands up request fault ample))

    wanted : node.up ≡ true → (node_step config (R rm) node (Asked request) NoMemoryAt).answer ≡ Refused NoMemory
    wanted up =
        let e = effect_of config (R rm) node.facts node.memory (Asked request) in
        ap (λ (b : Bool). (if not b then answer_outcome node (Refused NoSuch) else if not node.up
        then answer_outcome node (down_answer (Asked request)) else effect_outcome node e e.fact node.tear NoMemoryAt).answer) accepts
        ∙ ap (λ (b : Bool). (if not b then answer_outcome node (down_answer (Asked request))
        else effect_outcome node e e.fact node.tear NoMemoryAt).answer) up
        ∙ wanting node e e.fact node.tear

    down_answers : (fault : Fault) → node.up ≡ false
        → (node_step config (R rm) node (Asked request) fault).answer ≡ down_answer (Asked request)
    down_answers fault down =
        let e = effect_of config (R rm) node.facts node.memory (Asked request) in
        ap (λ (b : Bool). (if not b then answer_outcome node (Refused NoSuch) else if not node.up
        then answer_outcome node (down_answer (Asked request)) else effect_outcome node e e.fact node.tear fault).answer) accepts
        ∙ ap (λ (b : Bool). (if not b then answer_outcome node (down_answer (Asked request))
        else effect_outcome node e e.fact node.tear fault).answer) down

    by_up : (fault : Fault) → IsAtNode fault → (up : Bool) → node.up ≡ up → Fits (node_step config (R rm) node (Asked request) fault).answer
    by_up fault reaches false down =
        given _ taken (inl (laws.may_be_out config world before rm run node stands down, down_answers fault down))
    by_up NoMemoryAt reaches true up = inl (wanted up)
    by_up NoFault reaches true up = looked NoFault tt up
    by_up (RecordFails whole) reaches true up = looked (RecordFails whole) tt up
    by_up NoMemoryBefore reaches true up = absurd reaches

  untaken : (node : NodeState) (fault : Fault) → accepts_request (R rm) request ≡ false
      → (node_step config (R rm) node (Asked request) fault).answer ≡ Refused NoSuch
  untaken node fault e =
      let made = effect_of config (R rm) node.facts node.memory (Asked request) in
      ap (λ (b : Bool). (if not b then answer_outcome node (Refused NoSuch) else if not node.up
      then answer_outcome node (down_answer (Asked request)) else effect_outcome node made made.fact node.tear fault).answer) e

  by_accepts : (fault : Fault) → IsAtNode fault → (node : NodeState) → node_at config world (R rm) ≡ Some node → (accepts : Bool)
      → accepts_request (R rm) request ≡ accepts → Fits (node_step config (R rm) node (Asked request) fault).answer
  by_accepts fault reaches node stands false e =
      subst Fits (sym (untaken node fault e)) (refused (and_right (nat_lt rm config.managers) (accepts_request (R rm) request) e))
  by_accepts fault reaches node stands true e =
      by_up node stands (and_from (nat_lt rm config.managers) (accepts_request (R rm) request)
      (standing_inside config world rm node stands) e) e fault reaches node.up refl

  by_node : (fault : Fault) → IsAtNode fault → (o : Option NodeState) → node_at config world (R rm) ≡ o → Fits (if_found world
      (λ node. outcome_result config world (R rm) node.facts (node_step config (R rm) node (Asked request) fault)) o).answer
  by_node fault reaches None none =
      refused (and_left (nat_lt rm config.managers) (accepts_request (R rm) request) (inside_stands config world before rm run none))
  by_node fault reaches (Some node) stands = by_accepts fault reaches node stands (accepts_request (R rm) request) refl

  request_answered : (fault : Fault) → Fits (world_step config world (Ask (R rm) request) fault).answer
  request_answered NoMemoryBefore = inl refl
  request_answered NoMemoryAt = by_node NoMemoryAt tt (node_at config world (R rm)) refl
  request_answered NoFault = by_node NoFault tt (node_at config world (R rm)) refl
  request_answered (RecordFails whole) = by_node (RecordFails whole) tt (node_at config world (R rm)) refl

event_answered : (config : Config) (world : World) (before : List Step) (event : Event) (fault : Fault) → IsRun config world before
    → IsAnswered config before event (world_step config world event fault).answer
event_answered config world before (Ask (R rm) request) fault run = request_answered config world before rm run request fault
event_answered config world before (Ask (A a) request) fault run = tt
event_answered config world before (Ask (L l) request) fault run = tt
event_answered config world before event fault run = tt

pub answered_ever : (config : Config) (world : World) (before : List Step) → IsRun config world before → AreAnswered config before
answered_ever config _ _ AtFirst = tt
answered_ever config _ _ (Then world before event fault run) =
    (event_answered config world before event fault run, answered_ever config world before run)
