-- A node that is up after an event was up before it, but where it was restarted or replaced.
use Rattle.std.proofs.Common.{◌≡◌, ◌⊎◌, inl, inr, ◌∙◌, ℕ, zero, suc, Bool, true, false, not, if◌then◌else◌, List, [], ◌∷◌, length}
use Rattle.std.proofs.Common.{Option, Some, None, refl, sym, ap, subst, nat_lt}
use Rattle.std.specs.Prelude.{slice_get}
use Rattle.std.specs.List.{AllByRecursion}
use Rattle.std.specs.Option.{option_map_or}
use Rattle.std.proofs.lemmas.Bool.{cond_both}
use Rattle.xid.specs.Places.{Place}
use Rattle.xid.specs.declared.refusals.Refusal.TheVariants.{Down, Forged, NoSuch}
use Rattle.wire.specs.Decoding.{spells_message}
use Rattle.wire.specs.Grammar.{spelling}
use Rattle.safety.specs.Vocabulary.{Ask, Compact, Cut, Deliver, Done, Event, Hear, Lose, NodeId, Noise, R, Raise, Refused, Replace}
use Rattle.safety.specs.Vocabulary.{Restart, Tear}
use Rattle.protocol.specs.Effects.{Config, Effect}
use Rattle.protocol.specs.Nodes.{Memory, NodeState, Input, Asked, Received, ReceivedNoise, Fault, NoMemoryBefore, NoMemoryAt, RecordFails}
use Rattle.protocol.specs.Nodes.{Outcome, accepts_input, answer_outcome, compact_outcome, down_answer, effect_of, effect_outcome}
use Rattle.protocol.specs.Nodes.{node_step, restart_outcome}
use Rattle.protocol.specs.Worlds.{World, StepResult, answer_result, at_node, datagram_at, dispatch, if_found, node_at, outcome_result}
use Rattle.protocol.specs.Worlds.{set_node, with_mark, world_after, world_step}
use Rattle.safety.proofs.World.Growth.{same_node}
use Rattle.safety.proofs.World.NodePlaces.{node_elsewhere, node_there}
use Rattle.floors.specs.Runs.{does_raise, does_rise, events_in_machine, is_lost, is_put_in, passes_over, receiver_of, with_fault}
use Rattle.floors.specs.Worlds.{FlooredWorld, step_with_floors, with_floors}
use Rattle.floors.proofs.Steps.{in_machine}

-- whether a node is there, and up
abbrev pub up_in : Option NodeState → Bool
up_in o = option_map_or (λ node. node.up) o false

-- whether one of a world is
abbrev pub is_up : Config → World → NodeId → Bool
is_up config world who = up_in (node_at config world who)

-- ---- one node

module _ (config : Config) (who : NodeId) (node : NodeState) (input : Input) (fault : Fault) where
  abbrev e : Effect Memory
  e = effect_of config who node.facts node.memory input

  down_stays : (takes up : Bool) → up ≡ false
      → (if not takes then answer_outcome node (Refused NoSuch)
      else if not up then answer_outcome node (down_answer input)
      else effect_outcome node e e.fact node.tear fault).node.up ≡ node.up
  down_stays false up down = refl
  down_stays true false down = refl
  down_stays true true down = absurd (cc (down))

  up_by : (up : Bool) → node.up ≡ up → (node_step config who node input fault).node.up ≡ true → node.up ≡ true
  up_by true same now = same
  up_by false same now = sym (down_stays (accepts_input who input) node.up same) ∙ now

  step_up : (node_step config who node input fault).node.up ≡ true → node.up ≡ true
  step_up now = up_by node.up refl now

compact_up : (node : NodeState) (fault : Fault) → (compact_outcome node fault).node.up ≡ true → node.up ≡ true
compact_up node NoMemoryAt now = absurd (cc (now))
compact_up node (RecordFails whole) now = absurd (cc (now))
compact_up node fault now = now

-- ---- in the machine

module _ (config : Config) (n : NodeId) where
  -- a node that is up in a world was up in one before
  abbrev WasUp : (before after : World) → Type 0
  WasUp before after = is_up config after n ≡ true → is_up config before n ≡ true

  module _ (base : World) where
    put_by : (who : NodeId) (old new : NodeState) → node_at config base who ≡ Some old
        → (who ≡ n → new.up ≡ true → old.up ≡ true) → (n ≡ who) ⊎ (n ≡ who → ⊥) → WasUp base (set_node config base who new)
    put_by who old new stands up (inl own) now =
        subst (λ (k : NodeId). is_up config (set_node config base who new) k ≡ true → is_up config base k ≡ true) (sym own)
        (λ (there : is_up config (set_node config base who new) who ≡ true).
        ap up_in stands ∙ up (sym own) (sym (ap up_in (node_there config base who old new stands)) ∙ there)) now
    put_by who old new stands up (inr apart) now = ap up_in (sym (node_elsewhere config base who n new apart)) ∙ now

    -- one was put in its place
    put_up : (who : NodeId) (old new : NodeState) → node_at config base who ≡ Some old
        → (who ≡ n → new.up ≡ true → old.up ≡ true) → WasUp base (set_node config base who new)
    put_up who old new stands up = put_by who old new stands up (same_node n who)

    left_up : (who : NodeId) (node : NodeState) (left : Outcome) → node_at config base who ≡ Some node
        → (who ≡ n → left.node.up ≡ true → node.up ≡ true) → WasUp base (outcome_result config base who node.facts left).world
    left_up who node left stands up = put_up who node left.node stands up

    found_up : {X : Type 0} (o : Option X) (f : X → StepResult) → ((x : X) → o ≡ Some x → WasUp base (f x).world)
        → WasUp base (if_found base f o).world
    found_up None f makes now = now
    found_up (Some x) f makes now = makes x refl now

    input_up : (who : NodeId) (input : Input) (fault : Fault) → WasUp base (at_node config base who input fault).world
    input_up who input fault =
        found_up (node_at config base who)
        (λ node. outcome_result config base who node.facts (node_step config who node input fault))
        (λ node stands. left_up who node (node_step config who node input fault) stands (λ same. step_up config who node input fault))

  module _ (world : World) where
    abbrev Was : StepResult → Type 0
    Was result = WasUp world result.world

    does_up : (event : Event) (fault : Fault) → (event ≡ Restart n → ⊥) → Was (dispatch config world event fault)
    does_up (Ask who request) fault other now = input_up world who (Asked request) fault now
    does_up (Deliver k) fault other now =
        found_up world (datagram_at world.net k)
        (λ d. at_node config (with_mark world k) d.receiver (Received d.message) fault)
        (λ d is. input_up (with_mark world k) d.receiver (Received d.message) fault) now
    does_up (Lose k) fault other now =
        found_up world (datagram_at world.net k) (λ d. answer_result (with_mark world k) Done) (λ d is same. same) now
    does_up (Cut k bytes) fault other now =
        found_up world (datagram_at world.net k)
        (λ d. if nat_lt bytes (length (spelling d.message)) then at_node config world d.receiver ReceivedNoise fault
        else answer_result world (Refused NoSuch))
        (λ d is. cond_both (nat_lt bytes (length (spelling d.message))) (at_node config world d.receiver ReceivedNoise fault)
        (answer_result world (Refused NoSuch)) Was (λ fewer. input_up world d.receiver ReceivedNoise fault) (λ all same. same)) now
    does_up (Noise who bytes) fault other now =
        cond_both (spells_message bytes)
        (if_found world (λ node. answer_result world (Refused Forged)) (node_at config world who))
        (at_node config world who ReceivedNoise fault) Was
        (λ spelled. found_up world (node_at config world who) (λ node. answer_result world (Refused Forged)) (λ node is same. same))
        (λ garbled. input_up world who ReceivedNoise fault) now
    does_up (Tear who k) fault other now =
        found_up world (node_at config world who)
        (λ node. answer_result (set_node config world who (record node { tear = Some k })) Done)
        (λ node stands. put_up world who node (record node { tear = Some k }) stands (λ same up. up)) now
    does_up (Restart who) fault other now =
        found_up world (node_at config world who)
        (λ node. outcome_result config world who node.facts (restart_outcome config who node fault))
        (λ node stands. left_up world who node (restart_outcome config who node fault) stands
        (λ same. absurd (other (ap Restart same)))) now
    does_up (Compact who) fault other now =
        found_up world (node_at config world who)
        (λ node. if node.up then outcome_result config world who node.facts (compact_outcome node fault)
        else answer_result world (Refused Down))
        (λ node stands. cond_both node.up (outcome_result config world who node.facts (compact_outcome node fault))
        (answer_result world (Refused Down)) Was
        (λ up. left_up world who node (compact_outcome node fault) stands (λ same. compact_up node fault)) (λ down same. same)) now
    does_up event fault other now = now

    machine_up : (event : Event) (fault : Fault) → (event ≡ Restart n → ⊥) → Was (world_step config world event fault)
    machine_up event NoMemoryBefore other now = now
    machine_up event fault other now = does_up event fault other now

  -- none of some events restarts it
  abbrev NoneRestarts : List Event → Type 0
  NoneRestarts events = AllByRecursion (λ (event : Event). event ≡ Restart n → ⊥) events

  after_up : (world : World) (events : List Event) (fault : Fault) → NoneRestarts events
      → WasUp world (world_after config world (with_fault fault events))
  after_up world [] fault none now = now
  after_up world (event ∷ rest) fault (first, later) now =
      machine_up world event fault first (after_up (world_step config world event fault).world rest fault later now)

  one_if : (t : Bool) (event : Event) → (event ≡ Restart n → ⊥) → NoneRestarts (if t then event ∷ [] else [])
  one_if true event other = (other, tt)
  one_if false event other = tt

  one_unless : (t : Bool) (event : Event) → (event ≡ Restart n → ⊥) → NoneRestarts (if t then [] else event ∷ [])
  one_unless true event other = tt
  one_unless false event other = (other, tt)

  lost_or_not : (t : Bool) (k : ℕ) → NoneRestarts ((if t then Lose k else Deliver k) ∷ [])
  lost_or_not true k = (λ e. absurd (cc (e)), tt)
  lost_or_not false k = (λ e. absurd (cc (e)), tt)

-- ---- where nodes have floors

module _ (config : Config) (world : FlooredWorld) (n : NodeId) where
  none_restarts : (event : Event) → (event ≡ Restart n → ⊥) → ((place : Place) → event ≡ Replace n place → ⊥)
      → NoneRestarts config n (events_in_machine config world (with_floors event))
  none_restarts (Ask who request) restarts replaces =
      one_unless config n (passes_over config world who (Asked request)) (Ask who request) restarts
  none_restarts (Deliver k) restarts replaces = lost_or_not config n (is_lost config world (datagram_at world.machine.net k)) k
  none_restarts (Raise rm place) restarts replaces =
      one_if config n (does_raise config world (R rm) place) (Compact (R rm)) (λ e. absurd (cc (e)))
  none_restarts (Hear zero) restarts replaces = (restarts, tt)
  none_restarts (Hear (suc k)) restarts replaces =
      let notice = slice_get world.notices k in
      one_if config n (does_rise config world notice) (Compact (receiver_of notice)) (λ e. absurd (cc (e)))
  none_restarts (Replace who place) restarts replaces =
      one_if config n (is_put_in config world who place) (Restart who) (λ e.
      let same : who ≡ n = cc (e) in replaces place (ap (λ (m : NodeId). Replace m place) same))
  none_restarts event restarts replaces = (restarts, tt)

  -- no other event brings a node up
  pub stays_up : (event : Event) (fault : Fault) → (event ≡ Restart n → ⊥) → ((place : Place) → event ≡ Replace n place → ⊥)
      → is_up config (step_with_floors config world event fault).world.machine n ≡ true → is_up config world.machine n ≡ true
  stays_up event fault restarts replaces now =
      after_up config n world.machine (events_in_machine config world (with_floors event)) fault (none_restarts event restarts replaces)
      (subst (λ (w : World). is_up config w n ≡ true) (in_machine config world (with_floors event) fault) now)
