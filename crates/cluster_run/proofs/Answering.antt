-- Each answer of a run with floors is right by the steps before it.
use Rattle.std.proofs.Common.{◌≡◌, inl, inr, ◌∙◌, ℕ, Bool, true, false, not, ◌&&◌, if◌then◌else◌, MatchBool, List, [], ◌∷◌, nat_lt}
use Rattle.std.proofs.Common.{Option, Some, None, refl, sym, ap, subst}
use Rattle.std.specs.Option.{option_map_or}
use Rattle.std.proofs.lemmas.Bool.{and_from, and_parts, both_ways, false_from_ne_true}
use Rattle.xid.specs.declared.refusals.Refusal.TheVariants.{NoSuch}
use Rattle.safety.specs.Vocabulary.{A, Answer, Ask, Event, L, R, Refused, Request, Step}
use Rattle.protocol.specs.Effects.{Config}
use Rattle.protocol.specs.Nodes.{NodeState, Asked, Fault, NoFault, NoMemoryBefore, NoMemoryAt, RecordFails, accepts_request}
use Rattle.protocol.specs.Nodes.{answer_outcome, down_answer, effect_of, effect_outcome, node_step}
use Rattle.protocol.specs.Worlds.{StepResult, at_node, if_found, node_at, outcome_result, world_step}
use Rattle.floors.specs.Nodes.{forgotten_answer, is_passed_over, is_request_below}
use Rattle.floors.specs.Worlds.{FlooredResult, FlooredWorld, is_done, step_with_floors}
use Rattle.floors.specs.Runs.{passes_over}
use Rattle.floors.proofs.Steps.{same_event, unasked_event}
use Rattle.history.specs.Answers.{IsAnswerOf, IsAnswered, answer_to}
use Rattle.history.specs.Outages.{is_out, is_record_fault}
use Rattle.history.proofs.Answering.{answered_ever, inside_stands, standing_inside, IsAtNode}
use Rattle.history.proofs.Laws as laws
use Rattle.history.proofs.Runs as machine
use Rattle.cluster_run.specs.Answers.{AreAnsweredHere, IsAnswerHere, IsAnsweredHere, is_down, is_over}
use Rattle.cluster_run.proofs.Floored.{IsFlooredRun, AtFirst, Then, Follows, follows}
use Rattle.cluster_run.proofs.Hindering.{answers_same}
use Rattle.cluster_run.proofs.Raised.{IsSaid, said_ever}

module _ (config : Config) (world : FlooredWorld) (before : List Step) (run : IsFlooredRun config world before) (rm : ℕ)
    (request : Request) where
  abbrev event : Event
  event = Ask (R rm) request

  abbrev takes : Bool
  takes = nat_lt rm config.managers && accepts_request (R rm) request

  abbrev Fits : Answer → Type 0
  Fits answer = IsAnsweredHere config before event answer

  beside : Follows config world before
  beside = follows config world before run

  said : IsSaid rm (world.floor (R rm)) before
  said = said_ever config world before rm run

  -- the machine's answer, by its own steps
  answered : (fault : Fault) → IsAnswered config beside.steps event (world_step config world.machine event fault).answer
  answered fault = (answered_ever config _ _ (machine.Then world.machine beside.steps event fault beside.run)).0

  -- the same by the steps that are shown, where an answer that was looked back at is one
  carried : (answer : Answer) → IsAnswered config beside.steps event answer
      → (takes ≡ true → is_out is_record_fault rm beside.steps ≡ false → answer ≡ answer_to config rm beside.steps request
      → IsAnswerHere config rm before request answer)
      → Fits answer
  carried answer (inl wanted) looked = inl wanted
  carried answer (inr is) looked = inr (by_takes takes refl is)
    where
      by_takes : (b : Bool) → takes ≡ b
          → MatchBool b (IsAnswerOf config rm beside.steps request answer) (answer ≡ Refused NoSuch)
          → MatchBool b (IsAnswerHere config rm before request answer) (answer ≡ Refused NoSuch)
      by_takes true e (inl down) = inl (beside.out.may rm down.0, down.1)
      by_takes true e (inr up) = looked e up.0 up.1
      by_takes false e refused = refused

  -- an answer that isn't passed over is the machine's
  unforgotten : (fault : Fault) → passes_over config world (R rm) (Asked request) ≡ false
      → (world_step config world.machine event fault).answer ≡ (step_with_floors config world event fault).answer
  unforgotten fault e =
      sym (ap (λ (r : StepResult). r.answer)
      (same_event config world event fault (ap (λ (t : Bool). if t then [] else event ∷ []) e)))

  module _ (node : NodeState) (stands : node_at config world.machine (R rm) ≡ Some node) where
    passes_here : passes_over config world (R rm) (Asked request)
        ≡ (accepts_request (R rm) request && node.up && is_request_below (world.floor (R rm)) request)
    passes_here =
        ap (λ (o : Option NodeState). option_map_or (λ n. is_passed_over (R rm) (world.floor (R rm)) n (Asked request)) o false) stands

    not_down : node.up ≡ true → is_down is_record_fault rm before ≡ false
    not_down up = false_from_ne_true (is_down is_record_fault rm before) (λ e.
        both_ways node.up
        (laws.must_be_out config world.machine beside.steps rm beside.run node stands (beside.out.must rm e)) up)

    -- a request that is passed over
    passed_over : (fault : Fault) → passes_over config world (R rm) (Asked request) ≡ true
        → Fits (forgotten_answer (Asked request))
    passed_over fault e =
        let below = and_parts (accepts_request (R rm) request && node.up) (is_request_below (world.floor (R rm)) request)
        (sym passes_here ∙ e) in
        let takes_up = and_parts (accepts_request (R rm) request) node.up below.0 in
        let taken : takes ≡ true = and_from (nat_lt rm config.managers) (accepts_request (R rm) request)
        (standing_inside config world.machine rm node stands) takes_up.0 in
        inr (subst (λ (b : Bool). MatchBool b (IsAnswerHere config rm before request (forgotten_answer (Asked request)))
        (forgotten_answer (Asked request) ≡ Refused NoSuch)) (sym taken)
        (inr (inl (not_down takes_up.1, said.maybe request below.1, refl))))

    -- one at a node that is down
    down_answers : (fault : Fault) → node.up ≡ false → accepts_request (R rm) request ≡ true
        → (at_node config world.machine (R rm) (Asked request) fault).answer ≡ down_answer (Asked request)
    down_answers fault down accepts =
        let e = effect_of config (R rm) node.facts node.memory (Asked request) in
        ap (λ (o : Option NodeState). (if_found world.machine
        (λ n. outcome_result config world.machine (R rm) n.facts (node_step config (R rm) n (Asked request) fault)) o).answer) stands
        ∙ ap (λ (b : Bool). (if not b then answer_outcome node (Refused NoSuch) else if not node.up
        then answer_outcome node (down_answer (Asked request)) else effect_outcome node e e.fact node.tear fault).answer) accepts
        ∙ ap (λ (b : Bool). (if not b then answer_outcome node (down_answer (Asked request))
        else effect_outcome node e e.fact node.tear fault).answer) down

    reached_answer : (fault : Fault) → IsAtNode fault
        → (world_step config world.machine event fault).answer ≡ (at_node config world.machine (R rm) (Asked request) fault).answer
    reached_answer NoMemoryBefore at = absurd at
    reached_answer NoFault at = refl
    reached_answer NoMemoryAt at = refl
    reached_answer (RecordFails whole) at = refl

    when_down : (fault : Fault) → IsAtNode fault → node.up ≡ false → Fits (world_step config world.machine event fault).answer
    when_down fault at down = carried (world_step config world.machine event fault).answer (answered fault) (λ taken not_out looked.
        let accepts = (and_parts (nat_lt rm config.managers) (accepts_request (R rm) request) taken).1 in
        inl (
          beside.out.may rm (laws.may_be_out config world.machine beside.steps rm beside.run node stands down),
          reached_answer fault at ∙ down_answers fault down accepts,
        ))

    -- one at a node that is up, which isn't passed over
    when_up : (fault : Fault) → node.up ≡ true → passes_over config world (R rm) (Asked request) ≡ false
        → Fits (world_step config world.machine event fault).answer
    when_up fault up e = carried (world_step config world.machine event fault).answer (answered fault) (λ taken not_out looked.
        let accepts = (and_parts (nat_lt rm config.managers) (accepts_request (R rm) request) taken).1 in
        inr (inr (
          not_down up,
          false_from_ne_true (is_over is_done rm before request) (λ over.
              both_ways (passes_over config world (R rm) (Asked request)) e
              (passes_here
              ∙ and_from (accepts_request (R rm) request && node.up) (is_request_below (world.floor (R rm)) request)
              (and_from (accepts_request (R rm) request) node.up accepts up) (said.surely request over))),
          looked ∙ answers_same rm before beside.steps beside.alike config request,
        )))

    by_up : (fault : Fault) → IsAtNode fault → (up : Bool) → node.up ≡ up → passes_over config world (R rm) (Asked request) ≡ false
        → Fits (world_step config world.machine event fault).answer
    by_up fault at true up e = when_up fault up e
    by_up fault at false down e = when_down fault at down

    by_over : (fault : Fault) → IsAtNode fault → (over : Bool) → passes_over config world (R rm) (Asked request) ≡ over
        → Fits (step_with_floors config world event fault).answer
    by_over fault at false e = subst Fits (unforgotten fault e) (by_up fault at node.up refl e)
    by_over NoMemoryBefore at true e = absurd at
    by_over fault at true e =
        subst Fits (sym (ap (λ (r : FlooredResult). r.answer) (unasked_event config world (R rm) request fault e)))
        (passed_over fault e)

  -- there is no such manager
  nowhere : (fault : Fault) → node_at config world.machine (R rm) ≡ None → Fits (step_with_floors config world event fault).answer
  nowhere fault none =
      let free : passes_over config world (R rm) (Asked request) ≡ false =
      ap (λ (o : Option NodeState). option_map_or (λ n. is_passed_over (R rm) (world.floor (R rm)) n (Asked request)) o false) none in
      subst Fits (unforgotten fault free)
      (carried (world_step config world.machine event fault).answer (answered fault) (λ taken not_out looked.
      absurd (both_ways (nat_lt rm config.managers) (inside_stands config world.machine beside.steps rm beside.run none)
      (and_parts (nat_lt rm config.managers) (accepts_request (R rm) request) taken).0)))

  by_node : (fault : Fault) → IsAtNode fault → (o : Option NodeState) → node_at config world.machine (R rm) ≡ o
      → Fits (step_with_floors config world event fault).answer
  by_node fault at None none = nowhere fault none
  by_node fault at (Some node) stands = by_over node stands fault at (passes_over config world (R rm) (Asked request)) refl

  request_here : (fault : Fault) → Fits (step_with_floors config world event fault).answer
  request_here NoMemoryBefore = inl refl
  request_here NoFault = by_node NoFault tt (node_at config world.machine (R rm)) refl
  request_here NoMemoryAt = by_node NoMemoryAt tt (node_at config world.machine (R rm)) refl
  request_here (RecordFails whole) = by_node (RecordFails whole) tt (node_at config world.machine (R rm)) refl

event_here : (config : Config) (world : FlooredWorld) (before : List Step) (event : Event) (fault : Fault)
    → IsFlooredRun config world before → IsAnsweredHere config before event (step_with_floors config world event fault).answer
event_here config world before (Ask (R rm) request) fault run = request_here config world before run rm request fault
event_here config world before (Ask (A a) request) fault run = tt
event_here config world before (Ask (L l) request) fault run = tt
event_here config world before other fault run = tt

pub answered_here : (config : Config) (world : FlooredWorld) (steps : List Step) → IsFlooredRun config world steps
    → AreAnsweredHere config steps
answered_here config _ _ AtFirst = tt
answered_here config _ _ (Then world before event fault run) =
    (event_here config world before event fault run, answered_here config world before run)
