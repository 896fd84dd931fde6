-- Beside each run with floors goes a run of the machine to the same nodes, whose steps say the same where one looks back.
use Rattle.std.proofs.Common.{◌≡◌, ◌∙◌, ℕ, zero, suc, Bool, true, false, not, ◌&&◌, ◌==◌, if◌then◌else◌, List, [], ◌∷◌, ◌++◌, length}
use Rattle.std.proofs.Common.{Option, Some, None, refl, sym, ap, subst, append_assoc}
use Rattle.std.specs.Prelude.{slice_get, reverse}
use Rattle.std.specs.List.{flat_map}
use Rattle.std.specs.Option.{option_map_or}
use Rattle.std.proofs.lemmas.Bool.{and_parts, both_ways, cond_both}
use Rattle.std.proofs.lemmas.List.{append-nil, reverse-append}
use Rattle.xid.specs.Names.{XidParts}
use Rattle.xid.specs.Places.{Place, is_lower}
use Rattle.xid.specs.declared.refusals.Refusal.TheVariants.{Busy, Down, NoMemory, NoSuch}
use Rattle.protocol.specs.declared.decisions.Outgoing.{Outgoing}
use Rattle.protocol.specs.declared.events.Change.{Change}
use Rattle.safety.specs.Vocabulary.{A, Answer, Ask, Compact, Deliver, Done, End, EndFail, Event, Get, Hear, L, Lose, NodeId, Put, Del, R}
use Rattle.safety.specs.Vocabulary.{Raise, Refused, Replace, Request, Restart, Rollback, Start, Step}
use Rattle.protocol.specs.Effects.{Config}
use Rattle.protocol.specs.Nodes.{NodeState, Asked, Fault, NoMemoryBefore, Outcome, compact_outcome, restart_outcome}
use Rattle.protocol.specs.Worlds.{World, Datagram, Occurrence, StepResult, answer_result, change_of, datagram_at, datagrams_of, if_found}
use Rattle.protocol.specs.Worlds.{node_at, numbered, outcome_result, step_of, with_mark, world_after, world_step}
use Rattle.protocol.specs.declared.requests.Request.TheVariants as requests
use Rattle.safety.proofs.World.Changes.{compact_keeps, restart_keeps}
use Rattle.floors.specs.Nodes.{forgotten_answer, is_free_below, kept_rise, may_replace, on_least, on_raise, risen}
use Rattle.floors.specs.Worlds as floored
use Rattle.floors.specs.Worlds.{FlooredEvent, FlooredResult, FlooredWorld, Machine, Notice, floored_answer, floored_if_found, floored_step}
use Rattle.floors.specs.Worlds.{floored_step_of, floored_trace, floored_world_after, hear_at, hear_result, is_manager, least_told}
use Rattle.floors.specs.Worlds.{machine_part, replace_result}
use Rattle.floors.specs.Worlds.{on_machine, raise_result, step_with_floors, told_from, told_with, with_entry, with_floors, with_rise}
use Rattle.floors.specs.Runs.{IsFlooredReachable, does_raise, does_rise, events_in_machine, floored_opening, is_lost, machine_events}
use Rattle.floors.specs.Runs.{is_put_in, passes_over, receiver_of, with_fault}
use Rattle.floors.specs.Runs as reachable
use Rattle.floors.proofs.Nodes.{compact_silent, restart_silent}
use Rattle.floors.proofs.Steps.{in_machine, lost_event, same_event, unasked_event}
use Rattle.history.specs.Calls.{call_done, is_restart}
use Rattle.history.specs.Outages as outages
use Rattle.history.specs.Outages.{is_event_at, is_outage, is_record_fault}
use Rattle.history.proofs.Runs as machine
use Rattle.history.proofs.Runs.{IsRun}
use Rattle.node_core.proofs.Changes.{unchanged}
use Rattle.cluster_run.specs.Answers.{is_event_here}
use Rattle.cluster_run.specs.Traces.{run_history}
use Rattle.cluster_run.proofs.Alike.{Alike, Nothing, Both, Shown, Hidden, IsQuiet}
use Rattle.cluster_run.proofs.Outages.{AreOut, both_out, none_out, pair_out, shown_out}

-- ---- runs

-- a world and its steps, the newest first
pub data IsFlooredRun (config : Config) : FlooredWorld → List Step → Type 0 where
  AtFirst : IsFlooredRun config (floored_opening config) []
  Then : (world : FlooredWorld) (before : List Step) (event : Event) (fault : Fault) → IsFlooredRun config world before
      → IsFlooredRun config (step_with_floors config world event fault).world
      (floored_step_of world event (step_with_floors config world event fault) ∷ before)

run_from : (config : Config) (world : FlooredWorld) (before : List Step) (events : List Occurrence) → IsFlooredRun config world before
    → IsFlooredRun config (floored_world_after config world events) (reverse (floored_trace config world events) ++ before)
run_from config world before [] run = run
run_from config world before (first ∷ rest) run =
    let result = step_with_floors config world first.event first.fault in
    let step = floored_step_of world first.event result in
    subst (IsFlooredRun config (floored_world_after config result.world rest)) (pushed (floored_trace config result.world rest) step)
    (run_from config result.world (step ∷ before) rest (Then world before first.event first.fault run))
  where
    pushed : (steps : List Step) (step : Step) → reverse steps ++ (step ∷ before) ≡ reverse (step ∷ steps) ++ before
    pushed steps step =
        sym (ap (λ (all : List Step). all ++ before) (reverse-append (step ∷ []) steps) ∙ append_assoc (reverse steps) (step ∷ []) before)

pub run_is : (config : Config) (events : List Occurrence)
    → IsFlooredRun config (floored_world_after config (floored_opening config) events) (run_history config events)
run_is config events =
    subst (IsFlooredRun config (floored_world_after config (floored_opening config) events)) (append-nil (run_history config events))
    (run_from config (floored_opening config) [] events AtFirst)

pub reached : (config : Config) (world : FlooredWorld) (before : List Step) → IsFlooredRun config world before
    → IsFlooredReachable config world
reached config _ _ AtFirst = reachable.Opening
reached config _ _ (Then world before event fault run) =
    reachable.After world (with_floors event) fault (reached config world before run)

-- ---- quiet steps

-- a result of which no changed view and no datagram is told
pub record IsSilent (now : Option Change) (sent : List Datagram) : Type 0 where
  pub now_is : now ≡ None
  pub sent_is : sent ≡ []

-- an event that is no call on a branch and no restart
pub record IsMute (event : Event) (answer : Answer) : Type 0 where
  pub done : (rm : ℕ) (x : XidParts) → call_done rm x event answer ≡ None
  pub restart : (rm : ℕ) → is_restart rm event answer ≡ false

quiet_by : (step : Step) (count : ℕ) (sent : List Datagram) → step.sent ≡ numbered count sent → IsSilent step.now sent
    → IsMute step.event step.answer → IsQuiet step
quiet_by step count sent is silent mute = record {
  now = silent.now_is;
  done = mute.done;
  restart = mute.restart;
  sent = is ∙ ap (numbered count) silent.sent_is;
}

-- a call that is passed over was not done
forgotten_mute : (who : NodeId) (request : Request) → IsMute (Ask who request) (forgotten_answer (Asked request))
forgotten_mute (R other) (requests.Call x Start) = record { done = λ rm y. refl; restart = λ rm. refl }
forgotten_mute (R other) (requests.Call x (Put key value)) = record { done = λ rm y. refl; restart = λ rm. refl }
forgotten_mute (R other) (requests.Call x (Del key)) = record { done = λ rm y. refl; restart = λ rm. refl }
forgotten_mute (R other) (requests.Call x (Get key)) = record { done = λ rm y. refl; restart = λ rm. refl }
forgotten_mute (R other) (requests.Call x End) = record { done = λ rm y. refl; restart = λ rm. refl }
forgotten_mute (R other) (requests.Call x EndFail) = record { done = λ rm y. refl; restart = λ rm. refl }
forgotten_mute (R other) (requests.Call x Rollback) = record { done = λ rm y. refl; restart = λ rm. refl }
forgotten_mute (R other) request = record { done = λ rm y. refl; restart = λ rm. refl }
forgotten_mute (A a) request = record { done = λ rm y. refl; restart = λ rm. refl }
forgotten_mute (L l) request = record { done = λ rm y. refl; restart = λ rm. refl }

module _ (config : Config) (world : World) where
  -- of a machine that loses a datagram
  lose_silent : (n : ℕ) (fault : Fault) → let r = world_step config world (Lose n) fault in IsSilent r.now r.sent
  lose_silent n NoMemoryBefore = record { now_is = refl; sent_is = refl }
  lose_silent n fault = by_found (datagram_at world.net n)
    where
      by_found : (o : Option Datagram) → let r = if_found world (λ d. answer_result (with_mark world n) Done) o in IsSilent r.now r.sent
      by_found None = record { now_is = refl; sent_is = refl }
      by_found (Some d) = record { now_is = refl; sent_is = refl }

  -- an outcome that stores and sends nothing
  outcome_silent : (who : NodeId) (node : NodeState) (outcome : Outcome) → outcome.node.facts ≡ node.facts → outcome.sends ≡ []
      → let r = outcome_result config world who node.facts outcome in IsSilent r.now r.sent
  outcome_silent who node outcome keeps silent = record {
    now_is = ap (change_of who node.facts) keeps ∙ unchanged who node.facts;
    sent_is = ap (λ (sends : List Outgoing). flat_map (datagrams_of config who) sends) silent;
  }

  -- of one that restarts a node
  restart_quiet : (who : NodeId) (fault : Fault) → let r = world_step config world (Restart who) fault in IsSilent r.now r.sent
  restart_quiet who NoMemoryBefore = record { now_is = refl; sent_is = refl }
  restart_quiet who fault = by_found (node_at config world who)
    where
      by_found : (o : Option NodeState) → let r = if_found world (λ node.
          outcome_result config world who node.facts (restart_outcome config who node fault)) o in IsSilent r.now r.sent
      by_found None = record { now_is = refl; sent_is = refl }
      by_found (Some node) =
          outcome_silent who node (restart_outcome config who node fault) (restart_keeps config who node fault)
          (restart_silent config who node fault)

  -- and of one that makes a record shorter
  compact_quiet : (who : NodeId) (fault : Fault) → let r = world_step config world (Compact who) fault in IsSilent r.now r.sent
  compact_quiet who NoMemoryBefore = record { now_is = refl; sent_is = refl }
  compact_quiet who fault = by_found (node_at config world who)
    where
      by_found : (o : Option NodeState) → let r = if_found world (λ node.
          if node.up then outcome_result config world who node.facts (compact_outcome node fault)
          else answer_result world (Refused Down)) o in IsSilent r.now r.sent
      by_found None = record { now_is = refl; sent_is = refl }
      by_found (Some node) =
          cond_both node.up (outcome_result config world who node.facts (compact_outcome node fault)) (answer_result world (Refused Down))
          (λ (r : StepResult). IsSilent r.now r.sent)
          (λ up. outcome_silent who node (compact_outcome node fault) (compact_keeps node fault) (compact_silent node fault))
          (λ down. record { now_is = refl; sent_is = refl })

module _ (config : Config) (world : FlooredWorld) where
  pub raise_silent : (rm : ℕ) (place : Place) (fault : Fault)
      → let r = floored_step config world (floored.Raise (R rm) place) fault in IsSilent r.now r.sent
  raise_silent rm place NoMemoryBefore = record { now_is = refl; sent_is = refl }
  raise_silent rm place fault = by_found (node_at config world.machine (R rm))
    where
      by_found : (o : Option NodeState) → let r = floored_if_found world (λ node.
          raise_result config world rm (on_raise (world.floor (R rm)) node place fault)) o in IsSilent r.now r.sent
      by_found None = record { now_is = refl; sent_is = refl }
      by_found (Some node) = record { now_is = refl; sent_is = refl }

  pub hear_silent : (n : ℕ) (fault : Fault) → let r = floored_step config world (floored.Hear n) fault in IsSilent r.now r.sent
  hear_silent n NoMemoryBefore = record { now_is = refl; sent_is = refl }
  hear_silent n fault = by_notice (slice_get world.notices n)
    where
      by_node : (notice : Notice) (o : Option NodeState)
          → let r = floored_if_found world (hear_result config world notice fault) o in IsSilent r.now r.sent
      by_node notice None = record { now_is = refl; sent_is = refl }
      by_node notice (Some node) =
          let told = told_with (world.told notice.receiver) notice in
          let rise = on_least (world.floor notice.receiver) node (least_told config told) fault in
          cond_both node.up (floored_answer (record (with_rise config world notice.receiver rise)
          { told = with_entry world.told notice.receiver told }) rise.answer) (floored_answer world (Refused Down))
          (λ (r : FlooredResult). IsSilent r.now r.sent) (λ up. record { now_is = refl; sent_is = refl })
          (λ down. record { now_is = refl; sent_is = refl })

      by_notice : (o : Option Notice) → let r = floored_if_found world (hear_at config world fault) o in IsSilent r.now r.sent
      by_notice None = record { now_is = refl; sent_is = refl }
      by_notice (Some notice) =
          cond_both (is_manager notice.receiver) (floored_answer world Done)
          (floored_if_found world (hear_result config world notice fault) (node_at config world.machine notice.receiver))
          (λ (r : FlooredResult). IsSilent r.now r.sent) (λ manager. record { now_is = refl; sent_is = refl })
          (λ other. by_node notice (node_at config world.machine notice.receiver))

  -- a notice that is heard tells no other
  pub untold_heard : (n : ℕ) (fault : Fault) → (floored_step config world (floored.Hear n) fault).noticed ≡ []
  untold_heard n NoMemoryBefore = refl
  untold_heard n fault = by_notice (slice_get world.notices n)
    where
      by_node : (notice : Notice) (o : Option NodeState) → (floored_if_found world (hear_result config world notice fault) o).noticed ≡ []
      by_node notice None = refl
      by_node notice (Some node) =
          let told = told_with (world.told notice.receiver) notice in
          let rise = on_least (world.floor notice.receiver) node (least_told config told) fault in
          cond_both node.up (floored_answer (record (with_rise config world notice.receiver rise)
          { told = with_entry world.told notice.receiver told }) rise.answer) (floored_answer world (Refused Down))
          (λ (r : FlooredResult). r.noticed ≡ []) (λ up. refl) (λ down. refl)

      by_notice : (o : Option Notice) → (floored_if_found world (hear_at config world fault) o).noticed ≡ []
      by_notice None = refl
      by_notice (Some notice) =
          cond_both (is_manager notice.receiver) (floored_answer world Done)
          (floored_if_found world (hear_result config world notice fault) (node_at config world.machine notice.receiver))
          (λ (r : FlooredResult). r.noticed ≡ []) (λ manager. refl)
          (λ other. by_node notice (node_at config world.machine notice.receiver))

  -- of a node that is replaced an answer alone is told
  pub replaced_alone : (P : FlooredResult → Type 0) → ((w : FlooredWorld) (answer : Answer) → P (floored_answer w answer)) → (who : NodeId)
      (place : Place) (fault : Fault) → P (floored_step config world (floored.Replace who place) fault)
  replaced_alone P alone who place NoMemoryBefore = alone world (Refused NoMemory)
  replaced_alone P alone who place fault =
      cond_both (is_manager who) (floored_answer world (Refused NoSuch))
      (floored_if_found world (replace_result config world who place fault) (node_at config world.machine who)) P
      (λ manager. alone world (Refused NoSuch)) (λ other. by_found (node_at config world.machine who))
    where
      by_found : (o : Option NodeState) → P (floored_if_found world (replace_result config world who place fault) o)
      by_found None = alone world (Refused NoSuch)
      by_found (Some node) =
          cond_both (may_replace (world.floor who) node place) _ _ P (λ may. alone _ _) (λ used. alone _ _)

  pub replace_silent : (who : NodeId) (place : Place) (fault : Fault)
      → let r = floored_step config world (floored.Replace who place) fault in IsSilent r.now r.sent
  replace_silent =
      replaced_alone (λ (r : FlooredResult). IsSilent r.now r.sent) (λ w answer. record { now_is = refl; sent_is = refl })

  pub untold_replaced : (who : NodeId) (place : Place) (fault : Fault)
      → (floored_step config world (floored.Replace who place) fault).noticed ≡ []
  untold_replaced = replaced_alone (λ (r : FlooredResult). r.noticed ≡ []) (λ w answer. refl)

-- ---- outages

-- a node that is no resource manager is none of these
no_manager : (who : NodeId) → not (is_manager who) ≡ true → (rm : ℕ) → outages.is_manager rm who ≡ false
no_manager (A a) other rm = refl
no_manager (L l) other rm = refl
no_manager (R q) other rm = absurd (cc (other))

-- and its restart is none of theirs
restart_mute : (who : NodeId) → not (is_manager who) ≡ true → (answer : Answer) → IsMute (Restart who) answer
restart_mute (A a) other answer = record { done = λ rm x. refl; restart = λ rm. refl }
restart_mute (L l) other answer = record { done = λ rm x. refl; restart = λ rm. refl }
restart_mute (R q) other answer = absurd (cc (other))

spared_here : (here : Bool) (answer : Answer) → is_record_fault answer ≡ false → (here && is_record_fault answer) ≡ true → ⊥
spared_here here answer spared out = both_ways (is_record_fault answer) spared (and_parts here (is_record_fault answer) out).1

forgotten_spared : (request : Request) → is_record_fault (forgotten_answer (Asked request)) ≡ false
forgotten_spared (requests.Call x Start) = refl
forgotten_spared (requests.Call x (Put key value)) = refl
forgotten_spared (requests.Call x (Del key)) = refl
forgotten_spared (requests.Call x (Get key)) = refl
forgotten_spared (requests.Call x End) = refl
forgotten_spared (requests.Call x EndFail) = refl
forgotten_spared (requests.Call x Rollback) = refl
forgotten_spared request = refl

lose_spared : (config : Config) (world : World) (n : ℕ) (fault : Fault)
    → is_record_fault (world_step config world (Lose n) fault).answer ≡ false
lose_spared config world n NoMemoryBefore = refl
lose_spared config world n fault = by_found (datagram_at world.net n)
  where
    by_found : (o : Option Datagram) → is_record_fault (if_found world (λ d. answer_result (with_mark world n) Done) o).answer ≡ false
    by_found None = refl
    by_found (Some d) = refl

module _ (config : Config) (world : FlooredWorld) where
  module _ (rm : ℕ) (place : Place) where
    abbrev rises_at : Option NodeState → Bool
    rises_at o = option_map_or (λ node. node.up && is_lower (world.floor (R rm)) (Some place) && is_free_below place node) o false

    abbrev raised_at : Fault → Option NodeState → FlooredResult
    raised_at fault o = floored_if_found world (λ node. raise_result config world rm (on_raise (world.floor (R rm)) node place fault)) o

    abbrev compacted_at : Fault → Option NodeState → StepResult
    compacted_at fault o = if_found world.machine (λ node.
        if node.up then outcome_result config world.machine (R rm) node.facts (compact_outcome node fault)
        else answer_result world.machine (Refused Down)) o

    -- a floor that rises answers as the compaction that it is in the machine
    raised_answer : (fault : Fault) (o : Option NodeState) → rises_at o ≡ true
        → (raised_at fault o).answer ≡ (compacted_at fault o).answer
    raised_answer fault None e = absurd (cc (e))
    raised_answer fault (Some node) e =
        by_tests node.up (is_lower (world.floor (R rm)) (Some place)) (is_free_below place node) e
      where
        by_tests : (up rises free : Bool) → (up && rises && free) ≡ true
            → (if not up then kept_rise (world.floor (R rm)) node (Refused Down)
            else if not rises then kept_rise (world.floor (R rm)) node Done
            else if not free then kept_rise (world.floor (R rm)) node (Refused Busy)
            else risen (world.floor (R rm)) node place fault).answer
            ≡ (if up then outcome_result config world.machine (R rm) node.facts (compact_outcome node fault)
            else answer_result world.machine (Refused Down)).answer
        by_tests true true true e = refl
        by_tests true true false e = absurd (cc (e))
        by_tests true false free e = absurd (cc (e))
        by_tests false rises free e = absurd (cc (e))

    -- one that doesn't meets no failure of its record
    raised_spared : (fault : Fault) (o : Option NodeState) → rises_at o ≡ false → is_record_fault (raised_at fault o).answer ≡ false
    raised_spared fault None e = refl
    raised_spared fault (Some node) e =
        by_tests node.up (is_lower (world.floor (R rm)) (Some place)) (is_free_below place node) e
      where
        by_tests : (up rises free : Bool) → (up && rises && free) ≡ false
            → is_record_fault (if not up then kept_rise (world.floor (R rm)) node (Refused Down)
            else if not rises then kept_rise (world.floor (R rm)) node Done
            else if not free then kept_rise (world.floor (R rm)) node (Refused Busy)
            else risen (world.floor (R rm)) node place fault).answer ≡ false
        by_tests true true true e = absurd (cc (e))
        by_tests true true false e = refl
        by_tests true false free e = refl
        by_tests false rises free e = refl

    raise_answers : (fault : Fault) → does_raise config world (R rm) place ≡ true
        → (floored_step config world (floored.Raise (R rm) place) fault).answer
        ≡ (world_step config world.machine (Compact (R rm)) fault).answer
    raise_answers NoMemoryBefore e = refl
    raise_answers fault e = raised_answer fault (node_at config world.machine (R rm)) e

    raise_spared : (fault : Fault) → does_raise config world (R rm) place ≡ false
        → is_record_fault (floored_step config world (floored.Raise (R rm) place) fault).answer ≡ false
    raise_spared NoMemoryBefore e = refl
    raise_spared fault e = raised_spared fault (node_at config world.machine (R rm)) e

  -- no notice raises the floor of a resource manager
  not_manager : (o : Option Notice) → does_rise config world o ≡ true → (rm : ℕ) → outages.is_manager rm (receiver_of o) ≡ false
  not_manager None e rm = absurd (cc (e))
  not_manager (Some notice) e rm =
      no_manager notice.receiver
      (and_parts (not (is_manager notice.receiver)) (option_map_or (λ node.
      node.up && is_lower (world.floor notice.receiver) (least_told config (told_with (world.told notice.receiver) notice)))
      (node_at config world.machine notice.receiver) false) e).0 rm

  -- nor is one replaced
  replaced_other : (who : NodeId) (place : Place) → is_put_in config world who place ≡ true → not (is_manager who) ≡ true
  replaced_other who place e =
      (and_parts (not (is_manager who)) (option_map_or (λ node. may_replace (world.floor who) node place)
      (node_at config world.machine who) false) e).0

-- ---- the machine's run

-- the machine's run beside a run with floors
pub record Follows (config : Config) (world : FlooredWorld) (shown : List Step) : Type 0 where
  pub steps : List Step
  pub run : IsRun config world.machine steps
  pub alike : Alike shown steps
  pub out : AreOut shown steps

module _ (config : Config) (world : FlooredWorld) (before : List Step) (so : Follows config world before) (fault : Fault) where
  -- one step more
  abbrev FollowsOn : Event → FlooredResult → Type 0
  FollowsOn event result = Follows config result.world (floored_step_of world event result ∷ before)

  abbrev after : Event → StepResult
  after other = world_step config world.machine other fault

  -- the machine does nothing
  nothing_done : (event : Event) (result : FlooredResult) → result.world.machine ≡ world.machine → IsSilent result.now result.sent
      → IsMute event result.answer → ((rm : ℕ) → (is_event_here rm before event && is_record_fault result.answer) ≡ true → ⊥)
      → FollowsOn event result
  nothing_done event result same silent mute spared = record {
    steps = so.steps;
    run = subst (λ (w : World). IsRun config w so.steps) (sym same) so.run;
    alike = Shown (floored_step_of world event result) before so.steps
        (quiet_by (floored_step_of world event result) (suc (length world.machine.net)) result.sent refl silent mute) so.alike;
    out = shown_out before so.steps so.alike so.out (floored_step_of world event result) mute.restart spared;
  }

  -- it does something quiet
  quiet_done : (event : Event) (result : FlooredResult) (other : Event) → result.world.machine ≡ (after other).world
      → IsSilent result.now result.sent → IsMute event result.answer → IsSilent (after other).now (after other).sent
      → IsMute other (after other).answer
      → ((rm : ℕ) → (is_event_at rm so.steps other && is_outage (after other).answer) ≡ true
      → (is_event_here rm before event && is_outage result.answer) ≡ true)
      → ((rm : ℕ) → (is_event_here rm before event && is_record_fault result.answer) ≡ true
      → (is_event_at rm so.steps other && is_record_fault (after other).answer) ≡ true)
      → FollowsOn event result
  quiet_done event result other same silent mute other_silent other_mute may must =
      let step = step_of world.machine other (after other) in
      record {
        steps = step ∷ so.steps;
        run = subst (λ (w : World). IsRun config w (step ∷ so.steps)) (sym same) (machine.Then world.machine so.steps other fault so.run);
        alike = Shown (floored_step_of world event result) before (step ∷ so.steps)
            (quiet_by (floored_step_of world event result) (suc (length world.machine.net)) result.sent refl silent mute)
            (Hidden step before so.steps
            (quiet_by step (suc (length world.machine.net)) (after other).sent refl other_silent other_mute) so.alike);
        out = pair_out before so.steps so.alike so.out (floored_step_of world event result) step mute.restart other_mute.restart may must;
      }

  -- it does the same
  same_done : (event : Event) (result : FlooredResult) → machine_part result ≡ after event → result.noticed ≡ []
      → ((rm : ℕ) → is_event_here rm before event ≡ is_event_at rm before event) → FollowsOn event result
  same_done event result same untold plain =
      let step = step_of world.machine event (after event) in
      let is : floored_step_of world event result ≡ step =
      ap (λ (notices : List Notice). record (step_of world.machine event (machine_part result))
      { told = told_from (suc (length world.notices)) notices }) untold
      ∙ ap (step_of world.machine event) same in
      record {
        steps = step ∷ so.steps;
        run = subst (λ (w : World). IsRun config w (step ∷ so.steps)) (sym (ap (λ (r : StepResult). r.world) same))
            (machine.Then world.machine so.steps event fault so.run);
        alike = subst (λ (s : Step). Alike (s ∷ before) (step ∷ so.steps)) (sym is) (Both step before so.steps so.alike);
        out =
            subst (λ (s : Step). AreOut (s ∷ before) (step ∷ so.steps)) (sym is)
            (both_out before so.steps so.alike so.out step plain);
      }

  -- ---- events

  untold : (event : Event) (f : Fault) → (floored_step config world (Machine event) f).noticed ≡ []
  untold event NoMemoryBefore = refl
  untold event f = refl

  -- one that isn't below a floor
  unforgotten : (event : Event) → machine_events config world event ≡ event ∷ []
      → ((rm : ℕ) → is_event_here rm before event ≡ is_event_at rm before event)
      → FollowsOn event (floored_step config world (Machine event) fault)
  unforgotten event alone plain =
      same_done event (floored_step config world (Machine event) fault) (same_event config world event fault alone) (untold event fault)
      plain

  lose_mute : (n : ℕ) (answer : Answer) → IsMute (Lose n) answer
  lose_mute n answer = record { done = λ rm x. refl; restart = λ rm. refl }

  deliver_mute : (n : ℕ) (answer : Answer) → IsMute (Deliver n) answer
  deliver_mute n answer = record { done = λ rm x. refl; restart = λ rm. refl }

  compact_mute : (who : NodeId) (answer : Answer) → IsMute (Compact who) answer
  compact_mute who answer = record { done = λ rm x. refl; restart = λ rm. refl }

  delivered : (n : ℕ) (lost : Bool) → is_lost config world (datagram_at world.machine.net n) ≡ lost
      → FollowsOn (Deliver n) (floored_step config world (Machine (Deliver n)) fault)
  delivered n false e = unforgotten (Deliver n) (ap (λ (t : Bool). (if t then Lose n else Deliver n) ∷ []) e) (λ rm. refl)
  delivered n true e =
      let result = floored_step config world (Machine (Deliver n)) fault in
      let same : machine_part result ≡ after (Lose n) = lost_event config world n fault e in
      let silent = lose_silent config world.machine n fault in
      quiet_done (Deliver n) result (Lose n) (ap (λ (r : StepResult). r.world) same)
      (record {
        now_is = ap (λ (r : StepResult). r.now) same ∙ silent.now_is;
        sent_is = ap (λ (r : StepResult). r.sent) same ∙ silent.sent_is;
      })
      (deliver_mute n result.answer) silent (lose_mute n (after (Lose n)).answer) (λ rm e. absurd (cc (e)))
      (λ rm e. absurd (spared_here (is_event_here rm before (Deliver n)) result.answer
      (ap (λ (r : StepResult). is_record_fault r.answer) same ∙ lose_spared config world.machine n fault) e))

module _ (config : Config) (world : FlooredWorld) (before : List Step) (so : Follows config world before) where
  passed_over : (who : NodeId) (request : Request) (fault : Fault)
      → on_machine config world (Ask who request) fault ≡ floored_answer world (forgotten_answer (Asked request))
      → FollowsOn config world before so fault (Ask who request) (on_machine config world (Ask who request) fault)
  passed_over who request fault is =
      subst (FollowsOn config world before so fault (Ask who request)) (sym is)
      (nothing_done config world before so fault (Ask who request) (floored_answer world (forgotten_answer (Asked request))) refl
      (record { now_is = refl; sent_is = refl }) (forgotten_mute who request)
      (λ rm e. spared_here (is_event_here rm before (Ask who request)) (forgotten_answer (Asked request)) (forgotten_spared request) e))

  asked : (who : NodeId) (request : Request) (fault : Fault) (over : Bool) → passes_over config world who (Asked request) ≡ over
      → FollowsOn config world before so fault (Ask who request) (floored_step config world (Machine (Ask who request)) fault)
  asked who request fault false e =
      unforgotten config world before so fault (Ask who request) (ap (λ (t : Bool). if t then [] else Ask who request ∷ []) e)
      (λ rm. refl)
  asked who request NoMemoryBefore true e =
      same_done config world before so NoMemoryBefore (Ask who request) (floored_step config world (Machine (Ask who request))
      NoMemoryBefore) refl refl (λ rm. refl)
  asked who request fault true e = passed_over who request fault (unasked_event config world who request fault e)

  -- an outage by a rise is one by the compaction that it is in the machine, by a replacement one by the restart; where it is none there,
  -- there is no outage
  abbrev IsOutAlike : Event → FlooredEvent → Event → Fault → Bool → Type 0
  IsOutAlike event floored_event other fault true =
      ((rm : ℕ) → (is_event_at rm so.steps other && is_outage (world_step config world.machine other fault).answer) ≡ true
      → (is_event_here rm before event && is_outage (floored_step config world floored_event fault).answer) ≡ true)
      × ((rm : ℕ)
      → (is_event_here rm before event && is_record_fault (floored_step config world floored_event fault).answer) ≡ true
      → (is_event_at rm so.steps other && is_record_fault (world_step config world.machine other fault).answer) ≡ true)
  IsOutAlike event floored_event other fault false =
      (rm : ℕ) → (is_event_here rm before event && is_record_fault (floored_step config world floored_event fault).answer) ≡ true → ⊥

  -- in the machine an event is a quiet one, or none
  one_or_none : (event : Event) (floored_event : FlooredEvent) (other : Event) (fault : Fault) (does : Bool)
      → events_in_machine config world floored_event ≡ (if does then other ∷ [] else [])
      → (let r = floored_step config world floored_event fault in IsSilent r.now r.sent) → ((answer : Answer) → IsMute event answer)
      → (let r = world_step config world.machine other fault in IsSilent r.now r.sent)
      → (does ≡ true → (answer : Answer) → IsMute other answer) → IsOutAlike event floored_event other fault does
      → FollowsOn config world before so fault event (floored_step config world floored_event fault)
  one_or_none event floored_event other fault true is silent mute other_silent other_mute (may, must) =
      let result = floored_step config world floored_event fault in
      quiet_done config world before so fault event result other
      (in_machine config world floored_event fault
      ∙ ap (λ (events : List Event). world_after config world.machine (with_fault fault events)) is) silent (mute result.answer)
      other_silent (other_mute refl (world_step config world.machine other fault).answer) may must
  one_or_none event floored_event other fault false is silent mute other_silent other_mute spared =
      let result = floored_step config world floored_event fault in
      nothing_done config world before so fault event result
      (in_machine config world floored_event fault
      ∙ ap (λ (events : List Event). world_after config world.machine (with_fault fault events)) is) silent (mute result.answer) spared

  -- a floor rises, or it doesn't
  rises : (event : Event) (floored_event : FlooredEvent) (who : NodeId) (fault : Fault) (does : Bool)
      → events_in_machine config world floored_event ≡ (if does then Compact who ∷ [] else [])
      → (let r = floored_step config world floored_event fault in IsSilent r.now r.sent)
      → ((answer : Answer) → IsMute event answer) → IsOutAlike event floored_event (Compact who) fault does
      → FollowsOn config world before so fault event (floored_step config world floored_event fault)
  rises event floored_event who fault does is silent mute outs =
      one_or_none event floored_event (Compact who) fault does is silent mute (compact_quiet config world.machine who fault)
      (λ e answer. compact_mute config world before so fault who answer) outs

  raise_outs : (other : ℕ) (place : Place) (fault : Fault) (does : Bool) → does_raise config world (R other) place ≡ does
      → IsOutAlike (Raise other place) (floored.Raise (R other) place) (Compact (R other)) fault does
  raise_outs other place fault true e =
      let same = raise_answers config world other place fault e in (
        λ rm out. subst (λ (a : Answer). (other == rm && is_outage a) ≡ true) (sym same) out,
        λ rm out. subst (λ (a : Answer). (other == rm && is_record_fault a) ≡ true) same out,
      )
  raise_outs other place fault false e = λ rm out.
      spared_here (other == rm) (floored_step config world (floored.Raise (R other) place) fault).answer
      (raise_spared config world other place fault e) out

  hear_outs : (n : ℕ) (fault : Fault) (does : Bool) → does_rise config world (slice_get world.notices n) ≡ does
      → IsOutAlike (Hear (suc n)) (floored.Hear n) (Compact (receiver_of (slice_get world.notices n))) fault does
  hear_outs n fault true e = (
    λ rm out. absurd (elsewhere rm out),
    λ rm out. absurd (cc (out)),
  ) where
    elsewhere : (rm : ℕ) → (outages.is_manager rm (receiver_of (slice_get world.notices n))
        && is_outage (world_step config world.machine (Compact (receiver_of (slice_get world.notices n))) fault).answer) ≡ true → ⊥
    elsewhere rm out =
        let none = not_manager config world (slice_get world.notices n) e rm in
        absurd (both_ways (outages.is_manager rm (receiver_of (slice_get world.notices n))) none
        (and_parts (outages.is_manager rm (receiver_of (slice_get world.notices n)))
        (is_outage (world_step config world.machine (Compact (receiver_of (slice_get world.notices n))) fault).answer) out).0)
  hear_outs n fault false e = λ rm out. absurd (cc (out))

  replace_outs : (who : NodeId) (place : Place) (fault : Fault) (does : Bool) → is_put_in config world who place ≡ does
      → IsOutAlike (Replace who place) (floored.Replace who place) (Restart who) fault does
  replace_outs who place fault true e = (
    λ rm out. absurd (both_ways (outages.is_manager rm who) (no_manager who (replaced_other config world who place e) rm)
        (and_parts (outages.is_manager rm who) (is_outage (world_step config world.machine (Restart who) fault).answer) out).0),
    λ rm out. absurd (cc (out)),
  )
  replace_outs who place fault false e = λ rm out. absurd (cc (out))

  pub follows_on : (event : Event) (fault : Fault)
      → FollowsOn config world before so fault event (step_with_floors config world event fault)
  follows_on (Ask who request) fault = asked who request fault (passes_over config world who (Asked request)) refl
  follows_on (Deliver n) fault =
      delivered config world before so fault n (is_lost config world (datagram_at world.machine.net n)) refl
  follows_on (Raise rm place) fault =
      rises (Raise rm place) (floored.Raise (R rm) place) (R rm) fault (does_raise config world (R rm) place) refl
      (raise_silent config world rm place fault) (λ answer. record { done = λ q x. refl; restart = λ q. refl })
      (raise_outs rm place fault (does_raise config world (R rm) place) refl)
  follows_on (Hear zero) fault = unforgotten config world before so fault (Hear zero) refl (λ rm. refl)
  follows_on (Hear (suc n)) fault =
      rises (Hear (suc n)) (floored.Hear n) (receiver_of (slice_get world.notices n)) fault
      (does_rise config world (slice_get world.notices n)) refl (hear_silent config world n fault)
      (λ answer. record { done = λ q x. refl; restart = λ q. refl })
      (hear_outs n fault (does_rise config world (slice_get world.notices n)) refl)
  follows_on (Replace who place) fault =
      let does = is_put_in config world who place in
      one_or_none (Replace who place) (floored.Replace who place) (Restart who) fault does refl
      (replace_silent config world who place fault) (λ answer. record { done = λ q x. refl; restart = λ q. refl })
      (restart_quiet config world.machine who fault) (λ e. restart_mute who (replaced_other config world who place e))
      (replace_outs who place fault does refl)
  follows_on event fault = unforgotten config world before so fault event refl (λ rm. refl)

pub follows : (config : Config) (world : FlooredWorld) (before : List Step) → IsFlooredRun config world before
    → Follows config world before
follows config _ _ AtFirst = record { steps = []; run = machine.AtFirst; alike = Nothing; out = none_out }
follows config _ _ (Then world before event fault run) =
    follows_on config world before (follows config world before run) event fault
