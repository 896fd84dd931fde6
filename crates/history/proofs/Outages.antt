-- Which managers are down is what looking back says, where no memory is wanted; and where it is, it says which may be.
-- Needed by Laws.
use Rattle.std.proofs.Common.{◌≡◌, ◌⊎◌, inl, inr, ◌∙◌, ℕ, Bool, true, false, not, ◌&&◌, ◌||◌, if◌then◌else◌, eq-eqb, List, [], ◌∷◌}
use Rattle.std.proofs.Common.{Option, Some, None, is_some, unwrap_or, refl, sym, ap, subst, nat_lt}
use Rattle.std.specs.Prelude.{length, is_none}
use Rattle.std.specs.Option.{option_map, option_map_or}
use Rattle.std.proofs.lemmas.Bool.{cond_both, ne_eqb, both_ways, not-false, or_cases, or_left, or_right, and_from, and_parts}
use Rattle.xid.specs.Names.{XidParts}
use Rattle.xid.specs.Transactions.{TxParts, is_participant, xid_at}
use Rattle.xid.specs.declared.refusals.Refusal.{Refusal}
use Rattle.xid.specs.declared.refusals.Refusal.TheVariants.{NoSuch, Forged, NoMemory, Down, RecordFault, Busy, Full}
use Rattle.xid.specs.declared.codes.XaCode.TheVariants as codes
use Rattle.wire.specs.Decoding.{spells_message}
use Rattle.wire.specs.Grammar.{spelling}
use Rattle.wire.specs.declared.message.Kind.{Kind}
use Rattle.wire.specs.declared.message.Kind.TheVariants as kinds
use Rattle.wire.specs.Messages.{message_tx}
use Rattle.xid.specs.Limits.{most_touched}
use Rattle.protocol.specs.Basics.{Fact, Touched}
use Rattle.safety.specs.Vocabulary.{NodeId, A, L, R, Answer, Done, Code, Refused, Event, Ask, Deliver, Lose, Cut, Noise, Tear, Restart}
use Rattle.safety.specs.Vocabulary.{Compact, Request, Call, Recover, Timeout, Action, Start, Put, Del, Get, End, EndFail, Rollback, Row}
use Rattle.safety.specs.Vocabulary.{Sent, Step, BranchState}
use Rattle.protocol.specs.Branches.{BranchView, by_state, read_of, get_answer, rollback_answer, call_answer}
use Rattle.protocol.specs.Effects.{Config, Effect, is_inside}
use Rattle.protocol.specs.Facts.{is_prepared_view, is_open_view, is_spent, vote_in, is_ended, view}
use Rattle.protocol.specs.Managers.{Branch, named_answer, stored_votes, idle_keys, first_vote, on_manager_message}
use Rattle.protocol.specs.Nodes.{Memory, NodeState, new_node, Input, Asked, Received, ReceivedNoise, Fault, NoMemoryBefore}
use Rattle.protocol.specs.Nodes.{NoMemoryAt, RecordFails, is_message_inside, effect_of, effect_outcome, node_step, down_answer}
use Rattle.protocol.specs.Nodes.{accepts_input, Outcome, all_play, restart_outcome, compact_outcome}
use Rattle.protocol.specs.Worlds.{World, Datagram, StepResult, node_at, set_node, outcome_result, answer_result, if_found, at_node}
use Rattle.protocol.specs.Worlds.{datagram_at, with_mark, dispatch, world_step, step_of}
use Rattle.safety.specs.Standing.{facts_of}
use Rattle.safety.proofs.World.Growth.{same_node}
use Rattle.safety.proofs.World.Reachable.{play}
use Rattle.safety.proofs.World.NodePlaces.{node_there, node_elsewhere}
use Rattle.history.specs.Calls.{is_restart}
use Rattle.history.specs.Outages.{is_manager, is_sent_to, is_event_at, is_record_fault, is_outage, is_out}
use Rattle.history.proofs.Moves.{manager_in}
use Rattle.history.proofs.Undone.{no_restart_refused}
use Rattle.history.proofs.Runs.{IsRun, AtFirst, Then, new_manager, reached}
use Rattle.history.proofs.Datagrams.{line_of, sent_is}

-- ---- what an event does to whether a manager is up; `here` says whether it is one at it
record IsTurn (here : Bool) (rm : ℕ) (old new : Bool) (event : Event) (answer : Answer) : Type 0 where
  -- a restart that is done leaves it up
  rises : is_restart rm event answer ≡ true → new ≡ true
  -- where it is down then, it was, or goes down with this event
  falls : new ≡ false → (is_restart rm event answer ≡ false) × ((old ≡ false) ⊎ ((here && is_outage answer) ≡ true))
  -- a failure of its record leaves it down
  stops : here ≡ true → is_record_fault answer ≡ true → new ≡ false
  -- without a restart it stays down
  stays : is_restart rm event answer ≡ false → old ≡ false → new ≡ false

module _ (here : Bool) (rm : ℕ) (old new : Bool) (event : Event) (answer : Answer) where
  -- nothing changes, and no record of it failed
  unturned : new ≡ old → is_restart rm event answer ≡ false → (here ≡ true → is_record_fault answer ≡ false)
      → IsTurn here rm old new event answer
  unturned same restart fine = record {
    rises = λ e. absurd (both_ways (is_restart rm event answer) restart e);
    falls = λ e. (restart, inl (sym same ∙ e));
    stops = λ h e. absurd (both_ways (is_record_fault answer) (fine h) e);
    stays = λ e down. same ∙ down;
  }

  -- it goes down
  turned_down : new ≡ false → is_restart rm event answer ≡ false → here ≡ true → is_outage answer ≡ true
      → IsTurn here rm old new event answer
  turned_down down restart h out = record {
    rises = λ e. absurd (both_ways (is_restart rm event answer) restart e);
    falls = λ e. (restart, inr (and_from here (is_outage answer) h out));
    stops = λ k e. down;
    stays = λ e f. down;
  }

  -- it is restarted
  turned_up : new ≡ true → is_restart rm event answer ≡ true → is_record_fault answer ≡ false → IsTurn here rm old new event answer
  turned_up up restart fine = record {
    rises = λ e. up;
    falls = λ e. absurd (both_ways new e up);
    stops = λ k e. absurd (both_ways (is_record_fault answer) fine e);
    stays = λ e f. absurd (both_ways (is_restart rm event answer) e restart);
  }

-- ---- answers at a manager that is up aren't those of a record that fails

by_state_fine : (state : Option BranchState) (absent active ended : Answer) → is_record_fault absent ≡ false
    → is_record_fault active ≡ false → is_record_fault ended ≡ false → is_record_fault (by_state state absent active ended) ≡ false
by_state_fine None absent active ended a b c = a
by_state_fine (Some BranchState.Active) absent active ended a b c = b
by_state_fine (Some BranchState.Idle) absent active ended a b c = c
by_state_fine (Some BranchState.RollbackOnly) absent active ended a b c = c
by_state_fine (Some BranchState.Prepared) absent active ended a b c = c

get_fine : (o : Option (List ℕ)) → is_record_fault (get_answer o) ≡ false
get_fine None = refl
get_fine (Some value) = refl

touch_fine : (state : Option BranchState) (busy room : Bool) (admitted : Answer) → is_record_fault admitted ≡ false
    → is_record_fault (by_state state (Code codes.Nota) (if busy then Refused Busy else if room then admitted else Refused Full)
    (Code codes.Proto)) ≡ false
touch_fine state true room admitted fine = by_state_fine state (Code codes.Nota) (Refused Busy) (Code codes.Proto) refl refl refl
touch_fine state false true admitted fine = by_state_fine state (Code codes.Nota) admitted (Code codes.Proto) refl fine refl
touch_fine state false false admitted fine = by_state_fine state (Code codes.Nota) (Refused Full) (Code codes.Proto) refl refl refl

fits_fine : (fits : Bool) (answer : Answer) → is_record_fault answer ≡ false
    → is_record_fault (if fits then answer else Code codes.Inval) ≡ false
fits_fine true answer fine = fine
fits_fine false answer fine = refl

rollback_fine : (state : Option BranchState) → is_record_fault (rollback_answer state) ≡ false
rollback_fine None = refl
rollback_fine (Some BranchState.Active) = refl
rollback_fine (Some BranchState.Idle) = refl
rollback_fine (Some BranchState.RollbackOnly) = refl
rollback_fine (Some BranchState.Prepared) = refl

call_fine : (rows : List Row) (v : BranchView) (busy : Bool) (action : Action) → is_record_fault (call_answer rows v busy action) ≡ false
call_fine rows v busy Start = cond_both (is_none v.state) _ _ (λ (a : Answer). is_record_fault a ≡ false) (λ e. refl) (λ e. refl)
call_fine rows v busy (Put key value) = fits_fine _ _ (touch_fine v.state busy _ (Code codes.Ok) refl)
call_fine rows v busy (Del key) = fits_fine _ _ (touch_fine v.state busy _ (Code codes.Ok) refl)
call_fine rows v busy (Get key) =
    fits_fine _ _ (touch_fine v.state busy (v.touched key || nat_lt v.count most_touched) (get_answer (read_of rows v key))
    (get_fine (read_of rows v key)))
call_fine rows v busy End = by_state_fine v.state (Code codes.Nota) (Code codes.Ok) (Code codes.Proto) refl refl refl
call_fine rows v busy EndFail = by_state_fine v.state (Code codes.Nota) (Code codes.RbRollback) (Code codes.Proto) refl refl refl
call_fine rows v busy Rollback = rollback_fine v.state

named_fine : (spent : Bool) (rows : List Row) (v : BranchView) (busy : Bool) (action : Action)
    → is_record_fault (named_answer spent rows v busy action) ≡ false
named_fine true rows v busy Start = refl
named_fine true rows v busy action = call_fine rows v busy action
named_fine false rows v busy action = call_fine rows v busy action

abbrev IsFine : {M : Type 0} → Effect M → Type 0
IsFine e = is_record_fault e.answer ≡ false

module _ (rm : ℕ) (facts : List Fact) (branches : List Branch) where
  first_fine : (tx : TxParts) (x : XidParts) (spent : Bool) (idle : Option (List Touched)) → IsFine (first_vote rm branches tx x spent idle)
  first_fine tx x false (Some keys) = refl
  first_fine tx x spent idle = refl

  message_fine : (m : Kind) (o : Option XidParts) → IsFine (on_manager_message rm (stored_votes rm facts) branches o m)
  message_fine (kinds.Prepare tx) (Some x) =
      cond_both (is_some (vote_in facts tx)) _ _ (λ (e : Effect (List Branch)). IsFine e) (λ some. refl)
      (λ new. cond_both (is_ended facts tx) _ _ (λ (e : Effect (List Branch)). IsFine e) (λ ended. refl)
      (λ unended. first_fine tx x (is_spent rm facts x) (idle_keys branches x)))
  message_fine (kinds.Commit tx) (Some x) =
      cond_both (is_prepared_view (view facts tx)) _ _ (λ (e : Effect (List Branch)). IsFine e) (λ prepared. refl) (λ other. refl)
  message_fine (kinds.Abort tx) (Some x) =
      cond_both (is_open_view (view facts tx)) _ _ (λ (e : Effect (List Branch)). IsFine e) (λ opens. refl) (λ other. refl)
  message_fine m (Some x) = refl
  message_fine m None = refl

effect_fine : (config : Config) (rm : ℕ) (facts : List Fact) (memory : Memory) (input : Input)
    → IsFine (effect_of config (R rm) facts memory input)
effect_fine config rm facts memory (Received m) = cond_both (is_message_inside config m) _ _ (λ (e : Effect Memory). IsFine e)
    (λ inside. message_fine rm facts memory.branches m (xid_at (message_tx m) rm)) (λ outside. refl)
effect_fine config rm facts memory (Asked (Call x action)) = named_fine _ _ _ _ action
effect_fine config rm facts memory (Asked Recover) = refl
effect_fine config rm facts memory (Asked (Request.View tx)) =
    cond_both (is_inside config tx && is_participant tx rm) _ _ (λ (a : Answer). is_record_fault a ≡ false) (λ e. refl) (λ e. refl)
effect_fine config rm facts memory (Asked (Timeout tx)) =
    cond_both (is_inside config tx) _ _ (λ (e : Effect (List Branch)). IsFine e) (λ e. refl) (λ e. refl)
effect_fine config rm facts memory (Asked (Request.Commit tx)) = refl
effect_fine config rm facts memory (Asked (Request.Status tx)) = refl
effect_fine config rm facts memory ReceivedNoise = refl

down_fine : (input : Input) → is_record_fault (down_answer input) ≡ false
down_fine (Asked (Call x action)) = refl
down_fine (Asked Recover) = refl
down_fine (Asked (Request.View tx)) = refl
down_fine (Asked (Timeout tx)) = refl
down_fine (Asked (Request.Commit tx)) = refl
down_fine (Asked (Request.Status tx)) = refl
down_fine (Received m) = refl
down_fine ReceivedNoise = refl

-- ---- at the manager

module _ (config : Config) (rm : ℕ) (node : NodeState) (event : Event) (none : (answer : Answer) → is_restart rm event answer ≡ false) where
  abbrev Turns : Outcome → Type 0
  Turns left = IsTurn true rm node.up left.node.up event left.answer

  settles : (e : Effect Memory) (o : Option Fact) (tear : Option ℕ) (fault : Fault) → node.up ≡ true → is_record_fault e.answer ≡ false
      → Turns (effect_outcome node e o tear fault)
  settles e None tear NoMemoryAt up fine = turned_down true rm node.up false event (Refused NoMemory) refl (none
      (Refused NoMemory)) refl refl
  settles e (Some fact) tear NoMemoryAt up fine =
      turned_down true rm node.up false event (Refused NoMemory) refl (none (Refused NoMemory)) refl refl
  settles e None tear fault up fine = unturned true rm node.up true event e.answer (sym up) (none e.answer) (λ h. fine)
  settles e (Some fact) (Some n) fault up fine =
      turned_down true rm node.up false event (Refused RecordFault) refl (none (Refused RecordFault)) refl refl
  settles e (Some fact) None (RecordFails whole) up fine =
      turned_down true rm node.up false event (Refused RecordFault) refl (none (Refused RecordFault)) refl refl
  settles e (Some fact) None fault up fine = unturned true rm node.up true event e.answer (sym up) (none e.answer) (λ h. fine)

  step_turns : (input : Input) (fault : Fault) → Turns (node_step config (R rm) node input fault)
  step_turns input fault = cond_both (not (accepts_input (R rm) input)) _ _ Turns
      (λ other. unturned true rm node.up node.up event (Refused NoSuch) refl (none (Refused NoSuch)) (λ h. refl))
      (λ taken. cond_both (not node.up) _ _ Turns
      (λ down. unturned true rm node.up node.up event (down_answer input) refl (none (down_answer input)) (λ h. down_fine input))
      (λ up. settles (effect_of config (R rm) node.facts node.memory input) _ node.tear fault (not-false node.up up)
      (effect_fine config rm node.facts node.memory input)))

  compact_turns : (fault : Fault) → Turns (compact_outcome node fault)
  compact_turns NoMemoryAt = turned_down true rm node.up false event (Refused NoMemory) refl (none (Refused NoMemory)) refl refl
  compact_turns (RecordFails whole) =
      turned_down true rm node.up false event (Refused RecordFault) refl (none (Refused RecordFault)) refl refl
  compact_turns fault = unturned true rm node.up node.up event Done refl (none Done) (λ h. refl)

-- a restart; the facts play
restart_turns : (config : Config) (rm : ℕ) (node : NodeState) (fault : Fault) → all_play config (R rm) [] node.facts ≡ true
    → IsTurn true rm node.up (restart_outcome config (R rm) node fault).node.up (Restart (R rm)) (restart_outcome config
    (R rm) node fault).answer
restart_turns config rm node NoMemoryAt play = turned_down true rm node.up false (Restart (R rm)) (Refused NoMemory) refl refl refl refl
restart_turns config rm node (RecordFails whole) play =
    turned_down true rm node.up false (Restart (R rm)) (Refused RecordFault) refl refl refl refl
restart_turns config rm node fault play = cond_both (all_play config (R rm) [] node.facts) _ _
    (λ (left : Outcome). IsTurn true rm node.up left.node.up (Restart (R rm)) left.answer)
    (λ plays. turned_up true rm node.up true (Restart (R rm)) Done refl (eq-eqb rm rm refl) refl)
    (λ damaged. absurd (both_ways (all_play config (R rm) [] node.facts) damaged play))

-- ---- in the world

other_manager : (rm : ℕ) (who : NodeId) → (R rm ≡ who → ⊥) → is_manager rm who ≡ false
other_manager rm (A a) apart = refl
other_manager rm (L l) apart = refl
other_manager rm (R q) apart = ne_eqb q rm (λ e. apart (ap R (sym e)))

other_restart : (rm : ℕ) (who : NodeId) → (R rm ≡ who → ⊥) → (answer : Answer) → is_restart rm (Restart who) answer ≡ false
other_restart rm (A a) apart answer = refl
other_restart rm (L l) apart answer = refl
other_restart rm (R q) apart Done = ne_eqb q rm (λ e. apart (ap R (sym e)))
other_restart rm (R q) apart answer = refl

-- what an event does to manager rm
abbrev Turned : Bool → Config → World → ℕ → Event → StepResult → Type 0
Turned here config world rm event result =
    IsTurn here rm (manager_in config world rm).up (manager_in config result.world rm).up event result.answer

module _ (config : Config) (world : World) (rm : ℕ) where
  refused : (here : Bool) (event : Event) (e : Refusal) → is_record_fault (Refused e) ≡ false
      → Turned here config world rm event (answer_result world (Refused e))
  refused here event e fine =
      let up = (manager_in config world rm).up in
      unturned here rm up up event (Refused e) refl (no_restart_refused rm event e) (λ h. fine)

  outcome_turned : (who : NodeId) (node : NodeState) (left : Outcome) (event : Event) → node_at config world who ≡ Some node
      → (R rm ≡ who → IsTurn true rm node.up left.node.up event left.answer)
      → ((R rm ≡ who → ⊥) → is_restart rm event left.answer ≡ false)
      → Turned (is_manager rm who) config world rm event (outcome_result config world who node.facts left)
  outcome_turned who node left event stands here away = elim (same_node (R rm) who) [
    | inl same ↦
        let was : node.up ≡ (manager_in config world rm).up =
        sym (ap (λ (o : Option NodeState). (unwrap_or o new_node).up) (ap (node_at config world) same ∙ stands)) in
        let is : left.node.up ≡ (manager_in config after rm).up =
        sym (ap (λ (o : Option NodeState). (unwrap_or o new_node).up)
        (ap (node_at config after) same ∙ node_there config world who node left.node stands)) in
        let own : true ≡ is_manager rm who = sym (ap (is_manager rm) (sym same) ∙ eq-eqb rm rm refl) in
        subst (λ (b : Bool). IsTurn b rm (manager_in config world rm).up (manager_in config after rm).up event left.answer) own
        (subst (λ (b : Bool). IsTurn true rm b (manager_in config after rm).up event left.answer) was
        (subst (λ (b : Bool). IsTurn true rm node.up b event left.answer) is (here same)))
    | inr apart ↦
        unturned (is_manager rm who) rm (manager_in config world rm).up (manager_in config after rm).up event left.answer
        (ap (λ (o : Option NodeState). (unwrap_or o new_node).up) (node_elsewhere config world who (R rm) left.node apart))
        (away apart) (λ h. absurd (both_ways (is_manager rm who) (other_manager rm who apart) h))
  ]
    where
      after : World
      after = (outcome_result config world who node.facts left).world

  found_turned : {X : Type 0} (here : Bool) (o : Option X) (f : X → StepResult) (event : Event)
      → ((x : X) → o ≡ Some x → Turned here config world rm event (f x)) → Turned here config world rm event (if_found world f o)
  found_turned here None f event turned = refused here event NoSuch refl
  found_turned here (Some x) f event turned = turned x refl

  input_turned : (who : NodeId) (input : Input) (fault : Fault) (event : Event) → ((answer : Answer) → is_restart rm event answer ≡ false)
      → Turned (is_manager rm who) config world rm event (at_node config world who input fault)
  input_turned who input fault event none = found_turned (is_manager rm who) (node_at config world who)
      (λ node. outcome_result config world who node.facts (node_step config who node input fault)) event
      (λ node stands. outcome_turned who node (node_step config who node input fault) event stands
      (λ same. subst (λ (n : NodeId). IsTurn true rm node.up (node_step config n node input fault).node.up event
      (node_step config n node input fault).answer) same (step_turns config rm node event none input fault))
      (λ apart. none (node_step config who node input fault).answer))

  armed_up : (who : NodeId) (n : ℕ) (node : NodeState) → node_at config world who ≡ Some node
      → (manager_in config (set_node config world who (record node { tear = Some n })) rm).up ≡ (manager_in config world rm).up
  armed_up who n node stands = elim (same_node (R rm) who) [
    | inl same ↦
        ap (λ (o : Option NodeState). (unwrap_or o new_node).up) (ap (node_at config after) same
        ∙ node_there config world who node new stands)
        ∙ sym (ap (λ (o : Option NodeState). (unwrap_or o new_node).up) (ap (node_at config world) same ∙ stands))
    | inr apart ↦ ap (λ (o : Option NodeState). (unwrap_or o new_node).up) (node_elsewhere config world who (R rm) new apart)
  ]
    where
      new : NodeState
      new = record node { tear = Some n }

      after : World
      after = set_node config world who new

-- whether the datagram of a number is for manager rm
abbrev is_for : ℕ → Option Datagram → Bool
is_for rm o = option_map_or (λ d. is_manager rm d.receiver) o false

for_datagram : (rm n : ℕ) (o : Option Datagram)
    → option_map_or (λ (s : Sent). is_manager rm s.receiver) (option_map (line_of n) o) false ≡ is_for rm o
for_datagram rm n None = refl
for_datagram rm n (Some d) = refl

module _ (config : Config) (world : World) (before : List Step) (rm : ℕ) (run : IsRun config world before) where
  sent_for : (n : ℕ) → is_sent_to rm before n ≡ is_for rm (datagram_at world.net n)
  sent_for n =
      ap (λ (o : Option Sent). option_map_or (λ s. is_manager rm s.receiver) o false) (sent_is config world before run n)
      ∙ for_datagram rm n (datagram_at world.net n)

  -- an event at the datagram of a number
  datagram_turned : (n : ℕ) (f : Datagram → StepResult) (event : Event)
      → ((d : Datagram) → Turned (is_manager rm d.receiver) config world rm event (f d))
      → Turned (is_sent_to rm before n) config world rm event (if_found world f (datagram_at world.net n))
  datagram_turned n f event turned =
      subst (λ (b : Bool). Turned b config world rm event (if_found world f (datagram_at world.net n))) (sym (sent_for n))
      (by_found (datagram_at world.net n))
    where
      by_found : (o : Option Datagram) → Turned (is_for rm o) config world rm event (if_found world f o)
      by_found None = refused config world rm false event NoSuch refl
      by_found (Some d) = turned d

  dispatch_turned : (event : Event) (fault : Fault)
      → Turned (is_event_at rm before event) config world rm event (dispatch config world event fault)
  dispatch_turned (Ask who request) fault = input_turned config world rm who (Asked request) fault (Ask who request) (λ answer. refl)
  dispatch_turned (Deliver n) fault = datagram_turned n
      (λ d. at_node config (with_mark world n) d.receiver (Received d.message) fault) (Deliver n)
      (λ d. input_turned config (with_mark world n) rm d.receiver (Received d.message) fault (Deliver n) (λ answer. refl))
  dispatch_turned (Lose n) fault = found_turned config world rm false (datagram_at world.net n)
      (λ d. answer_result (with_mark world n) Done) (Lose n)
      (λ d is. unturned false rm (manager_in config world rm).up (manager_in config world rm).up (Lose n) Done refl refl (λ h. refl))
  dispatch_turned (Cut n k) fault = datagram_turned n
      (λ d. if nat_lt k (length (spelling d.message)) then at_node config world d.receiver ReceivedNoise fault
      else answer_result world (Refused NoSuch)) (Cut n k)
      (λ d. cond_both (nat_lt k (length (spelling d.message))) (at_node config world d.receiver ReceivedNoise fault)
      (answer_result world (Refused NoSuch)) (Turned (is_manager rm d.receiver) config world rm (Cut n k))
      (λ fewer. input_turned config world rm d.receiver ReceivedNoise fault (Cut n k) (λ answer. refl))
      (λ all. refused config world rm (is_manager rm d.receiver) (Cut n k) NoSuch refl))
  dispatch_turned (Noise who bytes) fault = cond_both (spells_message bytes)
      (if_found world (λ node. answer_result world (Refused Forged)) (node_at config world who))
      (at_node config world who ReceivedNoise fault) (Turned (is_manager rm who) config world rm (Noise who bytes))
      (λ spelled. found_turned config world rm (is_manager rm who) (node_at config world who)
      (λ node. answer_result world (Refused Forged)) (Noise who bytes)
      (λ node is. refused config world rm (is_manager rm who) (Noise who bytes) Forged refl))
      (λ garbled. input_turned config world rm who ReceivedNoise fault (Noise who bytes) (λ answer. refl))
  dispatch_turned (Tear who n) fault = found_turned config world rm false (node_at config world who)
      (λ node. answer_result (set_node config world who (record node { tear = Some n })) Done) (Tear who n)
      (λ node stands. unturned false rm (manager_in config world rm).up _ (Tear who n) Done (armed_up config world rm who n node stands)
      refl (λ h. refl))
  dispatch_turned (Restart who) fault = found_turned config world rm (is_manager rm who) (node_at config world who)
      (λ node. outcome_result config world who node.facts (restart_outcome config who node fault)) (Restart who)
      (λ node stands. outcome_turned config world rm who node (restart_outcome config who node fault) (Restart who) stands
      (λ same. subst (λ (n : NodeId). IsTurn true rm node.up (restart_outcome config n node fault).node.up (Restart n)
      (restart_outcome config n node fault).answer) same
      (restart_turns config rm node fault (played node (subst (λ (n : NodeId). node_at config world n ≡ Some node) (sym same) stands))))
      (λ apart. other_restart rm who apart (restart_outcome config who node fault).answer))
    where
      played : (node : NodeState) → node_at config world (R rm) ≡ Some node → all_play config (R rm) [] node.facts ≡ true
      played node stands =
          subst (λ (o : Option NodeState). all_play config (R rm) [] (facts_of o) ≡ true) stands
          (play config world (reached config world before run) (R rm))
  dispatch_turned (Compact who) fault = found_turned config world rm (is_manager rm who) (node_at config world who)
      (λ node. if node.up then outcome_result config world who node.facts (compact_outcome node fault)
      else answer_result world (Refused Down)) (Compact who)
      (λ node stands. cond_both node.up (outcome_result config world who node.facts (compact_outcome node fault))
      (answer_result world (Refused Down)) (Turned (is_manager rm who) config world rm (Compact who))
      (λ up. outcome_turned config world rm who node (compact_outcome node fault) (Compact who) stands
      (λ same. compact_turns config rm node (Compact who) (λ answer. refl) fault) (λ apart. refl))
      (λ down. refused config world rm (is_manager rm who) (Compact who) Down refl))
  dispatch_turned event fault = refused config world rm false event NoSuch refl

  event_turned : (event : Event) (fault : Fault)
      → Turned (is_event_at rm before event) config world rm event (world_step config world event fault)
  event_turned event NoMemoryBefore = refused config world rm (is_event_at rm before event) event NoMemory refl
  event_turned event fault = dispatch_turned event fault

-- ---- runs

-- a manager that is down may be so by the history; and one that must be so is down
pub record IsOutBack (rm : ℕ) (up : Bool) (before : List Step) : Type 0 where
  pub may : up ≡ false → is_out is_outage rm before ≡ true
  pub must : is_out is_record_fault rm before ≡ true → up ≡ false

out_by : (rm : ℕ) (old new : Bool) (step : Step) (before : List Step) → IsOutBack rm old before
    → IsTurn (is_event_at rm before step.event) rm old new step.event step.answer → IsOutBack rm new (step ∷ before)
out_by rm old new step before out turn = record {
  may = λ down.
      let is = turn.falls down in
      let here = is_event_at rm before step.event && is_outage step.answer in
      let later = is_out is_outage rm before in
      ap (λ (b : Bool). if b then false else here || later) is.0
      ∙ elim is.1 [ inl was ↦ or_right here later (out.may was) | inr now ↦ or_left here later now ];
  must = λ e.
      let here = is_event_at rm before step.event in
      let later = is_out is_record_fault rm before in
      cond_both (is_restart rm step.event step.answer) false ((here && is_record_fault step.answer) || later)
      (λ (b : Bool). b ≡ true → new ≡ false) (λ restart f. absurd (cc (f)))
      (λ none f. elim (or_cases (here && is_record_fault step.answer) later f) [
        | inl now ↦ let parts = and_parts here (is_record_fault step.answer) now in turn.stops parts.0 parts.1
        | inr was ↦ turn.stays none (out.must was)
      ]) e;
}

pub out_ever : (config : Config) (world : World) (before : List Step) (rm : ℕ) → IsRun config world before
    → IsOutBack rm (manager_in config world rm).up before
out_ever config _ _ rm AtFirst =
    subst (λ (node : NodeState). IsOutBack rm node.up []) (new_manager config rm)
    (record { may = λ e. absurd (cc (e)); must = λ e. absurd (cc (e)) })
out_ever config _ _ rm (Then world before event fault run) =
    let result = world_step config world event fault in
    out_by rm (manager_in config world rm).up (manager_in config result.world rm).up (step_of world event result) before
    (out_ever config world before rm run) (event_turned config world before rm run event fault)
