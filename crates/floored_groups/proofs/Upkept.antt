-- A process whose floor was to rise, that was restarted, whose record was made shorter, or that was asked for something does what its node
-- does in a world. The laws of processes need it, and runs of all of them.
use Rattle.std.proofs.Common.{◌≡◌, ◌≢◌, ◌∙◌, inl, inr, ℕ, zero, suc, ◌<◌, if◌then◌else◌, List, [], ◌∷◌, ◌++◌, length, Option, Some, None}
use Rattle.std.proofs.Common.{refl, sym, ap, subst, append-nil}
use Rattle.std.specs.Prelude.{replicate, Result, Ok, Err}
use Rattle.std.specs.List.{flat_map}
use Rattle.std.proofs.lemmas.Bool.{cond-true, cond-false}
use Rattle.std.proofs.lemmas.List.{length-replicate}
use Rattle.xid.specs.Places.{Place}
use Rattle.xid.specs.declared.refusals.Refusal.{Refusal}
use Rattle.xid.specs.declared.refusals.Refusal.TheVariants as refusals
use Rattle.stable_record.specs.Held.{Held}
use Rattle.protocol.specs.declared.answers.Answer.{Answer}
use Rattle.protocol.specs.declared.answers.Answer.TheVariants.{Done, Refused}
use Rattle.protocol.specs.declared.decisions.Outgoing.{Outgoing}
use Rattle.protocol.specs.declared.events.Event.TheVariants.{Restart, Compact, Tear}
use Rattle.protocol.specs.declared.nodes.NodeId.{NodeId}
use Rattle.protocol.specs.declared.nodes.NodeId.TheVariants.{R}
use Rattle.protocol.specs.Effects.{Config}
use Rattle.protocol.specs.Nodes.{NodeState, Fault, NoFault, NoMemoryBefore, NoMemoryAt, RecordFails, Outcome, restart_outcome}
use Rattle.protocol.specs.Nodes.{compact_outcome}
use Rattle.protocol.specs.Worlds.{World, StepResult, datagrams_of, if_found, outcome_result, answer_result, set_node}
use Rattle.safety.proofs.World.NodePlaces.{node_there, node_elsewhere}
use Rattle.node_core.specs.Compacting.{BefallsCompact}
use Rattle.node_core.specs.Nodes.{IsSameNode, NodeParts}
use Rattle.node_core.specs.Opening.{BefallsRestart, restart_answer}
use Rattle.floors.specs.Nodes.{Rise, on_raise}
use Rattle.floors.specs.Worlds.{FlooredWorld, FlooredResult, Machine, Raise, floored_dispatch, floored_if_found, is_done}
use Rattle.floors.specs.Worlds.{notices_of, nothing_told, raise_result, with_entry}
use Rattle.floors.proofs.Nodes.{restart_silent, compact_silent}
use Rattle.floors.proofs.Rising.{entry_own}
use Rattle.floored.specs.Nodes.{FlooredCompactsDown, FlooredCompactsUp, FlooredSays, FlooredStands}
use Rattle.floored.specs.Told.{told_at}
use Rattle.port.specs.Members.{CompactsMember, MemberParts, RaisesMember, RestartsMember}
use Rattle.floored_groups.specs.Runs.{IsFlooredReached, Underwent}
use Rattle.floored_groups.specs.Processes.{ArmsMember, StandsIn, OthersStay, GoesOn, told_by}
use Rattle.floored_groups.proofs.Going.{goes_by, goes_as, met_step, IsMet, others_same, stays_on}
use Rattle.floored_groups.proofs.Heard.{entry_other, risen_so}

-- ---- raised

module _ (config : Config) (world : FlooredWorld) (reach : IsFlooredReached config world) (rm : ℕ) (place : Place) (old new : MemberParts)
    (s : StandsIn config world (R rm) old) (result : Result (Unit {0}) Refusal) where
  -- what is told of it
  told_is : (result : Result (Unit {0}) Refusal) (rise : Rise) → restart_answer result ≡ rise.answer → new.floored.floor ≡ rise.floor
      → (if is_done rise.answer then notices_of config rm rise.floor else []) ≡ told_by config rm new result
  told_is (Ok done) rise answer floor =
      ap (λ (a : Answer). if is_done a then notices_of config rm rise.floor else []) (sym answer)
      ∙ ap (notices_of config rm) (sym floor)
  told_is (Err refusal) rise answer floor =
      ap (λ (a : Answer). if is_done a then notices_of config rm rise.floor else []) (sym answer)

  -- a resource manager whose floor was to rise does what its node does, and tells it
  pub raised : RaisesMember place old new result
      → GoesOn config world reach (R rm) new [] (told_by config rm new result) (Underwent (Raise (R rm) place) (restart_answer result) ∷ [])
  raised raises =
      let r = risen_so config world (R rm) old new s result place (raises.machine config s.state s.is) in
      let rise : Rise = on_raise (world.floor (R rm)) s.state place r.fault in
      let came : FlooredResult = raise_result config world rm rise in
      let stands : StandsIn config came.world (R rm) new = record {
        state = rise.node;
        there = node_there config world.machine (R rm) s.state rise.node s.there;
        is = r.stands;
        who_is = r.who_is ∙ s.who_is;
        floor_is = r.floor_is ∙ sym (entry_own world.floor (R rm) rise.floor);
        told_count = ap length raises.told_is ∙ s.told_count;
        told_are = λ k few. ap (λ (told : List (Option Place)). told_at told k) raises.told_is ∙ s.told_are k few;
      } in
      let others : OthersStay config world came.world (R rm) = record {
        nodes_are = λ other apart. node_elsewhere config world.machine (R rm) other rise.node apart;
        floors_are = λ other apart. entry_other world.floor (R rm) rise.floor other apart;
        told_are = λ other apart. refl;
        replaced_are = refl;
      } in
      goes_as config (R rm) world reach new [] [] (if is_done rise.answer then notices_of config rm rise.floor else [])
      (told_by config rm new result) (Underwent (Raise (R rm) place) rise.answer ∷ [])
      (Underwent (Raise (R rm) place) (restart_answer result) ∷ []) refl (told_is result rise r.answer_is r.floor_is)
      (ap (λ (a : Answer). Underwent (Raise (R rm) place) a ∷ []) (sym r.answer_is))
      (goes_by config (R rm) world reach (Raise (R rm) place) r.fault refl came
      (met_step config world (Raise (R rm) place) r.fault r.met
      ∙ ap (floored_if_found world (λ node.
      raise_result config world rm (on_raise (world.floor (R rm)) node place r.fault))) s.there) new stands others refl
      (if is_done rise.answer then notices_of config rm rise.floor else []) refl)

-- ---- restarted, and made shorter

met_restart : (old new : Held) (fault : Fault) → BefallsRestart old new fault → IsMet fault
met_restart old new NoMemoryBefore b = absurd b
met_restart old new NoFault b = tt
met_restart old new NoMemoryAt b = tt
met_restart old new (RecordFails whole) b = tt

met_compact : (old new : Held) (fault : Fault) → BefallsCompact old new fault → IsMet fault
met_compact old new NoMemoryBefore b = absurd b
met_compact old new NoFault b = tt
met_compact old new NoMemoryAt b = tt
met_compact old new (RecordFails whole) b = tt

-- what comes of an event of the machine, as worlds with floors have it
abbrev as_floored : FlooredWorld → (NodeId → ℕ → Option Place) → StepResult → FlooredResult
as_floored world told r = record {
  world = record world { machine = r.world; told = told };
  answer = r.answer;
  now = r.now;
  sent = r.sent;
  noticed = [];
}

silent_net : (config : Config) (world : World) (who : NodeId) (m : NodeState) (outcome : Outcome) → outcome.sends ≡ []
    → (outcome_result config world who m.facts outcome).world.net ≡ world.net
silent_net config world who m outcome silent =
    ap (λ (sends : List Outgoing). world.net ++ flat_map (datagrams_of config who) sends) silent ∙ append-nil world.net

-- of whom nothing was told, no place was
pub none_told : (count rm : ℕ) → told_at (replicate count None) rm ≡ None
none_told zero rm = refl
none_told (suc count) zero = refl
none_told (suc count) (suc rm) = none_told count rm

module _ (config : Config) (world : FlooredWorld) (reach : IsFlooredReached config world) (who : NodeId) (old new : MemberParts)
    (s : StandsIn config world who old) where
  -- after an outcome with nothing sent
  after_it : (outcome : Outcome) → FlooredStands config new.floored outcome.node → new.floored.node.who ≡ old.floored.node.who
      → new.floored.floor ≡ old.floored.floor → length new.told ≡ config.managers → (told : NodeId → ℕ → Option Place)
      → ((rm : ℕ) → rm < config.managers → told_at new.told rm ≡ told who rm)
      → StandsIn config (as_floored world told (outcome_result config world.machine who s.state.facts outcome)).world who new
  after_it outcome stands who_is floor_is count told told_are = record {
    state = outcome.node;
    there = node_there config world.machine who s.state outcome.node s.there;
    is = stands;
    who_is = who_is ∙ s.who_is;
    floor_is = floor_is ∙ s.floor_is;
    told_count = count;
    told_are = told_are;
  }

  others_after : (outcome : Outcome) (told : NodeId → ℕ → Option Place) → ((other : NodeId) → other ≢ who → told other ≡ world.told other)
      → OthersStay config world (as_floored world told (outcome_result config world.machine who s.state.facts outcome)).world who
  others_after outcome told same = record {
    nodes_are = λ other apart. node_elsewhere config world.machine who other outcome.node apart;
    floors_are = λ other apart. refl;
    told_are = same;
    replaced_are = refl;
  }

  -- restarted, and told nothing any more
  pub restart_on : (fault : Fault) → IsMet fault → FlooredStands config new.floored (restart_outcome config who s.state fault).node
      → new.floored.node.who ≡ old.floored.node.who → new.floored.floor ≡ old.floored.floor → length new.told ≡ config.managers
      → ((rm : ℕ) → told_at new.told rm ≡ None)
      → GoesOn config world reach who new [] []
      (Underwent (Machine (Restart who)) (restart_outcome config who s.state fault).answer ∷ [])
  restart_on fault met stands who_is floor_is count none =
      let outcome : Outcome = restart_outcome config who s.state fault in
      let told : NodeId → ℕ → Option Place = with_entry world.told who nothing_told in
      let came : FlooredResult = as_floored world told (outcome_result config world.machine who s.state.facts outcome) in
      goes_by config who world reach (Machine (Restart who)) fault refl came
      (met_step config world (Machine (Restart who)) fault met
      ∙ ap (λ (o : Option NodeState). as_floored world told (if_found world.machine (λ node.
      outcome_result config world.machine who node.facts (restart_outcome config who node fault)) o)) s.there) new
      (after_it outcome stands who_is floor_is count told
      (λ rm few. none rm ∙ sym (ap (λ (t : ℕ → Option Place). t rm) (entry_own world.told who nothing_told))))
      (others_after outcome told (λ other apart. entry_other world.told who nothing_told other apart))
      (silent_net config world.machine who s.state outcome (restart_silent config who s.state fault)) [] (sym (append-nil world.notices))

  -- a process that was restarted does what its node does
  pub restarted : (result : Result (Unit {0}) Refusal) → RestartsMember old new result
      → GoesOn config world reach who new [] [] (Underwent (Machine (Restart who)) (restart_answer result) ∷ [])
  restarted result restarts =
      let r = restarts.machine config s.state s.is in
      let is : restart_outcome config old.floored.node.who s.state r.fault ≡ restart_outcome config who s.state r.fault =
      ap (λ (n : NodeId). restart_outcome config n s.state r.fault) s.who_is in
      goes_as config who world reach new [] [] [] []
      (Underwent (Machine (Restart who)) (restart_outcome config who s.state r.fault).answer ∷ [])
      (Underwent (Machine (Restart who)) (restart_answer result) ∷ []) refl refl
      (ap (λ (a : Answer). Underwent (Machine (Restart who)) a ∷ []) (sym (r.answer_is ∙ ap (λ (o : Outcome). o.answer) is)))
      (restart_on r.fault (met_restart old.floored.node.held new.floored.node.held r.fault r.befalls)
      (subst (λ (o : Outcome). FlooredStands config new.floored o.node) is r.stands) r.same.who_is r.floor_is
      (ap length restarts.told_is ∙ length-replicate (length old.told) None ∙ s.told_count)
      (λ rm. ap (λ (t : List (Option Place)). told_at t rm) restarts.told_is ∙ none_told (length old.told) rm))

  -- ---- made shorter

  abbrev shortened : Fault → NodeState → StepResult
  shortened fault node =
      if node.up then outcome_result config world.machine who node.facts (compact_outcome node fault)
      else answer_result world.machine (Refused refusals.Down)

  compact_is : (fault : Fault) → floored_dispatch config world (Machine (Compact who)) fault
      ≡ as_floored world world.told (shortened fault s.state)
  compact_is fault =
      ap (λ (o : Option NodeState). as_floored world world.told (if_found world.machine (shortened fault) o)) s.there

  compacted_up : (result : Result (Unit {0}) Refusal) → IsSameNode old.floored.node new.floored.node
      → new.floored.floor ≡ old.floored.floor → new.told ≡ old.told
      → FlooredCompactsUp config s.state old.floored new.floored result
      → GoesOn config world reach who new [] [] (Underwent (Machine (Compact who)) (restart_answer result) ∷ [])
  compacted_up result same floor_is told_is c =
      let outcome : Outcome = compact_outcome s.state c.fault in
      let came : FlooredResult = as_floored world world.told (outcome_result config world.machine who s.state.facts outcome) in
      goes_as config who world reach new [] [] [] [] (Underwent (Machine (Compact who)) outcome.answer ∷ [])
      (Underwent (Machine (Compact who)) (restart_answer result) ∷ []) refl refl
      (ap (λ (a : Answer). Underwent (Machine (Compact who)) a ∷ []) (sym c.answer_is))
      (goes_by config who world reach (Machine (Compact who)) c.fault refl came
      (met_step config world (Machine (Compact who)) c.fault (met_compact old.floored.node.held new.floored.node.held c.fault c.befalls)
      ∙ compact_is c.fault
      ∙ ap (as_floored world world.told) (cond-true s.state.up (outcome_result config world.machine who s.state.facts outcome)
      (answer_result world.machine (Refused refusals.Down)) c.up)) new
      (after_it outcome c.stands same.who_is floor_is (ap length told_is ∙ s.told_count) world.told
      (λ rm few. ap (λ (t : List (Option Place)). told_at t rm) told_is ∙ s.told_are rm few))
      (others_after outcome world.told (λ other apart. refl))
      (silent_net config world.machine who s.state outcome (compact_silent s.state c.fault)) [] (sym (append-nil world.notices)))

  compacted_down : (result : Result (Unit {0}) Refusal) → IsSameNode old.floored.node new.floored.node
      → new.floored.floor ≡ old.floored.floor → new.told ≡ old.told
      → FlooredCompactsDown config s.state old.floored new.floored result
      → GoesOn config world reach who new [] [] (Underwent (Machine (Compact who)) (restart_answer result) ∷ [])
  compacted_down result same floor_is told_is c =
      goes_as config who world reach new [] [] [] [] (Underwent (Machine (Compact who)) (Refused refusals.Down) ∷ [])
      (Underwent (Machine (Compact who)) (restart_answer result) ∷ []) refl refl
      (ap (λ (r : Result (Unit {0}) Refusal). Underwent (Machine (Compact who)) (restart_answer r) ∷ []) (sym c.result_is))
      (goes_by config who world reach (Machine (Compact who)) NoFault refl
      (as_floored world world.told (answer_result world.machine (Refused refusals.Down)))
      (met_step config world (Machine (Compact who)) NoFault tt ∙ compact_is NoFault
      ∙ ap (as_floored world world.told) (cond-false s.state.up
      (outcome_result config world.machine who s.state.facts (compact_outcome s.state NoFault))
      (answer_result world.machine (Refused refusals.Down)) c.down)) new
      (record {
        state = s.state;
        there = s.there;
        is = c.stands;
        who_is = same.who_is ∙ s.who_is;
        floor_is = floor_is ∙ s.floor_is;
        told_count = ap length told_is ∙ s.told_count;
        told_are = λ rm few. ap (λ (t : List (Option Place)). told_at t rm) told_is ∙ s.told_are rm few;
      }) (others_same config who world) refl [] (sym (append-nil world.notices)))

  -- and so does one whose record was made shorter
  pub compacted : (result : Result (Unit {0}) Refusal) → CompactsMember old new result
      → GoesOn config world reach who new [] [] (Underwent (Machine (Compact who)) (restart_answer result) ∷ [])
  compacted result compacts =
      let c = compacts.machine config s.state s.is in
      elim c.comes [
        | inl up ↦ compacted_up result c.same c.floor_is compacts.told_is up
        | inr down ↦ compacted_down result c.same c.floor_is compacts.told_is down
      ]

  -- ---- asked, and torn

  -- a process that was asked for something is what it was
  pub asked_on : {X : Type 0} (Says : Type 0) (result : Result X Refusal)
      → FlooredSays config s.state old.floored new.floored Says result → new.told ≡ old.told
      → GoesOn config world reach who new [] [] []
  asked_on Says result says told_is =
      stays_on config who world reach new (record {
        state = s.state;
        there = s.there;
        is = says.stands;
        who_is = says.same.who_is ∙ s.who_is;
        floor_is = says.floor_is ∙ s.floor_is;
        told_count = ap length told_is ∙ s.told_count;
        told_are = λ rm few. ap (λ (t : List (Option Place)). told_at t rm) told_is ∙ s.told_are rm few;
      })

  -- a tear that is armed on its record is armed on its node's
  pub armed_on : (n : ℕ) → ArmsMember n old new → GoesOn config world reach who new [] [] (Underwent (Machine (Tear who n)) Done ∷ [])
  armed_on n arms =
      let torn : NodeState = record s.state { tear = Some n } in
      let came : FlooredResult =
      as_floored world world.told (answer_result (set_node config world.machine who torn) Done) in
      goes_by config who world reach (Machine (Tear who n)) NoFault refl came
      (met_step config world (Machine (Tear who n)) NoFault tt
      ∙ ap (λ (o : Option NodeState). as_floored world world.told (if_found world.machine (λ node.
      answer_result (set_node config world.machine who (record node { tear = Some n })) Done) o)) s.there) new
      (record {
        state = torn;
        there = node_there config world.machine who s.state torn s.there;
        is = arms.machine config s.state s.is;
        who_is = ap (λ (node : NodeParts). node.who) arms.node_is ∙ s.who_is;
        floor_is = arms.floor_is ∙ s.floor_is;
        told_count = ap length arms.told_is ∙ s.told_count;
        told_are = λ rm few. ap (λ (t : List (Option Place)). told_at t rm) arms.told_is ∙ s.told_are rm few;
      })
      (record {
        nodes_are = λ other apart. node_elsewhere config world.machine who other torn apart;
        floors_are = λ other apart. refl;
        told_are = λ other apart. refl;
        replaced_are = refl;
      }) refl [] (sym (append-nil world.notices))
