-- Where nodes have floors no event takes part below one, as an auditor asks it; nor below any lower one, by which an auditor may go.
use Rattle.std.proofs.Common.{◌≡◌, inl, inr, ◌∙◌, ℕ, zero, suc, Bool, true, false, not, ◌&&◌, ◌||◌, if◌then◌else◌, List, [], ◌∷◌, ◌++◌}
use Rattle.std.proofs.Common.{length, Option, Some, None, refl, sym, ap, subst, nat_lt, arith}
use Rattle.std.specs.Prelude.{IfSome, slice_get, ◌==◌}
use Rattle.std.specs.List.{flat_map, list_all}
use Rattle.std.specs.Option.{option_and_then, option_map_or, option_to_list}
use Rattle.std.proofs.lemmas.Bool.{and_from, and_parts, cond_both, not-true, not_from_false, or_right}
use Rattle.std.proofs.lemmas.Option.{slice_get_past}
use Rattle.xid.specs.Places.{Place, is_below, is_lower, is_xid_below, tx_place, xid_place}
use Rattle.xid.specs.declared.codes.XaCode.TheVariants.{RmFail}
use Rattle.xid.specs.declared.refusals.Refusal.{Refusal}
use Rattle.xid.specs.declared.refusals.Refusal.TheVariants.{Down, Forged, NoMemory, NoSuch}
use Rattle.xid.proofs.Places.{not_lower}
use Rattle.wire.specs.Decoding.{spells_message}
use Rattle.wire.specs.Grammar.{spelling}
use Rattle.wire.specs.Messages.{message_tx}
use Rattle.ballot.specs.Greatest.{IsIn}
use Rattle.stable_record.specs.Facts.{fact_tx}
use Rattle.stable_record.specs.declared.fact.FactKind.{FactKind as Fact}
use Rattle.protocol.specs.declared.answers.Answer.TheVariants.{Code}
use Rattle.protocol.specs.declared.events.Sent.{Sent}
use Rattle.protocol.specs.declared.requests.Request.TheVariants as requests
use Rattle.safety.specs.Vocabulary.{A, L, R, Action, Answer, Ask, Change, Compact, Cut, Deliver, Done, Event, Hear, Lose, NodeId, Noise}
use Rattle.safety.specs.Vocabulary.{Outgoing, Raise, Refused, Replace, Request, Restart, Start, Step, Tear}
use Rattle.protocol.specs.Effects.{Config, receivers}
use Rattle.protocol.specs.Facts.{view}
use Rattle.protocol.specs.Nodes.{NodeState, Input, Asked, Received, ReceivedNoise, Fault, NoMemoryBefore, Outcome, accepts_input}
use Rattle.protocol.specs.Nodes.{answer_outcome, compact_outcome, down_answer, effect_of, effect_outcome, node_step, restart_outcome}
use Rattle.protocol.specs.Worlds.{World, Datagram, StepResult, answer_result, at_node, change_of, datagram_at, datagrams_of, if_found}
use Rattle.protocol.specs.Worlds.{node_at, numbered, outcome_result, set_node, view_number, with_mark}
use Rattle.protocol.proofs.Lists.{IsIn-joined, IsIn-mapped}
use Rattle.safety.proofs.World.Outcomes.{step_is}
use Rattle.safety.proofs.World.Changes.{compact_keeps, restart_keeps}
use Rattle.floors.specs.Nodes.{floored_node_step, forgotten_answer, is_input_below, is_request_below}
use Rattle.floors.specs.Worlds.{FlooredWorld, Machine, at_floored_node, floored_step, floored_step_of, machine_result, step_with_floors}
use Rattle.floors.proofs.About.{IsOn, effect_about, on_above}
use Rattle.floors.proofs.Nodes.{above_is, below_stays, compact_silent, restart_silent}
use Rattle.floors.proofs.Refusing.{below_silent}
use Rattle.audit.specs.Floors.{is_call_refused, is_change_above, is_event_above, is_refused, is_request_above, is_sent_above, is_step_above}
use Rattle.cluster_run.proofs.Floored.{IsSilent, hear_silent, raise_silent, replace_silent}

-- ---- lower floors

module _ (high low : NodeId → Option Place) (lower : (who : NodeId) → is_lower (high who) (low who) ≡ false) where
  -- what isn't below a floor isn't below a lower one
  still_above : (who : NodeId) (place : Place) → is_lower (Some place) (high who) ≡ false → is_lower (Some place) (low who) ≡ false
  still_above who place above = not_lower (low who) (high who) (Some place) (lower who) above

  still_passes : (below still : Bool) (refused : Bool) → (below ≡ false → still ≡ false) → (not below || refused) ≡ true
      → (not still || refused) ≡ true
  still_passes true still refused fewer passes = or_right (not still) refused passes
  still_passes false still refused fewer passes = ap (λ (b : Bool). not b || refused) (fewer refl)

  request_lower : (who : NodeId) (request : Request) (answer : Answer) → is_request_above (high who) request answer ≡ true
      → is_request_above (low who) request answer ≡ true
  request_lower who (requests.Call x action) answer passes =
      still_passes (is_xid_below (high who) x) (is_xid_below (low who) x) (is_call_refused action answer)
      (still_above who (xid_place x)) passes
  request_lower who requests.Recover answer passes = refl
  request_lower who (requests.View tx) answer passes =
      still_passes (is_below (high who) tx) (is_below (low who) tx) (is_refused answer) (still_above who (tx_place tx)) passes
  request_lower who (requests.Commit tx) answer passes =
      still_passes (is_below (high who) tx) (is_below (low who) tx) (is_refused answer) (still_above who (tx_place tx)) passes
  request_lower who (requests.Status tx) answer passes =
      still_passes (is_below (high who) tx) (is_below (low who) tx) (is_refused answer) (still_above who (tx_place tx)) passes
  request_lower who (requests.Timeout tx) answer passes =
      still_passes (is_below (high who) tx) (is_below (low who) tx) (is_refused answer) (still_above who (tx_place tx)) passes

  event_lower : (event : Event) (answer : Answer) → is_event_above high event answer ≡ true → is_event_above low event answer ≡ true
  event_lower (Ask who request) answer passes = request_lower who request answer passes
  event_lower event answer passes = refl

  change_lower : (now : Option Change) → option_map_or (is_change_above high) now true ≡ true
      → option_map_or (is_change_above low) now true ≡ true
  change_lower None passes = refl
  change_lower (Some change) passes =
      not_from_false (is_below (low (R change.rm)) change.tx)
      (still_above (R change.rm) (tx_place change.tx) (not-true (is_below (high (R change.rm)) change.tx) passes))

  sent_lower : (sent : List Sent) → list_all (is_sent_above high) sent ≡ true → list_all (is_sent_above low) sent ≡ true
  sent_lower [] passes = refl
  sent_lower (d ∷ rest) passes =
      let parts = and_parts (is_sent_above high d) (list_all (is_sent_above high) rest) passes in
      let tx = message_tx d.message in
      and_from (is_sent_above low d) (list_all (is_sent_above low) rest)
      (not_from_false (is_below (low d.sender) tx)
      (still_above d.sender (tx_place tx) (not-true (is_below (high d.sender) tx) parts.0)))
      (sent_lower rest parts.1)

  pub step_lower : (step : Step) → is_step_above high step ≡ true → is_step_above low step ≡ true
  step_lower step passes =
      let said = λ (floor : NodeId → Option Place). option_map_or (is_change_above floor) step.now true in
      let sent = λ (floor : NodeId → Option Place). list_all (is_sent_above floor) step.sent in
      let all = and_parts (is_event_above high step.event step.answer) (said high && sent high) passes in
      let both = and_parts (said high) (sent high) all.1 in
      and_from (is_event_above low step.event step.answer) (said low && sent low) (event_lower step.event step.answer all.0)
      (and_from (said low) (sent low) (change_lower step.now both.0) (sent_lower step.sent both.1))

-- ---- answers

refused_call : (action : Action) (refusal : Refusal) → is_call_refused action (Refused refusal) ≡ true
refused_call Start refusal = refl
refused_call action refusal = refl

down_call : (action : Action) → is_call_refused action (Code RmFail) ≡ true
down_call Start = refl
down_call action = refl

module _ (floor : Option Place) where
  refused_above : (request : Request) (refusal : Refusal) → is_request_above floor request (Refused refusal) ≡ true
  refused_above (requests.Call x action) refusal =
      or_right (not (is_xid_below floor x)) (is_call_refused action (Refused refusal)) (refused_call action refusal)
  refused_above requests.Recover refusal = refl
  refused_above (requests.View tx) refusal = or_right (not (is_below floor tx)) true refl
  refused_above (requests.Commit tx) refusal = or_right (not (is_below floor tx)) true refl
  refused_above (requests.Status tx) refusal = or_right (not (is_below floor tx)) true refl
  refused_above (requests.Timeout tx) refusal = or_right (not (is_below floor tx)) true refl

  down_above : (request : Request) → is_request_above floor request (down_answer (Asked request)) ≡ true
  down_above (requests.Call x action) = or_right (not (is_xid_below floor x)) (is_call_refused action (Code RmFail)) (down_call action)
  down_above requests.Recover = refl
  down_above (requests.View tx) = or_right (not (is_below floor tx)) true refl
  down_above (requests.Commit tx) = or_right (not (is_below floor tx)) true refl
  down_above (requests.Status tx) = or_right (not (is_below floor tx)) true refl
  down_above (requests.Timeout tx) = or_right (not (is_below floor tx)) true refl

  forgotten_above : (request : Request) → is_request_above floor request (forgotten_answer (Asked request)) ≡ true
  forgotten_above (requests.Call x Start) = or_right (not (is_xid_below floor x)) true refl
  forgotten_above (requests.Call x action) = or_right (not (is_xid_below floor x)) true refl
  forgotten_above requests.Recover = refl
  forgotten_above (requests.View tx) = or_right (not (is_below floor tx)) true refl
  forgotten_above (requests.Commit tx) = or_right (not (is_below floor tx)) true refl
  forgotten_above (requests.Status tx) = or_right (not (is_below floor tx)) true refl
  forgotten_above (requests.Timeout tx) = or_right (not (is_below floor tx)) true refl

  -- what isn't below the floor may be answered anything
  answered_above : (request : Request) (answer : Answer) → is_request_below floor request ≡ false
      → is_request_above floor request answer ≡ true
  answered_above (requests.Call x action) answer above = ap (λ (b : Bool). not b || is_call_refused action answer) above
  answered_above requests.Recover answer above = refl
  answered_above (requests.View tx) answer above = ap (λ (b : Bool). not b || is_refused answer) above
  answered_above (requests.Commit tx) answer above = ap (λ (b : Bool). not b || is_refused answer) above
  answered_above (requests.Status tx) answer above = ap (λ (b : Bool). not b || is_refused answer) above
  answered_above (requests.Timeout tx) answer above = ap (λ (b : Bool). not b || is_refused answer) above

-- ---- what one node stores and sends

-- what follows an earlier record, if anything does
at_seam : {X : Type 0} (xs ys : List X) → slice_get (xs ++ ys) (length xs) ≡ slice_get ys 0
at_seam [] ys = refl
at_seam (x ∷ xs) ys = at_seam xs ys

module _ (config : Config) (who : NodeId) (floor : Option Place) (node : NodeState) where
  -- what an outcome stores more, and what it sends, is of transactions that aren't below the floor
  record IsOutcomeAbove (left : Outcome) : Type 0 where
    stored : (fact : Fact) → slice_get left.node.facts (length node.facts) ≡ Some fact → is_below floor (fact_tx fact) ≡ false
    sent : (send : Outgoing) → IsIn left.sends send → is_below floor (message_tx send.message) ≡ false

  none_sent : (left : Outcome) → left.sends ≡ [] → (send : Outgoing) → IsIn left.sends send
      → is_below floor (message_tx send.message) ≡ false
  none_sent left silent send h = absurd (subst (λ (sends : List Outgoing). IsIn sends send) silent h)

  still_stored : (left : Outcome) → left.node.facts ≡ node.facts → left.sends ≡ [] → IsOutcomeAbove left
  still_stored left same silent = record {
    stored = λ fact at.
        let none : slice_get left.node.facts (length node.facts) ≡ None =
        ap (λ (facts : List Fact). slice_get facts (length node.facts)) same
        ∙ slice_get_past node.facts (length node.facts) (omega arith) in absurd (cc (none, at));
    sent = none_sent left silent;
  }

  more_stored : (more : Option Fact) → IfSome more (λ f. is_below floor (fact_tx f) ≡ false) → (fact : Fact)
      → slice_get (option_to_list more) 0 ≡ Some fact → is_below floor (fact_tx fact) ≡ false
  more_stored None above fact at = absurd (cc (at))
  more_stored (Some f) above fact at =
      let same : f ≡ fact = cc (at) in subst (λ (g : Fact). is_below floor (fact_tx g) ≡ false) same above

  all_above : (input : Input) → is_input_below floor input ≡ false → (more : Option Fact) → IfSome more (λ f. IsOn input (fact_tx f))
      → IfSome more (λ f. is_below floor (fact_tx f) ≡ false)
  all_above input above None on = tt
  all_above input above (Some f) on = on_above floor input (fact_tx f) on above

  step_outcome : (input : Input) (fault : Fault) → is_input_below floor input ≡ false
      → IsOutcomeAbove (node_step config who node input fault)
  step_outcome input fault above =
      let left = node_step config who node input fault in
      let e = effect_of config who node.facts node.memory input in
      let about = effect_about config who node.facts node.memory input in
      let grown : left.node.facts ≡ node.facts ++ option_to_list e.fact → (fact : Fact)
      → slice_get left.node.facts (length node.facts) ≡ Some fact → is_below floor (fact_tx fact) ≡ false =
      λ (is : left.node.facts ≡ node.facts ++ option_to_list e.fact) (fact : Fact)
      (at : slice_get left.node.facts (length node.facts) ≡ Some fact).
      more_stored e.fact (all_above input above e.fact about.stored) fact
      (sym (at_seam node.facts (option_to_list e.fact))
      ∙ sym (ap (λ (facts : List Fact). slice_get facts (length node.facts)) is) ∙ at) in
      elim (step_is config who node input fault) [
        | inl keeps ↦ still_stored left keeps.facts keeps.silent
        | inr (inl stopped) ↦ record { stored = grown stopped.facts; sent = none_sent left stopped.silent }
        | inr (inr finished) ↦ record {
          stored = grown finished.facts;
          sent = λ send h.
              on_above floor input (message_tx send.message)
              (about.sent send (subst (λ (sends : List Outgoing). IsIn sends send) finished.sends h)) above;
        }
      ]

  input_outcome : (input : Input) (fault : Fault) → IsOutcomeAbove (floored_node_step config who floor node input fault)
  input_outcome input fault = by_test (is_input_below floor input) refl
    where
      by_test : (below : Bool) → is_input_below floor input ≡ below
          → IsOutcomeAbove (floored_node_step config who floor node input fault)
      by_test true e =
          still_stored (floored_node_step config who floor node input fault)
          (ap (λ (n : NodeState). n.facts) (below_stays config who floor node input fault e))
          (below_silent config who floor node input fault e)
      by_test false e = subst IsOutcomeAbove (sym (above_is config who floor node input fault e)) (step_outcome input fault e)

-- ---- in the world

-- a change and datagrams of transactions that aren't below the floors of their nodes
record PassesAbove (floor : NodeId → Option Place) (now : Option Change) (sent : List Datagram) : Type 0 where
  said : option_map_or (is_change_above floor) now true ≡ true
  posted : (d : Datagram) → IsIn sent d → is_below (floor d.sender) (message_tx d.message) ≡ false

module _ (floor : NodeId → Option Place) where
  none_passes : PassesAbove floor None []
  none_passes = record { said = refl; posted = λ d h. absurd h }

  silent_passes : (now : Option Change) (sent : List Datagram) → IsSilent now sent → PassesAbove floor now sent
  silent_passes now sent silent = record {
    said = ap (λ (o : Option Change). option_map_or (is_change_above floor) o true) silent.now_is;
    posted = λ d h. absurd (subst (λ (ds : List Datagram). IsIn ds d) silent.sent_is h);
  }

  sent_passes : (n : ℕ) (sent : List Datagram) → ((d : Datagram) → IsIn sent d → is_below (floor d.sender) (message_tx d.message) ≡ false)
      → list_all (is_sent_above floor) (numbered n sent) ≡ true
  sent_passes n [] each = refl
  sent_passes n (d ∷ rest) each =
      and_from (not (is_below (floor d.sender) (message_tx d.message))) (list_all (is_sent_above floor) (numbered (suc n) rest))
      (not_from_false (is_below (floor d.sender) (message_tx d.message)) (each d (inl refl)))
      (sent_passes (suc n) rest (λ other h. each other (inr h)))

  -- the change that a fact makes
  fact_passes : (rm : ℕ) (before after : List Fact) (o : Option Fact)
      → ((fact : Fact) → o ≡ Some fact → is_below (floor (R rm)) (fact_tx fact) ≡ false)
      → option_map_or (is_change_above floor) (option_and_then (λ fact. let tx = fact_tx fact in
      if view_number (view before tx) == view_number (view after tx) then None
      else Some (record { rm = rm; tx = tx; view = view after tx })) o) true ≡ true
  fact_passes rm before after None above = refl
  fact_passes rm before after (Some fact) above =
      let tx = fact_tx fact in
      cond_both (view_number (view before tx) == view_number (view after tx)) None
      (Some (record { rm = rm; tx = tx; view = view after tx }))
      (λ (now : Option Change). option_map_or (is_change_above floor) now true ≡ true) (λ same. refl)
      (λ moved. not_from_false (is_below (floor (R rm)) tx) (above fact refl))

  change_passes : (who : NodeId) (before after : List Fact)
      → ((fact : Fact) → slice_get after (length before) ≡ Some fact → is_below (floor who) (fact_tx fact) ≡ false)
      → option_map_or (is_change_above floor) (change_of who before after) true ≡ true
  change_passes (A a) before after above = refl
  change_passes (L l) before after above = refl
  change_passes (R rm) before after above = fact_passes rm before after (slice_get after (length before)) above

  outcome_passes : (config : Config) (who : NodeId) (node : NodeState) (left : Outcome) → IsOutcomeAbove config who (floor who) node left
      → PassesAbove floor (change_of who node.facts left.node.facts) (flat_map (datagrams_of config who) left.sends)
  outcome_passes config who node left above = record {
    said = change_passes who node.facts left.node.facts above.stored;
    posted = λ d h.
        let from = IsIn-joined (datagrams_of config who) left.sends d h in
        let made : NodeId → Datagram = λ (receiver : NodeId). record
        { sender = who; receiver = receiver; message = from.source.message; marked = false } in
        let to = IsIn-mapped made (receivers config from.source.to (message_tx from.source.message)) d from.inside in
        subst (λ (x : Datagram). is_below (floor x.sender) (message_tx x.message) ≡ false) to.maps (above.sent from.source from.among);
  }

module _ (config : Config) (world : FlooredWorld) where
  abbrev Passes : StepResult → Type 0
  Passes r = PassesAbove world.floor r.now r.sent

  found_passes : {X : Type 0} (base : World) (o : Option X) (f : X → StepResult) → ((x : X) → Passes (f x)) → Passes (if_found base f o)
  found_passes base None f passes = none_passes world.floor
  found_passes base (Some x) f passes = passes x

  input_passes : (base : World) (who : NodeId) (input : Input) (fault : Fault)
      → Passes (at_floored_node config base (world.floor who) who input fault)
  input_passes base who input fault =
      found_passes base (node_at config base who)
      (λ node. outcome_result config base who node.facts (floored_node_step config who (world.floor who) node input fault))
      (λ node. outcome_passes world.floor config who node (floored_node_step config who (world.floor who) node input fault)
      (input_outcome config who (world.floor who) node input fault))

  noise_passes : (who : NodeId) (fault : Fault) → Passes (at_node config world.machine who ReceivedNoise fault)
  noise_passes who fault =
      found_passes world.machine (node_at config world.machine who)
      (λ node. outcome_result config world.machine who node.facts (node_step config who node ReceivedNoise fault))
      (λ node. outcome_passes world.floor config who node (node_step config who node ReceivedNoise fault)
      (step_outcome config who (world.floor who) node ReceivedNoise fault refl))

  machine_passes : (event : Event) (fault : Fault) → Passes (machine_result config world event fault)
  machine_passes (Ask who request) fault = input_passes world.machine who (Asked request) fault
  machine_passes (Deliver n) fault =
      found_passes world.machine (datagram_at world.machine.net n)
      (λ d. at_floored_node config (with_mark world.machine n) (world.floor d.receiver) d.receiver (Received d.message) fault)
      (λ d. input_passes (with_mark world.machine n) d.receiver (Received d.message) fault)
  machine_passes (Lose n) fault =
      found_passes world.machine (datagram_at world.machine.net n) (λ d. answer_result (with_mark world.machine n) Done)
      (λ d. none_passes world.floor)
  machine_passes (Cut n k) fault =
      found_passes world.machine (datagram_at world.machine.net n)
      (λ d. if nat_lt k (length (spelling d.message)) then at_node config world.machine d.receiver ReceivedNoise fault
      else answer_result world.machine (Refused NoSuch))
      (λ d. cond_both (nat_lt k (length (spelling d.message))) (at_node config world.machine d.receiver ReceivedNoise fault)
      (answer_result world.machine (Refused NoSuch)) Passes (λ fewer. noise_passes d.receiver fault) (λ all. none_passes world.floor))
  machine_passes (Noise who bytes) fault =
      cond_both (spells_message bytes)
      (if_found world.machine (λ node. answer_result world.machine (Refused Forged)) (node_at config world.machine who))
      (at_node config world.machine who ReceivedNoise fault) Passes
      (λ spelled. found_passes world.machine (node_at config world.machine who)
      (λ node. answer_result world.machine (Refused Forged)) (λ node. none_passes world.floor))
      (λ garbled. noise_passes who fault)
  machine_passes (Tear who n) fault =
      found_passes world.machine (node_at config world.machine who)
      (λ node. answer_result (set_node config world.machine who (record node { tear = Some n })) Done) (λ node. none_passes world.floor)
  machine_passes (Restart who) fault =
      found_passes world.machine (node_at config world.machine who)
      (λ node. outcome_result config world.machine who node.facts (restart_outcome config who node fault))
      (λ node. outcome_passes world.floor config who node (restart_outcome config who node fault)
      (still_stored config who (world.floor who) node (restart_outcome config who node fault) (restart_keeps config who node fault)
      (restart_silent config who node fault)))
  machine_passes (Compact who) fault =
      found_passes world.machine (node_at config world.machine who)
      (λ node. if node.up then outcome_result config world.machine who node.facts (compact_outcome node fault)
      else answer_result world.machine (Refused Down))
      (λ node. cond_both node.up (outcome_result config world.machine who node.facts (compact_outcome node fault))
      (answer_result world.machine (Refused Down)) Passes
      (λ up. outcome_passes world.floor config who node (compact_outcome node fault)
      (still_stored config who (world.floor who) node (compact_outcome node fault) (compact_keeps node fault) (compact_silent node fault)))
      (λ down. none_passes world.floor))
  machine_passes event fault = none_passes world.floor

  in_machine_passes : (event : Event) (fault : Fault)
      → let r = floored_step config world (Machine event) fault in PassesAbove world.floor r.now r.sent
  in_machine_passes event NoMemoryBefore = none_passes world.floor
  in_machine_passes event fault = machine_passes event fault

  event_passes : (event : Event) (fault : Fault)
      → let r = step_with_floors config world event fault in PassesAbove world.floor r.now r.sent
  event_passes (Raise rm place) fault =
      let r = step_with_floors config world (Raise rm place) fault in
      silent_passes world.floor r.now r.sent (raise_silent config world rm place fault)
  event_passes (Hear zero) fault = in_machine_passes (Hear zero) fault
  event_passes (Hear (suc n)) fault =
      let r = step_with_floors config world (Hear (suc n)) fault in
      silent_passes world.floor r.now r.sent (hear_silent config world n fault)
  event_passes (Replace who place) fault =
      let r = step_with_floors config world (Replace who place) fault in
      silent_passes world.floor r.now r.sent (replace_silent config world who place fault)
  event_passes event fault = in_machine_passes event fault

  -- ---- answers of nodes

  node_answers : (who : NodeId) (request : Request) (fault : Fault) (o : Option NodeState)
      → is_request_above (world.floor who) request (if_found world.machine (λ node.
      outcome_result config world.machine who node.facts
      (floored_node_step config who (world.floor who) node (Asked request) fault)) o).answer ≡ true
  node_answers who request fault None = refused_above (world.floor who) request NoSuch
  node_answers who request fault (Some node) =
      by_tests (accepts_input who (Asked request)) node.up (is_request_below (world.floor who) request) refl
    where
      ended : Outcome
      ended =
          let e = effect_of config who node.facts node.memory (Asked request) in effect_outcome node e e.fact node.tear fault

      by_tests : (takes up below : Bool) → is_request_below (world.floor who) request ≡ below
          → is_request_above (world.floor who) request
          (if not takes then answer_outcome node (Refused NoSuch)
          else if not up then answer_outcome node (down_answer (Asked request))
          else if below then answer_outcome node (forgotten_answer (Asked request))
          else ended).answer ≡ true
      by_tests false up below e = refused_above (world.floor who) request NoSuch
      by_tests true false below e = down_above (world.floor who) request
      by_tests true true true e = forgotten_above (world.floor who) request
      by_tests true true false e = answered_above (world.floor who) request ended.answer e

  event_answers : (event : Event) (fault : Fault)
      → is_event_above world.floor event (step_with_floors config world event fault).answer ≡ true
  event_answers (Ask who request) NoMemoryBefore = refused_above (world.floor who) request NoMemory
  event_answers (Ask who request) fault = node_answers who request fault (node_at config world.machine who)
  event_answers event fault = refl

  -- so a step takes no part below the floors that there were before it
  pub step_above : (event : Event) (fault : Fault)
      → is_step_above world.floor (floored_step_of world event (step_with_floors config world event fault)) ≡ true
  step_above event fault =
      let r = step_with_floors config world event fault in
      let passes = event_passes event fault in
      let first = suc (length world.machine.net) in
      let said = option_map_or (is_change_above world.floor) r.now true in
      let sent = list_all (is_sent_above world.floor) (numbered first r.sent) in
      and_from (is_event_above world.floor event r.answer) (said && sent) (event_answers event fault)
      (and_from said sent passes.said (sent_passes world.floor first r.sent passes.posted))
