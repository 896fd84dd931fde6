-- A transaction that is at hand is decided, followed and ended with floors.
use Rattle.std.proofs.Common.{◌≡◌, ◌⊎◌, inl, inr, ◌∙◌, ℕ, ◌^◌, ◌<◌, Bool, true, false, not, ◌&&◌, if◌then◌else◌, List, [], ◌∷◌, Option}
use Rattle.std.proofs.Common.{Some, None, refl, sym, ap, subst, nat_lt, IsTrue}
use Rattle.std.specs.Prelude.{slice_get, filter}
use Rattle.std.specs.Option.{option_and_then, option_map_or}
use Rattle.std.proofs.lemmas.Bool.{and_from, and_parts, cond-true, cond-false, not_from_true, not-true, not_from_false, eq-eqb, eqb-true}
use Rattle.xid.specs.Transactions.{TxParts, participants, is_participant}
use Rattle.xid.specs.declared.refusals.Refusal.TheVariants.{BadTx, NoBallot}
use Rattle.wire.specs.Messages.{message_tx}
use Rattle.wire.specs.declared.message.Kind.{Kind}
use Rattle.wire.specs.declared.message.Kind.TheVariants as kinds
use Rattle.stable_record.specs.declared.fact.FactKind.TheVariants as stored
use Rattle.ballot.specs.Ballots.{next_of}
use Rattle.ballot.specs.Greatest.{IsIn}
use Rattle.ballot.specs.Majority.{is_majority}
use Rattle.protocol.specs.declared.requests.Request.TheVariants as requests
use Rattle.protocol.specs.declared.states.Standing.TheVariants as standings
use Rattle.protocol.specs.declared.states.Status.TheVariants as statuses
use Rattle.safety.specs.Vocabulary.{NodeId, A, L, R, View, Outgoing, Managers, Refused, Answer, Stands as answers, Status, Timeout, Ask}
use Rattle.safety.specs.CommitSteps.{committed, aborted}
use Rattle.safety.specs.Runs.{IsReachable, views_in}
use Rattle.safety.specs.Standing.{facts_of}
use Rattle.safety.proofs.Facts.{participates, among_participants}
use Rattle.protocol.specs.Effects.{Config, Effect, is_inside, answer_only, sends_only, stores, to}
use Rattle.protocol.specs.Facts.{last_ballot, view}
use Rattle.protocol.specs.LeaderMemory.{LeaderMemory, with_begun, with_met, status_of}
use Rattle.protocol.specs.Leaders.{is_final, outcome_messages, phase_1a, on_leader_timeout}
use Rattle.protocol.specs.Nodes.{NodeState, Asked, NoFault, Outcome, accepts_input, of_leader, down_answer, answer_outcome, effect_outcome}
use Rattle.protocol.specs.Nodes.{finished_append, node_step}
use Rattle.protocol.specs.Worlds.{World, StepResult, place, node_at, if_found, outcome_result, answer_result, dispatch}
use Rattle.protocol.proofs.Lists.{IsIn-after, IsIn-map, filter_kept, filter_keeps}
use Rattle.progress.specs.Runs.{leader_and_quorum, Leads}
use Rattle.progress.specs.Outcomes.{HasBallots, HasOutcome, status_answer}
use Rattle.progress.proofs.Mail.{Letter, mail, letters, letter_among}
use Rattle.progress.proofs.Backed.{IsBacked}
use Rattle.progress.proofs.Steps.{IsMoved, HasStep, timed_out}
use Rattle.progress.proofs.Leading.{Comes, comes_step, leads_now, leads_on, leads_wider, leads_backed}
use Rattle.progress.proofs.Ending.{IsAnnounced}
use Rattle.progress.proofs.Announcing.{HasStatus, has_committed, has_aborted, commit_stores, commit_ends, abort_stores, abort_ends}
use Rattle.progress.proofs.Deciding.{decides}
use Rattle.xid.specs.Places.{Place, is_below}
use Rattle.floors.specs.Nodes.{is_passed_over, forgotten_answer}
use Rattle.floors.specs.Worlds.{FlooredWorld}
use Rattle.floors.specs.Runs.{floored_status, HasFlooredOutcome, HaveEndedAbove, IsAtHand, leader_and_unforgetting}
use Rattle.floors.specs.Runs.{leader_quorum_and_unforgetting, LeadsFloored}
use Rattle.floors.proofs.Steps.{asked_is}
use Rattle.floors.proofs.Followers.{end_each}
use Rattle.floors.proofs.Leading.{narrowed, narrowed_backed, leads_floored}

-- ---- what nodes decide

module _ (config : Config) (tx : TxParts) (a b : World) (nodes_are : a.nodes ≡ b.nodes) where
  same_status : (l : ℕ) → status_answer config a l tx ≡ status_answer config b l tx
  same_status l =
      by_node (node_at config a (L l))
      ∙ ap (told b) (ap (λ (nodes : List NodeState). option_and_then (λ at. slice_get nodes at) (place config (L l))) nodes_are)
    where
      told : World → Option NodeState → Answer
      told world o = (if_found world (λ node. outcome_result config world (L l) node.facts
          (node_step config (L l) node (Asked (requests.Status tx)) NoFault)) o).answer

      by_node : (o : Option NodeState) → told a o ≡ told b o
      by_node None = refl
      by_node (Some node) = refl

  same_view : (r : ℕ) → views_in config a tx r ≡ views_in config b tx r
  same_view r =
      ap (λ (nodes : List NodeState). view (facts_of (option_and_then (λ at. slice_get nodes at) (place config (R r)))) tx) nodes_are

module _ (config : Config) (world : FlooredWorld) (l : ℕ) (tx : TxParts) (above : is_below (world.floor (L l)) tx ≡ false) where
  and_none : (t u b : Bool) → b ≡ false → (t && u && b) ≡ false
  and_none true true b e = e
  and_none true false b e = refl
  and_none false u b e = refl

  passed_by : (o : Option NodeState)
      → option_map_or (λ node. is_passed_over (L l) (world.floor (L l)) node (Asked (requests.Status tx))) o false ≡ false
  passed_by None = refl
  passed_by (Some node) = and_none (accepts_input (L l) (Asked (requests.Status tx))) node.up (is_below (world.floor (L l)) tx) above

  -- a leader answers as without floors, of a transaction that isn't below its own
  status_is : floored_status config world l tx ≡ status_answer config world.machine l tx
  status_is =
      ap (λ (r : StepResult). r.answer) (asked_is config world NoFault (L l) (requests.Status tx))
      ∙ ap (λ (t : Bool). (if t then answer_result world.machine (forgotten_answer (Asked (requests.Status tx)))
      else dispatch config world.machine (Ask (L l) (requests.Status tx)) NoFault).answer)
      (passed_by (node_at config world.machine (L l)))

-- the same answer after a run, whose end has the nodes of a world of the machine
told_after : (config : Config) (tx : TxParts) (l : ℕ) (world : FlooredWorld) → is_below (world.floor (L l)) tx ≡ false → (answer : Answer)
    → (after : World) (floored : FlooredWorld) → after.nodes ≡ floored.machine.nodes → floored.floor ≡ world.floor
    → status_answer config after l tx ≡ answer → floored_status config floored l tx ≡ answer
told_after config tx l world above answer after floored nodes floors h =
    status_is config floored l tx (subst (λ (floor : NodeId → Option Place). is_below (floor (L l)) tx ≡ false) (sym floors) above)
    ∙ sym (same_status config tx after floored.machine nodes l) ∙ h

outcome_after : (config : Config) (tx : TxParts) (l : ℕ) (world : FlooredWorld) → is_below (world.floor (L l)) tx ≡ false
    → (after : World) (floored : FlooredWorld) → after.nodes ≡ floored.machine.nodes → floored.floor ≡ world.floor
    → HasOutcome config l tx after → HasFlooredOutcome config l tx floored
outcome_after config tx l world above after floored nodes floors (inl h) =
    inl (told_after config tx l world above (answers standings.Committed) after floored nodes floors h)
outcome_after config tx l world above after floored nodes floors (inr h) =
    inr (told_after config tx l world above (answers standings.Aborted) after floored nodes floors h)

-- the views of some participants
abbrev pub EndAbove : Config → TxParts → View → (NodeId → Option Place) → World → Type 0
EndAbove config tx end floor world =
    (r : ℕ) → IsTrue (is_participant tx r) → is_below (floor (R r)) tx ≡ false → views_in config world tx r ≡ end

ended_after : (config : Config) (tx : TxParts) (world : FlooredWorld) (end : View) (after : World) (floored : FlooredWorld)
    → after.nodes ≡ floored.machine.nodes → floored.floor ≡ world.floor → EndAbove config tx end world.floor after
    → HaveEndedAbove config tx end floored
ended_after config tx world end after floored nodes floors ended r named above =
    sym (same_view config tx after floored.machine nodes r)
    ∙ ended r named (subst (λ (floor : NodeId → Option Place). is_below (floor (R r)) tx ≡ false) floors above)

-- ---- decided

module _ (config : Config) (tx : TxParts) (l : ℕ) (q : ℕ → Bool) (few : l < config.leaders) (inside : is_inside config tx ≡ true)
    (majority : is_majority config.acceptors q ≡ true) (world : FlooredWorld) (reach : IsReachable config world.machine)
    (at_hand : IsAtHand world l q tx) (ballots : HasBallots config world.machine l q tx) where
  quorum_above : (who : NodeId) → leader_and_quorum l q who ≡ true → is_below (world.floor who) tx ≡ false
  quorum_above (A a) h = at_hand.acceptors a h
  quorum_above (L other) h = subst (λ (k : ℕ). is_below (world.floor (L k)) tx ≡ false) (eqb-true l other h) at_hand.leader
  quorum_above (R r) h = absurd (cc (h))

  -- the ballots of the narrowed world are those of the world: it has the same nodes
  abbrev pub narrow : World
  narrow = narrowed config tx (leader_and_quorum l q) world.machine

  abbrev pub back : IsBacked config narrow
  back = narrowed_backed config tx (leader_and_quorum l q) world.machine reach

  pub ballots_there : HasBallots config narrow l q tx
  ballots_there =
      record { most = ballots.most; stored = ballots.stored; promised = ballots.promised; left = ballots.left }

  pub decided : LeadsFloored config (leader_and_quorum l q) tx (HasFlooredOutcome config l tx) world
  decided =
      leads_floored config tx (leader_and_quorum l q) (HasFlooredOutcome config l tx) world (HasOutcome config l tx)
      (outcome_after config tx l world at_hand.leader) quorum_above
      (decides config tx l q few inside majority narrow back ballots_there)

  pub answered : (answer : Answer) → Leads config (leader_and_quorum l q) tx (λ after. status_answer config after l tx ≡ answer) narrow
      → LeadsFloored config (leader_and_quorum l q) tx (λ after. floored_status config after l tx ≡ answer) world
  answered answer =
      leads_floored config tx (leader_and_quorum l q) (λ after. floored_status config after l tx ≡ answer) world
      (λ after. status_answer config after l tx ≡ answer) (told_after config tx l world at_hand.leader answer) quorum_above

-- ---- followed

-- the participants whose floors aren't above a transaction
abbrev unforgetting : (NodeId → Option Place) → TxParts → List ℕ
unforgetting floor tx = filter (λ r. not (is_below (floor (R r)) tx)) (participants tx)

module _ (config : Config) (l : ℕ) (tx : TxParts) (floor : NodeId → Option Place) (part : NodeId → Bool) (leads : part (L l) ≡ true)
    (takes : (r : ℕ) → IsTrue (is_participant tx r) → is_below (floor (R r)) tx ≡ false → part (R r) ≡ true)
    (inside : is_inside config tx ≡ true) where
  aimed : (r : ℕ) → IsIn (unforgetting floor tx) r → IsIn (participants tx) r × (is_below (floor (R r)) tx ≡ false)
  aimed r h =
      let kept = filter_kept (λ (k : ℕ). not (is_below (floor (R k)) tx)) (participants tx) r h in
      (kept.0, not-true (is_below (floor (R r)) tx) kept.1)

  aimed_takes : (r : ℕ) → IsIn (unforgetting floor tx) r → part (R r) ≡ true
  aimed_takes r h = let is = aimed r h in takes r (participates tx r is.0) is.1

  module _ (status : Status) (final : is_final status ≡ true) (message : Kind)
      (tells : outcome_messages status tx Managers ≡ to Managers message ∷ []) (about : message_tx message ≡ tx) where
    module _ (world : World) (has : HasStatus config l tx status world) where
      abbrev met : LeaderMemory
      met = with_met tx has.node.memory.leader

      abbrev left : Outcome
      left = finished_append has.node (of_leader has.node.memory (sends_only met (to Managers message ∷ []))) has.node.facts

      -- the rule of a timeout
      rule : on_leader_timeout config l (last_ballot has.node.facts) has.node.memory.leader tx ≡ sends_only met (to Managers message ∷ [])
      rule =
          let memory = has.node.memory.leader in
          let now = status_of config.acceptors (last_ballot has.node.facts) memory tx in
          let b = next_of config.leaders l (last_ballot has.node.facts tx) in
          let other : Effect LeaderMemory =
          if nat_lt b (2 ^ 32) then stores (with_begun tx b met) (stored.Ballot tx b) (phase_1a config tx b)
          else answer_only memory (Refused NoBallot) in
          let told : Effect LeaderMemory = sends_only met (outcome_messages now tx Managers) in
          cond-false (not (is_inside config tx)) (answer_only memory (Refused BadTx)) (if is_final now then told else other)
          (not_from_true (is_inside config tx) inside)
          ∙ cond-true (is_final now) told other (ap is_final has.status_is ∙ final)
          ∙ ap (λ (sends : List Outgoing). sends_only met sends)
          (ap (λ (s : Status). outcome_messages s tx Managers) has.status_is ∙ tells)

      step : HasStep config world tx (L l) left.node left.sends
      step =
          let node = has.node in
          let e = on_leader_timeout config l (last_ballot node.facts) node.memory.leader tx in
          subst (λ (o : Outcome). HasStep config world tx (L l) o.node o.sends)
          (ap (λ (up : Bool). if not up then answer_outcome node (down_answer (Asked (Timeout tx)))
          else effect_outcome node (of_leader node.memory e) e.fact node.tear NoFault) has.up
          ∙ ap (λ (x : Effect LeaderMemory). effect_outcome node (of_leader node.memory x) x.fact node.tear NoFault) rule)
          (timed_out config world (L l) node has.is tx)

      announced : IsBacked config world → (after : World) → IsMoved config world after (L l) left.node left.sends
          → IsAnnounced config tx message after
      announced reach after moved = record {
        reach = moved.reach reach;
        posted = λ r named. subst (λ (post : List Letter). IsIn post (record { receiver = R r; message = message })) (sym moved.posted)
            (IsIn-after (mail world.net) (letters config (to Managers message ∷ [])) (record { receiver = R r; message = message })
            (letter_among config (to Managers message ∷ []) (to Managers message) (R r) (inl refl)
            (IsIn-map {Y = NodeId} R (participants (message_tx message)) r
            (subst (λ (t : TxParts). IsIn (participants t) r) (sym about) named))));
      }

    abbrev Never : World → Type 0
    Never world = ⊥

    abbrev AimedEnd : View → World → Type 0
    AimedEnd end world = (r : ℕ) → IsIn (unforgetting floor tx) r → views_in config world tx r ≡ end

    -- each of these participants ends in it
    ends_in : (world : World) → HasStatus config l tx status world → IsBacked config world → (end : View)
        → ((after : World) → IsAnnounced config tx message after → Comes config part tx Never (AimedEnd end) after)
        → Leads config part tx (EndAbove config tx end floor) world
    ends_in world has reach end next =
        let run = comes_step config part tx Never (AimedEnd end) world (L l) (left world has).node (left world has).sends leads
        (step world has) (λ after moved. next after (announced world has reach after moved)) in
        leads_on config part tx (λ after. Never after ⊎ AimedEnd end after) (EndAbove config tx end floor) there world run.events
        run.at run.holds
      where
        there : (after : World) → Never after ⊎ AimedEnd end after → Leads config part tx (EndAbove config tx end floor) after
        there after (inl never) = absurd never
        there after (inr ended) = leads_now config part tx (EndAbove config tx end floor) after
            (λ r named above. ended r (filter_keeps (λ (k : ℕ). not (is_below (floor (R k)) tx)) (participants tx) r
            (among_participants tx r named) (not_from_false (is_below (floor (R r)) tx) above)))

  module _ (world : World) (reach : IsBacked config world) where
    message_inside : is_inside config tx && true && true ≡ true
    message_inside = and_from (is_inside config tx && true) true (and_from (is_inside config tx) true inside refl) refl

    pub ends_committed : status_answer config world l tx ≡ answers standings.Committed
        → Leads config part tx (EndAbove config tx committed floor) world
    ends_committed h =
        ends_in statuses.Committed refl (kinds.Commit tx) refl refl world (has_committed config l tx inside world h) reach committed
        (end_each config tx part (kinds.Commit tx) (stored.Committed tx) committed (unforgetting floor tx) (λ r k. (aimed r k).0) inside
        message_inside aimed_takes (commit_stores config tx) (commit_ends config tx))

    pub ends_aborted : status_answer config world l tx ≡ answers standings.Aborted
        → Leads config part tx (EndAbove config tx aborted floor) world
    ends_aborted h =
        ends_in statuses.Aborted refl (kinds.Abort tx) refl refl world (has_aborted config l tx inside world h) reach aborted
        (end_each config tx part (kinds.Abort tx) (stored.Aborted tx) aborted (unforgetting floor tx) (λ r k. (aimed r k).0) inside
        message_inside aimed_takes (abort_stores config tx) (abort_ends config tx))

-- ---- with floors

module _ (config : Config) (tx : TxParts) (l : ℕ) (inside : is_inside config tx ≡ true) (world : FlooredWorld)
    (reach : IsReachable config world.machine) (above : is_below (world.floor (L l)) tx ≡ false) where
  abbrev part : NodeId → Bool
  part = leader_and_unforgetting world l tx

  part_above : (who : NodeId) → part who ≡ true → is_below (world.floor who) tx ≡ false
  part_above (A a) h = absurd (cc (h))
  part_above (L other) h = subst (λ (k : ℕ). is_below (world.floor (L k)) tx ≡ false) (eqb-true l other h) above
  part_above (R r) h =
      not-true (is_below (world.floor (R r)) tx) (and_parts (is_participant tx r) (not (is_below (world.floor (R r)) tx)) h).1

  part_takes : (r : ℕ) → IsTrue (is_participant tx r) → is_below (world.floor (R r)) tx ≡ false → part (R r) ≡ true
  part_takes r named up =
      and_from (is_participant tx r) (not (is_below (world.floor (R r)) tx)) named (not_from_false (is_below (world.floor (R r)) tx) up)

  module _ (end : View) (answer : Answer)
      (ends : (w : World) → IsBacked config w → status_answer config w l tx ≡ answer
      → Leads config part tx (EndAbove config tx end world.floor) w) where
    follow : floored_status config world l tx ≡ answer → LeadsFloored config part tx (HaveEndedAbove config tx end) world
    follow h =
        let narrow = narrowed config tx part world.machine in
        leads_floored config tx part (HaveEndedAbove config tx end) world (EndAbove config tx end world.floor)
        (ended_after config tx world end) part_above
        (ends narrow (narrowed_backed config tx part world.machine reach)
        (same_status config tx narrow world.machine refl l ∙ sym (status_is config world l tx above) ∙ h))

  pub follow_committed : floored_status config world l tx ≡ answers standings.Committed
      → LeadsFloored config part tx (HaveEndedAbove config tx committed) world
  follow_committed =
      follow committed (answers standings.Committed) (ends_committed config l tx world.floor part (eq-eqb l l refl) part_takes inside)

  pub follow_aborted : floored_status config world l tx ≡ answers standings.Aborted
      → LeadsFloored config part tx (HaveEndedAbove config tx aborted) world
  follow_aborted =
      follow aborted (answers standings.Aborted) (ends_aborted config l tx world.floor part (eq-eqb l l refl) part_takes inside)

-- ---- ended

module _ (config : Config) (tx : TxParts) (l : ℕ) (q : ℕ → Bool) (few : l < config.leaders) (inside : is_inside config tx ≡ true)
    (majority : is_majority config.acceptors q ≡ true) (world : FlooredWorld) (reach : IsReachable config world.machine)
    (at_hand : IsAtHand world l q tx) (ballots : HasBallots config world.machine l q tx) where
  abbrev all : NodeId → Bool
  all = leader_quorum_and_unforgetting world l q tx

  all_above : (who : NodeId) → all who ≡ true → is_below (world.floor who) tx ≡ false
  all_above (A a) h = at_hand.acceptors a h
  all_above (L other) h = part_above config tx l inside world reach at_hand.leader (L other) h
  all_above (R r) h = part_above config tx l inside world reach at_hand.leader (R r) h

  quorum_too : (who : NodeId) → leader_and_quorum l q who ≡ true → all who ≡ true
  quorum_too (A a) h = h
  quorum_too (L other) h = h
  quorum_too (R rm) h = absurd (cc (h))

  all_takes : (r : ℕ) → IsTrue (is_participant tx r) → is_below (world.floor (R r)) tx ≡ false → all (R r) ≡ true
  all_takes = part_takes config tx l inside world reach at_hand.leader

  abbrev Ended : World → Type 0
  Ended w = EndAbove config tx committed world.floor w ⊎ EndAbove config tx aborted world.floor w

  either : (w : World) (P : World → Type 0) → ((v : World) → P v → Ended v) → Leads config all tx P w → Leads config all tx Ended w
  either w P says run = record { events = run.events; at = run.at; holds = says _ run.holds }

  ended_from : (w : World) → IsBacked config w × HasOutcome config l tx w → Leads config all tx Ended w
  ended_from w (back, inl h) = either w (EndAbove config tx committed world.floor) (λ v ended. inl ended)
      (ends_committed config l tx world.floor all (eq-eqb l l refl) all_takes inside w back h)
  ended_from w (back, inr h) = either w (EndAbove config tx aborted world.floor) (λ v ended. inr ended)
      (ends_aborted config l tx world.floor all (eq-eqb l l refl) all_takes inside w back h)

  ends_there : (w : World) → IsBacked config w → HasBallots config w l q tx → Leads config all tx Ended w
  ends_there w back has =
      let run = leads_backed config all tx (HasOutcome config l tx) w back
      (leads_wider config (leader_and_quorum l q) all tx quorum_too (HasOutcome config l tx) w
      (decides config tx l q few inside majority w back has)) in
      leads_on config all tx (λ after. IsBacked config after × HasOutcome config l tx after) Ended ended_from w run.events run.at run.holds

  makes : (after : World) (floored : FlooredWorld) → after.nodes ≡ floored.machine.nodes → floored.floor ≡ world.floor → Ended after
      → HaveEndedAbove config tx committed floored ⊎ HaveEndedAbove config tx aborted floored
  makes after floored nodes floors (inl ended) = inl (ended_after config tx world committed after floored nodes floors ended)
  makes after floored nodes floors (inr ended) = inr (ended_after config tx world aborted after floored nodes floors ended)

  pub ended : LeadsFloored config all tx
      (λ after. HaveEndedAbove config tx committed after ⊎ HaveEndedAbove config tx aborted after) world
  ended =
      leads_floored config tx all (λ after. HaveEndedAbove config tx committed after ⊎ HaveEndedAbove config tx aborted after) world Ended
      makes all_above
      (ends_there (narrowed config tx all world.machine) (narrowed_backed config tx all world.machine reach)
      (record { most = ballots.most; stored = ballots.stored; promised = ballots.promised; left = ballots.left }))
