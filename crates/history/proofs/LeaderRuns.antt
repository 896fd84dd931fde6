-- What a leader has is what looking back over its lines says, in every run.
-- Needed by `heard_is_what_came`; StatusAnswers.
use Rattle.std.proofs.Common.{◌≡◌, ◌⊎◌, inl, inr, ◌∙◌, ℕ, suc, Bool, true, false, not, ◌&&◌, ◌||◌, if◌then◌else◌, eq-eqb, List, [], ◌∷◌}
use Rattle.std.proofs.Common.{◌++◌, Option, Some, None, unwrap_or, refl, sym, ap, subst, nat_lt, nat_le, length}
use Rattle.std.specs.Prelude.{◌<◌, filter, filter_map}
use Rattle.std.specs.List.{list_any, list_all, flat_map}
use Rattle.std.specs.Option.{option_map, option_map_or, option_and_then}
use Rattle.std.proofs.lemmas.Bool.{cond_both, ne_eqb, not-true, not-false, both_ways}
use Rattle.xid.specs.Transactions.{TxParts, tx_eq, participants}
use Rattle.xid.specs.declared.refusals.Refusal.{Refusal}
use Rattle.xid.specs.declared.refusals.Refusal.TheVariants.{NoSuch, Forged, Down, NoMemory, BadMessage}
use Rattle.wire.specs.declared.message.Kind.{Kind}
use Rattle.wire.specs.Decoding.{spells_message}
use Rattle.wire.specs.Grammar.{spelling}
use Rattle.stable_record.specs.Frames.{frame_length}
use Rattle.ballot.specs.Greatest.{IsIn}
use Rattle.protocol.specs.Basics.{Fact}
use Rattle.safety.specs.Vocabulary.{NodeId, A, L, R, Event, Ask, Deliver, Lose, Cut, Noise, Tear, Restart, Compact, Request, Call}
use Rattle.safety.specs.Vocabulary.{Recover, Timeout, Answer, Done, Refused, Change, Sent, Status, Step}
use Rattle.protocol.specs.Effects.{Config, Effect}
use Rattle.protocol.specs.Facts.{last_ballot}
use Rattle.protocol.specs.LeaderMemory.{LeaderMemory, StoredBallots, current, is_decided, nothing_heard, status_of}
use Rattle.wire.specs.Messages.{message_tx}
use Rattle.xid.specs.declared.transaction.Vote.TheVariants as votes
use Rattle.protocol.specs.Nodes.{Memory, NodeState, new_node, Input, Asked, Received, ReceivedNoise, Fault, NoMemoryBefore, NoMemoryAt}
use Rattle.protocol.specs.Nodes.{RecordFails, all_play, is_message_inside, effect_of, Outcome, node_step, restart_outcome, compact_outcome}
use Rattle.protocol.specs.Nodes.{accepts_input, answer_outcome, effect_outcome, finished_append, stopped_append}
use Rattle.protocol.specs.Worlds.{World, Datagram, StepResult, opening, node_at, set_node, answer_result, outcome_result, if_found, at_node}
use Rattle.protocol.specs.Worlds.{datagram_at, with_mark, dispatch, world_step, datagrams_of, numbered, change_of, step_of}
use Rattle.protocol.specs.declared.decisions.Outgoing.{Outgoing}
use Rattle.protocol.proofs.Lists.{IsIn-after, IsIn-before, IsIn-append, filter_kept, filter_keeps}
use Rattle.safety.proofs.World.Growth.{same_node}
use Rattle.safety.proofs.World.NodePlaces.{node_there, node_elsewhere, opening_node}
use Rattle.history.specs.Heard.{is_leader, is_leader_restart}
use Rattle.history.specs.LeaderBack.{sent_by, proposal_in, began_at, begins_at, taken_at, told_of, met_at, is_met_back, current_back}
use Rattle.history.specs.LeaderBack.{proposed_back, counted_of, joined_to, still_heard, heard_back, status_back}
use Rattle.history.specs.Outages.{sent_back}
use Rattle.history.proofs.Runs.{IsRun, AtFirst, Then}
use Rattle.history.proofs.Datagrams.{line_of, sent_is}
use Rattle.history.proofs.LeaderSends.{other_sent}
use Rattle.history.proofs.LeaderMoves.{IsLine, unsaid_line, commit_leaves, timeout_leaves, message_leaves, proposed_said}

-- ---- what says nothing of a leader

-- whatever an event is answered, it says nothing of leader l
record IsElsewhere (config : Config) (l : ℕ) (before : List Step) (event : Event) : Type 0 where
  restart : (answer : Answer) → is_leader_restart l event answer ≡ false
  met : (answer : Answer) → met_at config l before event answer ≡ None
  taken : (answer : Answer) → taken_at config l before event answer ≡ None

module _ (config : Config) (l : ℕ) (before : List Step) where
  refused_taken : (event : Event) (e : Refusal) → taken_at config l before event (Refused e) ≡ None
  refused_taken (Deliver n) e = refl
  refused_taken event e = refl

  refused_met : (event : Event) (e : Refusal) → met_at config l before event (Refused e) ≡ None
  refused_met (Deliver n) e = refl
  refused_met (Ask (L k) (Request.Commit tx)) e = refl
  refused_met (Ask (L k) (Request.Status tx)) e = refl
  refused_met (Ask (L k) (Request.View tx)) e = refl
  refused_met (Ask (L k) (Timeout tx)) e = refl
  refused_met (Ask (L k) (Call x action)) e = refl
  refused_met (Ask (L k) Recover) e = refl
  refused_met (Ask (A a) request) e = refl
  refused_met (Ask (R r) request) e = refl
  refused_met event e = refl

  refused_restart : (event : Event) (e : Refusal) → is_leader_restart l event (Refused e) ≡ false
  refused_restart (Restart who) e = refl
  refused_restart event e = refl

  other_ask : (who : NodeId) (request : Request) → is_leader l who ≡ false → IsElsewhere config l before (Ask who request)
  other_ask (A a) request other = record { restart = λ answer. refl; met = λ answer. refl; taken = λ answer. refl }
  other_ask (R r) request other = record { restart = λ answer. refl; met = λ answer. refl; taken = λ answer. refl }
  other_ask (L k) request other = record { restart = λ answer. refl; met = λ answer. unmet request answer; taken = λ answer. refl }
    where
      unmet : (r : Request) (answer : Answer) → met_at config l before (Ask (L k) r) answer ≡ None
      unmet (Request.Commit tx) (Answer.Stands standing) = ap (λ (b : Bool). if b then Some tx else None) other
      unmet (Request.Commit tx) answer = refl
      unmet (Timeout tx) Done = ap (λ (b : Bool). if b then Some tx else None) other
      unmet (Timeout tx) answer = refl
      unmet (Request.Status tx) answer = refl
      unmet (Request.View tx) answer = refl
      unmet (Call x action) answer = refl
      unmet Recover answer = refl

  other_restart : (who : NodeId) → is_leader l who ≡ false → IsElsewhere config l before (Restart who)
  other_restart who other = record { restart = by_answer; met = λ answer. refl; taken = λ answer. refl }
    where
      by_answer : (answer : Answer) → is_leader_restart l (Restart who) answer ≡ false
      by_answer Done = other
      by_answer answer = refl

  -- a delivery to another node
  other_delivery : (n : ℕ) (line : Sent) → sent_back before n ≡ Some line → is_leader l line.receiver ≡ false
      → IsElsewhere config l before (Deliver n)
  other_delivery n line is other = record {
    restart = λ answer. refl;
    met = λ answer. ap (option_and_then told_of) (untaken answer);
    taken = untaken;
  }
    where
      untaken : (answer : Answer) → taken_at config l before (Deliver n) answer ≡ None
      untaken Done =
          ap (option_and_then (λ (s : Sent). if is_leader l s.receiver
          && is_message_inside config s.message then Some s.message else None)) is
          ∙ ap (λ (b : Bool). if b && is_message_inside config line.message then Some line.message else None) other
      untaken answer = refl

-- ---- at the leader

-- what a step does to a leader: where it is up then, it was restarted and has nothing, or was up and has what the lines say
abbrev pub IsLeaderMove : Config → ℕ → List Step → NodeState → NodeState → Step → Type 0
IsLeaderMove config l before old new step = new.up ≡ true
    → ((is_leader_restart l step.event step.answer ≡ true) × (new.memory.leader ≡ nothing_heard))
    ⊎ ((is_leader_restart l step.event step.answer ≡ false) × (old.up ≡ true)
    × IsLine config l before old.memory.leader new.memory.leader step)

module _ (config : Config) (l : ℕ) (before : List Step) (k : ℕ) (now : Option Change) (some : 0 < config.acceptors)
    (node : NodeState) (event : Event) where
  -- the step of an answer and sends
  abbrev step_by : Answer → List Outgoing → Step
  step_by answer sends = record {
    event = event;
    answer = answer;
    now = now;
    sent = numbered k (flat_map (datagrams_of config (L l)) sends);
    told = [];
  }

  abbrev Leads : Outcome → Type 0
  Leads left = IsLeaderMove config l before node left.node (step_by left.answer left.sends)

  abbrev LeavesHere : Effect Memory → Type 0
  LeavesHere e = IsLine config l before node.memory.leader e.memory.leader (step_by e.answer e.sends)

  refused_line : (e : Refusal) → IsLine config l before node.memory.leader node.memory.leader (step_by (Refused e) [])
  refused_line e = unsaid_line config l before node.memory.leader node.memory.leader (step_by (Refused e) [])
      (record { sent = refl; met = refused_met config l before event e; taken = refused_taken config l before event e }) refl

  goes_down : (left : Outcome) → left.node.up ≡ false → Leads left
  goes_down left down up = absurd (both_ways left.node.up down up)

  refuses : (e : Refusal) → Leads (answer_outcome node (Refused e))
  refuses e up = inr (refused_restart config l before event e, up, refused_line e)

  finishes : (e : Effect Memory) (facts : List Fact) → node.up ≡ true → ((answer : Answer) → is_leader_restart l event answer ≡ false)
      → LeavesHere e → Leads (finished_append node e facts)
  finishes e facts was none leaves up = inr (none e.answer, was, leaves)

  settled : (e : Effect Memory) (o : Option Fact) (tear : Option ℕ) (fault : Fault) → node.up ≡ true
      → ((answer : Answer) → is_leader_restart l event answer ≡ false) → LeavesHere e → Leads (effect_outcome node e o tear fault)
  settled e None tear NoMemoryAt up none leaves = λ stays. absurd (cc (stays))
  settled e (Some fact) tear NoMemoryAt up none leaves = λ stays. absurd (cc (stays))
  settled e None tear fault up none leaves = finishes e node.facts up none leaves
  settled e (Some fact) (Some n) fault up none leaves = goes_down (stopped_append node fact (nat_le (frame_length fact) n)) refl
  settled e (Some fact) None (RecordFails whole) up none leaves = goes_down (stopped_append node fact whole) refl
  settled e (Some fact) None fault up none leaves = finishes e (node.facts ++ fact ∷ []) up none leaves

  step_leads : (input : Input) (fault : Fault) → ((answer : Answer) → is_leader_restart l event answer ≡ false)
      → LeavesHere (effect_of config (L l) node.facts node.memory input) → Leads (node_step config (L l) node input fault)
  step_leads input fault none leaves = cond_both (not (accepts_input (L l) input)) _ _ Leads
      (λ other. refuses NoSuch)
      (λ taken. cond_both (not node.up) _ _ Leads
      (λ down up. absurd (both_ways node.up (not-true node.up down) up))
      (λ up. settled (effect_of config (L l) node.facts node.memory input) _ node.tear fault (not-false node.up up) none leaves))

  restart_leads : (fault : Fault) → event ≡ Restart (L l) → Leads (restart_outcome config (L l) node fault)
  restart_leads NoMemoryAt is = λ stays. absurd (cc (stays))
  restart_leads (RecordFails whole) is = λ stays. absurd (cc (stays))
  restart_leads fault is = cond_both (all_play config (L l) [] node.facts) _ _ Leads
      (λ plays up. inl (ap (λ (e : Event). is_leader_restart l e Done) is ∙ eq-eqb l l refl, refl))
      (λ damaged stays. absurd (cc (stays)))

  compact_leads : (fault : Fault) → IsElsewhere config l before event → Leads (compact_outcome node fault)
  compact_leads NoMemoryAt elsewhere = λ stays. absurd (cc (stays))
  compact_leads (RecordFails whole) elsewhere = λ stays. absurd (cc (stays))
  compact_leads fault elsewhere = λ up. inr (
    elsewhere.restart Done,
    up,
    unsaid_line config l before node.memory.leader node.memory.leader (step_by Done [])
        (record { sent = refl; met = elsewhere.met Done; taken = elsewhere.taken Done }) refl,
  )

-- a request
request_leaves : (config : Config) (l : ℕ) (before : List Step) (k : ℕ) (now : Option Change) (some : 0 < config.acceptors)
    (node : NodeState) (request : Request)
    → LeavesHere config l before k now some node (Ask (L l) request) (effect_of config (L l) node.facts node.memory (Asked request))
request_leaves config l before k now some node (Request.Commit tx) =
    commit_leaves config l before k now some (last_ballot node.facts) node.memory.leader tx
request_leaves config l before k now some node (Timeout tx) =
    timeout_leaves config l before k now some (last_ballot node.facts) node.memory.leader tx
request_leaves config l before k now some node (Request.Status tx) =
    unsaid_line config l before _ _ _ (record { sent = refl; met = refl; taken = refl }) refl
request_leaves config l before k now some node (Request.View tx) = refused_line config l before k now some node _ NoSuch
request_leaves config l before k now some node (Call x action) = refused_line config l before k now some node _ NoSuch
request_leaves config l before k now some node Recover = refused_line config l before k now some node _ NoSuch

-- a datagram
module _ (config : Config) (l : ℕ) (before : List Step) (k : ℕ) (now : Option Change) (some : 0 < config.acceptors) (node : NodeState)
    (n : ℕ) (line : Sent) (is : sent_back before n ≡ Some line) (own : is_leader l line.receiver ≡ true) where
  taken_is : taken_at config l before (Deliver n) Done ≡ (if is_message_inside config line.message then Some line.message else None)
  taken_is =
      ap (option_and_then (λ (s : Sent). if is_leader l s.receiver && is_message_inside config s.message then Some s.message else None)) is
      ∙ ap (λ (b : Bool). if b && is_message_inside config line.message then Some line.message else None) own

  received_leaves : LeavesHere config l before k now some node (Deliver n)
      (effect_of config (L l) node.facts node.memory (Received line.message))
  received_leaves = cond_both (is_message_inside config line.message) _ _ (LeavesHere config l before k now some node (Deliver n))
      (λ inside. message_leaves config l before k now some (last_ballot node.facts) node.memory.leader n line.message
      (taken_is ∙ ap (λ (b : Bool). if b then Some line.message else None) inside))
      (λ outside.
      let none = taken_is ∙ ap (λ (b : Bool). if b then Some line.message else None) outside in
      unsaid_line config l before _ _ _ (record { sent = refl; met = ap (option_and_then told_of) none; taken = none }) refl)

-- ---- in the world

-- a leader as it stands in a world
abbrev pub leader_node : Config → World → ℕ → NodeState
leader_node config world l = unwrap_or (node_at config world (L l)) new_node

-- what an event does to leader l, the numbers of whose datagrams begin with k
abbrev Moved : Config → World → ℕ → List Step → ℕ → Event → StepResult → Type 0
Moved config world l before k event result = IsLeaderMove config l before (leader_node config world l) (leader_node config result.world l)
    (record { event = event; answer = result.answer; now = result.now; sent = numbered k result.sent; told = [] })

module _ (config : Config) (world : World) (l : ℕ) (before : List Step) (k : ℕ) (some : 0 < config.acceptors) where
  refused : (event : Event) (e : Refusal) → Moved config world l before k event (answer_result world (Refused e))
  refused event e up = inr (
    refused_restart config l before event e,
    up,
    unsaid_line config l before _ _ _
        (record { sent = refl; met = refused_met config l before event e; taken = refused_taken config l before event e }) refl,
  )

  -- an answer that says nothing of the leader, which stays as it is
  silent : (event : Event) (result : StepResult) → IsElsewhere config l before event → sent_by l (numbered k result.sent) ≡ []
      → (leader_node config result.world l).up ≡ (leader_node config world l).up
      → (leader_node config result.world l).memory.leader ≡ (leader_node config world l).memory.leader
      → Moved config world l before k event result
  silent event result elsewhere sent ups same up = inr (
    elsewhere.restart result.answer,
    sym ups ∙ up,
    unsaid_line config l before _ _ _
        (record { sent = sent; met = elsewhere.met result.answer; taken = elsewhere.taken result.answer }) same,
  )

  other_leader : (who : NodeId) → (L l ≡ who → ⊥) → is_leader l who ≡ false
  other_leader (A a) apart = refl
  other_leader (R r) apart = refl
  other_leader (L other) apart = ne_eqb other l (λ e. apart (ap L (sym e)))

  outcome_moved : (who : NodeId) (node : NodeState) (left : Outcome) (event : Event) → node_at config world who ≡ Some node
      → (L l ≡ who → Leads config l before k (change_of (L l) node.facts left.node.facts) some node event left)
      → (is_leader l who ≡ false → IsElsewhere config l before event)
      → Moved config world l before k event (outcome_result config world who node.facts left)
  outcome_moved who node left event stands here away = elim (same_node (L l) who) [
    | inl same ↦
        let was : node ≡ leader_node config world l =
        sym (ap (λ (o : Option NodeState). unwrap_or o new_node) (ap (node_at config world) same ∙ stands)) in
        let is : left.node ≡ leader_node config after l =
        sym (ap (λ (o : Option NodeState). unwrap_or o new_node)
        (ap (node_at config after) same ∙ node_there config world who node left.node stands)) in
        subst (λ (n : NodeState). IsLeaderMove config l before n (leader_node config after l) (said who)) was
        (subst (λ (n : NodeState). IsLeaderMove config l before node n (said who)) is
        (subst (λ (n : NodeId). IsLeaderMove config l before node left.node (said n)) same (here same)))
    | inr apart ↦
        let is = ap (λ (o : Option NodeState). unwrap_or o new_node) (node_elsewhere config world who (L l) left.node apart) in
        silent event (outcome_result config world who node.facts left) (away (other_leader who apart))
        (other_sent config l k who left.sends (other_leader who apart))
        (ap (λ (n : NodeState). n.up) is) (ap (λ (n : NodeState). n.memory.leader) is)
  ]
    where
      after : World
      after = (outcome_result config world who node.facts left).world

      said : NodeId → Step
      said n = record {
        event = event;
        answer = left.answer;
        now = change_of n node.facts left.node.facts;
        sent = numbered k (flat_map (datagrams_of config n) left.sends);
        told = [];
      }

  found_moved : {X : Type 0} (o : Option X) (f : X → StepResult) (event : Event)
      → ((x : X) → o ≡ Some x → Moved config world l before k event (f x)) → Moved config world l before k event (if_found world f o)
  found_moved None f event moved = refused event NoSuch
  found_moved (Some x) f event moved = moved x refl

  input_moved : (who : NodeId) (input : Input) (fault : Fault) (event : Event)
      → ((answer : Answer) → is_leader_restart l event answer ≡ false)
      → (L l ≡ who → (node : NodeState) (now : Option Change)
      → LeavesHere config l before k now some node event (effect_of config (L l) node.facts node.memory input))
      → (is_leader l who ≡ false → IsElsewhere config l before event)
      → Moved config world l before k event (at_node config world who input fault)
  input_moved who input fault event none leaves away = found_moved (node_at config world who)
      (λ node. outcome_result config world who node.facts (node_step config who node input fault)) event
      (λ node stands. outcome_moved who node (node_step config who node input fault) event stands
      (λ same. subst (λ (n : NodeId). Leads config l before k
      (change_of (L l) node.facts (node_step config n node input fault).node.facts) some node event
      (node_step config n node input fault)) same
      (step_leads config l before k _ some node event input fault none (leaves same node _)))
      away)

  noise_moved : (who : NodeId) (fault : Fault) (event : Event) → IsElsewhere config l before event
      → Moved config world l before k event (at_node config world who ReceivedNoise fault)
  noise_moved who fault event elsewhere = input_moved who ReceivedNoise fault event elsewhere.restart
      (λ same node now. refused_line config l before k now some node event BadMessage) (λ other. elsewhere)

  armed_moved : (who : NodeId) (n : ℕ) (node : NodeState) → node_at config world who ≡ Some node
      → Moved config world l before k (Tear who n) (answer_result (set_node config world who (record node { tear = Some n })) Done)
  armed_moved who n node stands = silent (Tear who n) (answer_result after Done)
      (record { restart = λ answer. refl; met = λ answer. refl; taken = λ answer. refl }) refl both.0 both.1
    where
      new : NodeState
      new = record node { tear = Some n }

      after : World
      after = set_node config world who new

      both : ((leader_node config after l).up ≡ (leader_node config world l).up)
          × ((leader_node config after l).memory.leader ≡ (leader_node config world l).memory.leader)
      both = elim (same_node (L l) who) [
        | inl same ↦
            let is = ap (λ (o : Option NodeState). unwrap_or o new_node)
            (ap (node_at config after) same ∙ node_there config world who node new stands) in
            let was = ap (λ (o : Option NodeState). unwrap_or o new_node) (ap (node_at config world) same ∙ stands) in (
              ap (λ (m : NodeState). m.up) is ∙ sym (ap (λ (m : NodeState). m.up) was),
              ap (λ (m : NodeState). m.memory.leader) is ∙ sym (ap (λ (m : NodeState). m.memory.leader) was),
            )
        | inr apart ↦
            let is = ap (λ (o : Option NodeState). unwrap_or o new_node) (node_elsewhere config world who (L l) new apart) in
            (ap (λ (m : NodeState). m.up) is, ap (λ (m : NodeState). m.memory.leader) is)
      ]

module _ (config : Config) (world : World) (l : ℕ) (before : List Step) (k : ℕ) (some : 0 < config.acceptors)
    (run : IsRun config world before) where
  -- a datagram handed over
  delivered : (n : ℕ) (fault : Fault) (o : Option Datagram) → datagram_at world.net n ≡ o → Moved config world l before k (Deliver n)
      (if_found world (λ d. at_node config (with_mark world n) d.receiver (Received d.message) fault) o)
  delivered n fault None is = refused config world l before k some (Deliver n) NoSuch
  delivered n fault (Some d) is =
      let line : sent_back before n ≡ Some (line_of n d) = sent_is config world before run n ∙ ap (option_map (line_of n)) is in
      input_moved config (with_mark world n) l before k some d.receiver (Received d.message) fault (Deliver n) (λ answer. refl)
      (λ same node now. received_leaves config l before k now some node n (line_of n d) line
      (ap (is_leader l) (sym same) ∙ eq-eqb l l refl))
      (λ other. other_delivery config l before n (line_of n d) line other)

  dispatch_moved : (event : Event) (fault : Fault) → Moved config world l before k event (dispatch config world event fault)
  dispatch_moved (Ask who request) fault = input_moved config world l before k some who (Asked request) fault (Ask who request)
      (λ answer. refl)
      (λ same node now. subst (λ (n : NodeId). LeavesHere config l before k now some node (Ask n request)
      (effect_of config (L l) node.facts node.memory (Asked request))) same (request_leaves config l before k now some node request))
      (λ other. other_ask config l before who request other)
  dispatch_moved (Deliver n) fault = delivered n fault (datagram_at world.net n) refl
  dispatch_moved (Lose n) fault = found_moved config world l before k some (datagram_at world.net n)
      (λ d. answer_result (with_mark world n) Done) (Lose n)
      (λ d is. silent config world l before k some (Lose n) (answer_result (with_mark world n) Done)
      (record { restart = λ answer. refl; met = λ answer. refl; taken = λ answer. refl }) refl refl refl)
  dispatch_moved (Cut n m) fault = found_moved config world l before k some (datagram_at world.net n)
      (λ d. if nat_lt m (length (spelling d.message)) then at_node config world d.receiver ReceivedNoise fault
      else answer_result world (Refused NoSuch)) (Cut n m)
      (λ d is. cond_both (nat_lt m (length (spelling d.message))) (at_node config world d.receiver ReceivedNoise fault)
      (answer_result world (Refused NoSuch)) (Moved config world l before k (Cut n m))
      (λ fewer. noise_moved config world l before k some d.receiver fault (Cut n m)
      (record { restart = λ answer. refl; met = λ answer. refl; taken = λ answer. refl }))
      (λ all. refused config world l before k some (Cut n m) NoSuch))
  dispatch_moved (Noise who bytes) fault = cond_both (spells_message bytes)
      (if_found world (λ node. answer_result world (Refused Forged)) (node_at config world who))
      (at_node config world who ReceivedNoise fault) (Moved config world l before k (Noise who bytes))
      (λ spelled. found_moved config world l before k some (node_at config world who) (λ node. answer_result world (Refused Forged))
      (Noise who bytes) (λ node is. refused config world l before k some (Noise who bytes) Forged))
      (λ garbled. noise_moved config world l before k some who fault (Noise who bytes)
      (record { restart = λ answer. refl; met = λ answer. refl; taken = λ answer. refl }))
  dispatch_moved (Tear who n) fault = found_moved config world l before k some (node_at config world who)
      (λ node. answer_result (set_node config world who (record node { tear = Some n })) Done) (Tear who n)
      (λ node stands. armed_moved config world l before k some who n node stands)
  dispatch_moved (Restart who) fault = found_moved config world l before k some (node_at config world who)
      (λ node. outcome_result config world who node.facts (restart_outcome config who node fault)) (Restart who)
      (λ node stands. outcome_moved config world l before k some who node (restart_outcome config who node fault) (Restart who) stands
      (λ same. subst (λ (n : NodeId). Leads config l before k
      (change_of (L l) node.facts (restart_outcome config n node fault).node.facts) some node (Restart n)
      (restart_outcome config n node fault))
      same (restart_leads config l before k _ some node (Restart (L l)) fault refl))
      (λ other. other_restart config l before who other))
  dispatch_moved (Compact who) fault = found_moved config world l before k some (node_at config world who)
      (λ node. if node.up then outcome_result config world who node.facts (compact_outcome node fault)
      else answer_result world (Refused Down)) (Compact who)
      (λ node stands. cond_both node.up (outcome_result config world who node.facts (compact_outcome node fault))
      (answer_result world (Refused Down)) (Moved config world l before k (Compact who))
      (λ up. outcome_moved config world l before k some who node (compact_outcome node fault) (Compact who) stands
      (λ same. compact_leads config l before k _ some node (Compact who) fault
      (record { restart = λ answer. refl; met = λ answer. refl; taken = λ answer. refl }))
      (λ other. record { restart = λ answer. refl; met = λ answer. refl; taken = λ answer. refl }))
      (λ down. refused config world l before k some (Compact who) Down))
  dispatch_moved event fault = refused config world l before k some event NoSuch

  event_moved : (event : Event) (fault : Fault) → Moved config world l before k event (world_step config world event fault)
  event_moved event NoMemoryBefore = refused config world l before k some event NoMemory
  event_moved event fault = dispatch_moved event fault

-- ---- runs

-- a leader has what looking back says
pub record IsLeaderBack (config : Config) (l : ℕ) (memory : LeaderMemory) (before : List Step) : Type 0 where
  pub met : (tx : TxParts) → list_any (tx_eq tx) memory.met ≡ is_met_back config l before tx
  pub current_is : (tx : TxParts) → current memory tx ≡ current_back l before tx
  pub proposed : (m : Kind) → (IsIn memory.proposed m → IsIn (proposed_back l before) m)
      × (IsIn (proposed_back l before) m → IsIn memory.proposed m)
  pub heard : memory.heard ≡ heard_back config l before

nothing_back : (config : Config) (l : ℕ) → IsLeaderBack config l nothing_heard []
nothing_back config l = record { met = λ tx. refl; current_is = λ tx. refl; proposed = λ m. (λ h. h, λ h. h); heard = refl }

module _ (config : Config) (l : ℕ) (before : List Step) (step : Step) where
  -- after a restart
  restarted : (memory : LeaderMemory) → is_leader_restart l step.event step.answer ≡ true → memory ≡ nothing_heard
      → IsLeaderBack config l memory (step ∷ before)
  restarted memory is none = subst (λ (m : LeaderMemory). IsLeaderBack config l m (step ∷ before)) (sym none) (record {
    met = λ tx. sym (ap (λ (b : Bool). if b then false else option_map_or (tx_eq tx) (met_at config l before step.event step.answer) false
        || is_met_back config l before tx) is);
    current_is = λ tx. sym (ap (λ (b : Bool). if b then None else option_map_or (λ begun. Some begun.ballot) (began_at l step tx)
        (current_back l before tx)) is);
    proposed = λ m. (
      λ h. absurd h,
      λ h. subst (λ (b : Bool). IsIn (if b then [] else proposed_said config l before step (proposed_back l before)) m) is h,
    );
    heard = sym (ap (λ (b : Bool). if b then [] else heard_more) is);
  })
    where
      heard_more : List Kind
      heard_more = joined_to (still_heard l step (heard_back config l before))
          (option_map_or (counted_of config.acceptors (heard_back config l before) (current_back l before))
          (taken_at config l before step.event step.answer) [])

  -- after any other step
  module _ (old new : LeaderMemory) (line : IsLine config l before old new step) (back : IsLeaderBack config l old before)
      (same : is_leader_restart l step.event step.answer ≡ false) where
    more_proposed : (m : Kind) (ps qs : List Kind) → (IsIn ps m → IsIn qs m) → IsIn (proposed_said config l before step ps) m
        → IsIn (proposed_said config l before step qs) m
    more_proposed m ps qs each h =
        let said = filter_map proposal_in (sent_by l step.sent) in
        let stays : Kind → Bool = λ message. not (begins_at l step (message_tx message)) in
        elim (IsIn-append said (filter stays ps) m h) [
          | inl new_one ↦ IsIn-before said (filter stays qs) m new_one
          | inr was ↦
              let kept = filter_kept stays ps m was in
              IsIn-after said (filter stays qs) m (filter_keeps stays qs m (each kept.0) kept.1)
        ]

    moved : IsLeaderBack config l new (step ∷ before)
    moved = record {
      met = λ tx. line.met tx ∙ ap (λ (b : Bool). option_map_or (tx_eq tx) (met_at config l before step.event step.answer) false || b)
          (back.met tx)
          ∙ sym (ap (λ (b : Bool). if b then false else option_map_or (tx_eq tx) (met_at config l before step.event step.answer) false
          || is_met_back config l before tx) same);
      current_is = λ tx. line.current_is tx
          ∙ ap (option_map_or (λ begun. Some begun.ballot) (began_at l step tx)) (back.current_is tx)
          ∙ sym (ap (λ (b : Bool). if b then None else option_map_or (λ begun. Some begun.ballot) (began_at l step tx)
          (current_back l before tx)) same);
      proposed = λ m. (
        λ h. subst (λ (b : Bool). IsIn (if b then [] else proposed_said config l before step (proposed_back l before)) m) (sym same)
            (more_proposed m old.proposed (proposed_back l before) (back.proposed m).0 ((line.proposed m).0 h)),
        λ h. (line.proposed m).1 (more_proposed m (proposed_back l before) old.proposed (back.proposed m).1
            (subst (λ (b : Bool). IsIn (if b then [] else proposed_said config l before step (proposed_back l before)) m) same h)),
      );
      heard = line.heard
          ∙ (λ i. joined_to (still_heard l step (back.heard i)) (option_map_or
          (counted_of config.acceptors (back.heard i) (λ tx. back.current_is tx i)) (taken_at config l before step.event step.answer) []))
          ∙ sym (ap (λ (b : Bool). if b then [] else joined_to (still_heard l step (heard_back config l before))
          (option_map_or (counted_of config.acceptors (heard_back config l before) (current_back l before))
          (taken_at config l before step.event step.answer) [])) same);
    }

first_leader : (o : Option NodeState) → ((node : NodeState) → o ≡ Some node → new_node ≡ node) → unwrap_or o new_node ≡ new_node
first_leader None each = refl
first_leader (Some node) each = sym (each node refl)

leader_ever : (config : Config) (world : World) (before : List Step) (l : ℕ) → 0 < config.acceptors → IsRun config world before
    → (leader_node config world l).up ≡ true → IsLeaderBack config l (leader_node config world l).memory.leader before
leader_ever config _ _ l some AtFirst up = subst (λ (node : NodeState). IsLeaderBack config l node.memory.leader [])
    (sym (first_leader (node_at config (opening config) (L l)) (λ node is. opening_node config (L l) node is))) (nothing_back config l)
leader_ever config _ _ l some (Then world before event fault run) up =
    let result = world_step config world event fault in
    let step = step_of world event result in
    elim (event_moved config world l before (suc (length world.net)) some run event fault up) [
      | inl is ↦ restarted config l before step (leader_node config result.world l).memory.leader is.0 is.1
      | inr is ↦ moved config l before step (leader_node config world l).memory.leader (leader_node config result.world l).memory.leader
          is.2 (leader_ever config world before l some run is.1) is.0
    ]

pub leader_back : (config : Config) (world : World) (before : List Step) (l : ℕ) → 0 < config.acceptors → IsRun config world before
    → (node : NodeState) → node_at config world (L l) ≡ Some node → node.up ≡ true → IsLeaderBack config l node.memory.leader before
leader_back config world before l some run node stands up =
    let is : leader_node config world l ≡ node = ap (λ (o : Option NodeState). unwrap_or o new_node) stands in
    subst (λ (n : NodeState). IsLeaderBack config l n.memory.leader before) is
    (leader_ever config world before l some run (ap (λ (n : NodeState). n.up) is ∙ up))

-- the status that follows
pub status_looked : (config : Config) (l : ℕ) (memory : LeaderMemory) (before : List Step) (stored : StoredBallots) (tx : TxParts)
    → IsLeaderBack config l memory before → status_of config.acceptors stored memory tx ≡ status_back config stored l before tx
status_looked config l memory before stored tx back = λ i.
    if list_any (λ r. is_decided config.acceptors (back.heard i) tx r votes.Aborted) (participants tx) then Status.Aborted
    else if list_all (λ r. is_decided config.acceptors (back.heard i) tx r votes.Prepared) (participants tx) then Status.Committed
    else if back.met tx i || nat_lt 0 (stored tx) then Status.Undecided
    else Status.Unknown
