-- What a leader heard is among what came to it since its last restart.
-- Needed by `heard_came`.
use Rattle.std.proofs.Common.{◌≡◌, ◌⊎◌, inl, inr, ◌∙◌, ℕ, Bool, false, not, ◌||◌, if◌then◌else◌, eq-eqb, List, [], ◌∷◌, ◌++◌}
use Rattle.std.proofs.Common.{Option, Some, None, unwrap_or, refl, sym, ap, subst, nat_lt}
use Rattle.std.specs.Prelude.{length, ◌^◌}
use Rattle.std.specs.List.{list_any}
use Rattle.std.specs.Option.{option_map, option_map_or}
use Rattle.std.proofs.lemmas.Bool.{cond_both, ne_eqb}
use Rattle.xid.specs.Transactions.{TxParts, tx_eq}
use Rattle.xid.specs.declared.refusals.Refusal.{Refusal}
use Rattle.xid.specs.declared.refusals.Refusal.TheVariants.{NoSuch, Forged, Down, NoMemory}
use Rattle.wire.specs.declared.message.Kind.{Kind}
use Rattle.wire.specs.declared.message.Kind.TheVariants as kinds
use Rattle.wire.specs.declared.items.InstanceReport.{InstanceReport}
use Rattle.wire.specs.declared.items.InstanceAccept.{InstanceAccept}
use Rattle.wire.specs.Decoding.{spells_message}
use Rattle.wire.specs.Grammar.{spelling}
use Rattle.protocol.specs.Basics.{Fact}
use Rattle.safety.specs.Vocabulary.{NodeId, A, L, R, Event, Ask, Deliver, Lose, Cut, Noise, Tear, Restart, Compact, Request, Call}
use Rattle.safety.specs.Vocabulary.{Recover, Timeout, Answer, Done, Refused, Sent, Step}
use Rattle.protocol.specs.Effects.{Config, Effect, is_inside}
use Rattle.ballot.specs.Ballots.{next_of}
use Rattle.protocol.specs.Facts.{last_ballot}
use Rattle.protocol.specs.LeaderMemory.{LeaderMemory, StoredBallots, status_of, with_met, with_heard, with_all_heard, is_counted}
use Rattle.protocol.specs.Leaders.{is_final, is_current, on_commit_call, on_leader_timeout, on_1b, on_2b, on_leader_message}
use Rattle.protocol.specs.Nodes.{Memory, empty_memory, NodeState, new_node, Input, Asked, Received, ReceivedNoise, Fault, NoMemoryBefore}
use Rattle.protocol.specs.Nodes.{NoMemoryAt, RecordFails, all_play, is_message_inside, effect_of, Outcome, node_step, restart_outcome}
use Rattle.protocol.specs.Nodes.{compact_outcome}
use Rattle.protocol.specs.PaperItems.{report_messages, accept_messages_of, unbundled}
use Rattle.protocol.specs.Worlds.{World, Datagram, StepResult, opening, node_at, set_node, answer_result, outcome_result, if_found, at_node}
use Rattle.protocol.specs.Worlds.{datagram_at, with_mark, dispatch, world_step, step_of}
use Rattle.ballot.specs.Greatest.{IsIn}
use Rattle.protocol.proofs.Lists.{IsIn-before, IsIn-after, filter_kept}
use Rattle.safety.proofs.World.Growth.{same_node}
use Rattle.safety.proofs.World.NodePlaces.{node_there, node_elsewhere, opening_node}
use Rattle.safety.proofs.World.Outcomes.{KeepsFacts, step_is}
use Rattle.history.specs.Heard.{is_leader, is_leader_restart, came_at, came_since}
use Rattle.history.proofs.Runs.{IsRun, AtFirst, Then}
use Rattle.history.proofs.Datagrams.{line_of, sent_is}

-- ---- the rules of a leader

-- what is heard then was heard before, or is among these
abbrev IsHeardFrom : LeaderMemory → List Kind → LeaderMemory → Type 0
IsHeardFrom old came new = (m : Kind) → IsIn new.heard m → IsIn old.heard m ⊎ IsIn came m

hears_all : (messages : List Kind) (memory : LeaderMemory) → IsHeardFrom memory messages (with_all_heard messages memory)
hears_all [] memory m h = inl h
hears_all (first ∷ rest) memory m h =
    elim (hears_all rest (if is_counted memory.heard first then memory else with_heard first memory) m h) [
      | inl old ↦
          cond_both (is_counted memory.heard first) memory (with_heard first memory)
          (λ (k : LeaderMemory). IsIn k.heard m → IsIn memory.heard m ⊎ IsIn (first ∷ rest) m) (λ counted g. inl g)
          (λ new g. elim g [ inl e ↦ inr (inl e) | inr was ↦ inl was ]) old
      | inr new ↦ inr (inr new)
    ]

met_heard : (tx : TxParts) (memory : LeaderMemory) → (with_met tx memory).heard ≡ memory.heard
met_heard tx memory =
    cond_both (list_any (tx_eq tx) memory.met) memory (record memory { met = tx ∷ memory.met })
    (λ (k : LeaderMemory). k.heard ≡ memory.heard) (λ known. refl) (λ new. refl)

met_from : (tx : TxParts) (memory : LeaderMemory) (came : List Kind) → IsHeardFrom memory came (with_met tx memory)
met_from tx memory came m h = inl (subst (λ (ms : List Kind). IsIn ms m) (met_heard tx memory) h)

module _ (config : Config) (l : ℕ) (stored : StoredBallots) (memory : LeaderMemory) where
  abbrev Hears : List Kind → Effect LeaderMemory → Type 0
  Hears came e = IsHeardFrom memory came e.memory

  reports_heard : (tx : TxParts) (b a : ℕ) (reports : List InstanceReport)
      → Hears (report_messages tx b a reports) (on_1b config stored memory tx b a reports)
  reports_heard tx b a reports =
      cond_both (is_final (status_of config.acceptors stored memory tx) || not (is_current memory tx b)) _ _
      (Hears (report_messages tx b a reports)) (λ late m h. inl h) (λ counts. hears_all (report_messages tx b a reports) memory)

  accepts_heard : (tx : TxParts) (a : ℕ) (accepts : List InstanceAccept)
      → Hears (accept_messages_of tx a accepts) (on_2b config stored memory tx a accepts)
  accepts_heard tx a accepts =
      cond_both (is_final (status_of config.acceptors stored memory tx)) _ _ (Hears (accept_messages_of tx a accepts))
      (λ late. met_from tx memory (accept_messages_of tx a accepts))
      (λ counts m h. elim (hears_all (accept_messages_of tx a accepts) (with_met tx memory) m h) [
        | inl old ↦ met_from tx memory (accept_messages_of tx a accepts) m old
        | inr new ↦ inr new
      ])

  message_heard : (m : Kind) → Hears (unbundled m) (on_leader_message config stored memory m)
  message_heard (kinds.P1b tx i b report a) = reports_heard tx b a (record { instance = i; report = report } ∷ [])
  message_heard (kinds.B1b tx b a reports) = reports_heard tx b a reports
  message_heard (kinds.P2b tx i b v a) = accepts_heard tx a (record { instance = i; ballot = b; vote = v } ∷ [])
  message_heard (kinds.B2b tx a accepts) = accepts_heard tx a accepts
  message_heard (kinds.Ask tx rm) = met_from tx memory (unbundled (kinds.Ask tx rm))
  message_heard message = λ m h. inl h

  commit_heard : (tx : TxParts) → Hears [] (on_commit_call config stored memory tx)
  commit_heard tx = cond_both (is_inside config tx) _ _ (Hears []) (λ inside. met_from tx memory []) (λ outside m h. inl h)

  timeout_heard : (tx : TxParts) → Hears [] (on_leader_timeout config l stored memory tx)
  timeout_heard tx = cond_both (not (is_inside config tx)) _ _ (Hears []) (λ outside m h. inl h)
      (λ inside. cond_both (is_final (status_of config.acceptors stored memory tx)) _ _ (Hears []) (λ final. met_from tx memory [])
      (λ undecided. cond_both (nat_lt (next_of config.leaders l (stored tx)) (2 ^ 32)) _ _ (Hears [])
      (λ some m h. met_from tx memory [] m (filter_kept _ (with_met tx memory).heard m h).0) (λ none m h. inl h)))

-- what an input brings
abbrev brought : Input → List Kind
brought (Received m) = unbundled m
brought input = []

effect_heard : (config : Config) (l : ℕ) (facts : List Fact) (memory : Memory) (input : Input)
    → IsHeardFrom memory.leader (brought input) (effect_of config (L l) facts memory input).memory.leader
effect_heard config l facts memory (Received m) = cond_both (is_message_inside config m) _ _
    (λ (e : Effect Memory). IsHeardFrom memory.leader (unbundled m) e.memory.leader)
    (λ inside. message_heard config l (last_ballot facts) memory.leader m) (λ outside k h. inl h)
effect_heard config l facts memory (Asked (Request.Commit tx)) = commit_heard config l (last_ballot facts) memory.leader tx
effect_heard config l facts memory (Asked (Request.Status tx)) = λ m h. inl h
effect_heard config l facts memory (Asked (Timeout tx)) = timeout_heard config l (last_ballot facts) memory.leader tx
effect_heard config l facts memory (Asked (Call x action)) = λ m h. inl h
effect_heard config l facts memory (Asked Recover) = λ m h. inl h
effect_heard config l facts memory (Asked (Request.View tx)) = λ m h. inl h
effect_heard config l facts memory ReceivedNoise = λ m h. inl h

-- ---- at the leader

-- what an event leaves of what a leader has heard: nothing, where it was restarted; else what it had, and what came
abbrev Hearing : Bool → LeaderMemory → List Kind → LeaderMemory → Type 0
Hearing restarted old came new = (m : Kind) → IsIn new.heard m → (restarted ≡ false) × (IsIn old.heard m ⊎ IsIn came m)

nothing_left : (restarted : Bool) (old : LeaderMemory) (came : List Kind) (new : Memory) → new ≡ empty_memory
    → Hearing restarted old came new.leader
nothing_left restarted old came new e m h = absurd (subst (λ (k : Memory). IsIn k.leader.heard m) e h)

all_left : (old : LeaderMemory) (came : List Kind) (new : LeaderMemory) → new ≡ old → Hearing false old came new
all_left old came new e m h = (refl, inl (subst (λ (k : LeaderMemory). IsIn k.heard m) e h))

step_hears : (config : Config) (l : ℕ) (node : NodeState) (input : Input) (fault : Fault)
    → Hearing false node.memory.leader (brought input) (node_step config (L l) node input fault).node.memory.leader
step_hears config l node input fault =
    let left = node_step config (L l) node input fault in
    elim (step_is config (L l) node input fault) [
      | inl keeps ↦ kept_hears left keeps
      | inr (inl stopped) ↦ nothing_left false node.memory.leader (brought input) left.node.memory stopped.memory
      | inr (inr finished) ↦ λ m h. (
        refl,
        effect_heard config l node.facts node.memory input m
            (subst (λ (k : Memory). IsIn k.leader.heard m) finished.memory h),
      )
    ]
  where
    kept_hears : (left : Outcome) → KeepsFacts node left → Hearing false node.memory.leader (brought input) left.node.memory.leader
    kept_hears left keeps = elim keeps.memory [
      | inl same ↦ all_left node.memory.leader (brought input) left.node.memory.leader (ap (λ (k : Memory). k.leader) same)
      | inr gone ↦ nothing_left false node.memory.leader (brought input) left.node.memory gone
    ]

restart_hears : (config : Config) (l : ℕ) (node : NodeState) (fault : Fault) (restarted : Bool)
    → Hearing restarted node.memory.leader [] (restart_outcome config (L l) node fault).node.memory.leader
restart_hears config l node NoMemoryAt restarted = λ m h. absurd h
restart_hears config l node (RecordFails whole) restarted = λ m h. absurd h
restart_hears config l node fault restarted = cond_both (all_play config (L l) [] node.facts) _ _
    (λ (left : Outcome). Hearing restarted node.memory.leader [] left.node.memory.leader) (λ plays m h. absurd h) (λ damaged m h. absurd h)

compact_hears : (node : NodeState) (fault : Fault) → Hearing false node.memory.leader [] (compact_outcome node fault).node.memory.leader
compact_hears node NoMemoryAt = λ m h. absurd h
compact_hears node (RecordFails whole) = λ m h. absurd h
compact_hears node fault = all_left node.memory.leader [] node.memory.leader refl

-- ---- in the world

-- the memory of a leader as it stands in a world
abbrev pub leader_in : Config → World → ℕ → LeaderMemory
leader_in config world l = (unwrap_or (node_at config world (L l)) new_node).memory.leader

other_leader : (l : ℕ) (who : NodeId) → (L l ≡ who → ⊥) → is_leader l who ≡ false
other_leader l (A a) apart = refl
other_leader l (R r) apart = refl
other_leader l (L k) apart = ne_eqb k l (λ e. apart (ap L (sym e)))

no_restart : (l : ℕ) (event : Event) (e : Refusal) → is_leader_restart l event (Refused e) ≡ false
no_restart l (Restart who) e = refl
no_restart l event e = refl

other_restart : (l : ℕ) (who : NodeId) (answer : Answer) → is_leader l who ≡ false → is_leader_restart l (Restart who) answer ≡ false
other_restart l who Done e = e
other_restart l who answer e = refl

-- what an event does to leader l, where these messages come to it
abbrev Heard : List Kind → Config → World → ℕ → Event → StepResult → Type 0
Heard came config world l event result =
    Hearing (is_leader_restart l event result.answer) (leader_in config world l) came (leader_in config result.world l)

module _ (config : Config) (world : World) (l : ℕ) where
  unheard : (came : List Kind) (event : Event) (result : StepResult) → is_leader_restart l event result.answer ≡ false
      → leader_in config result.world l ≡ leader_in config world l → Heard came config world l event result
  unheard came event result restart same m h = (restart, inl (subst (λ (k : LeaderMemory). IsIn k.heard m) same h))

  outcome_hears : (came : List Kind) (who : NodeId) (node : NodeState) (left : Outcome) (event : Event)
      → node_at config world who ≡ Some node
      → (L l ≡ who → Hearing (is_leader_restart l event left.answer) node.memory.leader came left.node.memory.leader)
      → (is_leader l who ≡ false → is_leader_restart l event left.answer ≡ false)
      → Heard came config world l event (outcome_result config world who node.facts left)
  outcome_hears came who node left event stands here away = elim (same_node (L l) who) [
    | inl same ↦
        let memory_of = λ (o : Option NodeState). (unwrap_or o new_node).memory.leader in
        let was : node.memory.leader ≡ leader_in config world l = sym (ap memory_of (ap (node_at config world) same ∙ stands)) in
        let is : left.node.memory.leader ≡ leader_in config after l =
        sym (ap memory_of (ap (node_at config after) same ∙ node_there config world who node left.node stands)) in
        subst (λ (k : LeaderMemory). Hearing (is_leader_restart l event left.answer) k came (leader_in config after l)) was
        (subst (λ (k : LeaderMemory). Hearing (is_leader_restart l event left.answer) node.memory.leader came k) is (here same))
    | inr apart ↦
        unheard came event (outcome_result config world who node.facts left) (away (other_leader l who apart))
        (ap (λ (o : Option NodeState). (unwrap_or o new_node).memory.leader)
        (node_elsewhere config world who (L l) left.node apart))
  ]
    where
      after : World
      after = (outcome_result config world who node.facts left).world

  found_hears : {X : Type 0} (came : List Kind) (o : Option X) (f : X → StepResult) (event : Event)
      → ((x : X) → o ≡ Some x → Heard came config world l event (f x)) → Heard came config world l event (if_found world f o)
  found_hears came None f event hears = unheard came event (answer_result world (Refused NoSuch)) (no_restart l event NoSuch) refl
  found_hears came (Some x) f event hears = hears x refl

  input_hears : (came : List Kind) (who : NodeId) (input : Input) (fault : Fault) (event : Event)
      → ((answer : Answer) → is_leader_restart l event answer ≡ false) → (L l ≡ who → came ≡ brought input)
      → Heard came config world l event (at_node config world who input fault)
  input_hears came who input fault event none comes = found_hears came (node_at config world who)
      (λ node. outcome_result config world who node.facts (node_step config who node input fault)) event
      (λ node stands. outcome_hears came who node (node_step config who node input fault) event stands
      (λ same m h.
      let hears = subst (λ (n : NodeId). Hearing false node.memory.leader (brought input)
      (node_step config n node input fault).node.memory.leader) same (step_hears config l node input fault) in
      let is = hears m h in (
        none (node_step config who node input fault).answer,
        elim is.1 [
          | inl old ↦ inl old
          | inr new ↦ inr (subst (λ (ms : List Kind). IsIn ms m) (sym (comes same)) new)
        ],
      ))
      (λ apart. none (node_step config who node input fault).answer))

  armed_leader : (who : NodeId) (n : ℕ) (node : NodeState) → node_at config world who ≡ Some node
      → leader_in config (set_node config world who (record node { tear = Some n })) l ≡ leader_in config world l
  armed_leader who n node stands = elim (same_node (L l) who) [
    | inl same ↦
        ap memory_of (ap (node_at config after) same ∙ node_there config world who node new stands)
        ∙ sym (ap memory_of (ap (node_at config world) same ∙ stands))
    | inr apart ↦ ap memory_of (node_elsewhere config world who (L l) new apart)
  ]
    where
      memory_of : Option NodeState → LeaderMemory
      memory_of o = (unwrap_or o new_node).memory.leader

      new : NodeState
      new = record node { tear = Some n }

      after : World
      after = set_node config world who new

-- what a datagram brings to leader l
abbrev brings : ℕ → Option Datagram → List Kind
brings l o = option_map_or (λ d. if is_leader l d.receiver then unbundled d.message else []) o []

brought_by : (l n : ℕ) (o : Option Datagram)
    → option_map_or (λ (s : Sent). if is_leader l s.receiver then unbundled s.message else []) (option_map (line_of n) o) [] ≡ brings l o
brought_by l n None = refl
brought_by l n (Some d) = refl

module _ (config : Config) (world : World) (before : List Step) (l : ℕ) (run : IsRun config world before) where
  came_is : (n : ℕ) → came_at l before (Deliver n) ≡ brings l (datagram_at world.net n)
  came_is n =
      ap (λ (o : Option Sent). option_map_or (λ s. if is_leader l s.receiver then unbundled s.message else []) o [])
      (sent_is config world before run n) ∙ brought_by l n (datagram_at world.net n)

  delivers : (n : ℕ) (fault : Fault) (o : Option Datagram) → Heard (brings l o) config world l (Deliver n)
      (if_found world (λ d. at_node config (with_mark world n) d.receiver (Received d.message) fault) o)
  delivers n fault None = unheard config world l [] (Deliver n) (answer_result world (Refused NoSuch)) refl refl
  delivers n fault (Some d) =
      input_hears config (with_mark world n) l (brings l (Some d)) d.receiver (Received d.message) fault (Deliver n) (λ answer. refl)
      (λ same. ap (λ (b : Bool). if b then unbundled d.message else []) (ap (is_leader l) (sym same) ∙ eq-eqb l l refl))

  dispatch_hears : (event : Event) (fault : Fault)
      → Heard (came_at l before event) config world l event (dispatch config world event fault)
  dispatch_hears (Ask who request) fault =
      input_hears config world l [] who (Asked request) fault (Ask who request) (λ answer. refl) (λ same. refl)
  dispatch_hears (Deliver n) fault =
      subst (λ (ms : List Kind). Heard ms config world l (Deliver n) (dispatch config world (Deliver n) fault)) (sym (came_is n))
      (delivers n fault (datagram_at world.net n))
  dispatch_hears (Lose n) fault = found_hears config world l [] (datagram_at world.net n)
      (λ d. answer_result (with_mark world n) Done) (Lose n)
      (λ d is. unheard config world l [] (Lose n) (answer_result (with_mark world n) Done) refl refl)
  dispatch_hears (Cut n k) fault = found_hears config world l [] (datagram_at world.net n)
      (λ d. if nat_lt k (length (spelling d.message)) then at_node config world d.receiver ReceivedNoise fault
      else answer_result world (Refused NoSuch)) (Cut n k)
      (λ d is. cond_both (nat_lt k (length (spelling d.message))) (at_node config world d.receiver ReceivedNoise fault)
      (answer_result world (Refused NoSuch)) (Heard [] config world l (Cut n k))
      (λ fewer. input_hears config world l [] d.receiver ReceivedNoise fault (Cut n k) (λ answer. refl) (λ same. refl))
      (λ all. unheard config world l [] (Cut n k) (answer_result world (Refused NoSuch)) refl refl))
  dispatch_hears (Noise who bytes) fault = cond_both (spells_message bytes)
      (if_found world (λ node. answer_result world (Refused Forged)) (node_at config world who))
      (at_node config world who ReceivedNoise fault) (Heard [] config world l (Noise who bytes))
      (λ spelled. found_hears config world l [] (node_at config world who) (λ node. answer_result world (Refused Forged))
      (Noise who bytes) (λ node is. unheard config world l [] (Noise who bytes) (answer_result world (Refused Forged)) refl refl))
      (λ garbled. input_hears config world l [] who ReceivedNoise fault (Noise who bytes) (λ answer. refl) (λ same. refl))
  dispatch_hears (Tear who n) fault = found_hears config world l [] (node_at config world who)
      (λ node. answer_result (set_node config world who (record node { tear = Some n })) Done) (Tear who n)
      (λ node stands. unheard config world l [] (Tear who n)
      (answer_result (set_node config world who (record node { tear = Some n })) Done) refl (armed_leader config world l who n node stands))
  dispatch_hears (Restart who) fault = found_hears config world l [] (node_at config world who)
      (λ node. outcome_result config world who node.facts (restart_outcome config who node fault)) (Restart who)
      (λ node stands. outcome_hears config world l [] who node (restart_outcome config who node fault) (Restart who) stands
      (λ same. subst (λ (n : NodeId). Hearing (is_leader_restart l (Restart n) (restart_outcome config n node fault).answer)
      node.memory.leader [] (restart_outcome config n node fault).node.memory.leader) same (restart_hears config l node fault _))
      (λ other. other_restart l who (restart_outcome config who node fault).answer other))
  dispatch_hears (Compact who) fault = found_hears config world l [] (node_at config world who)
      (λ node. if node.up then outcome_result config world who node.facts (compact_outcome node fault)
      else answer_result world (Refused Down)) (Compact who)
      (λ node stands. cond_both node.up (outcome_result config world who node.facts (compact_outcome node fault))
      (answer_result world (Refused Down)) (Heard [] config world l (Compact who))
      (λ up. outcome_hears config world l [] who node (compact_outcome node fault) (Compact who) stands
      (λ same. compact_hears node fault) (λ apart. refl))
      (λ down. unheard config world l [] (Compact who) (answer_result world (Refused Down)) refl refl))
  dispatch_hears event fault = unheard config world l [] event (answer_result world (Refused NoSuch)) refl refl

  event_hears : (event : Event) (fault : Fault)
      → Heard (came_at l before event) config world l event (world_step config world event fault)
  event_hears event NoMemoryBefore =
      unheard config world l (came_at l before event) event (answer_result world (Refused NoMemory)) (no_restart l event NoMemory) refl
  event_hears event fault = dispatch_hears event fault

-- ---- runs

first_memory : (o : Option NodeState) → ((node : NodeState) → o ≡ Some node → new_node ≡ node)
    → (unwrap_or o new_node).memory.leader ≡ new_node.memory.leader
first_memory None each = refl
first_memory (Some node) each = sym (ap (λ (n : NodeState). n.memory.leader) (each node refl))

came_more : (l : ℕ) (step : Step) (before : List Step) (m : Kind) → is_leader_restart l step.event step.answer ≡ false
    → IsIn (came_since l before) m ⊎ IsIn (came_at l before step.event) m → IsIn (came_since l (step ∷ before)) m
came_more l step before m restart h =
    subst (λ (b : Bool). IsIn (if b then [] else came_at l before step.event ++ came_since l before) m) (sym restart)
    (elim h [
      | inl old ↦ IsIn-after (came_at l before step.event) (came_since l before) m old
      | inr new ↦ IsIn-before (came_at l before step.event) (came_since l before) m new
    ])

-- what a leader has heard is among what came to it since its last restart
pub heard_ever : (config : Config) (world : World) (before : List Step) (l : ℕ) → IsRun config world before
    → (m : Kind) → IsIn (leader_in config world l).heard m → IsIn (came_since l before) m
heard_ever config _ _ l AtFirst m h =
    subst (λ (k : LeaderMemory). IsIn k.heard m)
    (first_memory (node_at config (opening config) (L l)) (λ node is. opening_node config (L l) node is)) h
heard_ever config _ _ l (Then world before event fault run) m h =
    let result = world_step config world event fault in
    let is = event_hears config world before l run event fault m h in
    came_more l (step_of world event result) before m is.0
    (elim is.1 [ inl old ↦ inl (heard_ever config world before l run m old) | inr new ↦ inr new ])

pub heard_of : (config : Config) (world : World) (before : List Step) (l : ℕ) → IsRun config world before → (node : NodeState)
    → node_at config world (L l) ≡ Some node → (m : Kind) → IsIn node.memory.leader.heard m → IsIn (came_since l before) m
heard_of config world before l run node stands m h =
    heard_ever config world before l run m
    (subst (λ (o : Option NodeState). IsIn (unwrap_or o new_node).memory.leader.heard m) (sym stands) h)
