-- One event in a world that well-formed events lead to: what came of it is what a trace may tell.
use Rattle.std.proofs.Common.{◌≡◌, ℕ, zero, suc, ◌+◌, ◌<◌, ◌≤◌, false, not, ◌^◌, if◌then◌else◌, List, [], ◌∷◌, length}
use Rattle.std.proofs.Common.{Option, Some, None, inl, inr, refl, sym, subst, arith, nat_lt, length-append}
use Rattle.std.specs.Prelude.{slice_get, ◌==◌}
use Rattle.std.specs.List.{AllByRecursion, flat_map, range_with_len}
use Rattle.std.specs.Option.{ForSome, option_and_then}
use Rattle.std.proofs.lemmas.Bool.{cond_both, eqb-true, ltb-true}
use Rattle.std.proofs.lemmas.List.Elements.{All-from_recursion, recursion_from_All}
use Rattle.xid.specs.Limits.{most_managers}
use Rattle.xid.specs.Transactions.{TxParts, BranchParts, IsBranch, IsTx, is_at, participants, xid_at}
use Rattle.xid.specs.declared.refusals.Refusal.TheVariants.{Down, Forged, NoMemory, NoSuch}
use Rattle.wire.specs.Decoding.{spells_message}
use Rattle.wire.specs.Grammar.{spelling}
use Rattle.wire.specs.Messages.{IsInstance, IsMessage, message_tx}
use Rattle.wire.proofs.Fields.{tx_valid}
use Rattle.ballot.specs.Greatest.{IsIn}
use Rattle.stable_record.specs.Facts.{IsFact, fact_tx}
use Rattle.stable_record.specs.declared.fact.FactKind.{FactKind as Fact}
use Rattle.stable_record.specs.declared.fact.FactKind.TheVariants as stored
use Rattle.safety.specs.Vocabulary.{NodeId, A, L, R, Address, Node, Acceptors, Leaders, Managers, Outgoing, Answer, Done, Refused}
use Rattle.safety.specs.Vocabulary.{Request, Call, Recover, Timeout, Event, Ask, Deliver, Lose, Cut, Noise, Tear, Restart, Compact}
use Rattle.safety.specs.Vocabulary.{Change}
use Rattle.protocol.specs.Effects.{Config, Effect, receivers}
use Rattle.protocol.specs.Facts.{last_ballot, slot, view}
use Rattle.protocol.specs.Nodes.{Memory, NodeState, Input, Asked, Received, ReceivedNoise, Fault, NoMemoryAt, NoMemoryBefore, RecordFails}
use Rattle.protocol.specs.Nodes.{Outcome, accepts_input, all_play, compact_outcome, down_answer, effect_of, effect_outcome, first_rows}
use Rattle.protocol.specs.Nodes.{is_message_inside, node_step, restart_outcome}
use Rattle.protocol.specs.Tables.{table}
use Rattle.protocol.specs.Worlds.{World, Datagram, StepResult, node_at, set_node, answer_result, datagrams_of, view_number, change_of}
use Rattle.protocol.specs.Worlds.{outcome_result, if_found, at_node, datagram_at, with_mark, dispatch, world_step, numbered, step_of}
use Rattle.protocol.proofs.Lists.{IsIn-after, IsIn-joined, IsIn-mapped, all_in, any_found, only_one}
use Rattle.safety.specs.Forms as forms
use Rattle.safety.proofs.WellFormed.Runs.{IsWellWorld}
use Rattle.safety.proofs.WellFormed.Nodes.{IsInput, IsWellNode}
use Rattle.safety.proofs.World.Events.{datagram_among, slice_among}
use Rattle.safety.proofs.World.NodePlaces.{node_there}
use Rattle.history.proofs.Datagrams.{marked_length}
use Rattle.net_script.specs.declared.values.Entry.{Entry}
use Rattle.net_script.specs.Answers.{IsAnswer}
use Rattle.net_script.specs.Events.{IsEvent, IsNode}
use Rattle.net_script.specs.TraceLines.{IsChange, IsNotice, IsSent}
use Rattle.protocol.specs.declared.events.Told.{Told as Notice}
use Rattle.net_script.specs.TraceReading.{IsEntry}
use Rattle.run_traces.proofs.Managers as managers
use Rattle.run_traces.specs.Machine.{IsLimited}
use Rattle.run_traces.proofs.Nodes.{AreAddressed, IsAddress, IsTellable, acceptor_tells, commit_tells, leader_tells, status_tells}
use Rattle.run_traces.proofs.Nodes.{timeout_tells}
use Rattle.run_traces.proofs.Rows.{KeepLimits, table_keeps}

-- ---- numbers and transactions

-- a participant of a transaction is a resource manager that words can name
instance_below : (tx : TxParts) (rm : ℕ) → IsInstance tx rm → rm < most_managers
instance_below tx rm of =
    let at = any_found (is_at rm) tx.branches of.named in
    let fits = all_in IsBranch tx.branches (recursion_from_All IsBranch tx.branches of.valid.branches.each) at.element at.among in
    subst (λ (n : ℕ). n < most_managers) (eqb-true at.element.rm rm at.passes) fits.rm

participant_below : (tx : TxParts) (rm : ℕ) → IsTx tx → IsIn (participants tx) rm → rm < most_managers
participant_below tx rm is h =
    let at = IsIn-mapped (λ (b : BranchParts). b.rm) tx.branches rm h in
    let fits = all_in IsBranch tx.branches (recursion_from_All IsBranch tx.branches is.branches.each) at.source at.among in
    subst (λ (n : ℕ). n < most_managers) at.maps fits.rm

pub number_below : (from count n : ℕ) → IsIn (range_with_len from count) n → n < from + count
number_below from zero n h = absurd h
number_below from (suc count) n (inl e) = omega (arith, e)
number_below from (suc count) n (inr h) = let below = number_below (from + 1) count n h in omega (arith, below)

fact_valid : (fact : Fact) → IsFact fact → IsTx (fact_tx fact)
fact_valid (stored.Promise tx i b) is = is.0
fact_valid (stored.Accept tx i b v) is = is.0
fact_valid (stored.Ballot tx b) is = is.0
fact_valid (stored.VotePrepared tx keys) is = is.0
fact_valid (stored.VoteAborted tx) is = is
fact_valid (stored.Committed tx) is = is
fact_valid (stored.Aborted tx) is = is
fact_valid (stored.PromiseAll tx b) is = is.0

-- ---- one input at one node

-- what a node answers, and where it sends
record IsTellableOutcome (left : Outcome) : Type 0 where
  answer : IsAnswer left.answer
  sends : AreAddressed left.sends

down_is : (input : Input) → IsAnswer (down_answer input)
down_is (Asked (Call x action)) = tt
down_is (Asked Recover) = tt
down_is (Asked (Request.View tx)) = tt
down_is input = tt

settled_tells : (node : NodeState) (e : Effect Memory) (fact : Option Fact) (tear : Option ℕ) (fault : Fault) → IsTellable e
    → IsTellableOutcome (effect_outcome node e fact tear fault)
settled_tells node e None tear NoMemoryAt is = record { answer = tt; sends = tt }
settled_tells node e (Some fact) tear NoMemoryAt is = record { answer = tt; sends = tt }
settled_tells node e None tear fault is = record { answer = is.answer; sends = is.sends }
settled_tells node e (Some fact) (Some n) fault is = record { answer = tt; sends = tt }
settled_tells node e (Some fact) None (RecordFails whole) is = record { answer = tt; sends = tt }
settled_tells node e (Some fact) None fault is = record { answer = is.answer; sends = is.sends }

restart_tells : (config : Config) (who : NodeId) (node : NodeState) (fault : Fault)
    → IsTellableOutcome (restart_outcome config who node fault)
restart_tells config who node NoMemoryAt = record { answer = tt; sends = tt }
restart_tells config who node (RecordFails whole) = record { answer = tt; sends = tt }
restart_tells config who node fault = cond_both (all_play config who [] node.facts) _ _ IsTellableOutcome
    (λ plays. record { answer = tt; sends = tt }) (λ damaged. record { answer = tt; sends = tt })

compact_tells : (node : NodeState) (fault : Fault) → IsTellableOutcome (compact_outcome node fault)
compact_tells node NoMemoryAt = record { answer = tt; sends = tt }
compact_tells node (RecordFails whole) = record { answer = tt; sends = tt }
compact_tells node fault = record { answer = tt; sends = tt }

module _ (config : Config) (limits : IsLimited config) (first : (rm : ℕ) → KeepLimits (first_rows config rm)) where
  abbrev Tells : Effect Memory → Type 0
  Tells = λ (e : Effect Memory). IsTellable e

  effect_tells : (who : NodeId) (node : NodeState) → IsWellNode node → (input : Input) → IsInput input
      → IsTellable (effect_of config who node.facts node.memory input)
  effect_tells (A a) node well (Received message) is = cond_both (is_message_inside config message) _ _ Tells
      (λ inside. let told = acceptor_tells config limits a (slot node.facts) message in
      record { answer = told.answer; sends = told.sends })
      (λ outside. record { answer = tt; sends = tt })
  effect_tells (L l) node well (Received message) is = cond_both (is_message_inside config message) _ _ Tells
      (λ inside. let told = leader_tells config (last_ballot node.facts) node.memory.leader message (λ tx rm e.
      let below = instance_below tx rm (subst IsMessage e is) in omega (arith, below)) in
      record { answer = told.answer; sends = told.sends })
      (λ outside. record { answer = tt; sends = tt })
  effect_tells (R rm) node well (Received message) is = cond_both (is_message_inside config message) _ _ Tells
      (λ inside. let told = managers.manager_tells config rm node.facts node.memory.branches well.held well.stored
      (xid_at (message_tx message) rm) message in
      record { answer = told.answer; sends = told.sends })
      (λ outside. record { answer = tt; sends = tt })
  effect_tells (L l) node well (Asked (Request.Commit tx)) is =
      let told = commit_tells config (last_ballot node.facts) node.memory.leader tx in
      record { answer = told.answer; sends = told.sends }
  effect_tells (L l) node well (Asked (Request.Status tx)) is =
      let told = status_tells config (last_ballot node.facts) node.memory.leader tx in
      record { answer = told.answer; sends = told.sends }
  effect_tells (L l) node well (Asked (Timeout tx)) is =
      let told = timeout_tells config (last_ballot node.facts) node.memory.leader l tx in
      record { answer = told.answer; sends = told.sends }
  effect_tells (R rm) node well (Asked (Call x action)) is =
      let told = managers.call_tells config rm node.facts node.memory.branches well.held well.stored
      (table (first_rows config rm) node.facts) (table_keeps node.facts well.stored (first_rows config rm) (first rm)) x action in
      record { answer = told.answer; sends = told.sends }
  effect_tells (R rm) node well (Asked Recover) is =
      let told = managers.recover_tells config rm node.facts node.memory.branches well.held well.stored in
      record { answer = told.answer; sends = told.sends }
  effect_tells (R rm) node well (Asked (Request.View tx)) is =
      let told = managers.view_tells config rm node.facts node.memory.branches well.held well.stored tx in
      record { answer = told.answer; sends = told.sends }
  effect_tells (R rm) node well (Asked (Timeout tx)) is =
      let told = managers.timeout_tells config rm node.facts node.memory.branches well.held well.stored tx in
      record { answer = told.answer; sends = told.sends }
  effect_tells who node well input is = record { answer = tt; sends = tt }

  step_tells : (who : NodeId) (node : NodeState) → IsWellNode node → (input : Input) (fault : Fault) → IsInput input
      → IsTellableOutcome (node_step config who node input fault)
  step_tells who node well input fault is =
      let e = effect_of config who node.facts node.memory input in
      cond_both (not (accepts_input who input)) _ _ IsTellableOutcome (λ other. record { answer = tt; sends = tt })
      (λ taken. cond_both (not node.up) _ _ IsTellableOutcome (λ down. record { answer = down_is input; sends = tt })
      (λ up. settled_tells node e e.fact node.tear fault (effect_tells who node well input is)))

  -- ---- names of nodes

  named_inside : (world : World) (who : NodeId) (node : NodeState) → node_at config world who ≡ Some node → IsNode who
  named_inside world (A a) node = cond_both (nat_lt a config.acceptors) (Some a) None
      (λ (place : Option ℕ). option_and_then (λ at. slice_get world.nodes at) place ≡ Some node → IsNode (A a))
      (λ inside is. let below = ltb-true a config.acceptors inside in omega (arith, below, limits.acceptors))
      (λ outside is. absurd (cc (is)))
  named_inside world (L l) node = cond_both (nat_lt l config.leaders) (Some (config.acceptors + l)) None
      (λ (place : Option ℕ). option_and_then (λ at. slice_get world.nodes at) place ≡ Some node → IsNode (L l))
      (λ inside is. let below = ltb-true l config.leaders inside in omega (arith, below, limits.leaders)) (λ outside is. absurd (cc (is)))
  named_inside world (R rm) node = cond_both (nat_lt rm config.managers) (Some (config.acceptors + config.leaders + rm)) None
      (λ (place : Option ℕ). option_and_then (λ at. slice_get world.nodes at) place ≡ Some node → IsNode (R rm))
      (λ inside is. let below = ltb-true rm config.managers inside in omega (arith, below, limits.managers))
      (λ outside is. absurd (cc (is)))

  receiver_named : (address : Address) (tx : TxParts) (receiver : NodeId) → IsAddress address → IsTx tx
      → IsIn (receivers config address tx) receiver → IsNode receiver
  receiver_named (Node node) tx receiver is valid h = only_one IsNode node is receiver h
  receiver_named Acceptors tx receiver is valid h =
      let at = IsIn-mapped A (range_with_len 0 config.acceptors) receiver h in
      let below = number_below 0 config.acceptors at.source at.among in
      let named : IsNode (A at.source) = omega (arith, below, limits.acceptors) in
      subst IsNode at.maps named
  receiver_named Leaders tx receiver is valid h =
      let at = IsIn-mapped L (range_with_len 0 config.leaders) receiver h in
      let below = number_below 0 config.leaders at.source at.among in
      let named : IsNode (L at.source) = omega (arith, below, limits.leaders) in
      subst IsNode at.maps named
  receiver_named Managers tx receiver is valid h =
      let at = IsIn-mapped R (participants tx) receiver h in
      let below = participant_below tx at.source valid at.among in
      let named : IsNode (R at.source) = omega (arith, below) in
      subst IsNode at.maps named

-- ---- what came of an event

-- a datagram of which a line may tell, but for its number
pub record IsPosted (d : Datagram) : Type 0 where
  pub sender : IsNode d.sender
  pub receiver : IsNode d.receiver
  pub message : IsMessage d.message

-- what came of an event in a world of so many datagrams
pub record IsTold (count : ℕ) (result : StepResult) : Type 0 where
  pub answer : IsAnswer result.answer
  pub change : ForSome result.now IsChange
  pub sent : (d : Datagram) → IsIn result.sent d → IsPosted d
  pub counted : length result.world.net ≡ count + length result.sent

pub silent : (count : ℕ) (world : World) (answer : Answer) → length world.net ≡ count → IsAnswer answer
    → IsTold count (answer_result world answer)
silent count world answer same is = record {
  answer = is;
  change = λ change e. absurd (cc (e));
  sent = λ d h. absurd h;
  counted = omega (arith, same);
}

change_by : (rm : ℕ) → rm < 256 → (before after : List Fact) → ((fact : Fact) → IsIn after fact → IsFact fact) → (o : Option Fact)
    → slice_get after (length before) ≡ o
    → ForSome (option_and_then (λ fact. let tx = fact_tx fact in
    if view_number (view before tx) == view_number (view after tx) then None
    else Some (record { rm = rm; tx = tx; view = view after tx })) o)
    IsChange
change_by rm named before after are None e = λ change is. absurd (cc (is))
change_by rm named before after are (Some fact) e =
    let tx = fact_tx fact in
    cond_both (view_number (view before tx) == view_number (view after tx)) None (Some (record { rm = rm; tx = tx; view = view after tx }))
    (λ (o : Option Change). ForSome o IsChange) (λ same change is. absurd (cc (is)))
    (λ moved change is.
    let said : record { rm = rm; tx = tx; view = view after tx } ≡ change = cc (is) in
    subst IsChange said (record { rm = named; tx = fact_valid fact (are fact (slice_among after (length before) fact e)) }))

change_is : (who : NodeId) → IsNode who → (before after : List Fact) → ((fact : Fact) → IsIn after fact → IsFact fact)
    → ForSome (change_of who before after) IsChange
change_is (A a) named before after are = λ change is. absurd (cc (is))
change_is (L l) named before after are = λ change is. absurd (cc (is))
change_is (R rm) named before after are = change_by rm named before after are (slice_get after (length before)) refl

module _ (config : Config) (limits : IsLimited config) (first : (rm : ℕ) → KeepLimits (first_rows config rm)) (count : ℕ) where
  -- what came of an event is told, where the world after it is well formed
  abbrev IsSo : StepResult → Type 0
  IsSo = λ (result : StepResult). IsWellWorld config result.world → IsTold count result

  found_told : {X : Type 0} (world : World) → length world.net ≡ count → (o : Option X) (f : X → StepResult)
      → ((x : X) → o ≡ Some x → IsSo (f x)) → IsSo (if_found world f o)
  found_told world same None f next = λ after. silent count world (Refused NoSuch) same tt
  found_told world same (Some x) f next = next x refl

  outcome_told : (world : World) → length world.net ≡ count → (who : NodeId) (node : NodeState) (left : Outcome)
      → node_at config world who ≡ Some node → IsTellableOutcome left → IsSo (outcome_result config world who node.facts left)
  outcome_told world same who node left is tells = λ after.
      let sent = flat_map (datagrams_of config who) left.sends in
      let named = named_inside config limits first world who node is in
      record {
        answer = tells.answer;
        change = change_is who named node.facts left.node.facts
            (after.nodes who left.node (node_there config world who node left.node is)).stored;
        sent = λ d h.
            let good = after.sent d (IsIn-after world.net sent d h) in
            let from = IsIn-joined (datagrams_of config who) left.sends d h in
            let address = from.source.to in
            let tx = message_tx from.source.message in
            let made : NodeId → Datagram = λ (receiver : NodeId). record
            { sender = who; receiver = receiver; message = from.source.message; marked = false } in
            let to = IsIn-mapped made (receivers config address tx) d from.inside in
            let valid = tx_valid from.source.message (subst (λ (x : Datagram). IsMessage x.message) (sym to.maps) good) in
            let receiver = receiver_named config limits first address tx to.source
            (all_in (λ (send : Outgoing). IsAddress send.to) left.sends tells.sends from.source from.among) valid to.among in
            record {
              sender = subst (λ (x : Datagram). IsNode x.sender) to.maps named;
              receiver = subst (λ (x : Datagram). IsNode x.receiver) to.maps receiver;
              message = good;
            };
        counted = omega (arith, same, length-append world.net sent);
      }

  -- an input at a node, where some datagram may just have been marked
  input_told : (world : World) → length world.net ≡ count
      → ((who : NodeId) (node : NodeState) → node_at config world who ≡ Some node → IsWellNode node)
      → (who : NodeId) (input : Input) (fault : Fault) → IsInput input → IsSo (at_node config world who input fault)
  input_told world same nodes who input fault is = found_told world same (node_at config world who)
      (λ node. outcome_result config world who node.facts (node_step config who node input fault))
      (λ node at. outcome_told world same who node (node_step config who node input fault) at
      (step_tells config limits first who node (nodes who node at) input fault is))

module _ (config : Config) (limits : IsLimited config) (first : (rm : ℕ) → KeepLimits (first_rows config rm)) (world : World)
    (well : IsWellWorld config world) where
  abbrev Told : StepResult → Type 0
  Told = IsSo config limits first (length world.net)

  found : {X : Type 0} (o : Option X) (f : X → StepResult) → ((x : X) → o ≡ Some x → Told (f x)) → Told (if_found world f o)
  found o f next = found_told config limits first (length world.net) world refl o f next

  reached : (who : NodeId) (input : Input) (fault : Fault) → IsInput input → Told (at_node config world who input fault)
  reached who input fault is = input_told config limits first (length world.net) world refl well.nodes who input fault is

  left : (who : NodeId) (node : NodeState) (outcome : Outcome) → node_at config world who ≡ Some node → IsTellableOutcome outcome
      → Told (outcome_result config world who node.facts outcome)
  left who node outcome at tells = outcome_told config limits first (length world.net) world refl who node outcome at tells

  does_told : (event : Event) (fault : Fault) → forms.IsEvent event → Told (dispatch config world event fault)
  does_told (Ask who request) fault is = reached who (Asked request) fault is
  does_told (Deliver n) fault is = found (datagram_at world.net n)
      (λ d. at_node config (with_mark world n) d.receiver (Received d.message) fault)
      (λ d at. input_told config limits first (length world.net) (with_mark world n) (marked_length world.net n) well.nodes d.receiver
      (Received d.message) fault (well.sent d (datagram_among world.net n d at)))
  does_told (Lose n) fault is = found (datagram_at world.net n) (λ d. answer_result (with_mark world n) Done)
      (λ d at after. silent (length world.net) (with_mark world n) Done (marked_length world.net n) tt)
  does_told (Cut n k) fault is = found (datagram_at world.net n) _
      (λ d at. cond_both (nat_lt k (length (spelling d.message))) (at_node config world d.receiver ReceivedNoise fault)
      (answer_result world (Refused NoSuch)) Told (λ fewer. reached d.receiver ReceivedNoise fault tt)
      (λ all after. silent (length world.net) world (Refused NoSuch) refl tt))
  does_told (Noise who bytes) fault is = cond_both (spells_message bytes)
      (if_found world (λ node. answer_result world (Refused Forged)) (node_at config world who))
      (at_node config world who ReceivedNoise fault) Told
      (λ spelled. found (node_at config world who) (λ node. answer_result world (Refused Forged))
      (λ node at after. silent (length world.net) world (Refused Forged) refl tt))
      (λ garbled. reached who ReceivedNoise fault tt)
  does_told (Tear who n) fault is = found (node_at config world who) _
      (λ node at after. silent (length world.net) (set_node config world who (record node { tear = Some n })) Done refl tt)
  does_told (Restart who) fault is = found (node_at config world who)
      (λ node. outcome_result config world who node.facts (restart_outcome config who node fault))
      (λ node at. left who node (restart_outcome config who node fault) at (restart_tells config who node fault))
  does_told (Compact who) fault is = found (node_at config world who) _
      (λ node at. cond_both node.up (outcome_result config world who node.facts (compact_outcome node fault))
      (answer_result world (Refused Down)) Told
      (λ up. left who node (compact_outcome node fault) at (compact_tells node fault))
      (λ down after. silent (length world.net) world (Refused Down) refl tt))
  does_told event fault is = λ after. silent (length world.net) world (Refused NoSuch) refl tt

  pub happens_told : (event : Event) (fault : Fault) → forms.IsEvent event → IsWellWorld config (world_step config world event fault).world
      → IsTold (length world.net) (world_step config world event fault)
  happens_told event NoMemoryBefore is after = silent (length world.net) world (Refused NoMemory) refl tt
  happens_told event fault is after = does_told event fault is after

-- ---- lines

numbered_are : (first : ℕ) (ds : List Datagram) → first + length ds ≤ 2 ^ 32 → ((d : Datagram) → IsIn ds d → IsPosted d)
    → AllByRecursion IsSent (numbered first ds)
numbered_are first [] few are = tt
numbered_are first (d ∷ ds) few are =
    let posted = are d (inl refl) in (
      record { number = omega (arith, few); sender = posted.sender; receiver = posted.receiver; message = posted.message },
      numbered_are (suc first) ds (omega (arith, few)) (λ x h. are x (inr h)),
    )

-- the lines of an event that a trace may tell of, where fewer datagrams than numbers were sent, and of its notices
pub step_is : (world : World) (event : Event) (result : StepResult) (notices : List Notice) → IsEvent event
    → IsTold (length world.net) result → length result.world.net < 2 ^ 32 → AllByRecursion IsNotice notices
    → IsEntry (Entry.Step (record (step_of world event result) { told = notices }))
step_is world event result notices is told few named = (
  is,
  record {
    answer_is = told.answer;
    change = told.change;
    datagrams = All-from_recursion IsSent (numbered (suc (length world.net)) result.sent)
        (numbered_are (suc (length world.net)) result.sent (omega (arith, told.counted, few)) told.sent);
  },
  All-from_recursion IsNotice notices named,
)
