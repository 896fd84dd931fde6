-- What one event does to one resource manager.
-- Needed by 12 files here; crates cluster and audit.
use Rattle.std.proofs.Common.{◌≡◌, inl, inr, ◌∙◌, ℕ, Bool, true, false, not, ◌&&◌, ◌==◌, if◌then◌else◌, eq-eqb, List, [], ◌∷◌, ◌++◌}
use Rattle.std.proofs.Common.{Option, Some, None, unwrap_or, refl, sym, ap, subst, nat_lt, nat_le}
use Rattle.std.specs.Prelude.{length, slice_get, is_some, IfSome}
use Rattle.std.specs.Option.{option_and_then, option_map_or}
use Rattle.std.proofs.lemmas.Bool.{cond_both, ne_eqb, and_left, not-false}
use Rattle.xid.specs.Names.{XidParts, xid_eq}
use Rattle.xid.specs.Transactions.{TxParts, xid_at}
use Rattle.xid.specs.declared.refusals.Refusal.{Refusal}
use Rattle.xid.specs.declared.refusals.Refusal.TheVariants.{NoSuch, Forged, NoMemory, Down, RecordFault, Damaged}
use Rattle.xid.specs.declared.codes.XaCode.TheVariants as codes
use Rattle.wire.specs.Decoding.{spells_message}
use Rattle.wire.specs.Grammar.{spelling}
use Rattle.wire.specs.declared.message.Kind.{Kind}
use Rattle.wire.specs.declared.message.Kind.TheVariants as kinds
use Rattle.wire.specs.Messages.{message_tx}
use Rattle.stable_record.specs.Facts.{fact_tx}
use Rattle.stable_record.specs.Frames.{frame_length}
use Rattle.stable_record.specs.declared.fact.FactKind.TheVariants as stored
use Rattle.protocol.specs.Basics.{Fact, Touched}
use Rattle.safety.specs.Vocabulary.{Change, NodeId, A, L, R, Answer, Done, Code, Refused, Event, Ask, Deliver, Lose, Cut, Noise, Tear}
use Rattle.safety.specs.Vocabulary.{Restart, Compact, Request, Call, Recover, Timeout, Action}
use Rattle.protocol.specs.Branches.{is_done}
use Rattle.protocol.specs.Effects.{Config, Effect, is_inside}
use Rattle.protocol.specs.Facts.{is_prepared_view, is_open_view, view, vote_in, is_ended, is_spent, with_fact}
use Rattle.protocol.specs.Managers.{Branch, branches_without, stored_votes, on_call, idle_keys, first_vote, on_prepare}
use Rattle.protocol.specs.Managers.{on_manager_message, on_manager_timeout}
use Rattle.protocol.specs.Nodes.{Memory, NodeState, new_node, Input, Asked, Received, ReceivedNoise, Fault, NoMemoryBefore}
use Rattle.protocol.specs.Nodes.{NoMemoryAt, RecordFails, is_message_inside, first_rows, effect_of, effect_outcome, node_step, down_answer}
use Rattle.protocol.specs.Nodes.{stopped_append, finished_append, down_node, empty_memory}
use Rattle.protocol.specs.Nodes.{accepts_input, answer_outcome, Outcome, all_play, restart_outcome, compact_outcome}
use Rattle.protocol.specs.Tables.{table}
use Rattle.protocol.specs.Worlds.{World, StepResult, node_at, set_node, change_of, outcome_result, answer_result, if_found, at_node}
use Rattle.protocol.specs.Worlds.{datagram_at, with_mark, dispatch, world_step, view_number}
use Rattle.protocol.specs.Holds.{AreApart}
use Rattle.protocol.proofs.Manager.Apart.{manager_stays_apart}
use Rattle.protocol.proofs.Manager.Effects.{IsManagerFact, manager_effect_is}
use Rattle.safety.proofs.World.Growth.{same_node}
use Rattle.safety.proofs.World.NodePlaces.{node_there, node_elsewhere}
use Rattle.history.specs.Lines.{change_here, change_stored}
use Rattle.history.specs.Calls.{call_done, is_restart}
use Rattle.history.proofs.Undone.{no_call_by, no_call_refused, no_restart_refused, undone_down}
use Rattle.history.proofs.Changes.{changes_view, change_said, none_said}

-- a resource manager as it stands in a world; outside the cluster it is as a new one
abbrev pub manager_in : Config → World → ℕ → NodeState
manager_in config world rm = unwrap_or (node_at config world (R rm)) new_node

-- the branches of a resource manager that aren't prepared
abbrev pub branches_of : NodeState → List Branch
branches_of node = node.memory.branches

-- the branches that a fact leaves in memory
abbrev pub left_by : ℕ → List Branch → Fact → List Branch
left_by rm branches (stored.Committed tx) = branches
left_by rm branches fact = option_map_or (branches_without branches) (xid_at (fact_tx fact) rm) branches

-- what an event says of manager rm that is no call there which was done, no restart and no change
pub record IsSilent (rm : ℕ) (event : Event) (answer : Answer) (now : Option Change) : Type 0 where
  pub change : option_and_then (change_here rm) now ≡ None
  pub calls : (x : XidParts) → call_done rm x event answer ≡ None
  pub restart : is_restart rm event answer ≡ false

-- nothing happens to it, but that it may go down
pub record IsQuiet (rm : ℕ) (old new : NodeState) (event : Event) (answer : Answer) (now : Option Change) : Type 0 where
  pub silent : IsSilent rm event answer now
  pub facts : new.facts ≡ old.facts
  pub kept : new.up ≡ true → (old.up ≡ true) × (branches_of new ≡ branches_of old)

-- it is restarted
pub record IsRestarted (rm : ℕ) (old new : NodeState) (event : Event) (answer : Answer) (now : Option Change) : Type 0 where
  pub change : option_and_then (change_here rm) now ≡ None
  pub calls : (x : XidParts) → call_done rm x event answer ≡ None
  pub restart : is_restart rm event answer ≡ true
  pub facts : new.facts ≡ old.facts
  pub left : branches_of new ≡ []

-- it is called, being up
pub record IsCalled (config : Config) (rm : ℕ) (old new : NodeState) (event : Event) (answer : Answer) (now : Option Change) : Type 0 where
  pub xid : XidParts
  pub action : Action
  pub change : option_and_then (change_here rm) now ≡ None
  pub is : event ≡ Ask (R rm) (Call xid action)
  pub up : old.up ≡ true
  pub facts : new.facts ≡ old.facts
  pub answered : answer
      ≡ (on_call rm (stored_votes rm old.facts) (table (first_rows config rm) old.facts) (branches_of old) xid action).answer
  pub left : branches_of new
      ≡ (on_call rm (stored_votes rm old.facts) (table (first_rows config rm) old.facts) (branches_of old) xid action).memory

-- it stores a fact by one of its rules, being up
pub record IsStored (config : Config) (rm : ℕ) (old new : NodeState) (event : Event) (answer : Answer) (now : Option Change) : Type 0 where
  pub fact : Fact
  pub input : Input
  pub rule : IsManagerFact rm old.facts (branches_of old) input fact
  pub change : option_and_then (change_here rm) now ≡ Some (change_stored rm fact)
  pub calls : (x : XidParts) → call_done rm x event answer ≡ None
  pub restart : is_restart rm event answer ≡ false
  pub up : old.up ≡ true
  pub facts : new.facts ≡ old.facts ++ fact ∷ []
  pub left : new.up ≡ true → branches_of new ≡ left_by rm (branches_of old) fact
  pub apart : all_play config (R rm) [] old.facts ≡ true → AreApart rm old.facts (branches_of old)
      → AreApart rm new.facts (left_by rm (branches_of old) fact)

-- one of these
pub data IsMove (config : Config) (rm : ℕ) (old new : NodeState) (event : Event) (answer : Answer) (now : Option Change) : Type 0 where
  Quiet : IsQuiet rm old new event answer now → IsMove config rm old new event answer now
  Restarted : IsRestarted rm old new event answer now → IsMove config rm old new event answer now
  Called : IsCalled config rm old new event answer now → IsMove config rm old new event answer now
  Stored : IsStored config rm old new event answer now → IsMove config rm old new event answer now

-- ---- events that are refused

-- a refusal, and the code of a node that is down, do nothing
silent_refused : (rm : ℕ) (event : Event) (e : Refusal) → IsSilent rm event (Refused e) None
silent_refused rm event e = record {
  change = refl;
  calls = λ x. no_call_refused rm x event e;
  restart = no_restart_refused rm event e;
}

-- ---- at other nodes

-- whatever an event at this node is answered, it is neither a call at manager rm nor its restart
record IsElsewhere (rm : ℕ) (event : Event) : Type 0 where
  calls : (x : XidParts) (answer : Answer) → call_done rm x event answer ≡ None
  restart : (answer : Answer) → is_restart rm event answer ≡ false

other_change : (rm : ℕ) (who : NodeId) (before after : List Fact) → (R rm ≡ who → ⊥)
    → option_and_then (change_here rm) (change_of who before after) ≡ None
other_change rm (A a) before after apart = refl
other_change rm (L l) before after apart = refl
other_change rm (R q) before after apart = by_fact (slice_get after (length before))
  where
    changed : (view_same : Bool) (change : Change) → change.rm ≡ q
        → option_and_then (change_here rm) (if view_same then None else Some change) ≡ None
    changed true change e = refl
    changed false change e =
        ap (λ (b : Bool). if b then Some change else None) (ne_eqb change.rm rm (λ same. apart (ap R (sym same ∙ e))))

    by_fact : (o : Option Fact) → option_and_then (change_here rm) (option_and_then (λ fact. if view_number (view before (fact_tx fact))
        == view_number (view after (fact_tx fact)) then None else Some (record {
          rm = q;
          tx = fact_tx fact;
          view = view after
              (fact_tx fact);
        }))
        o) ≡ None
    by_fact None = refl
    by_fact (Some fact) = changed (view_number (view before (fact_tx fact)) == view_number (view after (fact_tx fact)))
        (record { rm = q; tx = fact_tx fact; view = view after (fact_tx fact) }) refl

other_ask : (rm : ℕ) (who : NodeId) (request : Request) → (R rm ≡ who → ⊥) → IsElsewhere rm (Ask who request)
other_ask rm (A a) request apart = record { calls = λ x answer. refl; restart = λ answer. refl }
other_ask rm (L l) request apart = record { calls = λ x answer. refl; restart = λ answer. refl }
other_ask rm (R q) (Call y action) apart = record {
  calls = λ x answer.
      let other : ((q == rm) && xid_eq y x) ≡ false = and_left (q == rm) (xid_eq y x) (ne_eqb q rm (λ e. apart (ap R (sym e)))) in
      cond_both (is_done action answer) (if (q == rm) && xid_eq y x then Some action else None) None (λ (o : Option Action). o ≡ None)
      (λ done. ap (λ (b : Bool). if b then Some action else None) other) (λ undone. refl);
  restart = λ answer. refl;
}
other_ask rm (R q) Recover apart = record { calls = λ x answer. refl; restart = λ answer. refl }
other_ask rm (R q) (Timeout tx) apart = record { calls = λ x answer. refl; restart = λ answer. refl }
other_ask rm (R q) (Request.View tx) apart = record { calls = λ x answer. refl; restart = λ answer. refl }
other_ask rm (R q) (Request.Commit tx) apart = record { calls = λ x answer. refl; restart = λ answer. refl }
other_ask rm (R q) (Request.Status tx) apart = record { calls = λ x answer. refl; restart = λ answer. refl }

other_restart : (rm : ℕ) (who : NodeId) → (R rm ≡ who → ⊥) → IsElsewhere rm (Restart who)
other_restart rm (A a) apart = record { calls = λ x answer. refl; restart = λ answer. refl }
other_restart rm (L l) apart = record { calls = λ x answer. refl; restart = λ answer. refl }
other_restart rm (R q) apart = record {
  calls = λ x answer. refl;
  restart = λ answer. by_answer answer;
}
  where
    by_answer : (answer : Answer) → is_restart rm (Restart (R q)) answer ≡ false
    by_answer Done = ne_eqb q rm (λ e. apart (ap R (sym e)))
    by_answer answer = refl

-- ---- what a message leaves

-- an effect leaves the branches that its fact leaves
abbrev LeavesByFact : ℕ → List Branch → Effect (List Branch) → Type 0
LeavesByFact rm branches e = e.memory ≡ option_map_or (left_by rm branches) e.fact branches

module _ (rm : ℕ) (facts : List Fact) (branches : List Branch) where
  own_gone : (tx : TxParts) (x : XidParts) → xid_at tx rm ≡ Some x
      → branches_without branches x ≡ option_map_or (branches_without branches) (xid_at tx rm) branches
  own_gone tx x name = sym (ap (λ (o : Option XidParts). option_map_or (branches_without branches) o branches) name)

  first_leaves : (tx : TxParts) (x : XidParts) (spent : Bool) (idle : Option (List Touched)) → xid_at tx rm ≡ Some x
      → LeavesByFact rm branches (first_vote rm branches tx x spent idle)
  first_leaves tx x false (Some keys) name = own_gone tx x name
  first_leaves tx x spent idle name = own_gone tx x name

  prepare_leaves : (tx : TxParts) (x : XidParts) → xid_at tx rm ≡ Some x
      → LeavesByFact rm branches (on_prepare rm (stored_votes rm facts) branches tx x)
  prepare_leaves tx x name = cond_both (is_some (vote_in facts tx)) _ _ (LeavesByFact rm branches) (λ some. refl)
      (λ new. cond_both (is_ended facts tx) _ _ (LeavesByFact rm branches) (λ ended. refl)
      (λ unended. first_leaves tx x (is_spent rm facts x) (idle_keys branches x) name))

  message_leaves : (m : Kind) (o : Option XidParts) → xid_at (message_tx m) rm ≡ o
      → LeavesByFact rm branches (on_manager_message rm (stored_votes rm facts) branches o m)
  message_leaves (kinds.Prepare tx) (Some x) name = prepare_leaves tx x name
  message_leaves (kinds.Commit tx) (Some x) name =
      cond_both (is_prepared_view (view facts tx)) _ _ (LeavesByFact rm branches) (λ prepared. refl) (λ other. refl)
  message_leaves (kinds.Abort tx) (Some x) name =
      cond_both (is_open_view (view facts tx)) _ _ (LeavesByFact rm branches) (λ opens. own_gone tx x name) (λ other. refl)
  message_leaves m (Some x) name = refl
  message_leaves m None name = refl

  timeout_leaves : (config : Config) (tx : TxParts)
      → LeavesByFact rm branches (on_manager_timeout config rm (stored_votes rm facts) branches tx)
  timeout_leaves config tx = cond_both (is_inside config tx) _ _ (LeavesByFact rm branches) (λ inside. refl) (λ outside. refl)

-- the same of a node
abbrev NodeLeavesByFact : ℕ → Memory → Effect Memory → Type 0
NodeLeavesByFact rm memory e = e.memory.branches ≡ option_map_or (left_by rm memory.branches) e.fact memory.branches

-- no client call
abbrev IsNoCall : Input → Type 0
IsNoCall (Asked (Call x action)) = ⊥
IsNoCall input = Unit {0}

effect_leaves : (config : Config) (rm : ℕ) (facts : List Fact) (memory : Memory) (input : Input) → IsNoCall input
    → NodeLeavesByFact rm memory (effect_of config (R rm) facts memory input)
effect_leaves config rm facts memory (Received m) uncalled = cond_both (is_message_inside config m) _ _ (NodeLeavesByFact rm memory)
    (λ inside. message_leaves rm facts memory.branches m (xid_at (message_tx m) rm) refl) (λ outside. refl)
effect_leaves config rm facts memory (Asked (Timeout tx)) uncalled = timeout_leaves rm facts memory.branches config tx
effect_leaves config rm facts memory (Asked (Call x action)) uncalled = absurd uncalled
effect_leaves config rm facts memory other uncalled = refl

-- ---- at the manager

-- what an outcome at manager rm does
abbrev Moves : Config → ℕ → NodeState → Event → Outcome → Type 0
Moves config rm node event left = IsMove config rm node left.node event left.answer (change_of (R rm) node.facts left.node.facts)

-- no fact is stored
silent_here : (rm : ℕ) (facts after : List Fact) → after ≡ facts → option_and_then (change_here rm) (change_of (R rm) facts after) ≡ None
silent_here rm facts after e =
    ap (λ (fs : List Fact). option_and_then (change_here rm) (change_of (R rm) facts fs)) e
    ∙ ap (option_and_then (change_here rm)) (none_said rm facts)

change_found : (rm : ℕ) (fact : Fact) → change_here rm (change_stored rm fact) ≡ Some (change_stored rm fact)
change_found rm fact = ap (λ (b : Bool). if b then Some (change_stored rm fact) else None) (eq-eqb rm rm refl)

module _ (config : Config) (rm : ℕ) (node : NodeState) (event : Event) where
  -- the node stays, or goes down
  quiet_answer : (new : NodeState) (answer : Answer) → new.facts ≡ node.facts
      → (new.up ≡ true → (node.up ≡ true) × (branches_of new ≡ branches_of node))
      → ((x : XidParts) → call_done rm x event answer ≡ None) → is_restart rm event answer ≡ false
      → Moves config rm node event (answer_outcome new answer)
  quiet_answer new answer facts kept calls restart = Quiet (record {
    silent = record { change = silent_here rm node.facts new.facts facts; calls = calls; restart = restart };
    facts = facts;
    kept = kept;
  })

  quiet_refusal : (new : NodeState) (e : Refusal) → new.facts ≡ node.facts
      → (new.up ≡ true → (node.up ≡ true) × (branches_of new ≡ branches_of node))
      → Moves config rm node event (answer_outcome new (Refused e))
  quiet_refusal new e facts kept =
      quiet_answer new (Refused e) facts kept (λ x. no_call_refused rm x event e) (no_restart_refused rm event e)

  module _ (input : Input) (elsewhere : IsElsewhere rm event) (uncalled : IsNoCall input) where
    abbrev e : Effect Memory
    e = effect_of config (R rm) node.facts node.memory input

    fact_leaves : (fact : Fact) → e.fact ≡ Some fact → e.memory.branches ≡ left_by rm node.memory.branches fact
    fact_leaves fact is = effect_leaves config rm node.facts node.memory input uncalled
        ∙ ap (λ (o : Option Fact). option_map_or (left_by rm node.memory.branches) o node.memory.branches) is

    stored_here : (new : NodeState) (answer : Answer) (fact : Fact) → e.fact ≡ Some fact → node.up ≡ true
        → new.facts ≡ node.facts ++ fact ∷ [] → (new.up ≡ true → branches_of new ≡ e.memory.branches)
        → Moves config rm node event (answer_outcome new answer)
    stored_here new answer fact is up facts left =
        let rule = subst (λ (o : Option Fact). IfSome o (IsManagerFact rm node.facts node.memory.branches input)) is
        (manager_effect_is config rm node.facts node.memory input).fact_is in
        Stored (record {
          fact = fact;
          input = input;
          rule = rule;
          change = ap (λ (fs : List Fact). option_and_then (change_here rm) (change_of (R rm) node.facts fs)) facts
              ∙ ap (option_and_then (change_here rm))
              (change_said rm node.facts fact (changes_view rm node.facts node.memory.branches input fact rule))
              ∙ change_found rm fact;
          calls = λ x. elsewhere.calls x answer;
          restart = elsewhere.restart answer;
          up = up;
          facts = facts;
          left = λ stays. left stays ∙ fact_leaves fact is;
          apart = λ play are. subst (λ (fs : List Fact). AreApart rm fs (left_by rm node.memory.branches fact)) (sym facts)
              (subst (AreApart rm (node.facts ++ fact ∷ [])) (fact_leaves fact is)
              (subst (λ (o : Option Fact). AreApart rm (with_fact node.facts o) e.memory.branches) is
              (manager_stays_apart config rm node.facts node.memory input play are)));
        })

    stopped_moves : (fact : Fact) (whole : Bool) → e.fact ≡ Some fact → node.up ≡ true
        → Moves config rm node event (stopped_append node fact whole)
    stopped_moves fact true is up =
        stored_here (record { facts = node.facts ++ fact ∷ []; up = false; tear = None; memory = empty_memory }) (Refused RecordFault) fact
        is up refl (λ stays. absurd (cc (stays)))
    stopped_moves fact false is up =
        quiet_refusal (record { facts = node.facts; up = false; tear = None; memory = empty_memory }) RecordFault refl
        (λ stays. absurd (cc (stays)))

    finished_none : e.fact ≡ None → node.up ≡ true → Moves config rm node event (finished_append node e node.facts)
    finished_none is up =
        quiet_answer (record { facts = node.facts; up = true; tear = node.tear; memory = e.memory }) e.answer refl
        (λ stays. (
          up,
          effect_leaves config rm node.facts node.memory input uncalled
              ∙ ap (λ (o : Option Fact). option_map_or (left_by rm node.memory.branches) o node.memory.branches) is,
        ))
        (λ x. elsewhere.calls x e.answer) (elsewhere.restart e.answer)

    finished_some : (fact : Fact) → e.fact ≡ Some fact → node.up ≡ true
        → Moves config rm node event (finished_append node e (node.facts ++ fact ∷ []))
    finished_some fact is up =
        stored_here (record { facts = node.facts ++ fact ∷ []; up = true; tear = node.tear; memory = e.memory }) e.answer fact is up refl
        (λ stays. refl)

    settled : (o : Option Fact) (tear : Option ℕ) (fault : Fault) → e.fact ≡ o → node.up ≡ true
        → Moves config rm node event (effect_outcome node e o tear fault)
    settled None tear NoMemoryAt is up = quiet_refusal (down_node node) NoMemory refl (λ stays. absurd (cc (stays)))
    settled (Some fact) tear NoMemoryAt is up = quiet_refusal (down_node node) NoMemory refl (λ stays. absurd (cc (stays)))
    settled None tear fault is up = finished_none is up
    settled (Some fact) (Some n) fault is up = stopped_moves fact (nat_le (frame_length fact) n) is up
    settled (Some fact) None (RecordFails whole) is up = stopped_moves fact whole is up
    settled (Some fact) None fault is up = finished_some fact is up

    step_moves : (fault : Fault) → Moves config rm node event (node_step config (R rm) node input fault)
    step_moves fault = cond_both (not (accepts_input (R rm) input)) _ _ (Moves config rm node event)
        (λ other. quiet_refusal node NoSuch refl (λ up. (up, refl)))
        (λ taken. cond_both (not node.up) _ _ (Moves config rm node event)
        (λ down. quiet_answer node (down_answer input) refl (λ up. (up, refl)) (λ x. elsewhere.calls x (down_answer input))
        (elsewhere.restart (down_answer input)))
        (λ up. settled e.fact node.tear fault refl (not-false node.up up)))

-- a client call
module _ (config : Config) (rm : ℕ) (node : NodeState) (x : XidParts) (action : Action) where
  abbrev call : Event
  call = Ask (R rm) (Call x action)

  abbrev call_effect : Effect Memory
  call_effect = effect_of config (R rm) node.facts node.memory (Asked (Call x action))

  called : node.up ≡ true → Moves config rm node call (finished_append node call_effect node.facts)
  called up = Called (record {
    xid = x;
    action = action;
    change = silent_here rm node.facts node.facts refl;
    is = refl;
    up = up;
    facts = refl;
    answered = refl;
    left = refl;
  })

  answered_call : (tear : Option ℕ) (fault : Fault) → node.up ≡ true
      → Moves config rm node call (effect_outcome node call_effect None tear fault)
  answered_call tear NoMemoryAt up = quiet_refusal config rm node call (down_node node) NoMemory refl (λ stays. absurd (cc (stays)))
  answered_call tear fault up = called up

  call_moves : (fault : Fault) → Moves config rm node call (node_step config (R rm) node (Asked (Call x action)) fault)
  call_moves fault = cond_both (not node.up) _ _ (Moves config rm node call)
      (λ down. quiet_answer config rm node call node (Code codes.RmFail) refl (λ up. (up, refl))
      (λ y. no_call_by rm rm y x action (Code codes.RmFail) (undone_down action)) refl)
      (λ up. answered_call node.tear fault (not-false node.up up))

-- a restart, and a compaction
module _ (config : Config) (rm : ℕ) (node : NodeState) where
  restart_moves : (fault : Fault) → Moves config rm node (Restart (R rm)) (restart_outcome config (R rm) node fault)
  restart_moves NoMemoryAt =
      quiet_refusal config rm node (Restart (R rm)) (down_node node) NoMemory refl (λ stays. absurd (cc (stays)))
  restart_moves (RecordFails whole) =
      quiet_refusal config rm node (Restart (R rm)) (down_node node) RecordFault refl (λ stays. absurd (cc (stays)))
  restart_moves fault = cond_both (all_play config (R rm) [] node.facts) _ _ (Moves config rm node (Restart (R rm)))
      (λ plays. Restarted (record {
        change = silent_here rm node.facts node.facts refl;
        calls = λ x. refl;
        restart = eq-eqb rm rm refl;
        facts = refl;
        left = refl;
      }))
      (λ damaged. quiet_refusal config rm node (Restart (R rm)) (down_node node) Damaged refl (λ stays. absurd (cc (stays))))

  compact_moves : (who : NodeId) (fault : Fault) → Moves config rm node (Compact who) (compact_outcome node fault)
  compact_moves who NoMemoryAt =
      quiet_refusal config rm node (Compact who) (down_node node) NoMemory refl (λ stays. absurd (cc (stays)))
  compact_moves who (RecordFails whole) =
      quiet_refusal config rm node (Compact who) (down_node node) RecordFault refl (λ stays. absurd (cc (stays)))
  compact_moves who fault =
      quiet_answer config rm node (Compact who) node Done refl (λ up. (up, refl)) (λ x. refl) refl

-- ---- in the world

-- what an event in a world does to manager rm
abbrev pub Moved : Config → World → ℕ → Event → StepResult → Type 0
Moved config world rm event result =
    IsMove config rm (manager_in config world rm) (manager_in config result.world rm) event result.answer result.now

module _ (config : Config) (world : World) (rm : ℕ) where
  refused : (event : Event) (e : Refusal) → Moved config world rm event (answer_result world (Refused e))
  refused event e = Quiet (record { silent = silent_refused rm event e; facts = refl; kept = λ up. (up, refl) })

  outcome_moved : (who : NodeId) (node : NodeState) (left : Outcome) (event : Event) → node_at config world who ≡ Some node
      → (R rm ≡ who → Moves config rm node event left) → ((R rm ≡ who → ⊥) → IsElsewhere rm event)
      → Moved config world rm event (outcome_result config world who node.facts left)
  outcome_moved who node left event stands here away = elim (same_node (R rm) who) [
    | inl same ↦
        let was : node ≡ manager_in config world rm =
        sym (ap (λ (o : Option NodeState). unwrap_or o new_node) (ap (node_at config world) same ∙ stands)) in
        let is : left.node ≡ manager_in config after rm =
        sym (ap (λ (o : Option NodeState). unwrap_or o new_node)
        (ap (node_at config after) same ∙ node_there config world who node left.node stands)) in
        subst (λ (n : NodeState). IsMove config rm n (manager_in config after rm) event left.answer now) was
        (subst (λ (n : NodeState). IsMove config rm node n event left.answer now) is
        (subst (λ (n : NodeId). IsMove config rm node left.node event left.answer (change_of n node.facts left.node.facts)) same
        (here same)))
    | inr apart ↦
        let is = ap (λ (o : Option NodeState). unwrap_or o new_node) (node_elsewhere config world who (R rm) left.node apart) in
        Quiet (record {
          silent = record {
            change = other_change rm who node.facts left.node.facts apart;
            calls = λ x. (away apart).calls x left.answer;
            restart = (away apart).restart left.answer;
          };
          facts = ap (λ (n : NodeState). n.facts) is;
          kept = λ up. (sym (ap (λ (n : NodeState). n.up) is) ∙ up, ap branches_of is);
        })
  ]
    where
      after : World
      after = (outcome_result config world who node.facts left).world

      now : Option Change
      now = change_of who node.facts left.node.facts

  found_moved : {X : Type 0} (o : Option X) (f : X → StepResult) (event : Event)
      → ((x : X) → o ≡ Some x → Moved config world rm event (f x)) → Moved config world rm event (if_found world f o)
  found_moved None f event moved = refused event NoSuch
  found_moved (Some x) f event moved = moved x refl

  -- an input that is no call, by an event that says nothing of manager rm, whatever it is answered
  input_moved : (who : NodeId) (input : Input) (fault : Fault) (event : Event) → IsElsewhere rm event → IsNoCall input
      → Moved config world rm event (at_node config world who input fault)
  input_moved who input fault event elsewhere uncalled = found_moved (node_at config world who)
      (λ node. outcome_result config world who node.facts (node_step config who node input fault)) event
      (λ node stands. outcome_moved who node (node_step config who node input fault) event stands
      (λ same. subst (λ (n : NodeId). Moves config rm node event (node_step config n node input fault)) same
      (step_moves config rm node event input elsewhere uncalled fault))
      (λ apart. elsewhere))

  ask_moved : (who : NodeId) (request : Request) (fault : Fault) → (R rm ≡ who → (node : NodeState)
      → Moves config rm node (Ask (R rm) request) (node_step config (R rm) node (Asked request) fault))
      → Moved config world rm (Ask who request) (at_node config world who (Asked request) fault)
  ask_moved who request fault here = found_moved (node_at config world who)
      (λ node. outcome_result config world who node.facts (node_step config who node (Asked request) fault)) (Ask who request)
      (λ node stands. outcome_moved who node (node_step config who node (Asked request) fault) (Ask who request) stands
      (λ same. subst (λ (n : NodeId). Moves config rm node (Ask n request) (node_step config n node (Asked request) fault)) same
      (here same node))
      (λ apart. other_ask rm who request apart))

  -- a request at manager rm
  request_moves : (request : Request) (fault : Fault) (node : NodeState)
      → Moves config rm node (Ask (R rm) request) (node_step config (R rm) node (Asked request) fault)
  request_moves (Call x action) fault node = call_moves config rm node x action fault
  request_moves Recover fault node =
      step_moves config rm node (Ask (R rm) Recover) (Asked Recover) (record { calls = λ x a. refl; restart = λ a. refl }) tt fault
  request_moves (Timeout tx) fault node =
      step_moves config rm node (Ask (R rm) (Timeout tx)) (Asked (Timeout tx)) (record { calls = λ x a. refl; restart = λ a. refl }) tt
      fault
  request_moves (Request.View tx) fault node =
      step_moves config rm node (Ask (R rm) (Request.View tx)) (Asked (Request.View tx))
      (record { calls = λ x a. refl; restart = λ a. refl }) tt fault
  request_moves (Request.Commit tx) fault node =
      step_moves config rm node (Ask (R rm) (Request.Commit tx)) (Asked (Request.Commit tx))
      (record { calls = λ x a. refl; restart = λ a. refl }) tt fault
  request_moves (Request.Status tx) fault node =
      step_moves config rm node (Ask (R rm) (Request.Status tx)) (Asked (Request.Status tx))
      (record { calls = λ x a. refl; restart = λ a. refl }) tt fault

  armed_moved : (who : NodeId) (n : ℕ) (node : NodeState) → node_at config world who ≡ Some node
      → Moved config world rm (Tear who n) (answer_result (set_node config world who (record node { tear = Some n })) Done)
  armed_moved who n node stands = Quiet (record {
    silent = record { change = refl; calls = λ x. refl; restart = refl };
    facts = both.0;
    kept = λ up. (sym both.1 ∙ up, both.2);
  })
    where
      new : NodeState
      new = record node { tear = Some n }

      after : World
      after = set_node config world who new

      both : ((manager_in config after rm).facts ≡ (manager_in config world rm).facts)
          × ((manager_in config after rm).up ≡ (manager_in config world rm).up)
          × (branches_of (manager_in config after rm) ≡ branches_of (manager_in config world rm))
      both = elim (same_node (R rm) who) [
        | inl same ↦
            let is = ap (λ (o : Option NodeState). unwrap_or o new_node)
            (ap (node_at config after) same ∙ node_there config world who node new stands) in
            let was = ap (λ (o : Option NodeState). unwrap_or o new_node) (ap (node_at config world) same ∙ stands) in (
              ap (λ (m : NodeState). m.facts) is ∙ sym (ap (λ (m : NodeState). m.facts) was),
              ap (λ (m : NodeState). m.up) is ∙ sym (ap (λ (m : NodeState). m.up) was),
              ap branches_of is ∙ sym (ap branches_of was),
            )
        | inr apart ↦
            let is = ap (λ (o : Option NodeState). unwrap_or o new_node) (node_elsewhere config world who (R rm) new apart) in
            (ap (λ (m : NodeState). m.facts) is, ap (λ (m : NodeState). m.up) is, ap branches_of is)
      ]

module _ (config : Config) (world : World) (rm : ℕ) where
  delivered_moved : (n : ℕ) (fault : Fault) → Moved config world rm (Deliver n) (dispatch config world (Deliver n) fault)
  delivered_moved n fault = found_moved config world rm (datagram_at world.net n)
      (λ d. at_node config (with_mark world n) d.receiver (Received d.message) fault) (Deliver n)
      (λ d is. input_moved config (with_mark world n) rm d.receiver (Received d.message) fault (Deliver n)
      (record { calls = λ x a. refl; restart = λ a. refl }) tt)

  dispatch_moved : (event : Event) (fault : Fault) → Moved config world rm event (dispatch config world event fault)
  dispatch_moved (Ask who request) fault = ask_moved config world rm who request fault
      (λ same node. request_moves config world rm request fault node)
  dispatch_moved (Deliver n) fault = delivered_moved n fault
  dispatch_moved (Lose n) fault = found_moved config world rm (datagram_at world.net n) (λ d. answer_result (with_mark world n) Done)
      (Lose n)
      (λ d is. Quiet (record {
        silent = record { change = refl; calls = λ x. refl; restart = refl };
        facts = refl;
        kept = λ up. (up, refl);
      }))
  dispatch_moved (Cut n k) fault = found_moved config world rm (datagram_at world.net n)
      (λ d. if nat_lt k (length (spelling d.message)) then at_node config world d.receiver ReceivedNoise fault
      else answer_result world (Refused NoSuch)) (Cut n k)
      (λ d is. cond_both (nat_lt k (length (spelling d.message))) (at_node config world d.receiver ReceivedNoise fault)
      (answer_result world (Refused NoSuch)) (Moved config world rm (Cut n k))
      (λ fewer. input_moved config world rm d.receiver ReceivedNoise fault (Cut n k)
      (record { calls = λ x a. refl; restart = λ a. refl }) tt)
      (λ all. refused config world rm (Cut n k) NoSuch))
  dispatch_moved (Noise who bytes) fault = cond_both (spells_message bytes)
      (if_found world (λ node. answer_result world (Refused Forged)) (node_at config world who))
      (at_node config world who ReceivedNoise fault) (Moved config world rm (Noise who bytes))
      (λ spelled. found_moved config world rm (node_at config world who) (λ node. answer_result world (Refused Forged)) (Noise who bytes)
      (λ node is. refused config world rm (Noise who bytes) Forged))
      (λ garbled. input_moved config world rm who ReceivedNoise fault (Noise who bytes)
      (record { calls = λ x a. refl; restart = λ a. refl }) tt)
  dispatch_moved (Tear who n) fault = found_moved config world rm (node_at config world who)
      (λ node. answer_result (set_node config world who (record node { tear = Some n })) Done) (Tear who n)
      (armed_moved config world rm who n)
  dispatch_moved (Restart who) fault = found_moved config world rm (node_at config world who)
      (λ node. outcome_result config world who node.facts (restart_outcome config who node fault)) (Restart who)
      (λ node stands. outcome_moved config world rm who node (restart_outcome config who node fault) (Restart who) stands
      (λ same. subst (λ (n : NodeId). Moves config rm node (Restart n) (restart_outcome config n node fault)) same
      (restart_moves config rm node fault))
      (λ apart. other_restart rm who apart))
  dispatch_moved (Compact who) fault = found_moved config world rm (node_at config world who)
      (λ node. if node.up then outcome_result config world who node.facts (compact_outcome node fault)
      else answer_result world (Refused Down)) (Compact who)
      (λ node stands. cond_both node.up (outcome_result config world who node.facts (compact_outcome node fault))
      (answer_result world (Refused Down)) (Moved config world rm (Compact who))
      (λ up. outcome_moved config world rm who node (compact_outcome node fault) (Compact who) stands
      (λ same. compact_moves config rm node who fault) (λ apart. record { calls = λ x a. refl; restart = λ a. refl }))
      (λ down. refused config world rm (Compact who) Down))
  dispatch_moved event fault = refused config world rm event NoSuch

  -- every event
  pub event_moved : (event : Event) (fault : Fault) → Moved config world rm event (world_step config world event fault)
  event_moved event NoMemoryBefore = refused config world rm event NoMemory
  event_moved event fault = dispatch_moved event fault
