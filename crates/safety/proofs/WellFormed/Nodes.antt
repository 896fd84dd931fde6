-- What any node stores and sends is well-formed, and its memory stays in order.
-- Needed by WellFormed.Runs; crate run_traces.
use Rattle.std.proofs.Common.{◌≡◌, ℕ, true, List, [], ◌∷◌, ◌++◌, Option, Some, None, inl, inr, refl, sym, subst}
use Rattle.std.specs.Prelude.{IfSome}
use Rattle.std.specs.Option.{option_to_list}
use Rattle.std.proofs.lemmas.Bool.{cond_both}
use Rattle.wire.specs.Messages.{IsMessage, IsAcceptor, message_tx}
use Rattle.xid.specs.Transactions.{xid_at}
use Rattle.stable_record.specs.Facts.{IsFact}
use Rattle.ballot.specs.Greatest.{IsIn}
use Rattle.protocol.specs.Basics.{Fact}
use Rattle.safety.specs.Vocabulary.{A, L, R, Answer, Request, Call, Timeout}
use Rattle.safety.specs.Forms.{IsRequest}
use Rattle.protocol.specs.Facts.{last_ballot}
use Rattle.protocol.specs.Effects.{Config, Effect, answer_only}
use Rattle.protocol.specs.LeaderMemory.{LeaderMemory}
use Rattle.protocol.specs.Nodes.{Memory, empty_memory, NodeState, Input, Asked, Received, ReceivedNoise, Outcome}
use Rattle.protocol.specs.Nodes.{effect_of, is_message_inside, of_leader, of_manager, first_rows, all_play}
use Rattle.protocol.specs.Managers.{Branch}
use Rattle.protocol.specs.Tables.{table}
use Rattle.protocol.proofs.Lists.{IsIn-append}
use Rattle.protocol.specs.Holds.{AreApart}
use Rattle.safety.proofs.World.Outcomes.{IsPossibleOutcome}
use Rattle.safety.proofs.WellFormed.Effects.{AreSends, IsWellFormed, well_answered, well_in_memory}
use Rattle.safety.proofs.WellFormed.Acceptor.{acceptor_takes}
use Rattle.safety.proofs.WellFormed.Leader.{commit_called, status_called, timed_out, leader_takes}
use Rattle.safety.proofs.WellFormed.Branches.{AreHeld, call_held}
use Rattle.safety.proofs.WellFormed.Manager.{manager_takes, manager_timed_out}

-- a request is well-formed, and so is a datagram that spells a message
abbrev pub IsInput : Input → Type 0
IsInput (Asked request) = IsRequest request
IsInput (Received message) = IsMessage message
IsInput ReceivedNoise = Unit {0}

-- an effect on a node
abbrev pub IsWell : Effect Memory → Type 0
IsWell = IsWellFormed (λ memory. AreHeld memory.branches)

-- a node: its record could hold its facts, and the keys of its branches
pub record IsWellNode (node : NodeState) : Type 0 where
  pub stored : (fact : Fact) → IsIn node.facts fact → IsFact fact
  pub held : AreHeld node.memory.branches

-- ---- rules

module _ (config : Config) (facts : List Fact) (memory : Memory) (held : AreHeld memory.branches) where
  quiet : (reply : Answer) → IsWell (answer_only memory reply)
  quiet reply = well_answered (λ (m : Memory). AreHeld m.branches) memory held reply

  pub acceptor_rule : (a : ℕ) → IsAcceptor a → ((fact : Fact) → IsIn facts fact → IsFact fact) → all_play config (A a) [] facts ≡ true
      → (input : Input) → IsInput input → IsWell (effect_of config (A a) facts memory input)
  acceptor_rule a fits are plays (Received message) is = cond_both (is_message_inside config message) _ _ IsWell
      (λ inside. well_in_memory (λ (none : Unit {0}). Unit {0}) (λ (m : Memory). AreHeld m.branches) (λ none. memory) _ (λ none is. held)
      (acceptor_takes config a fits facts are plays message is))
      (λ outside. quiet _)
  acceptor_rule a fits are plays other is = quiet _

  of_leader_is : (e : Effect LeaderMemory) → IsWellFormed (λ (leader : LeaderMemory). Unit {0}) e → IsWell (of_leader memory e)
  of_leader_is e is =
      well_in_memory (λ (leader : LeaderMemory). Unit {0}) (λ (m : Memory). AreHeld m.branches)
      (λ leader. record memory { leader = leader }) e (λ leader none. held) is

  pub leader_rule : (l : ℕ) (input : Input) → IsInput input → IsWell (effect_of config (L l) facts memory input)
  leader_rule l (Asked (Request.Commit tx)) is = of_leader_is _ (commit_called config (last_ballot facts) memory.leader tx is)
  leader_rule l (Asked (Request.Status tx)) is = of_leader_is _ (status_called config (last_ballot facts) memory.leader tx is)
  leader_rule l (Asked (Timeout tx)) is = of_leader_is _ (timed_out config (last_ballot facts) memory.leader tx is l)
  leader_rule l (Received message) is = cond_both (is_message_inside config message) _ _ IsWell
      (λ inside. of_leader_is _ (leader_takes config (last_ballot facts) memory.leader message is)) (λ outside. quiet _)
  leader_rule l other is = quiet _

  of_manager_is : (e : Effect (List Branch)) → IsWellFormed AreHeld e → IsWell (of_manager memory e)
  of_manager_is e is =
      well_in_memory AreHeld (λ (m : Memory). AreHeld m.branches) (λ branches. record memory { branches = branches }) e (λ branches h. h) is

  pub manager_rule : (rm : ℕ) → all_play config (R rm) [] facts ≡ true → AreApart rm facts memory.branches → (input : Input) → IsInput input
      → IsWell (effect_of config (R rm) facts memory input)
  manager_rule rm plays apart (Asked (Call x action)) is = record {
    fact = tt;
    sends = tt;
    memory = call_held rm facts memory.branches x apart held (table (first_rows config rm) facts) action is.1;
  }
  manager_rule rm plays apart (Asked (Timeout tx)) is =
      of_manager_is _ (manager_timed_out rm facts memory.branches held config tx is plays)
  manager_rule rm plays apart (Received message) is = cond_both (is_message_inside config message) _ _ IsWell
      (λ inside. of_manager_is _ (manager_takes rm facts memory.branches held (xid_at (message_tx message) rm) message refl is))
      (λ outside. quiet _)
  manager_rule rm plays apart other is = quiet _

-- ---- what an event leaves of a node

-- a node as it is left, and what it sends
pub record IsWellLeft (left : Outcome) : Type 0 where
  pub node : IsWellNode left.node
  pub sends : AreSends left.sends

module _ (node : NodeState) (e : Effect Memory) (left : Outcome) (well : IsWellNode node) (is : IsWell e) where
  stored_by : (o : Option Fact) → IfSome o IsFact → (fact : Fact) → IsIn (node.facts ++ option_to_list o) fact → IsFact fact
  stored_by None none fact h = elim (IsIn-append node.facts [] fact h) [ inl old ↦ well.stored fact old | inr new ↦ absurd new ]
  stored_by (Some last) good fact h = elim (IsIn-append node.facts (last ∷ []) fact h) [
    | inl old ↦ well.stored fact old
    | inr new ↦ elim new [ inl e ↦ subst IsFact e good | inr none ↦ absurd none ]
  ]

  stored_in : (facts : List Fact) → facts ≡ node.facts ++ option_to_list e.fact → (fact : Fact) → IsIn facts fact → IsFact fact
  stored_in facts grows fact h = stored_by e.fact is.fact fact (subst (λ (xs : List Fact). IsIn xs fact) grows h)

  held_in : (memory before : Memory) → memory ≡ before → AreHeld before.branches → AreHeld memory.branches
  held_in memory before same held = subst (λ (m : Memory). AreHeld m.branches) (sym same) held

  pub left_well : IsPossibleOutcome node e left → IsWellLeft left
  left_well (inl still) = record {
    node = record {
      stored = λ fact h. well.stored fact (subst (λ (xs : List Fact). IsIn xs fact) still.facts h);
      held = elim still.memory [
        | inl same ↦ held_in left.node.memory node.memory same well.held
        | inr lost ↦ held_in left.node.memory empty_memory lost (λ b h. absurd h)
      ];
    };
    sends = subst AreSends (sym still.silent) tt;
  }
  left_well (inr (inl stopped)) = record {
    node = record {
      stored = stored_in left.node.facts stopped.facts;
      held = held_in left.node.memory empty_memory stopped.memory (λ b h. absurd h);
    };
    sends = subst AreSends (sym stopped.silent) tt;
  }
  left_well (inr (inr finished)) = record {
    node = record {
      stored = stored_in left.node.facts finished.facts;
      held = held_in left.node.memory e.memory finished.memory is.memory;
    };
    sends = subst AreSends (sym finished.sends) is.sends;
  }
