-- A leader is made quiet: restarted, and a tear used up by a timeout.
use Rattle.std.proofs.Common.{◌≡◌, inl, inr, ◌∙◌, ℕ, ◌+◌, ◌^◌, ◌<◌, ◌≤◌, Bool, true, false, List, []}
use Rattle.std.proofs.Common.{Option, Some, None, refl, ap, subst, arith, nat_le}
use Rattle.std.proofs.lemmas.Bool.{cases_Bool, eq-eqb}
use Rattle.xid.specs.Transactions.{TxParts}
use Rattle.stable_record.specs.declared.fact.FactKind.TheVariants as stored
use Rattle.stable_record.specs.Frames.{frame_length}
use Rattle.ballot.specs.Ballots.{next_of}
use Rattle.protocol.specs.Basics.{Fact}
use Rattle.safety.specs.Vocabulary.{NodeId, A, L}
use Rattle.safety.proofs.Leader.Memory.{last_ballot-of_new}
use Rattle.progress.proofs.Backed.{IsBacked}
use Rattle.safety.specs.Standing.{facts_at, facts_of}
use Rattle.protocol.specs.Effects.{Config, Effect, is_inside}
use Rattle.protocol.specs.Facts.{last_ballot}
use Rattle.protocol.specs.LeaderMemory.{LeaderMemory, status_of}
use Rattle.protocol.specs.Leaders.{is_final}
use Rattle.protocol.specs.Nodes.{NodeState, empty_memory}
use Rattle.protocol.specs.Worlds.{World, node_at}
use Rattle.progress.specs.Runs.{leader_and_quorum}
use Rattle.progress.proofs.Steps.{IsQuiet, quiet_node, armed_node, torn_facts, torn_node, torn_timeout, restarted}
use Rattle.progress.proofs.Leading.{Comes, comes_step, comes_now, comes_goal}
use Rattle.progress.proofs.Beginning.{begins, next_turn}
use Rattle.progress.proofs.Existing.{leader_there}
use Rattle.progress.proofs.Members.{IsFinal, not_leader}
use Rattle.progress.proofs.Raising.{IsLeading}

-- a leader that is quiet, and has begun one ballot at most above m; no acceptor was touched
pub record IsQuietLeader (config : Config) (tx : TxParts) (l m : ℕ) (before after : World) : Type 0 where
  pub s : ℕ
  pub near : s ≤ m + config.leaders
  pub leading : IsLeading config tx l s after
  pub others : (a : ℕ) → node_at config after (A a) ≡ node_at config before (A a)
  pub reach : IsBacked config after

module _ (config : Config) (tx : TxParts) (l : ℕ) (q : ℕ → Bool) (few : l < config.leaders) (inside : is_inside config tx ≡ true)
    (m : ℕ) (left : m + config.leaders < 2 ^ 32) (world : World) where
  abbrev Goal : World → Type 0
  Goal = IsFinal config l tx

  abbrev part : NodeId → Bool
  part = leader_and_quorum l q

  abbrev Next : World → Type 0
  Next = IsQuietLeader config tx l m world

  quiet_now : (after : World) (facts : List Fact) → last_ballot facts tx ≤ m + config.leaders
      → IsQuiet config after (L l) facts empty_memory
      → ((a : ℕ) → node_at config after (A a) ≡ node_at config world (A a)) → IsBacked config after
      → Comes config part tx Goal Next after
  quiet_now after facts near is others reach = comes_now config part tx Goal Next after (record {
    s = last_ballot facts tx;
    near = near;
    leading = record { facts = facts; memory = empty_memory; leader = is; last = refl };
    others = others;
    reach = reach;
  })

  torn_last : (facts : List Fact) → last_ballot facts tx ≤ m → (whole : Bool)
      → last_ballot (torn_facts facts (stored.Ballot tx (next_of config.leaders l (last_ballot facts tx))) whole) tx ≤ m + config.leaders
  torn_last facts low true =
      let turn = next_turn config.leaders l (last_ballot facts tx) few in
      let is = last_ballot-of_new facts tx (next_of config.leaders l (last_ballot facts tx)) turn.above in
      omega (arith, is, turn.near, low)
  torn_last facts low false = omega arith

  module _ (facts : List Fact) (low : last_ballot facts tx ≤ m) (after : World)
      (others : (a : ℕ) → node_at config after (A a) ≡ node_at config world (A a)) (reach : IsBacked config after) where
    abbrev fact : Fact
    fact = stored.Ballot tx (next_of config.leaders l (last_ballot facts tx))

    -- the tear stops the append of the next ballot, and a restart follows
    armed_on : (n : ℕ) → node_at config after (L l) ≡ Some (armed_node facts empty_memory n)
        → is_final (status_of config.acceptors (last_ballot facts) empty_memory.leader tx) ≡ false → Comes config part tx Goal Next after
    armed_on n is undecided =
        let whole = nat_le (frame_length fact) n in
        let turn = next_turn config.leaders l (last_ballot facts tx) few in
        comes_step config part tx Goal Next after (L l) (torn_node facts fact whole) [] (eq-eqb l l refl)
        (torn_timeout config after tx (L l) facts empty_memory n fact is refl
        (ap (λ (e : Effect LeaderMemory). e.fact)
        (begins config l (last_ballot facts) empty_memory.leader tx inside undecided (omega (arith, turn.near, low, left)))))
        (λ middle torn. comes_step config part tx Goal Next middle (L l) (quiet_node (torn_facts facts fact whole) empty_memory) []
        (eq-eqb l l refl)
        (restarted config middle (L l) (torn_node facts fact whole) torn.here tx (torn.reach reach))
        (λ last again. quiet_now last (torn_facts facts fact whole) (torn_last facts low whole) again.here
        (λ a. again.others (A a) (not_leader a l) ∙ torn.others (A a) (not_leader a l) ∙ others a)
        (again.reach (torn.reach reach))))

    quiet_by : (tear : Option ℕ)
        → node_at config after (L l) ≡ Some (record { facts = facts; up = true; tear = tear; memory = empty_memory })
        → Comes config part tx Goal Next after
    quiet_by None is = quiet_now after facts (omega arith) is others reach
    quiet_by (Some n) is = elim (cases_Bool (is_final (status_of config.acceptors (last_ballot facts) empty_memory.leader tx))) [
      | inl final ↦ comes_goal config part tx Goal Next after
          (record { node = armed_node facts empty_memory n; is = is; up = refl; final = final })
      | inr undecided ↦ armed_on n is undecided
    ]

  -- the leader is restarted, and a tear is used up
  pub quiet_leader : IsBacked config world → last_ballot (facts_at config world (L l)) tx ≤ m → Comes config part tx Goal Next world
  quiet_leader reach low =
      let there = leader_there config world reach l few in
      let node = there.0 in
      let facts_low : last_ballot node.facts tx ≤ m =
      subst (λ (o : Option NodeState). last_ballot (facts_of o) tx ≤ m) there.1 low in
      comes_step config part tx Goal Next world (L l)
      (record { facts = node.facts; up = true; tear = node.tear; memory = empty_memory }) [] (eq-eqb l l refl)
      (restarted config world (L l) node there.1 tx reach)
      (λ after moved. quiet_by node.facts facts_low after (λ a. moved.others (A a) (not_leader a l)) (moved.reach reach)
      node.tear moved.here)
