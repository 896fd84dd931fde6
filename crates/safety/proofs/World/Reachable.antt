-- What holds in every world that the cluster can come to.
-- Needed by 12 functions of this crate; 9 crates above.
use Rattle.std.proofs.Common.{◌≡◌, ◌≢◌, inl, inr, ◌∙◌, ℕ, ◌≤◌, Bool, true, IsTrue, if◌then◌else◌, [], Option, Some, None, sym, ap, subst}
use Rattle.std.proofs.lemmas.Bool.{cases_eq}
use Rattle.xid.specs.Transactions.{TxParts, is_participant}
use Rattle.xid.specs.declared.transaction.Vote.{Vote}
use Rattle.xid.specs.declared.transaction.Vote.TheVariants as votes
use Rattle.xid.specs.declared.refusals.Refusal.TheVariants.{Damaged, NoSuch}
use Rattle.protocol.specs.declared.states.View.TheVariants as views
use Rattle.safety.specs.Vocabulary.{NodeId, A, L, View, Done, Refused, Event, Restart}
use Rattle.protocol.specs.Effects.{Config}
use Rattle.protocol.specs.Nodes.{NodeState, Fault, NoFault, RecordFails, NoMemoryBefore, NoMemoryAt, empty_memory, answer_outcome}
use Rattle.protocol.specs.Nodes.{down_node, restart_outcome, all_play}
use Rattle.protocol.specs.TCommit.{IsReady, IsCommitMove, IsCommitStep}
use Rattle.safety.specs.CommitSteps.{IsConsistent}
use Rattle.protocol.specs.Worlds.{World, StepResult, node_at, world_step, outcome_result, answer_result}
use Rattle.protocol.specs.Facts.{slot}
use Rattle.safety.specs.Laws as laws
use Rattle.safety.proofs.Acceptor.Slots.{slot_is}
use Rattle.safety.specs.Items.{Promised, Accepted, Voted, Committed, Commit, IsState, IsCovered}
use Rattle.safety.specs.Invariant.{Invariant}
use Rattle.safety.specs.Runs.{IsReachable, views_in}
use Rattle.ballot.specs.Greatest.{IsIn}
use Rattle.safety.specs.Standing.{Stands, setting, facts_of, facts_at, sent_in}
use Rattle.safety.proofs.Acceptor.Effects.{accepts_are}
use Rattle.safety.proofs.Argument.Agreement as agreement
use Rattle.safety.proofs.Argument.Views as all
use Rattle.safety.proofs.World.SafeSteps.{state_stands}
use Rattle.safety.proofs.Leader.Invariant.{LeaderInvariant}
use Rattle.safety.proofs.World.Events.{happens_next, safe_ever}

module _ (config : Config) (world : World) (reachable : IsReachable config world) where
  pub invariant : Invariant (setting config) (Stands config world)
  invariant = (safe_ever config world reachable).invariant

  state : (tx : TxParts) → IsState (setting config) (Stands config world) tx (views_in config world tx)
  state tx = state_stands config (node_at config world) (sent_in world) tx

  pub steps : (event : Event) (fault : Fault) (tx : TxParts)
      → IsCommitStep (is_participant tx) (views_in config world tx) (views_in config (world_step config world event fault).world tx)
  steps event fault tx = (happens_next config world (safe_ever config world reachable) event fault).next.step tx

  pub consistent : (tx : TxParts) → IsConsistent (is_participant tx) (views_in config world tx)
  consistent tx = all.consistent (setting config) (Stands config world) invariant tx
      (views_in config world tx) (state tx)

  pub committed_finds : (tx : TxParts) (r q : ℕ) → IsTrue (is_participant tx q) → Stands config world (Committed r tx)
      → Stands config world (Voted q tx votes.Prepared)
  committed_finds tx r q named h = agreement.committed_finds_prepared (setting config)
      (Stands config world) invariant {tx = tx} {r = r} h q named

  pub sent_finds : (tx : TxParts) (q : ℕ) → IsTrue (is_participant tx q) → Stands config world (Commit tx)
      → Stands config world (Voted q tx votes.Prepared)
  sent_finds tx q named h = agreement.commit_finds_prepared (setting config) (Stands config world) invariant
      {tx = tx} h q named

  pub ready : (tx : TxParts) (q : ℕ) → IsTrue (is_participant tx q) → Stands config world (Commit tx)
      → IsReady (views_in config world tx q)
  ready tx q named h = all.commit_finds_ready (setting config) (Stands config world) invariant {tx = tx} {r = q} h named
      (views_in config world tx q) (state tx q named)

  pub play : (who : NodeId) → all_play config who [] (facts_at config world who) ≡ true
  play who = (safe_ever config world reachable).played who

  -- the memory of a leader
  pub leader_memory : (l : ℕ) (node : NodeState) → node_at config world (L l) ≡ Some node
      → LeaderInvariant config l node.facts node.memory.leader (IsIn (sent_in world))
  leader_memory l node is = (safe_ever config world reachable).kept l node is

-- ---- slots and ballots

module _ (config : Config) (world : World) (reachable : IsReachable config world) where
  slot_ever : (a : ℕ) (tx : TxParts) (i : ℕ)
      → laws.IsSlot (facts_at config world (A a)) tx i (slot (facts_at config world (A a)) tx i)
  slot_ever a tx i = slot_is config a (facts_at config world (A a)) (play config world reachable (A a)) tx i

  -- what a slot holds was accepted
  pub held_accept : (a : ℕ) (tx : TxParts) (i b : ℕ) (v : Vote) → (slot (facts_at config world (A a)) tx i).report ≡ Some (b, v)
      → Stands config world (Accepted a tx i b v)
  held_accept a tx i b v e =
      let last : laws.IsGreatestAccept (facts_at config world (A a)) tx i (Some (b, v)) =
      subst (laws.IsGreatestAccept (facts_at config world (A a)) tx i) e (slot_ever a tx i).last in
      last.0

  pub accept_covered : (a : ℕ) (tx : TxParts) (i b : ℕ) (v : Vote) → Stands config world (Accepted a tx i b v)
      → IsCovered (slot (facts_at config world (A a)) tx i).report b
  accept_covered a tx i b v h =
      accepts_are (facts_at config world) a tx i (slot (facts_at config world (A a)) tx i).report (slot_ever a tx i).last b v h

  pub promise_below : (a : ℕ) (tx : TxParts) (i b : ℕ) → Stands config world (Promised a tx i b)
      → b ≤ (slot (facts_at config world (A a)) tx i).mbal
  promise_below a tx i b h = (slot_ever a tx i).promised b h

-- ---- moves

module _ (participant : ℕ → Bool) (s t : ℕ → View) (q : ℕ) (named : IsTrue (participant q)) where
  -- a move that makes a view committed finds all ready
  to_committed : (x y : View) → x ≢ views.Committed → y ≡ views.Committed → IsCommitMove participant s x y → IsReady (s q)
  to_committed views.Prepared views.Committed x y move = move q named
  to_committed views.Working views.Prepared x y move = absurd (cc (y))
  to_committed views.Working views.Aborted x y move = absurd (cc (y))
  to_committed views.Prepared views.Aborted x y move = absurd (cc (y))
  to_committed _ _ x y move = absurd move

  -- so does a step
  pub moves_find_ready : (r : ℕ) → IsTrue (participant r) → s r ≢ views.Committed → t r ≡ views.Committed
      → IsCommitStep participant s t → IsReady (s q)
  moves_find_ready r is before after (inl same) = absurd (before (sym (same r is) ∙ after))
  moves_find_ready r is before after (inr move) = elim (cases_eq r move.mover) [
    | inl e ↦ to_committed (s move.mover) (t move.mover) (λ f. before (ap s e ∙ f)) (ap t (sym e) ∙ after) move.moves
    | inr apart ↦ absurd (before (sym (move.others r is apart) ∙ after))
  ]

-- ---- restarts

module _ (config : Config) (world : World) (who : NodeId) where
  abbrev tried : Fault → Option NodeState → StepResult
  tried fault None = answer_result world (Refused NoSuch)
  tried fault (Some node) = outcome_result config world who node.facts (restart_outcome config who node fault)

  replied : (node : NodeState) → all_play config who [] node.facts ≡ true → (restart_outcome config who node NoFault).answer ≡ Done
  replied node plays =
      ap (λ (t : Bool). (if t then answer_outcome (record { facts = node.facts; up = true; tear = node.tear; memory = empty_memory }) Done
      else answer_outcome (down_node node) (Refused Damaged)).answer) plays

  pub restart_done : (node : NodeState) → node_at config world who ≡ Some node → all_play config who [] (facts_at config world who) ≡ true
      → (world_step config world (Restart who) NoFault).answer ≡ Done
  restart_done node is plays =
      subst (λ (o : Option NodeState). (tried NoFault o).answer ≡ Done) (sym is)
      (replied node (subst (λ (o : Option NodeState). all_play config who [] (facts_of o) ≡ true) is plays))

  undamaged_by : (fault : Fault) (o : Option NodeState) → all_play config who [] (facts_of o) ≡ true
      → (tried fault o).answer ≢ Refused Damaged
  undamaged_by fault None plays e = absurd (cc (e))
  undamaged_by NoMemoryAt (Some node) plays e = absurd (cc (e))
  undamaged_by (RecordFails whole) (Some node) plays e = absurd (cc (e))
  undamaged_by fault (Some node) plays e = let done = replied node plays in absurd (cc (done, e))

  pub restart_undamaged : (fault : Fault) → all_play config who [] (facts_at config world who) ≡ true
      → (world_step config world (Restart who) fault).answer ≢ Refused Damaged
  restart_undamaged NoMemoryBefore plays e = absurd (cc (e))
  restart_undamaged fault plays e = undamaged_by fault (node_at config world who) plays e
