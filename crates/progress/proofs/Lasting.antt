-- What was prepared isn't lost: where a majority has accepted that each participant is prepared, the outcome is committed. And where a
-- participant hasn't voted prepared, it is aborted.
use Rattle.std.proofs.Common.{◌≡◌, ◌∙◌, inl, inr, ℕ, zero, suc, ◌*◌, ◌<◌, ◌≤◌, Bool, true, IsTrue, List, Option, Some}
use Rattle.std.proofs.Common.{sym, subst, eq-or-lt_of_le, arith}
use Rattle.std.proofs.lemmas.Bool.{cases_lt, ltb-true}
use Rattle.xid.specs.Transactions.{TxParts, is_participant}
use Rattle.stable_record.specs.declared.fact.FactKind.TheVariants as stored
use Rattle.ballot.specs.Greatest.{IsIn}
use Rattle.ballot.specs.Majority.{IsMajority, is_majority, count}
use Rattle.ballot.proofs.Majorities.{majorities_meet}
use Rattle.protocol.specs.Basics.{Fact}
use Rattle.safety.specs.Vocabulary.{NodeId, A, L, R, Stands as answers}
use Rattle.safety.specs.Invariant.{Invariant}
use Rattle.safety.specs.Items.{Vote, Prepared, Aborted, Item, Accepted, Voted, P1b, P2a, Setting, IsDecided, IsReportOfAccept, IsCovered}
use Rattle.safety.specs.Items as items
use Rattle.safety.specs.Standing.{Stands, setting, facts_at, facts_of, sent_in, HasVote}
use Rattle.safety.proofs.Argument.Agreement.{one_proposal, decided_was_proposed, decisions_last, prepared_was_voted, covered_at_most}
use Rattle.safety.proofs.Argument.Preservation.{IsDecided-kept}
use Rattle.safety.proofs.Leader.Heard.{committed_is, aborted_is}
use Rattle.safety.proofs.Leader.Invariant.{IsSentItem}
use Rattle.safety.proofs.World.Reachable.{invariant, leader_memory}
use Rattle.protocol.specs.declared.states.Standing.TheVariants as standings
use Rattle.protocol.specs.Effects.{Config, is_inside}
use Rattle.protocol.specs.Facts.{last_ballot}
use Rattle.protocol.specs.Nodes.{NodeState}
use Rattle.protocol.specs.Worlds.{World, world_after}
use Rattle.progress.specs.Runs.{leader_and_quorum, without_fault, Leads}
use Rattle.progress.specs.Outcomes.{status_answer, HasOutcome, HasBallots, IsAccepted}
use Rattle.progress.proofs.Backed.{IsBacked, backing_node, backing_facts}
use Rattle.progress.proofs.Leading.{run_backed}
use Rattle.progress.proofs.Announcing.{has_committed, has_aborted}
use Rattle.progress.proofs.Deciding.{decides}
use Rattle.progress.proofs.Keeping.{Keeps, TakesPart, run_keeps}

-- ---- what a majority accepted is proposed in each greater ballot

module _ {Tx : Type 0} (c : Setting Tx) (Has : Item Tx → Type 0) (inv : Invariant c Has) (tx : Tx) (i b : ℕ) (v : Vote)
    (members : ℕ → Bool) (majority : IsMajority c.acceptors members)
    (accepted : (a : ℕ) → a < c.acceptors → IsTrue (members a) → Has (Accepted a tx i b v)) where
  -- a member's accept was proposed
  was_proposed : Has (P2a tx i b v)
  was_proposed =
      let m = majorities_meet c.acceptors members members majority majority in
      inv.accept_sent (accepted m.member m.below m.of_first)

  reported_sent : {d a : ℕ} {report : Option (ℕ × Vote)} (e : ℕ) (w : Vote) → report ≡ Some (e, w) → Has (P1b tx i d report a)
      → (e < d) × Has (P2a tx i e w)
  reported_sent {d} {a} e w is h =
      let r : IsReportOfAccept Has tx i d a (Some (e, w)) = subst (IsReportOfAccept Has tx i d a) is (inv.reported h) in
      (r.0, inv.accept_sent r.1)

  later_below : (k d : ℕ) (w : Vote) → Has (P2a tx i d w) → b < d → d < k → w ≡ v
  later_below zero d w h l below = absurd (omega arith)
  later_below (suc k) d w h l below =
      let positive : 0 < d = omega arith in
      let p = inv.picked h positive in
      let m = majorities_meet c.acceptors members p.members majority p.majority in
      let covered : IsCovered (p.report m.member) b =
      inv.covers (p.heard m.member m.below m.of_second) (accepted m.member m.below m.of_first) l in
      elim p.value [
        | inl none ↦ absurd (subst (λ o. IsCovered o b) (none.1 m.member m.below m.of_second) covered)
        | inr g ↦
            let q = reported_sent g.top w g.says (p.heard g.member g.below g.is_in) in
            let between : b ≤ g.top = covered_at_most (p.report m.member) b g.top covered (g.greatest m.member m.below m.of_second) in
            elim (eq-or-lt_of_le between) [
              | inl e ↦ one_proposal c Has inv tx i b (subst (λ x. Has (P2a tx i x w)) (sym e) q.1) was_proposed
              | inr more ↦ later_below k g.top w q.1 more (omega arith)
            ]
      ]

  pub decides_it : (w : Vote) → IsDecided c.acceptors Has tx i w → w ≡ v
  decides_it w decided =
      let d = decided.0 in
      let sent : Has (P2a tx i d w) = decided_was_proposed c Has inv {tx = tx} {i = i} {b = d} {v = w} decided.1 in
      elim (cases_lt b d) [
        | inl above ↦ later_below (suc d) d w sent above (omega arith)
        | inr rest ↦ elim (eq-or-lt_of_le rest) [
          | inl same ↦ one_proposal c Has inv tx i b (subst (λ k. Has (P2a tx i k w)) same sent) was_proposed
          | inr below ↦
              sym (decisions_last c Has inv {tx = tx} {i = i} {b = d} {d = b} {v = w} {w = v} decided.1 was_proposed below)
        ]
      ]

-- ---- what a leader that answers has heard

-- a message's item stands where the message was sent
pub stands_if_sent : (config : Config) (world : World) (y : Item TxParts) → IsSentItem (IsIn (sent_in world)) y → Stands config world y
stands_if_sent config world (items.P1b tx i b report a) h = h
stands_if_sent config world (items.P2a tx i b v) h = h
stands_if_sent config world (items.P2b tx i b v a) h = h
stands_if_sent config world (items.Commit tx) h = h
stands_if_sent config world (items.Abort tx) h = h
stands_if_sent config world y h = absurd h

-- in the world that backs the leader's
module _ (config : Config) (tx : TxParts) (l : ℕ) (inside : is_inside config tx ≡ true) (world : World) (b : IsBacked config world) where
  all_prepared : status_answer config world l tx ≡ answers standings.Committed → (r : ℕ) → IsTrue (is_participant tx r)
      → IsDecided config.acceptors (Stands config b.machine) tx r Prepared
  all_prepared h r named =
      let has = has_committed config l tx inside world h in
      let there = backing_node config world b (L l) ∙ has.is in
      IsDecided-kept (stands_if_sent config b.machine) (committed_is config.acceptors (last_ballot has.node.facts)
      has.node.memory.leader tx
      (IsIn (sent_in b.machine)) (leader_memory config b.machine b.reach l has.node there).heard has.status_is r named)

  some_aborted : status_answer config world l tx ≡ answers standings.Aborted
      → (r : ℕ) × IsTrue (is_participant tx r) × IsDecided config.acceptors (Stands config b.machine) tx r Aborted
  some_aborted h =
      let has = has_aborted config l tx inside world h in
      let there = backing_node config world b (L l) ∙ has.is in
      let found = aborted_is config.acceptors (last_ballot has.node.facts) has.node.memory.leader tx (IsIn (sent_in b.machine))
      (leader_memory config b.machine b.reach l has.node there).heard has.status_is in
      (found.0, found.1, IsDecided-kept (stands_if_sent config b.machine) found.2)

-- ---- the outcome

module _ (config : Config) (tx : TxParts) (l : ℕ) (q : ℕ → Bool) (few : l < config.leaders) (inside : is_inside config tx ≡ true)
    (majority : is_majority config.acceptors q ≡ true) (world : World) (reach : IsBacked config world)
    (ballots : HasBallots config world l q tx) where
  abbrev part : NodeId → Bool
  part = leader_and_quorum l q

  run : Leads config part tx (HasOutcome config l tx) world
  run = decides config tx l q few inside majority world reach ballots

  abbrev after : World
  after = world_after config world (without_fault run.events)

  reached : IsBacked config after
  reached = run_backed config part tx run.events world reach run.at

  abbrev Has : Item TxParts → Type 0
  Has = Stands config reached.machine

  inv : Invariant (setting config) Has
  inv = invariant config reached.machine reached.reach

  keeps : Keeps config (TakesPart config part tx) world after
  keeps = run_keeps config part tx world run.events run.at

  -- accepted prepared of each participant: no outcome is aborted
  pub commits : ((r : ℕ) → IsTrue (is_participant tx r) → IsAccepted config world tx r Prepared)
      → Leads config part tx (λ after. status_answer config after l tx ≡ answers standings.Committed) world
  commits accepted = record {
    events = run.events;
    at = run.at;
    holds = elim run.holds [
      | inl committed ↦ committed
      | inr aborted ↦
          let found = some_aborted config tx l inside after reached aborted in
          let one = accepted found.0 found.1 in
          let same : Aborted ≡ Prepared =
          decides_it (setting config) Has inv tx found.0 one.ballot Prepared one.members
          (ltb-true config.acceptors (2 * count config.acceptors one.members) one.majority)
          (λ a lt is. subst (λ (facts : List Fact). IsIn facts (stored.Accept tx found.0 one.ballot Prepared))
          (sym (backing_facts config after reached (A a)))
          (keeps.kept (A a) (stored.Accept tx found.0 one.ballot Prepared) (one.accepted a lt is))) Aborted found.2 in
          absurd (cc (same))
    ];
  }

  -- a participant hasn't voted prepared: no outcome is committed
  pub aborts : (r : ℕ) → IsTrue (is_participant tx r) → (Stands config world (Voted r tx Prepared) → ⊥)
      → Leads config part tx (λ after. status_answer config after l tx ≡ answers standings.Aborted) world
  aborts r named unvoted = record {
    events = run.events;
    at = run.at;
    holds = elim run.holds [
      | inl committed ↦
          let decided = all_prepared config tx l inside after reached committed r named in
          let voted : HasVote (facts_at config reached.machine (R r)) tx Prepared =
          prepared_was_voted (setting config) Has inv {tx = tx} {i = r} {b = decided.0}
          (decided_was_proposed (setting config) Has inv {tx = tx} {i = r} {b = decided.0} {v = Prepared} decided.1) in
          absurd (unvoted (subst (λ (o : Option NodeState). HasVote (facts_of o) tx Prepared)
          (backing_node config after reached (R r) ∙ keeps.others (R r) (λ e. absurd (cc (e)))) voted))
      | inr aborted ↦ aborted
    ];
  }
