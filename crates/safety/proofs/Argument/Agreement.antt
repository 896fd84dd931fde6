-- One value for each instance, and one outcome for each transaction.
-- Needed by 4 functions of this crate; Argument.Views and World.Reachable; 4 crates above.
use Rattle.std.proofs.Common.{◌≡◌, ◌⊎◌, ℕ, zero, suc, ◌<◌, ◌≤◌, IsTrue, Option, Some, None, inl}
use Rattle.std.proofs.Common.{inr, sym, subst, le_trans, eq-or-lt_of_le, eq-zero-or-pos, arith}
use Rattle.safety.specs.Items.{Vote, Prepared, Aborted, Item, Voted, Committed, P1b, P2a, Commit, Abort}
use Rattle.safety.specs.Items.{Setting, IsDecidedIn, IsDecided, IsReportOfAccept, IsCovered, IsBallotAtMost}
use Rattle.ballot.proofs.Majorities.{majorities_meet}
use Rattle.safety.specs.Invariant.{Invariant}

in_order : (a b : ℕ) → (a < b) ⊎ ((a ≡ b) ⊎ (b < a))
in_order a b = grind arith

-- a ballot that a report covers is no greater than the greatest
pub covered_at_most : (report : Option (ℕ × Vote)) (b top : ℕ) → IsCovered report b → IsBallotAtMost report top → b ≤ top
covered_at_most None b top h k = absurd h
covered_at_most (Some last) b top h k = le_trans h k

module _ {Tx : Type 0} (c : Setting Tx) (Has : Item Tx → Type 0) (inv : Invariant c Has) where
  -- one value for each instance and ballot, ballot 0 included
  pub one_proposal : (tx : Tx) (i b : ℕ) {v w : Vote} → Has (P2a tx i b v) → Has (P2a tx i b w) → v ≡ w
  one_proposal tx i zero h k = inv.vote_once (inv.first_is_vote h) (inv.first_is_vote k)
  one_proposal tx i (suc b) h k = inv.proposed_once h k (omega arith)

  -- what a majority accepted was proposed
  pub decided_was_proposed : {tx : Tx} {i b : ℕ} {v : Vote} → IsDecidedIn c.acceptors Has tx i b v → Has (P2a tx i b v)
  decided_was_proposed d =
      let m = majorities_meet c.acceptors d.members d.members d.majority d.majority in
      inv.accept_sent (inv.told_accepted (d.accepted m.member m.below m.of_first))

  -- a reported value was proposed, in a ballot below
  reported_was_proposed : {tx : Tx} {i b a : ℕ} {report : Option (ℕ × Vote)} (d : ℕ) (v : Vote)
      → report ≡ Some (d, v) → Has (P1b tx i b report a) → (d < b) × Has (P2a tx i d v)
  reported_was_proposed {tx} {i} {b} {a} d v e h =
      let r : IsReportOfAccept Has tx i b a (Some (d, v)) = subst (IsReportOfAccept Has tx i b a) e (inv.reported h) in
      (r.0, inv.accept_sent r.1)

  -- once v is decided in ballot b, each greater ballot below k proposes v
  later_below : (k : ℕ) {tx : Tx} {i b d : ℕ} {v w : Vote}
      → IsDecidedIn c.acceptors Has tx i b v → Has (P2a tx i d w) → b < d → d < k → w ≡ v
  later_below zero dec h l below = absurd (omega arith)
  later_below (suc k) {tx} {i} {b} {d} {v} {w} dec h l below =
      let positive : 0 < d = omega arith in
      let p = inv.picked h positive in
      let m = majorities_meet c.acceptors dec.members p.members dec.majority p.majority in
      let covered : IsCovered (p.report m.member) b =
      inv.covers (p.heard m.member m.below m.of_second) (inv.told_accepted (dec.accepted m.member m.below m.of_first)) l in
      elim p.value [
        | inl none ↦ absurd (subst (λ o. IsCovered o b) (none.1 m.member m.below m.of_second) covered)
        | inr g ↦
            let q = reported_was_proposed g.top w g.says (p.heard g.member g.below g.is_in) in
            let between : b ≤ g.top = covered_at_most (p.report m.member) b g.top covered (g.greatest m.member m.below m.of_second) in
            elim (eq-or-lt_of_le between) [
              | inl e ↦ one_proposal tx i b (subst (λ x. Has (P2a tx i x w)) (sym e) q.1) (decided_was_proposed dec)
              | inr more ↦ later_below k dec q.1 more (omega arith)
            ]
      ]

  -- once v is decided in ballot b, each greater ballot proposes v
  pub decisions_last : {tx : Tx} {i b d : ℕ} {v w : Vote}
      → IsDecidedIn c.acceptors Has tx i b v → Has (P2a tx i d w) → b < d → w ≡ v
  decisions_last {d = d} dec h l = later_below (suc d) dec h l (omega arith)

  -- two decided values of an instance are equal
  pub one_decision : {tx : Tx} {i : ℕ} {v w : Vote}
      → IsDecided c.acceptors Has tx i v → IsDecided c.acceptors Has tx i w → v ≡ w
  one_decision {tx} {i} {v} {w} d e =
      elim (in_order d.0 e.0) [
        | inl below ↦ sym (decisions_last d.1 (decided_was_proposed e.1) below)
        | inr rest ↦ elim rest [
          | inl same ↦
              one_proposal tx i d.0 (decided_was_proposed d.1) (subst (λ x. Has (P2a tx i x w)) (sym same) (decided_was_proposed e.1))
          | inr above ↦ decisions_last e.1 (decided_was_proposed d.1) above
        ]
      ]

  -- a proposal of prepared, in any ballot, has a stored vote prepared
  prepared_below : (k : ℕ) {tx : Tx} {i b : ℕ} → Has (P2a tx i b Prepared) → b < k → Has (Voted i tx Prepared)
  prepared_below zero h below = absurd (omega arith)
  prepared_below (suc k) {tx} {i} {b} h below =
      elim (eq-zero-or-pos b) [
        | inl e ↦ inv.first_is_vote (subst (λ x. Has (P2a tx i x Prepared)) e h)
        | inr above ↦
            let p = inv.picked h above in
            elim p.value [
              | inl none ↦ let e : Prepared ≡ Aborted = none.0 in absurd (cc)
              | inr g ↦
                  let q = reported_was_proposed g.top Prepared g.says (p.heard g.member g.below g.is_in) in
                  prepared_below k q.1 (omega arith)
            ]
      ]

  pub prepared_was_voted : {tx : Tx} {i b : ℕ} → Has (P2a tx i b Prepared) → Has (Voted i tx Prepared)
  prepared_was_voted {b = b} h = prepared_below (suc b) h (omega arith)

  -- a commit finds that each participant voted prepared
  pub commit_finds_prepared : {tx : Tx} → Has (Commit tx) → (r : ℕ) → IsTrue (c.is_participant tx r) → Has (Voted r tx Prepared)
  commit_finds_prepared h r named = prepared_was_voted (decided_was_proposed (inv.all_prepared h r named).1)

  -- so does a resource manager that committed
  pub committed_finds_prepared : {tx : Tx} {r : ℕ} → Has (Committed r tx)
      → (q : ℕ) → IsTrue (c.is_participant tx q) → Has (Voted q tx Prepared)
  committed_finds_prepared h q named = commit_finds_prepared (inv.commit_sent h) q named

  -- a transaction is not both committed and aborted
  pub one_outcome : {tx : Tx} → Has (Commit tx) → Has (Abort tx) → ⊥
  one_outcome h k =
      let d = inv.some_aborted k in
      let e : Prepared ≡ Aborted = one_decision (inv.all_prepared h d.0 d.1) d.2 in
      absurd (cc)
