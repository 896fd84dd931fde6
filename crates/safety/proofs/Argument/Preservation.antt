-- The invariant holds before anything stands, and each allowed addition keeps it.
-- Needed by Argument.Additions, Argument.Views, Leader.Allowed and World.Events; crates progress, answers and commits.
use Rattle.std.proofs.Common.{◌≡◌, ◌⊎◌, ℕ, zero, suc, ◌<◌, Option, Some, None, inl, inr, ⊎_elim, sym, subst, arith}
use Rattle.safety.specs.Items.{Vote, Item, Accepted, Voted, P1b, P2a, Setting, IsDecided, IsMajorityPick, IsReportOfAccept, IsCovered}
use Rattle.safety.specs.Items.{IsProposal, IsSomeAborted, IsAllowed, IsAllowedIfAny, IsGrown}
use Rattle.safety.specs.Invariant.{Invariant}

-- before anything stands
pub invariant_at_start : {Tx : Type 0} (c : Setting Tx) (Has : Item Tx → Type 0) → ((y : Item Tx) → ¬ Has y) → Invariant c Has
invariant_at_start c Has none = record {
  vote_once = λ h k. absurd (none _ h);
  voter_named = λ h. absurd (none _ h);
  first_is_vote = λ h. absurd (none _ h);
  owned = λ h p. absurd (none _ h);
  picked = λ h p. absurd (none _ h);
  proposed_once = λ h k p. absurd (none _ h);
  accept_sent = λ h. absurd (none _ h);
  told_accepted = λ h. absurd (none _ h);
  promised = λ h. absurd (none _ h);
  reported = λ h. absurd (none _ h);
  covers = λ h k l. absurd (none _ h);
  all_prepared = λ h r m. absurd (none _ h);
  some_aborted = λ h. absurd (none _ h);
  commit_sent = λ h. absurd (none _ h);
  commit_voted = λ h. absurd (none _ h);
  abort_sent = λ h. absurd (none _ h);
}

-- what stays true as more comes to stand
module _ {Tx : Type 0} {Has Now : Item Tx → Type 0} (kept : (y : Item Tx) → Has y → Now y) where
  pub IsDecided-kept : {n : ℕ} {tx : Tx} {i : ℕ} {v : Vote} → IsDecided n Has tx i v → IsDecided n Now tx i v
  IsDecided-kept d = (
    d.0,
    record {
      members = d.1.members;
      majority = d.1.majority;
      accepted = λ a l m. kept _ (d.1.accepted a l m);
    },
  )

  pub IsMajorityPick-kept : {n : ℕ} {tx : Tx} {i b : ℕ} {v : Vote} → IsMajorityPick n Has tx i b v → IsMajorityPick n Now tx i b v
  IsMajorityPick-kept p = record {
    members = p.members;
    majority = p.majority;
    report = p.report;
    heard = λ a l m. kept _ (p.heard a l m);
    value = p.value;
  }

  pub IsReportOfAccept-kept : (tx : Tx) (i b a : ℕ) (report : Option (ℕ × Vote))
      → IsReportOfAccept Has tx i b a report → IsReportOfAccept Now tx i b a report
  IsReportOfAccept-kept tx i b a None r = tt
  IsReportOfAccept-kept tx i b a (Some last) r = (r.0, kept _ r.1)

module _ {Tx : Type 0} (c : Setting Tx) (Has : Item Tx → Type 0) (tx : Tx) (i : ℕ) where
  -- above ballot 0 a value that may be sent is a proposal
  above_zero : (b : ℕ) (v : Vote)
      → 0 < b → IsAllowed c Has (P2a tx i b v) → IsProposal c Has tx i b v
  above_zero zero v h ok = absurd (omega arith)
  above_zero (suc b) v h ok = ok

-- what is added is allowed, whatever it is
pub allowed_as : {Tx : Type 0} (c : Setting Tx) (Has : Item Tx → Type 0) (added : Option (Item Tx)) (y : Item Tx)
    → IsAllowedIfAny c Has added → added ≡ Some y → IsAllowed c Has y
allowed_as c Has added y ok e = subst (IsAllowedIfAny c Has) e ok

module _ {Tx : Type 0} (c : Setting Tx) (Has Now : Item Tx → Type 0) (added : Option (Item Tx))
    (inv : Invariant c Has) (ok : IsAllowedIfAny c Has added) (grown : IsGrown Has added Now) where
  allowed : {y : Item Tx} → added ≡ Some y → IsAllowed c Has y
  allowed {y} e = allowed_as c Has added y ok e

  -- a vote
  vote_once_kept : {r : ℕ} {tx : Tx} {v w : Vote} → Has (Voted r tx v) ⊎ (added ≡ Some (Voted r tx v))
      → Has (Voted r tx w) ⊎ (added ≡ Some (Voted r tx w)) → v ≡ w
  vote_once_kept (inl h) (inl k) = inv.vote_once h k
  vote_once_kept (inl h) (inr f) = absurd ((allowed f).unvoted h)
  vote_once_kept (inr e) (inl k) = absurd ((allowed e).unvoted k)
  vote_once_kept (inr e) (inr f) = cc

  proposed_once_kept : {tx : Tx} {i b : ℕ} {v w : Vote} → Has (P2a tx i b v) ⊎ (added ≡ Some (P2a tx i b v))
      → Has (P2a tx i b w) ⊎ (added ≡ Some (P2a tx i b w)) → 0 < b → v ≡ w
  proposed_once_kept (inl h) (inl k) p = inv.proposed_once h k p
  proposed_once_kept {tx} {i} {b} {v} {w} (inl h) (inr f) p = (above_zero c Has tx i b w p (allowed f)).alone h
  proposed_once_kept {tx} {i} {b} {v} {w} (inr e) (inl k) p = sym ((above_zero c Has tx i b v p (allowed e)).alone k)
  proposed_once_kept (inr e) (inr f) p = cc

  covers_kept : {a : ℕ} {tx : Tx} {i b d : ℕ} {report : Option (ℕ × Vote)} {v : Vote}
      → Has (P1b tx i b report a) ⊎ (added ≡ Some (P1b tx i b report a))
      → Has (Accepted a tx i d v) ⊎ (added ≡ Some (Accepted a tx i d v)) → d < b → IsCovered report d
  covers_kept (inl h) (inl k) l = inv.covers h k l
  covers_kept (inl h) (inr f) l = let m = (allowed f).promise_kept (inv.promised h) in absurd (omega arith)
  covers_kept (inr e) (inl k) l = (allowed e).covers k l
  covers_kept (inr e) (inr f) l = absurd (cc)

  arrives : {y : Item Tx} → Now y → Has y ⊎ IsAllowed c Has y
  arrives {y} h = ⊎_elim (λ (old : Has y). inl old) (λ (e : added ≡ Some y). inr (allowed e)) (grown.only h)

  aborted_kept : {tx : Tx} → IsSomeAborted c Has tx → IsSomeAborted c Now tx
  aborted_kept d = (d.0, d.1, IsDecided-kept (λ y h. grown.kept h) d.2)

  stays : (y : Item Tx) → Has y → Now y
  stays y h = grown.kept h

  pub invariant_kept : Invariant c Now
  invariant_kept = record {
    vote_once = λ h k. vote_once_kept (grown.only h) (grown.only k);
    voter_named = λ h. elim (arrives h) [ inl old ↦ inv.voter_named old | inr new ↦ new.named ];
    first_is_vote = λ h. grown.kept (elim (arrives h) [ inl old ↦ inv.first_is_vote old | inr new ↦ new ]);
    owned = λ h p. grown.kept (elim (arrives h) [ inl old ↦ inv.owned old p | inr new ↦ (above_zero c Has _ _ _ _ p new).owned ]);
    picked = λ h p. IsMajorityPick-kept stays
        (elim (arrives h) [ inl old ↦ inv.picked old p | inr new ↦ (above_zero c Has _ _ _ _ p new).picked ]);
    proposed_once = λ h k. proposed_once_kept (grown.only h) (grown.only k);
    accept_sent = λ h. grown.kept (elim (arrives h) [ inl old ↦ inv.accept_sent old | inr new ↦ new.sent ]);
    told_accepted = λ h. grown.kept (elim (arrives h) [ inl old ↦ inv.told_accepted old | inr new ↦ new ]);
    promised = λ h. grown.kept (elim (arrives h) [ inl old ↦ inv.promised old | inr new ↦ new.promised ]);
    reported = λ h. IsReportOfAccept-kept stays _ _ _ _ _ (elim (arrives h) [ inl old ↦ inv.reported old | inr new ↦ new.reported ]);
    covers = λ h k. covers_kept (grown.only h) (grown.only k);
    all_prepared = λ h r m. IsDecided-kept stays (elim (arrives h) [ inl old ↦ inv.all_prepared old r m | inr new ↦ new r m ]);
    some_aborted = λ h. aborted_kept (elim (arrives h) [ inl old ↦ inv.some_aborted old | inr new ↦ new ]);
    commit_sent = λ h. grown.kept (elim (arrives h) [ inl old ↦ inv.commit_sent old | inr new ↦ new.0 ]);
    commit_voted = λ h. grown.kept (elim (arrives h) [ inl old ↦ inv.commit_voted old | inr new ↦ new.1 ]);
    abort_sent = λ h. grown.kept (elim (arrives h) [ inl old ↦ inv.abort_sent old | inr new ↦ new ]);
  }
