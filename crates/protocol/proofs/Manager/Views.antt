-- What the tests and look-ups of a resource manager's facts say: each by the facts that are among them.
-- Needed by Kept.Facts, Manager.Apart, Manager.Effects and Manager.Prepared; 7 crates above.
use Rattle.std.proofs.Common.{◌≡◌, Bool, true, false, ◌||◌, if◌then◌else◌, List, [], ◌∷◌, ◌++◌, Option, Some, None, is_some}
use Rattle.std.proofs.Common.{inl, inr, refl, sym, ap, ◌∙◌, subst}
use Rattle.std.specs.Bool.{Decides}
use Rattle.std.specs.List.{list_any}
use Rattle.std.proofs.lemmas.Bool.{both_ways, or_parts, false_from_ne_true}
use Rattle.xid.specs.Transactions.{TxParts}
use Rattle.xid.specs.declared.transaction.Vote.{Vote}
use Rattle.xid.specs.declared.transaction.Vote.TheVariants as votes
use Rattle.protocol.specs.Basics.{Fact, Touched}
use Rattle.stable_record.specs.declared.fact.FactKind.TheVariants as stored
use Rattle.protocol.specs.declared.states.View.TheVariants as views
use Rattle.protocol.specs.Vocabulary.{View}
use Rattle.protocol.specs.Facts.{is_vote_of, vote_in, is_commit_of, is_abort_of, is_ended, view, is_prepared_view, IsViewOf, HasVote}
use Rattle.xid.proofs.Deciding.{tx_self, tx_decides}
use Rattle.ballot.specs.Greatest.{IsIn}
use Rattle.protocol.proofs.Lists.{any_found, found_any, IsIn-before, IsIn-push, IsIn-last}

-- ---- votes

vote_same : (facts : List Fact) (tx : TxParts) (v : Vote) (fact : Fact) → IsIn facts fact → is_vote_of tx v fact ≡ true
    → HasVote facts tx v
vote_same facts tx votes.Prepared (stored.VotePrepared other keys) h e =
    (keys, subst (λ (t : TxParts). IsIn facts (stored.VotePrepared t keys)) (sym ((tx_decides tx other).0 e)) h)
vote_same facts tx votes.Aborted (stored.VoteAborted other) h e =
    subst (λ (t : TxParts). IsIn facts (stored.VoteAborted t)) (sym ((tx_decides tx other).0 e)) h
vote_same facts tx votes.Prepared fact h e = absurd (cc (e))
vote_same facts tx votes.Aborted fact h e = absurd (cc (e))

vote_passes : (facts : List Fact) (tx : TxParts) (v : Vote) → HasVote facts tx v → list_any (is_vote_of tx v) facts ≡ true
vote_passes facts tx votes.Prepared h = found_any (is_vote_of tx votes.Prepared) facts (stored.VotePrepared tx h.0) h.1 (tx_self tx)
vote_passes facts tx votes.Aborted h = found_any (is_vote_of tx votes.Aborted) facts (stored.VoteAborted tx) h (tx_self tx)

-- the test of votes decides whether a vote was cast
pub casts_decides : (facts : List Fact) (tx : TxParts) (v : Vote) → Decides (list_any (is_vote_of tx v) facts) (HasVote facts tx v)
casts_decides facts tx v = (
  λ h. let found = any_found (is_vote_of tx v) facts h in vote_same facts tx v found.element found.among found.passes,
  vote_passes facts tx v,
)

pub not_cast : (facts : List Fact) (tx : TxParts) (v : Vote) → list_any (is_vote_of tx v) facts ≡ false → ¬ HasVote facts tx v
not_cast facts tx v e h = both_ways (list_any (is_vote_of tx v) facts) e ((casts_decides facts tx v).1 h)

-- more facts keep what is stored
pub HasVote-kept : (facts now : List Fact) (tx : TxParts) (v : Vote) → ((f : Fact) → IsIn facts f → IsIn now f) → HasVote facts tx v
    → HasVote now tx v
HasVote-kept facts now tx votes.Prepared kept h = (h.0, kept _ h.1)
HasVote-kept facts now tx votes.Aborted kept h = kept _ h

abbrev vote_of : (prepared aborted : Bool) → Option Vote
vote_of p a = if p then Some votes.Prepared else if a then Some votes.Aborted else None

module _ (facts : List Fact) (tx : TxParts) where
  vote_by : (v : Vote) (p a : Bool)
      → list_any (is_vote_of tx votes.Prepared) facts ≡ p
      → list_any (is_vote_of tx votes.Aborted) facts ≡ a
      → vote_of p a ≡ Some v → HasVote facts tx v
  vote_by votes.Prepared true a p q e = (casts_decides facts tx votes.Prepared).0 p
  vote_by votes.Prepared false true p q e = absurd (cc (e))
  vote_by votes.Prepared false false p q e = absurd (cc (e))
  vote_by votes.Aborted true a p q e = absurd (cc (e))
  vote_by votes.Aborted false true p q e = (casts_decides facts tx votes.Aborted).0 q
  vote_by votes.Aborted false false p q e = absurd (cc (e))

-- the vote that is looked up is stored
pub vote_in_stands : (facts : List Fact) (tx : TxParts) (v : Vote) → vote_in facts tx ≡ Some v → HasVote facts tx v
vote_in_stands facts tx v e =
    vote_by facts tx v (list_any (is_vote_of tx votes.Prepared) facts) (list_any (is_vote_of tx votes.Aborted) facts) refl refl e

module _ (facts : List Fact) (tx : TxParts) where
  none_by : (p a : Bool)
      → list_any (is_vote_of tx votes.Prepared) facts ≡ p
      → list_any (is_vote_of tx votes.Aborted) facts ≡ a
      → vote_of p a ≡ None → (v : Vote) → ¬ HasVote facts tx v
  none_by true a p q e v = absurd (cc (e))
  none_by false true p q e v = absurd (cc (e))
  none_by false false p q e votes.Prepared = not_cast facts tx votes.Prepared p
  none_by false false p q e votes.Aborted = not_cast facts tx votes.Aborted q

-- where none is found, none is stored
pub vote_in_none : (facts : List Fact) (tx : TxParts) → vote_in facts tx ≡ None → (v : Vote) → ¬ HasVote facts tx v
vote_in_none facts tx e =
    none_by facts tx (list_any (is_vote_of tx votes.Prepared) facts) (list_any (is_vote_of tx votes.Aborted) facts) refl refl e

some_by : (o : Option Vote) → is_some o ≡ false → o ≡ None
some_by None e = refl
some_by (Some v) e = absurd (cc (e))

-- whether a vote is stored
pub unvoted : (facts : List Fact) (tx : TxParts) → is_some (vote_in facts tx) ≡ false → (v : Vote) → ¬ HasVote facts tx v
unvoted facts tx e = vote_in_none facts tx (some_by (vote_in facts tx) e)

vote_is_prepared : (facts : List Fact) (tx : TxParts) → list_any (is_vote_of tx votes.Prepared) facts ≡ true
    → vote_in facts tx ≡ Some votes.Prepared
vote_is_prepared facts tx p = ap (λ (b : Bool). vote_of b (list_any (is_vote_of tx votes.Aborted) facts)) p

vote_is_aborted : (facts : List Fact) (tx : TxParts) → list_any (is_vote_of tx votes.Prepared) facts ≡ false
    → list_any (is_vote_of tx votes.Aborted) facts ≡ true
    → vote_in facts tx ≡ Some votes.Aborted
vote_is_aborted facts tx p q = ap (λ (b : Bool). vote_of b (list_any (is_vote_of tx votes.Aborted) facts)) p ∙ ap (vote_of false) q

pub vote_in_prepared : (facts : List Fact) (tx : TxParts) → HasVote facts tx votes.Prepared → vote_in facts tx ≡ Some votes.Prepared
vote_in_prepared facts tx h = vote_is_prepared facts tx (vote_passes facts tx votes.Prepared h)

-- a first vote is the one that is looked up then
pub vote_in_after_prepared : (facts : List Fact) (tx : TxParts) (keys : List Touched)
    → vote_in (facts ++ stored.VotePrepared tx keys ∷ []) tx ≡ Some votes.Prepared
vote_in_after_prepared facts tx keys =
    vote_in_prepared (facts ++ stored.VotePrepared tx keys ∷ []) tx (keys, IsIn-last facts (stored.VotePrepared tx keys))

-- after a vote to abort, where none to commit was cast, that is the vote
pub vote_in_after_aborted : (facts : List Fact) (tx : TxParts) → ¬ HasVote facts tx votes.Prepared
    → vote_in (facts ++ stored.VoteAborted tx ∷ []) tx ≡ Some votes.Aborted
vote_in_after_aborted facts tx none =
    vote_is_aborted (facts ++ stored.VoteAborted tx ∷ []) tx
    (false_from_ne_true (list_any (is_vote_of tx votes.Prepared) (facts ++ stored.VoteAborted tx ∷ []))
    (λ e. let h = (casts_decides (facts ++ stored.VoteAborted tx ∷ []) tx votes.Prepared).0 e in
    elim (IsIn-push facts (stored.VoteAborted tx) (stored.VotePrepared tx h.0) h.1) [
      | inl old ↦ none (h.0, old)
      | inr same ↦ absurd (cc (same))
    ]))
    (vote_passes (facts ++ stored.VoteAborted tx ∷ []) tx votes.Aborted (IsIn-last facts (stored.VoteAborted tx)))

-- ---- outcomes

-- a commit of a transaction is this fact
pub committed_same : (tx : TxParts) (fact : Fact) → is_commit_of tx fact ≡ true → fact ≡ stored.Committed tx
committed_same tx (stored.Committed other) e = ap stored.Committed (sym ((tx_decides tx other).0 e))
committed_same tx fact e = absurd (cc (e))

aborted_same : (tx : TxParts) (fact : Fact) → is_abort_of tx fact ≡ true → fact ≡ stored.Aborted tx
aborted_same tx (stored.Aborted other) e = ap stored.Aborted (sym ((tx_decides tx other).0 e))
aborted_same tx fact e = absurd (cc (e))

pub commits_decides : (facts : List Fact) (tx : TxParts) → Decides (list_any (is_commit_of tx) facts) (IsIn facts (stored.Committed tx))
commits_decides facts tx = (
  λ h. let found = any_found (is_commit_of tx) facts h in subst (IsIn facts) (committed_same tx found.element found.passes) found.among,
  λ h. found_any (is_commit_of tx) facts (stored.Committed tx) h (tx_self tx),
)

-- the test of aborts decides whether one is stored
pub aborts_decides : (facts : List Fact) (tx : TxParts) → Decides (list_any (is_abort_of tx) facts) (IsIn facts (stored.Aborted tx))
aborts_decides facts tx = (
  λ h. let found = any_found (is_abort_of tx) facts h in subst (IsIn facts) (aborted_same tx found.element found.passes) found.among,
  λ h. found_any (is_abort_of tx) facts (stored.Aborted tx) h (tx_self tx),
)

pub not_committed : (facts : List Fact) (tx : TxParts) → list_any (is_commit_of tx) facts ≡ false → ¬ IsIn facts (stored.Committed tx)
not_committed facts tx e h = both_ways (list_any (is_commit_of tx) facts) e ((commits_decides facts tx).1 h)

pub not_aborted : (facts : List Fact) (tx : TxParts) → list_any (is_abort_of tx) facts ≡ false → ¬ IsIn facts (stored.Aborted tx)
not_aborted facts tx e h = both_ways (list_any (is_abort_of tx) facts) e ((aborts_decides facts tx).1 h)

-- no outcome of a transaction is stored
pub record IsUnended (facts : List Fact) (tx : TxParts) : Type 0 where
  pub uncommitted : ¬ IsIn facts (stored.Committed tx)
  pub undropped : ¬ IsIn facts (stored.Aborted tx)

-- what has not ended by the test has no end stored
pub unended : (facts : List Fact) (tx : TxParts) → is_ended facts tx ≡ false → IsUnended facts tx
unended facts tx e =
    let parts = or_parts (list_any (is_commit_of tx) facts) (list_any (is_abort_of tx) facts) e in
    record { uncommitted = not_committed facts tx parts.0; undropped = not_aborted facts tx parts.1 }

-- ---- views

abbrev pub view_of : (voted_aborted dropped committed voted_prepared : Bool) → View
view_of a b c d = if a || b then views.Aborted else if c then views.Committed else if d then views.Prepared else views.Working

module _ (facts : List Fact) (tx : TxParts) where
  shown_by : (a b c d : Bool)
      → list_any (is_vote_of tx votes.Aborted) facts ≡ a
      → list_any (is_abort_of tx) facts ≡ b
      → list_any (is_commit_of tx) facts ≡ c → list_any (is_vote_of tx votes.Prepared) facts ≡ d → IsViewOf facts tx (view_of a b c d)
  shown_by true b c d p q r s = inl ((casts_decides facts tx votes.Aborted).0 p)
  shown_by false true c d p q r s = inr ((aborts_decides facts tx).0 q)
  shown_by false false true d p q r s =
      ((commits_decides facts tx).0 r, not_cast facts tx votes.Aborted p, not_aborted facts tx q)
  shown_by false false false true p q r s =
      ((casts_decides facts tx votes.Prepared).0 s, not_committed facts tx r, not_cast facts tx votes.Aborted p, not_aborted facts tx q)
  shown_by false false false false p q r s = (none_by facts tx false false s p refl, not_committed facts tx r, not_aborted facts tx q)

-- a view is one of four, by what stands
pub view_is : (facts : List Fact) (tx : TxParts) → IsViewOf facts tx (view facts tx)
view_is facts tx =
    shown_by facts tx (list_any (is_vote_of tx votes.Aborted) facts) (list_any (is_abort_of tx) facts) (list_any (is_commit_of tx) facts)
    (list_any (is_vote_of tx votes.Prepared) facts) refl refl refl refl

prepared_by : (facts : List Fact) (tx : TxParts) (v : View) → IsViewOf facts tx v → is_prepared_view v ≡ true
    → IsViewOf facts tx views.Prepared
prepared_by facts tx views.Prepared h e = h
prepared_by facts tx other h e = absurd (cc (e))

-- prepared: the vote prepared is stored, the vote aborted isn't, and no outcome
pub prepared_shows : (facts : List Fact) (tx : TxParts) → is_prepared_view (view facts tx) ≡ true → IsViewOf facts tx views.Prepared
prepared_shows facts tx e = prepared_by facts tx (view facts tx) (view_is facts tx) e

-- and the other way round
pub shows_prepared : (facts : List Fact) (tx : TxParts) → IsViewOf facts tx views.Prepared → view facts tx ≡ views.Prepared
shows_prepared facts tx h =
    let drops = list_any (is_abort_of tx) facts in
    let commits = list_any (is_commit_of tx) facts in
    let prepared = list_any (is_vote_of tx votes.Prepared) facts in
    let none = false_from_ne_true (list_any (is_vote_of tx votes.Aborted) facts) (λ e. h.2 ((casts_decides facts tx votes.Aborted).0 e)) in
    let undropped = false_from_ne_true drops (λ e. h.3 ((aborts_decides facts tx).0 e)) in
    let uncommitted = false_from_ne_true commits (λ e. h.1 ((commits_decides facts tx).0 e)) in
    ap (λ (b : Bool). view_of b drops commits prepared) none ∙ ap (λ (b : Bool). view_of false b commits prepared) undropped
    ∙ ap (λ (b : Bool). view_of false false b prepared) uncommitted
    ∙ ap (λ (b : Bool). view_of false false false b) ((casts_decides facts tx votes.Prepared).1 h.0)

-- where a vote prepared was stored, a view that is prepared was so before the last fact
pub prepared_before : (facts : List Fact) (fact : Fact) (tx : TxParts) → HasVote facts tx votes.Prepared
    → is_prepared_view (view (facts ++ fact ∷ []) tx) ≡ true → is_prepared_view (view facts tx) ≡ true
prepared_before facts fact tx voted e =
    let h = prepared_shows (facts ++ fact ∷ []) tx e in
    let kept : (f : Fact) → IsIn facts f → IsIn (facts ++ fact ∷ []) f = λ f. IsIn-before facts (fact ∷ []) f in
    ap is_prepared_view (shows_prepared facts tx (
      voted,
      λ k. h.1 (kept (stored.Committed tx) k),
      λ k. h.2 (HasVote-kept facts (facts ++ fact ∷ []) tx votes.Aborted kept k),
      λ k. h.3 (kept (stored.Aborted tx) k),
    ))
