-- What the facts store that the entries of a shorter record stand for.
-- Needed by Kept, Same and Shortened; crate forgetting.
use Rattle.std.proofs.Common.{◌≡◌, ◌∙◌, Bool, true, false, ◌||◌, cond, List, [], ◌∷◌, ◌++◌, Option, Some, None, refl, sym, ap, subst}
use Rattle.std.proofs.Common.{append-nil, append_assoc, inl, inr}
use Rattle.std.specs.Prelude.{filter_map, fold}
use Rattle.std.specs.List.{cons_option, flat_map, list_any}
use Rattle.std.specs.Option.{option_map_or}
use Rattle.std.proofs.lemmas.List.Folds.{list_any-append}
use Rattle.xid.specs.Transactions.{TxParts, tx_eq}
use Rattle.xid.specs.declared.transaction.Vote.{Vote}
use Rattle.xid.proofs.Deciding.{tx_decides, tx_self}
use Rattle.transactions.proofs.First.{seen_twice}
use Rattle.ballot.specs.Greatest.{IsIn}
use Rattle.stable_record.specs.declared.fact.FactKind.{FactKind as Fact}
use Rattle.stable_record.specs.declared.fact.Touched.{Touched}
use Rattle.stable_record.specs.declared.entry.EntryKind.{EntryKind as Entry}
use Rattle.stable_record.specs.Facts.{fact_tx}
use Rattle.transactions.specs.Seen.{seen_with}
use Rattle.protocol.specs.Facts.{is_vote_of, is_commit_of, is_abort_of}
use Rattle.protocol.proofs.Lists.{IsIn-joined}
use Rattle.resource_manager.specs.declared.course.Course.{Course}
use Rattle.resource_manager.specs.Courses.{Stored, stored_in, stored_by, is_new_course}
use Rattle.resource_manager.specs.Compacted.{entry_of, facts_of}
use Rattle.resource_manager.proofs.Begun.{begun_append, seen_after}

-- ---- the facts that stand for a transaction

-- by how far it has come, and the keys of its vote
abbrev pub part : TxParts → Course → List Touched → List Fact
part tx Course.Working keys = []
part tx Course.Prepared keys = Fact.VotePrepared tx keys ∷ []
part tx Course.VotedAborted keys = Fact.VoteAborted tx ∷ []
part tx Course.Committed keys = Fact.VotePrepared tx [] ∷ Fact.Committed tx ∷ []
part tx Course.RolledBack keys = Fact.VotePrepared tx [] ∷ Fact.Aborted tx ∷ []
part tx Course.AbortedUnvoted keys = Fact.Aborted tx ∷ []

part_is : (tx : TxParts) (c : Course) (keys : List Touched) → option_map_or facts_of (entry_of tx (stored_by c) keys) [] ≡ part tx c keys
part_is tx Course.Working keys = refl
part_is tx Course.Prepared keys = refl
part_is tx Course.VotedAborted keys = refl
part_is tx Course.Committed keys = refl
part_is tx Course.RolledBack keys = refl
part_is tx Course.AbortedUnvoted keys = refl

-- ---- what is stored in two lists

-- what one of two stores
abbrev pub either : Stored → Stored → Stored
either s t = record {
  voted_prepared = s.voted_prepared || t.voted_prepared;
  voted_aborted = s.voted_aborted || t.voted_aborted;
  committed = s.committed || t.committed;
  aborted = s.aborted || t.aborted;
}

-- two lists of facts store what one of them does
pub stored_append : (facts more : List Fact) (tx : TxParts) → stored_in (facts ++ more) tx ≡ either (stored_in facts tx) (stored_in more tx)
stored_append facts more tx = λ i. record {
  voted_prepared = list_any-append (is_vote_of tx Vote.Prepared) facts more i;
  voted_aborted = list_any-append (is_vote_of tx Vote.Aborted) facts more i;
  committed = list_any-append (is_commit_of tx) facts more i;
  aborted = list_any-append (is_abort_of tx) facts more i;
}

own_part : (tx : TxParts) (c : Course) (keys : List Touched) → stored_in (part tx c keys) tx ≡ stored_by c
own_part tx Course.Working keys = refl
own_part tx Course.Prepared keys = λ i. record {
  voted_prepared = tx_self tx i || false;
  voted_aborted = false;
  committed = false;
  aborted = false;
}
own_part tx Course.VotedAborted keys = λ i. record {
  voted_prepared = false;
  voted_aborted = tx_self tx i || false;
  committed = false;
  aborted = false;
}
own_part tx Course.Committed keys = λ i. record {
  voted_prepared = tx_self tx i || false;
  voted_aborted = false;
  committed = tx_self tx i || false;
  aborted = false;
}
own_part tx Course.RolledBack keys = λ i. record {
  voted_prepared = tx_self tx i || false;
  voted_aborted = false;
  committed = false;
  aborted = tx_self tx i || false;
}
own_part tx Course.AbortedUnvoted keys = λ i. record {
  voted_prepared = false;
  voted_aborted = false;
  committed = false;
  aborted = tx_self tx i || false;
}

other_part : (tx t : TxParts) (c : Course) (keys : List Touched) → tx_eq tx t ≡ false
    → stored_in (part t c keys) tx ≡ stored_by Course.Working
other_part tx t Course.Working keys e = refl
other_part tx t Course.Prepared keys e = λ i. record {
  voted_prepared = e i || false;
  voted_aborted = false;
  committed = false;
  aborted = false;
}
other_part tx t Course.VotedAborted keys e = λ i. record {
  voted_prepared = false;
  voted_aborted = e i || false;
  committed = false;
  aborted = false;
}
other_part tx t Course.Committed keys e = λ i. record {
  voted_prepared = e i || false;
  voted_aborted = false;
  committed = e i || false;
  aborted = false;
}
other_part tx t Course.RolledBack keys e = λ i. record {
  voted_prepared = e i || false;
  voted_aborted = false;
  committed = false;
  aborted = e i || false;
}
other_part tx t Course.AbortedUnvoted keys e = λ i. record {
  voted_prepared = false;
  voted_aborted = false;
  committed = false;
  aborted = e i || false;
}

once_more : (b : Bool) (c : Course) → either (stored_by c) (stored_by (cond b c Course.Working)) ≡ stored_by c
once_more true Course.Working = refl
once_more true Course.Prepared = refl
once_more true Course.VotedAborted = refl
once_more true Course.Committed = refl
once_more true Course.RolledBack = refl
once_more true Course.AbortedUnvoted = refl
once_more false Course.Working = refl
once_more false Course.Prepared = refl
once_more false Course.VotedAborted = refl
once_more false Course.Committed = refl
once_more false Course.RolledBack = refl
once_more false Course.AbortedUnvoted = refl

-- ---- the facts of several transactions

module _ (course : TxParts → Course) (keys : TxParts → List Touched) where
  -- the facts that entries of transactions stand for
  abbrev pub parts_of : List TxParts → List Fact
  parts_of txs = flat_map (λ tx. part tx (course tx) (keys tx)) txs

  -- the entries stand for just these
  pub parts_are : (txs : List TxParts)
      → flat_map facts_of (filter_map (λ tx. entry_of tx (stored_by (course tx)) (keys tx)) txs) ≡ parts_of txs
  parts_are [] = refl
  parts_are (tx ∷ txs) =
      by (entry_of tx (stored_by (course tx)) (keys tx)) ∙ (λ i. part_is tx (course tx) (keys tx) i ++ parts_are txs i)
    where
      by : (o : Option Entry)
          → flat_map facts_of (cons_option o (filter_map (λ t. entry_of t (stored_by (course t)) (keys t)) txs))
          ≡ option_map_or facts_of o []
          ++ flat_map facts_of (filter_map (λ t. entry_of t (stored_by (course t)) (keys t)) txs)
      by None = refl
      by (Some entry) = refl

  -- with one transaction more
  pub parts_push : (txs : List TxParts) (tx : TxParts) → parts_of (txs ++ tx ∷ []) ≡ parts_of txs ++ part tx (course tx) (keys tx)
  parts_push [] tx = append-nil (part tx (course tx) (keys tx))
  parts_push (t ∷ txs) tx =
      ap (λ fs. part t (course t) (keys t) ++ fs) (parts_push txs tx)
      ∙ sym (append_assoc (part t (course t) (keys t)) (parts_of txs) (part tx (course tx) (keys tx)))

  -- of each of these transactions is stored what its course says, and of others nothing
  pub stored_parts : (txs : List TxParts) (tx : TxParts)
      → stored_in (parts_of txs) tx ≡ stored_by (cond (list_any (tx_eq tx) txs) (course tx) Course.Working)
  stored_parts [] tx = refl
  stored_parts (t ∷ txs) tx =
      stored_append (part t (course t) (keys t)) (parts_of txs) tx ∙ by (tx_eq tx t) refl (stored_parts txs tx)
    where
      by : (b : Bool) → tx_eq tx t ≡ b
          → stored_in (parts_of txs) tx ≡ stored_by (cond (list_any (tx_eq tx) txs) (course tx) Course.Working)
          → either (stored_in (part t (course t) (keys t)) tx) (stored_in (parts_of txs) tx)
          ≡ stored_by (cond (tx_eq tx t || list_any (tx_eq tx) txs) (course tx) Course.Working)
      by true e rest =
          let same = (tx_decides tx t).0 e in
          (λ i. either (stored_in (part (sym same i) (course (sym same i)) (keys (sym same i))) tx) (rest i))
          ∙ ap (λ s. either s (stored_by (cond (list_any (tx_eq tx) txs) (course tx) Course.Working))) (own_part tx (course tx) (keys tx))
          ∙ once_more (list_any (tx_eq tx) txs) (course tx)
          ∙ ap (λ b. stored_by (cond (b || list_any (tx_eq tx) txs) (course tx) Course.Working)) (sym e)
      by false e rest =
          (λ i. either (other_part tx t (course t) (keys t) e i) (rest i))
          ∙ ap (λ b. stored_by (cond (b || list_any (tx_eq tx) txs) (course tx) Course.Working)) (sym e)

  -- ---- their order

  seen_part : (seen : List TxParts) (tx : TxParts) (c : Course) (ks : List Touched) → is_new_course c ≡ false
      → fold seen_after seen (part tx c ks) ≡ seen_with seen tx
  seen_part seen tx Course.Working ks e = absurd (cc (e))
  seen_part seen tx Course.Prepared ks e = refl
  seen_part seen tx Course.VotedAborted ks e = refl
  seen_part seen tx Course.Committed ks e = seen_twice seen tx
  seen_part seen tx Course.RolledBack ks e = seen_twice seen tx
  seen_part seen tx Course.AbortedUnvoted ks e = refl

  -- the transactions of these facts
  pub begun_parts : (seen txs : List TxParts) → ((tx : TxParts) → IsIn txs tx → is_new_course (course tx) ≡ false)
      → fold seen_after seen (parts_of txs) ≡ fold seen_with seen txs
  begun_parts seen [] each = refl
  begun_parts seen (tx ∷ txs) each =
      begun_append seen (part tx (course tx) (keys tx)) (parts_of txs)
      ∙ ap (λ s. fold seen_after s (parts_of txs)) (seen_part seen tx (course tx) (keys tx) (each tx (inl refl)))
      ∙ begun_parts (seen_with seen tx) txs (λ t h. each t (inr h))

  -- ---- their votes

  abbrev keys_in : Fact → List Touched
  keys_in (Fact.VotePrepared tx ks) = ks
  keys_in fact = []

  -- a vote prepared among them is of one of the transactions; and of one that is prepared, with its keys
  pub record IsPartVote (txs : List TxParts) (tx : TxParts) (ks : List Touched) : Type 0 where
    pub among : IsIn txs tx
    pub keys_are : course tx ≡ Course.Prepared → ks ≡ keys tx

  part_vote : (t tx : TxParts) (ks : List Touched) (c : Course) → course t ≡ c → IsIn (part t c (keys t)) (Fact.VotePrepared tx ks)
      → (t ≡ tx) × (course tx ≡ Course.Prepared → ks ≡ keys tx)
  part_vote t tx ks Course.Working e h = absurd h
  part_vote t tx ks Course.Prepared e (inl same) =
      let own = ap fact_tx same in (own, λ prepared. sym (ap keys_in same) ∙ ap keys own)
  part_vote t tx ks Course.Prepared e (inr none) = absurd none
  part_vote t tx ks Course.VotedAborted e (inl same) = absurd (cc (same))
  part_vote t tx ks Course.VotedAborted e (inr none) = absurd none
  part_vote t tx ks Course.Committed e (inl same) =
      let own = ap fact_tx same in (own, λ prepared. absurd (not_both (sym e ∙ ap course own ∙ prepared)))
    where
      not_both : Course.Committed ≡ Course.Prepared → ⊥
      not_both f = absurd (cc (f))
  part_vote t tx ks Course.Committed e (inr (inl same)) = absurd (cc (same))
  part_vote t tx ks Course.Committed e (inr (inr none)) = absurd none
  part_vote t tx ks Course.RolledBack e (inl same) =
      let own = ap fact_tx same in (own, λ prepared. absurd (not_both (sym e ∙ ap course own ∙ prepared)))
    where
      not_both : Course.RolledBack ≡ Course.Prepared → ⊥
      not_both f = absurd (cc (f))
  part_vote t tx ks Course.RolledBack e (inr (inl same)) = absurd (cc (same))
  part_vote t tx ks Course.RolledBack e (inr (inr none)) = absurd none
  part_vote t tx ks Course.AbortedUnvoted e (inl same) = absurd (cc (same))
  part_vote t tx ks Course.AbortedUnvoted e (inr none) = absurd none

  -- a vote to commit among them is one of a transaction that is prepared
  pub parts_vote : (txs : List TxParts) (tx : TxParts) (ks : List Touched) → IsIn (parts_of txs) (Fact.VotePrepared tx ks)
      → IsPartVote txs tx ks
  parts_vote txs tx ks h =
      let from = IsIn-joined (λ t. part t (course t) (keys t)) txs (Fact.VotePrepared tx ks) h in
      let is = part_vote from.source tx ks (course from.source) refl from.inside in
      record { among = subst (IsIn txs) is.0 from.among; keys_are = is.1 }
