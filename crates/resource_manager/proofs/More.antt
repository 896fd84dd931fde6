-- What one more fact says, beside those before.
-- Needed by 7 files here; crates forgetting, node_core and cluster.
use Rattle.std.proofs.Common.{◌≡◌, ◌∙◌, inl, inr, ℕ, Bool, true, false, not, ◌||◌, ◌&&◌, cond, List, [], ◌∷◌, ◌++◌, Option, Some}
use Rattle.std.proofs.Common.{None, refl, sym, ap, subst, filter, filter_map, unwrap_or}
use Rattle.std.specs.Prelude.{find, fold}
use Rattle.std.specs.List.{list_any, cons_option}
use Rattle.std.specs.Option.{option_map_or}
use Rattle.std.proofs.lemmas.List.Folds.{list_any-append}
use Rattle.std.proofs.lemmas.List.Elements.{filter_map-append}
use Rattle.xid.specs.Names.{XidParts, xid_eq}
use Rattle.xid.specs.Transactions.{TxParts, tx_eq, xid_at}
use Rattle.xid.specs.declared.transaction.Vote.{Vote}
use Rattle.xid.proofs.Deciding.{tx_self}
use Rattle.ballot.specs.Greatest.{IsIn}
use Rattle.stable_record.specs.declared.fact.FactKind.{FactKind as Fact}
use Rattle.stable_record.specs.declared.fact.Touched.{Touched}
use Rattle.stable_record.specs.Facts.{fact_tx}
use Rattle.protocol.specs.Facts.{is_vote_of, is_commit_of, is_abort_of, is_spent, Bound, branch_bound_by, HasVote}
use Rattle.protocol.specs.Managers.{Branch, branches_without}
use Rattle.protocol.specs.declared.rows.Row.{Row}
use Rattle.protocol.specs.Tables.{put_row, with_writes, keys_voted, commit_of, table}
use Rattle.protocol.proofs.Lists.{found_any, any_find, filter_map_gives, filter_map_given}
use Rattle.resource_manager.specs.declared.course.Course.{Course}
use Rattle.resource_manager.specs.Courses.{Stored, stored_in, stored_by}
use Rattle.resource_manager.specs.Managers.{unspent_branches}

-- ---- which facts of a transaction are stored

or_none : (b : Bool) → (b || (false || false)) ≡ b
or_none true = refl
or_none false = refl

-- a test of one more fact
tested : (p : Fact → Bool) (facts : List Fact) (fact : Fact) (a b : Bool) → list_any p facts ≡ a → p fact ≡ b
    → list_any p (facts ++ fact ∷ []) ≡ (a || (b || false))
tested p facts fact a b e f = list_any-append p facts (fact ∷ []) ∙ (λ i. e i || (f i || false))

-- the tests that a fact of another transaction fails
pub record FailsTests (tx : TxParts) (fact : Fact) : Type 0 where
  pub voted_prepared : is_vote_of tx Vote.Prepared fact ≡ false
  pub voted_aborted : is_vote_of tx Vote.Aborted fact ≡ false
  pub committed : is_commit_of tx fact ≡ false
  pub aborted : is_abort_of tx fact ≡ false

-- a fact of another transaction fails each test of this one
pub fails : (tx : TxParts) (fact : Fact) → tx_eq tx (fact_tx fact) ≡ false → FailsTests tx fact
fails tx (Fact.VotePrepared other keys) e = record { voted_prepared = e; voted_aborted = refl; committed = refl; aborted = refl }
fails tx (Fact.VoteAborted other) e = record { voted_prepared = refl; voted_aborted = e; committed = refl; aborted = refl }
fails tx (Fact.Committed other) e = record { voted_prepared = refl; voted_aborted = refl; committed = e; aborted = refl }
fails tx (Fact.Aborted other) e = record { voted_prepared = refl; voted_aborted = refl; committed = refl; aborted = e }
fails tx (Fact.Promise other i b) e = record { voted_prepared = refl; voted_aborted = refl; committed = refl; aborted = refl }
fails tx (Fact.Accept other i b v) e = record { voted_prepared = refl; voted_aborted = refl; committed = refl; aborted = refl }
fails tx (Fact.Ballot other b) e = record { voted_prepared = refl; voted_aborted = refl; committed = refl; aborted = refl }
fails tx (Fact.PromiseAll other b) e = record { voted_prepared = refl; voted_aborted = refl; committed = refl; aborted = refl }

-- a fact leaves what is stored of every other transaction
pub stored_other : (facts : List Fact) (fact : Fact) (tx : TxParts) → tx_eq tx (fact_tx fact) ≡ false
    → stored_in (facts ++ fact ∷ []) tx ≡ stored_in facts tx
stored_other facts fact tx e =
    let f = fails tx fact e in
    let same : (p : Fact → Bool) → p fact ≡ false → list_any p (facts ++ fact ∷ []) ≡ list_any p facts =
    λ p g. tested p facts fact (list_any p facts) false refl g ∙ or_none (list_any p facts) in
    λ i. record {
      voted_prepared = same (is_vote_of tx Vote.Prepared) f.voted_prepared i;
      voted_aborted = same (is_vote_of tx Vote.Aborted) f.voted_aborted i;
      committed = same (is_commit_of tx) f.committed i;
      aborted = same (is_abort_of tx) f.aborted i;
    }

-- what is stored of a fact's own transaction
pub own : (facts : List Fact) (fact : Fact) (tx : TxParts) (s : Stored) (p a c d : Bool) → stored_in facts tx ≡ s
    → is_vote_of tx Vote.Prepared fact ≡ p → is_vote_of tx Vote.Aborted fact ≡ a → is_commit_of tx fact ≡ c → is_abort_of tx fact ≡ d
    → stored_in (facts ++ fact ∷ []) tx
    ≡ record {
      voted_prepared = s.voted_prepared || (p || false);
      voted_aborted = s.voted_aborted || (a || false);
      committed = s.committed || (c || false);
      aborted = s.aborted || (d || false);
    }
own facts fact tx s p a c d e f g h k = λ i. record {
  voted_prepared = tested (is_vote_of tx Vote.Prepared) facts fact s.voted_prepared p (ap (λ t. t.voted_prepared) e) f i;
  voted_aborted = tested (is_vote_of tx Vote.Aborted) facts fact s.voted_aborted a (ap (λ t. t.voted_aborted) e) g i;
  committed = tested (is_commit_of tx) facts fact s.committed c (ap (λ t. t.committed) e) h i;
  aborted = tested (is_abort_of tx) facts fact s.aborted d (ap (λ t. t.aborted) e) k i;
}

module _ (facts : List Fact) (tx : TxParts) where
  -- after a vote to commit
  pub voted_then : (keys : List Touched) → stored_in facts tx ≡ stored_by Course.Working
      → stored_in (facts ++ Fact.VotePrepared tx keys ∷ []) tx ≡ stored_by Course.Prepared
  voted_then keys e = own facts (Fact.VotePrepared tx keys) tx (stored_by Course.Working) true false false false e
      (tx_self tx) refl refl refl

  -- after a vote to abort
  pub refused_then : stored_in facts tx ≡ stored_by Course.Working
      → stored_in (facts ++ Fact.VoteAborted tx ∷ []) tx ≡ stored_by Course.VotedAborted
  refused_then e = own facts (Fact.VoteAborted tx) tx (stored_by Course.Working) false true false false e refl (tx_self tx) refl refl

  -- after a commit
  pub committed_then : stored_in facts tx ≡ stored_by Course.Prepared
      → stored_in (facts ++ Fact.Committed tx ∷ []) tx ≡ stored_by Course.Committed
  committed_then e = own facts (Fact.Committed tx) tx (stored_by Course.Prepared) false false true false e refl refl (tx_self tx) refl

  -- after an abort of what works
  pub aborted_then : stored_in facts tx ≡ stored_by Course.Working
      → stored_in (facts ++ Fact.Aborted tx ∷ []) tx ≡ stored_by Course.AbortedUnvoted
  aborted_then e = own facts (Fact.Aborted tx) tx (stored_by Course.Working) false false false true e refl refl refl (tx_self tx)

  -- after an abort of what is prepared
  pub undone_then : stored_in facts tx ≡ stored_by Course.Prepared
      → stored_in (facts ++ Fact.Aborted tx ∷ []) tx ≡ stored_by Course.RolledBack
  undone_then e = own facts (Fact.Aborted tx) tx (stored_by Course.Prepared) false false false true e refl refl refl (tx_self tx)

-- two filters, one after the other
module _ (p q r : Branch → Bool) where
  twice_by : (b : Branch) (bs : List Branch) (t u : Bool) → q b ≡ u → filter r bs ≡ filter q (filter p bs)
      → cond (t && u) (b ∷ filter r bs) (filter r bs) ≡ filter q (cond t (b ∷ filter p bs) (filter p bs))
  twice_by b bs true u f rest = λ i. cond (sym f i) (b ∷ rest i) (rest i)
  twice_by b bs false u f rest = rest

  filter_twice : ((b : Branch) → r b ≡ (p b && q b)) → (bs : List Branch) → filter r bs ≡ filter q (filter p bs)
  filter_twice e [] = refl
  filter_twice e (b ∷ bs) =
      ap (λ (t : Bool). cond t (b ∷ filter r bs) (filter r bs)) (e b) ∙ twice_by b bs (p b) (q b) refl (filter_twice e bs)

-- ---- spent names

or_swap : (a b : Bool) → (a || (b || false)) ≡ (b || a)
or_swap true true = refl
or_swap true false = refl
or_swap false true = refl
or_swap false false = refl

module _ (rm : ℕ) (facts : List Fact) (fact : Fact) (x : XidParts) (name : xid_at (fact_tx fact) rm ≡ Some x) where
  -- which names are spent with one fact more
  pub spent_more : (y : XidParts) → is_spent rm (facts ++ fact ∷ []) y ≡ (xid_eq y x || is_spent rm facts y)
  spent_more y =
      let at = λ (f : Fact). xid_at (fact_tx f) rm in
      ap (list_any (xid_eq y)) (filter_map-append at facts (fact ∷ []))
      ∙ list_any-append (xid_eq y) (filter_map at facts) (cons_option (at fact) [])
      ∙ ap (λ (o : Option XidParts). is_spent rm facts y || list_any (xid_eq y) (cons_option o [])) name
      ∙ or_swap (is_spent rm facts y) (xid_eq y x)

  not_either : (a b : Bool) → not (a || b) ≡ (not b && not a)
  not_either true true = refl
  not_either true false = refl
  not_either false true = refl
  not_either false false = refl

  -- of branches whose names aren't spent those of other names are left
  pub unspent_more : (bs : List Branch) → unspent_branches rm (facts ++ fact ∷ []) bs ≡ branches_without (unspent_branches rm facts bs) x
  unspent_more bs =
      filter_twice (λ b. not (is_spent rm facts b.xid)) (λ b. not (xid_eq b.xid x)) (λ b. not (is_spent rm (facts ++ fact ∷ []) b.xid))
      (λ b. ap not (spent_more b.xid) ∙ not_either (xid_eq b.xid x) (is_spent rm facts b.xid)) bs

-- branches whose names aren't spent are all left
pub unspent_all : (rm : ℕ) (facts : List Fact) (bs : List Branch) → ((b : Branch) → IsIn bs b → is_spent rm facts b.xid ≡ false)
    → unspent_branches rm facts bs ≡ bs
unspent_all rm facts [] unspent = refl
unspent_all rm facts (b ∷ bs) unspent =
    ap (λ (t : Bool). cond (not t) (b ∷ unspent_branches rm facts bs) (unspent_branches rm facts bs)) (unspent b (inl refl))
    ∙ ap (λ cs. b ∷ cs) (unspent_all rm facts bs (λ c h. unspent c (inr h)))

-- ---- the table

module _ (facts : List Fact) (fact : Fact) where
  found_by : (p : Bound → Bool) (x : Bound) (xs ys : List Bound) (b : Bound) → (find p xs ≡ Some b → find p (xs ++ ys) ≡ Some b)
      → (t : Bool) → cond t (Some x) (find p xs) ≡ Some b → cond t (Some x) (find p (xs ++ ys)) ≡ Some b
  found_by p x xs ys b rest true e = e
  found_by p x xs ys b rest false e = rest e

  found_before : (p : Bound → Bool) (xs ys : List Bound) (b : Bound) → find p xs ≡ Some b → find p (xs ++ ys) ≡ Some b
  found_before p [] ys b e = absurd (cc (e))
  found_before p (x ∷ xs) ys b e = found_by p x xs ys b (found_before p xs ys b) (p x) e

  -- the keys of a stored vote stay
  pub keys_stay : (tx : TxParts) → HasVote facts tx Vote.Prepared → keys_voted (facts ++ fact ∷ []) tx ≡ keys_voted facts tx
  keys_stay tx h =
      let bound : Bound = record { tx = tx; keys = h.0 } in
      let p = λ (b : Bound). tx_eq tx b.tx in
      let votes = filter_map branch_bound_by facts in
      let there = filter_map_gives branch_bound_by facts (Fact.VotePrepared tx h.0) bound h.1 refl in
      let found = any_find p votes (found_any p votes bound there (tx_self tx)) in
      ap (λ (o : Option Bound). option_map_or (λ b. b.keys) o [])
      (ap (find p) (filter_map-append branch_bound_by facts (fact ∷ []))
      ∙ found_before p votes (cons_option (branch_bound_by fact) []) found.0 found.1 ∙ sym found.1)

  module _ (voted : (tx : TxParts) → IsIn facts (Fact.Committed tx) → HasVote facts tx Vote.Prepared) where
    committed_is : (f : Fact) (tx : TxParts) → commit_of f ≡ Some tx → f ≡ Fact.Committed tx
    committed_is (Fact.Committed other) tx e = ap (λ (o : Option TxParts). Fact.Committed (unwrap_or o other)) e
    committed_is f tx e = absurd (cc (e))

    same_writes : (txs : List TxParts) (rows : List Row) → ((tx : TxParts) → IsIn txs tx → HasVote facts tx Vote.Prepared)
        → fold (λ before tx. with_writes before (keys_voted (facts ++ fact ∷ []) tx)) rows txs
        ≡ fold (λ before tx. with_writes before (keys_voted facts tx)) rows txs
    same_writes [] rows each = refl
    same_writes (tx ∷ txs) rows each =
        same_writes txs (with_writes rows (keys_voted (facts ++ fact ∷ []) tx)) (λ t h. each t (inr h))
        ∙ ap (λ (keys : List Touched). fold (λ before t. with_writes before (keys_voted facts t)) (with_writes rows keys) txs)
        (keys_stay tx (each tx (inl refl)))

    fold_push : (f : List Row → TxParts → List Row) (rows : List Row) (txs : List TxParts) (o : Option TxParts)
        → fold f rows (txs ++ cons_option o []) ≡ option_map_or (f (fold f rows txs)) o (fold f rows txs)
    fold_push f rows [] None = refl
    fold_push f rows [] (Some tx) = refl
    fold_push f rows (t ∷ txs) o = fold_push f (f rows t) txs o

    -- the rows after one more fact: a commit writes the keys of its vote
    pub table_more : (first : List Row) → table first (facts ++ fact ∷ [])
        ≡ option_map_or (λ tx. with_writes (table first facts) (keys_voted (facts ++ fact ∷ []) tx)) (commit_of fact) (table first facts)
    table_more first =
        let start = fold put_row [] first in
        let write = λ (before : List Row) (tx : TxParts). with_writes before (keys_voted (facts ++ fact ∷ []) tx) in
        let same = same_writes (filter_map commit_of facts) start (λ tx h.
        let given = filter_map_given commit_of facts tx h in
        voted tx (subst (IsIn facts) (committed_is given.source tx given.gives) given.among)) in
        ap (fold write start) (filter_map-append commit_of facts (fact ∷ []))
        ∙ fold_push write start (filter_map commit_of facts) (commit_of fact)
        ∙ ap (λ (rows : List Row). option_map_or (write rows) (commit_of fact) rows) same
