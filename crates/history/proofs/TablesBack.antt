-- The table that a manager's facts give is the one looked back at; and so are the names of its prepared branches.
-- Needed by Conflicts, Laws, SerialReads and SerialTables.
use Rattle.std.proofs.Common.{◌≡◌, ◌∙◌, inl, inr, ℕ, Bool, true, false, if◌then◌else◌, List, [], ◌∷◌, Option, Some, unwrap_or}
use Rattle.std.proofs.Common.{refl, sym, ap, subst, map}
use Rattle.std.specs.Prelude.{filter, filter_map, fold, reverse}
use Rattle.std.specs.List.{cons_option}
use Rattle.std.specs.Option.{option_map_or}
use Rattle.xid.specs.Names.{XidParts}
use Rattle.xid.specs.Transactions.{TxParts, tx_eq, xid_at}
use Rattle.xid.specs.declared.transaction.Vote.TheVariants as votes
use Rattle.xid.proofs.Deciding.{tx_decides, tx_self}
use Rattle.stable_record.specs.declared.fact.FactKind.TheVariants as stored
use Rattle.protocol.specs.Basics.{Fact, Touched}
use Rattle.safety.specs.Vocabulary.{Change, Step, Row}
use Rattle.protocol.specs.Effects.{Config}
use Rattle.protocol.specs.Facts.{Bound, branch_bound_by, bound_branches, is_prepared_view}
use Rattle.protocol.specs.Managers.{insert_xid}
use Rattle.protocol.specs.Nodes.{NodeState}
use Rattle.protocol.specs.Tables.{put_row, with_writes, keys_voted, commit_of, table}
use Rattle.protocol.specs.Holds.{IsIn}
use Rattle.protocol.proofs.Lists.{found_any, found_among, any_find, filter_map_given, filter_map_gives}
use Rattle.protocol.proofs.Manager.Apart.{bound_is}
use Rattle.protocol.proofs.Manager.Keys.{names_name}
use Rattle.protocol.proofs.Manager.Played.{voted_named}
use Rattle.history.specs.Lines.{changes_at, change_stored, view_back}
use Rattle.history.specs.Writes.{actions_since_start, accepted_writes, writes_of, is_committed_view, changed_to, commit_order, table_back}
use Rattle.history.specs.Writes.{names_prepared}
use Rattle.branch_table.proofs.TableRows.{AscendRows, writes_ascend, first_ascend}
use Rattle.history.proofs.Rows.{same_writes}
use Rattle.history.proofs.Told.{IsSound, IsTold}
use Rattle.history.proofs.Kept.{IsKept}

-- ---- the order of commits

in_front : {X : Type 0} (o p : Option X) (xs ys : List X) → o ≡ p → xs ≡ ys → cons_option o xs ≡ cons_option p ys
in_front o p xs ys e f = λ i. cons_option (e i) (f i)

pub commit_is : (rm : ℕ) (fact : Fact) → commit_of fact ≡ changed_to is_committed_view (change_stored rm fact)
commit_is rm (stored.Committed tx) = refl
commit_is rm (stored.VotePrepared tx keys) = refl
commit_is rm (stored.VoteAborted tx) = refl
commit_is rm (stored.Aborted tx) = refl
commit_is rm fact = refl

commits_are : (rm : ℕ) (facts : List Fact)
    → filter_map commit_of facts ≡ filter_map (changed_to is_committed_view) (map (change_stored rm) facts)
commits_are rm [] = refl
commits_are rm (fact ∷ facts) =
    in_front (commit_of fact) (changed_to is_committed_view (change_stored rm fact)) _ _ (commit_is rm fact) (commits_are rm facts)

pub committed_is : (fact : Fact) (tx : TxParts) → commit_of fact ≡ Some tx → fact ≡ stored.Committed tx
committed_is (stored.Committed other) tx e = ap (λ (o : Option TxParts). stored.Committed (unwrap_or o other)) e
committed_is fact tx e = absurd (cc (e))

-- the stored vote that is looked up
pub record IsVoteFound (facts : List Fact) (tx : TxParts) : Type 0 where
  pub keys : List Touched
  pub looked_up : keys_voted facts tx ≡ keys
  pub stands : IsIn facts (stored.VotePrepared tx keys)

module _ (config : Config) (rm : ℕ) (node : NodeState) (before : List Step) (sound : IsSound config rm node)
    (kept : IsKept rm node before) (lines : map (change_stored rm) node.facts ≡ reverse (changes_at rm before)) where
  pub order_back : filter_map commit_of node.facts ≡ commit_order rm before
  order_back = commits_are rm node.facts ∙ ap (filter_map (changed_to is_committed_view)) lines

  abbrev votes_of : List Bound
  votes_of = filter_map branch_bound_by node.facts

  abbrev is_vote_on : TxParts → Bound → Bool
  is_vote_on tx bound = tx_eq tx bound.tx

  -- a vote that is stored is looked up
  pub voted_found : (tx : TxParts) (keys : List Touched) → IsIn node.facts (stored.VotePrepared tx keys) → IsVoteFound node.facts tx
  voted_found tx keys h =
      let bound : Bound = record { tx = tx; keys = keys } in
      let there = filter_map_gives branch_bound_by node.facts (stored.VotePrepared tx keys) bound h refl in
      let found = any_find (is_vote_on tx) votes_of (found_any (is_vote_on tx) votes_of bound there (tx_self tx)) in
      let among = found_among (is_vote_on tx) votes_of found.0 found.1 in
      let source = filter_map_given branch_bound_by node.facts found.0 among.0 in
      let own = (tx_decides tx (found.0).tx).0 among.1 in
      record {
        keys = (found.0).keys;
        looked_up = ap (λ (o : Option Bound). option_map_or (λ b. b.keys) o []) found.1;
        stands = subst (λ (t : TxParts). IsIn node.facts (stored.VotePrepared t (found.0).keys)) (sym own)
            (subst (IsIn node.facts) (bound_is source.source found.0 source.gives) source.among);
      }

  -- the vote on a committed transaction
  pub vote_found : (tx : TxParts) → IsIn (filter_map commit_of node.facts) tx → IsVoteFound node.facts tx
  vote_found tx h =
      let given = filter_map_given commit_of node.facts tx h in
      let vote = kept.committed tx (subst (IsIn node.facts) (committed_is given.source tx given.gives) given.among) in
      voted_found tx vote.0 vote.1

  -- its writes
  pub writes_by : (tx : TxParts) (rows : List Row) → AscendRows rows → (keys : List Touched) → keys_voted node.facts tx ≡ keys
      → IsIn node.facts (stored.VotePrepared tx keys) → (x : XidParts) → xid_at tx rm ≡ Some x
      → with_writes rows (keys_voted node.facts tx) ≡ with_writes rows (writes_of rm before tx)
  writes_by tx rows are keys is stands x name =
      ap (with_writes rows) is
      ∙ same_writes rows keys (actions_since_start rm x before) are (kept.ascending tx keys stands) (kept.written tx keys x stands name)
      ∙ sym (ap (λ (o : Option XidParts). with_writes rows (option_map_or (λ y. accepted_writes rm y before) o [])) name)

  writes_back : (tx : TxParts) (rows : List Row) → AscendRows rows → IsIn (filter_map commit_of node.facts) tx
      → with_writes rows (keys_voted node.facts tx) ≡ with_writes rows (writes_of rm before tx)
  writes_back tx rows are h =
      let vote = vote_found tx h in
      let name = names_name tx rm (voted_named config rm node.facts sound.played tx votes.Prepared (vote.keys, vote.stands)) in
      writes_by tx rows are vote.keys vote.looked_up vote.stands name.0 name.1

  pub all_back : (txs : List TxParts) (rows : List Row) → AscendRows rows → ((tx : TxParts) → IsIn txs tx
      → IsIn (filter_map commit_of node.facts) tx)
      → fold (λ before_it tx. with_writes before_it (keys_voted node.facts tx)) rows txs
      ≡ fold (λ before_it tx. with_writes before_it (writes_of rm before tx)) rows txs
  all_back [] rows are some = refl
  all_back (tx ∷ txs) rows are some =
      all_back txs (with_writes rows (keys_voted node.facts tx)) (writes_ascend rows (keys_voted node.facts tx) are)
      (λ t h. some t (inr h))
      ∙ ap (λ (after : List Row). fold (λ before_it t. with_writes before_it (writes_of rm before t)) after txs)
      (writes_back tx rows are (some tx (inl refl)))

  pub table_is : (first : List Row) → table first node.facts ≡ table_back first rm before
  table_is first =
      all_back (filter_map commit_of node.facts) (fold put_row [] first) (first_ascend [] first tt) (λ tx h. h)
      ∙ ap (fold (λ before_it tx. with_writes before_it (writes_of rm before tx)) (fold put_row [] first)) order_back

-- ---- the names of prepared branches

module _ (rm : ℕ) (node : NodeState) (before : List Step) (told : IsTold rm node before)
    (lines : map (change_stored rm) node.facts ≡ reverse (changes_at rm before)) where
  abbrev at : Bound → Option XidParts
  at bound = xid_at bound.tx rm

  abbrev passes : TxParts → Bool
  passes tx = is_prepared_view (view_back rm before tx)

  kept_names : (b : Bool) (bound : Bound) (bounds : List Bound) (txs : List TxParts)
      → filter_map at bounds ≡ filter_map (λ tx. xid_at tx rm) txs
      → filter_map at (if b then bound ∷ bounds else bounds) ≡ filter_map (λ tx. xid_at tx rm) (if b then bound.tx ∷ txs else txs)
  kept_names true bound bounds txs e = ap (cons_option (at bound)) e
  kept_names false bound bounds txs e = e

  names_by : (facts : List Fact)
      → filter_map at (filter (λ bound. passes bound.tx) (filter_map branch_bound_by facts))
      ≡ filter_map (λ tx. xid_at tx rm) (filter passes (filter_map (changed_to is_prepared_view) (map (change_stored rm) facts)))
  names_by [] = refl
  names_by (stored.VotePrepared tx keys ∷ facts) = kept_names (passes tx) (record { tx = tx; keys = keys }) _ _ (names_by facts)
  names_by (stored.Committed tx ∷ facts) = names_by facts
  names_by (stored.VoteAborted tx ∷ facts) = names_by facts
  names_by (stored.Aborted tx ∷ facts) = names_by facts
  names_by (fact ∷ facts) = names_by facts

  pub names_are : fold (λ xs x. insert_xid x xs) [] (filter_map at (bound_branches node.facts)) ≡ names_prepared rm before
  names_are =
      ap (fold (λ xs x. insert_xid x xs) [])
      ((λ i. filter_map at (filter (λ (bound : Bound). is_prepared_view (told.views bound.tx i)) (filter_map branch_bound_by node.facts)))
      ∙ names_by node.facts
      ∙ ap (λ (changes : List Change). filter_map (λ tx. xid_at tx rm) (filter passes (filter_map (changed_to is_prepared_view) changes)))
      lines)
