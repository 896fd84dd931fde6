-- Conflicts and tables, looked back at, by the order of first commits.
-- Needed by `conflicts_are_ordered` and `tables_are_serial`; SerialReads; crates floored_history, process_history, audit and cluster_run.
use Rattle.std.proofs.Common.{◌≡◌, ◌≢◌, inl, inr, ◌∙◌, ℕ, Bool, true, false, ◌&&◌, ◌||◌, List, [], ◌∷◌, map, reverse, Option, Some, None}
use Rattle.std.proofs.Common.{refl, sym, ap, subst}
use Rattle.std.specs.Prelude.{filter, filter_map, find, fold}
use Rattle.std.specs.Option.{option_map_or}
use Rattle.std.proofs.lemmas.Bool.{cond_both, or_cases, and_parts}
use Rattle.xid.specs.Names.{XidParts}
use Rattle.xid.specs.Transactions.{TxParts, tx_eq, xid_at}
use Rattle.xid.proofs.Deciding.{tx_decides}
use Rattle.xid.specs.declared.transaction.Vote.TheVariants as votes
use Rattle.stable_record.specs.Facts.{AreAscending}
use Rattle.stable_record.specs.declared.fact.FactKind.TheVariants as stored
use Rattle.protocol.specs.Basics.{Fact, Act, Touched}
use Rattle.protocol.specs.declared.states.View.TheVariants as views
use Rattle.safety.specs.Vocabulary.{View, Row, Step}
use Rattle.protocol.specs.Branches.{BranchView, no_branch, is_write, row_at, value_after}
use Rattle.protocol.specs.Effects.{Config}
use Rattle.protocol.specs.Facts.{Bound, branch_bound_by, view}
use Rattle.protocol.specs.Managers.{act_on, has_key}
use Rattle.protocol.specs.Nodes.{NodeState}
use Rattle.protocol.specs.Tables.{put_row, with_writes, keys_voted, table}
use Rattle.protocol.specs.Worlds.{World}
use Rattle.protocol.specs.Holds.{IsIn}
use Rattle.safety.specs.Laws.{IsViewOf}
use Rattle.protocol.proofs.Lists.{filter_kept, filter_keeps, filter_map_given, found_among}
use Rattle.protocol.proofs.Manager.Apart.{bound_is}
use Rattle.protocol.proofs.Manager.Keys.{names_name, written_touched}
use Rattle.protocol.proofs.Manager.Played.{voted_named}
use Rattle.protocol.proofs.Manager.Effects.{name_names}
use Rattle.protocol.proofs.Manager.Views.{view_is}
use Rattle.history.specs.Lines.{changes_at, change_stored, view_back}
use Rattle.history.specs.LookingBack.{branch_by, actions_since, before_vote}
use Rattle.history.specs.SerialOrder.{first_commits, committed_at, stands_first, voted_branch, is_conflict, serial_table}
use Rattle.history.specs.Writes.{is_committed_view, accepted_writes, commit_order, writes_of}
use Rattle.history.proofs.Conflicts.{AreOrdered, Clash, commits_in, stored_commit, first_voted, firsts_once, ordered_ever}
use Rattle.history.proofs.Kept.{IsKept, kept_ever}
use Rattle.history.proofs.Moves.{manager_in}
use Rattle.history.proofs.Orders.{IsFirst, first_is, is_first, once_filter, first_filtered, same_order}
use Rattle.branch_table.proofs.TableRows.{AscendRows, writes_ascend, first_ascend, keys_there, same_rows}
use Rattle.history.proofs.Runs.{IsRun, lines_back}
use Rattle.history.proofs.TablesBack.{IsVoteFound, vote_found, voted_found, writes_by, all_back, order_back}
use Rattle.history.proofs.Told.{IsSound, IsTold, sound, told_ever}

only_read : (act : Act) (value : Option (List ℕ)) → is_write act ≡ false → value_after act value ≡ value
only_read Act.Read value e = refl
only_read (Act.Put bytes) value e = absurd (cc (e))
only_read Act.Del value e = absurd (cc (e))

committed_view : (v : View) → is_committed_view v ≡ true → v ≡ views.Committed
committed_view views.Committed e = refl
committed_view other e = absurd (cc (e))

module _ (config : Config) (world : World) (before : List Step) (rm : ℕ) (run : IsRun config world before) where
  abbrev node : NodeState
  node = manager_in config world rm

  abbrev pub facts : List Fact
  facts = node.facts

  is_sound : IsSound config rm node
  is_sound = sound config world before rm run

  pub kept : IsKept rm node before
  kept = kept_ever config world before rm run

  pub told : IsTold rm node before
  told = told_ever config world before rm run

  lines : map (change_stored rm) facts ≡ reverse (changes_at rm before)
  lines = lines_back config world before rm run

  pub ordered : AreOrdered facts (first_commits before)
  ordered = ordered_ever config world before rm run

  pub commits_are : commits_in facts ≡ commit_order rm before
  commits_are = order_back config rm node before is_sound kept lines

  -- the vote on a transaction that some manager committed, where its branch here has touched something
  pub record IsVotedBranch (tx : TxParts) : Type 0 where
    pub keys : List Touched
    pub stands : IsIn facts (stored.VotePrepared tx keys)
    pub touched : (key : List ℕ) → has_key key keys ≡ (voted_branch rm before tx).touched key
    pub act : (key : List ℕ) → act_on keys key ≡ (voted_branch rm before tx).act key

  pub voted_is : (tx : TxParts) (x : XidParts) → IsIn (first_commits before) tx → xid_at tx rm ≡ Some x → IsVotedBranch tx
  voted_is tx x h name =
      let vote = first_voted config world before run tx h rm (name_names tx rm x name) in
      let back = ap (λ (o : Option XidParts). option_map_or (λ y. branch_by (actions_since rm y (before_vote rm tx before))) o no_branch)
      name in
      record {
        keys = vote.0;
        stands = vote.1;
        touched = λ key. ap (λ (v : BranchView). v.touched key) (told.voted tx vote.0 x vote.1 name)
            ∙ sym (ap (λ (v : BranchView). v.touched key) back);
        act = λ key. ap (λ (v : BranchView). v.act key) (told.voted tx vote.0 x vote.1 name)
            ∙ sym (ap (λ (v : BranchView). v.act key) back);
      }

  -- a branch that takes part in a conflict has a name
  unnamed : (tx : TxParts) → xid_at tx rm ≡ None → voted_branch rm before tx ≡ no_branch
  unnamed tx none = ap (λ (o : Option XidParts). option_map_or
      (λ y. branch_by (actions_since rm y (before_vote rm tx before))) o no_branch) none

  no_conflict : (a b : Bool) → ((a && false) || (false && b)) ≡ true → ⊥
  no_conflict true b e = absurd (cc (e))
  no_conflict false b e = absurd (cc (e))

  no_conflict_either : (a b : Bool) → ((false && a) || (b && false)) ≡ true → ⊥
  no_conflict_either a true e = absurd (cc (e))
  no_conflict_either a false e = absurd (cc (e))

  pub conflict_ordered : (tx other : TxParts) (key : List ℕ) → IsIn (first_commits before) tx → IsIn (first_commits before) other
      → tx ≢ other
      → is_conflict (voted_branch rm before tx) (voted_branch rm before other) key ≡ true
      → stands_first tx other (commit_order rm before) ≡ true → stands_first tx other (first_commits before) ≡ true
  conflict_ordered tx other key h k apart conflict first =
      by_names (xid_at tx rm) (xid_at other rm) refl refl
    where
      clash : (one : IsVotedBranch tx) (two : IsVotedBranch other) → Clash one.keys two.keys key
      clash one two = elim (or_cases (is_write ((voted_branch rm before tx).act key) && (voted_branch rm before other).touched key)
          (is_write ((voted_branch rm before other).act key) && (voted_branch rm before tx).touched key) conflict) [
            | inl writes ↦
                let parts = and_parts (is_write ((voted_branch rm before tx).act key))
                ((voted_branch rm before other).touched key) writes in
                inl (ap is_write (one.act key) ∙ parts.0, two.touched key ∙ parts.1)
            | inr writes ↦
                let parts = and_parts (is_write ((voted_branch rm before other).act key))
                ((voted_branch rm before tx).touched key) writes in
                inr (ap is_write (two.act key) ∙ parts.0, one.touched key ∙ parts.1)
          ]

      by_names : (o p : Option XidParts) → xid_at tx rm ≡ o → xid_at other rm ≡ p → stands_first tx other (first_commits before) ≡ true
      by_names None p none e = absurd (no_conflict_either ((voted_branch rm before other).touched key)
          (is_write ((voted_branch rm before other).act key))
          (sym (ap (λ (v : BranchView). is_conflict v (voted_branch rm before other) key) (unnamed tx none)) ∙ conflict))
      by_names (Some x) None e none = absurd (no_conflict (is_write ((voted_branch rm before tx).act key))
          ((voted_branch rm before tx).touched key)
          (sym (ap (λ (v : BranchView). is_conflict (voted_branch rm before tx) v key) (unnamed other none)) ∙ conflict))
      by_names (Some x) (Some y) e f =
          let one = voted_is tx x h e in
          let two = voted_is other y k f in
          is_first tx other (first_commits before) (ordered.first tx other one.keys two.keys key apart one.stands two.stands (clash one two)
          (subst (IsFirst tx other) (sym commits_are) (first_is tx other (commit_order rm before) first)))

  -- ---- tables

  -- what transactions make of a value at a key
  abbrev pub value_by : List ℕ → List TxParts → Option (List ℕ) → Option (List ℕ)
  value_by key txs value = fold (λ o tx. value_after (act_on (keys_voted facts tx) key) o) value txs

  abbrev pub rows_by : List TxParts → List Row → List Row
  rows_by txs rows = fold (λ before_it tx. with_writes before_it (keys_voted facts tx)) rows txs

  -- whether a transaction writes a key
  abbrev pub writes_key : List ℕ → TxParts → Bool
  writes_key key tx = is_write (act_on (keys_voted facts tx) key)

  rows_ascend : (txs : List TxParts) (rows : List Row) → AscendRows rows → AscendRows (rows_by txs rows)
  rows_ascend [] rows are = are
  rows_ascend (tx ∷ txs) rows are = rows_ascend txs (with_writes rows (keys_voted facts tx)) (writes_ascend rows (keys_voted facts tx) are)

  pub rows_value : (key : List ℕ) (txs : List TxParts) (rows : List Row) → AscendRows rows
      → ((tx : TxParts) → IsIn txs tx → AreAscending (keys_voted facts tx))
      → row_at (rows_by txs rows) key ≡ value_by key txs (row_at rows key)
  rows_value key [] rows are each = refl
  rows_value key (tx ∷ txs) rows are each =
      rows_value key txs (with_writes rows (keys_voted facts tx)) (writes_ascend rows (keys_voted facts tx) are) (λ t h. each t (inr h))
      ∙ ap (value_by key txs) (keys_there rows (keys_voted facts tx) key are (each tx (inl refl)))

  -- the writers of the key alone
  pub only_writers : (key : List ℕ) (txs : List TxParts) (value : Option (List ℕ))
      → value_by key txs value ≡ value_by key (filter (writes_key key) txs) value
  only_writers key [] value = refl
  only_writers key (tx ∷ txs) value = cond_both (writes_key key tx) (tx ∷ filter (writes_key key) txs) (filter (writes_key key) txs)
      (λ (ts : List TxParts). value_by key (tx ∷ txs) value ≡ value_by key ts value)
      (λ writes. only_writers key txs (value_after (act_on (keys_voted facts tx) key) value))
      (λ reads. ap (value_by key txs) (only_read (act_on (keys_voted facts tx) key) value reads) ∙ only_writers key txs value)

  pub found : (tx : TxParts) → IsIn (commits_in facts) tx → IsVoteFound facts tx
  found tx h = vote_found config rm node before is_sound kept lines tx h

  pub ascending : (tx : TxParts) → IsIn (commits_in facts) tx → AreAscending (keys_voted facts tx)
  ascending tx h =
      let vote = found tx h in
      subst AreAscending (sym vote.looked_up) (kept.ascending tx vote.keys vote.stands)

  -- what is committed here, by the facts and by the lines
  pub commit_here : (tx : TxParts) → IsIn (commits_in facts) tx → IsIn (committed_at rm before) tx
  commit_here tx h = filter_keeps (λ (t : TxParts). is_committed_view (view_back rm before t)) (first_commits before) tx (ordered.some tx h)
      (ap is_committed_view (sym (told.views tx) ∙ ordered.show tx h))

  pub here_commit : (tx : TxParts) → IsIn (committed_at rm before) tx → IsIn (commits_in facts) tx
  here_commit tx h =
      let passes = filter_kept (λ (t : TxParts). is_committed_view (view_back rm before t)) (first_commits before) tx h in
      let shows = committed_view (view facts tx) (ap is_committed_view (told.views tx) ∙ passes.1) in
      stored_commit facts tx (subst (IsViewOf facts tx) shows (view_is facts tx)).0

  -- two that write one key and that are committed here stand in the same order in both lists
  pub writers_ordered : (key : List ℕ) (a b : TxParts) → IsIn (commits_in facts) a → IsIn (commits_in facts) b → a ≢ b
      → writes_key key a ≡ true → writes_key key b ≡ true → IsFirst a b (commits_in facts) → IsFirst a b (first_commits before)
  writers_ordered key a b h k apart one two first =
      let voted = found a h in
      let also = found b k in
      ordered.first a b voted.keys also.keys key apart voted.stands also.stands
      (inl (
        ap (λ (ks : List Touched). is_write (act_on ks key)) (sym voted.looked_up) ∙ one,
        written_touched also.keys key (ap (λ (ks : List Touched). is_write (act_on ks key)) (sym also.looked_up) ∙ two),
      )) first

  pub same_writers : (key : List ℕ) → filter (writes_key key) (commits_in facts) ≡ filter (writes_key key) (committed_at rm before)
  same_writers key = same_order (filter w (commits_in facts)) (filter w (committed_at rm before))
      (once_filter w (commits_in facts) ordered.once)
      (once_filter w (committed_at rm before) (once_filter c (first_commits before) (firsts_once before)))
      (λ tx h. let passes = filter_kept w (commits_in facts) tx h in
      filter_keeps w (committed_at rm before) tx (commit_here tx passes.0) passes.1)
      (λ tx h. let passes = filter_kept w (committed_at rm before) tx h in
      filter_keeps w (commits_in facts) tx (here_commit tx passes.0) passes.1)
      (λ a b h k apart first.
      let one = filter_kept w (commits_in facts) a h in
      let two = filter_kept w (commits_in facts) b k in
      let in_firsts = writers_ordered key a b one.0 two.0 apart one.1 two.1
      (sym (first_filtered w a b (commits_in facts) one.1 two.1) ∙ first) in
      first_filtered w a b (committed_at rm before) one.1 two.1
      ∙ first_filtered c a b (first_commits before)
      (filter_kept c (first_commits before) a (commit_here a one.0)).1 (filter_kept c (first_commits before) b (commit_here b two.0)).1
      ∙ in_firsts)
    where
      w : TxParts → Bool
      w = writes_key key

      c : TxParts → Bool
      c tx = is_committed_view (view_back rm before tx)

  pub serial_is : (first : List Row) → table first facts ≡ serial_table first rm before (committed_at rm before)
  serial_is first =
      same_rows (rows_by (commits_in facts) rows) (rows_by (committed_at rm before) rows) (rows_ascend (commits_in facts) rows are)
      (rows_ascend (committed_at rm before) rows are)
      (λ key. rows_value key (commits_in facts) rows are ascending
      ∙ only_writers key (commits_in facts) (row_at rows key)
      ∙ ap (λ (txs : List TxParts). value_by key txs (row_at rows key)) (same_writers key)
      ∙ sym (only_writers key (committed_at rm before) (row_at rows key))
      ∙ sym (rows_value key (committed_at rm before) rows are (λ tx h. ascending tx (here_commit tx h))))
      ∙ all_back config rm node before is_sound kept lines (committed_at rm before) rows are here_commit
    where
      rows : List Row
      rows = fold put_row [] first

      are : AscendRows rows
      are = first_ascend [] first tt

  -- what a transaction that was committed somewhere has written here
  pub written_value : (key : List ℕ) (tx : TxParts) (rows : List Row) → AscendRows rows → IsIn (first_commits before) tx
      → row_at (with_writes rows (writes_of rm before tx)) key ≡ value_after (act_on (keys_voted facts tx) key) (row_at rows key)
  written_value key tx rows are h = by_name (xid_at tx rm) refl
    where
      -- no vote on a transaction that doesn't name the manager is stored
      unvoted : (o : Option Bound) → find (λ (b : Bound). tx_eq tx b.tx) (filter_map branch_bound_by facts) ≡ o → xid_at tx rm ≡ None
          → value_after (act_on (option_map_or (λ b. b.keys) o []) key) (row_at rows key) ≡ row_at rows key
      unvoted None e none = refl
      unvoted (Some b) e none =
          let among = found_among (λ (c : Bound). tx_eq tx c.tx) (filter_map branch_bound_by facts) b e in
          let source = filter_map_given branch_bound_by facts b among.0 in
          let stands = subst (λ (t : TxParts). IsIn facts (stored.VotePrepared t b.keys)) (sym ((tx_decides tx b.tx).0 among.1))
          (subst (IsIn facts) (bound_is source.source b source.gives) source.among) in
          let named = names_name tx rm (voted_named config rm facts is_sound.played tx votes.Prepared (b.keys, stands)) in
          absurd (cc (sym none ∙ named.1))

      by_name : (o : Option XidParts) → xid_at tx rm ≡ o
          → row_at (with_writes rows (writes_of rm before tx)) key ≡ value_after (act_on (keys_voted facts tx) key) (row_at rows key)
      by_name None e =
          ap (λ (o : Option XidParts). row_at (with_writes rows (option_map_or (λ x. accepted_writes rm x before) o [])) key) e
          ∙ sym (unvoted (find (λ (b : Bound). tx_eq tx b.tx) (filter_map branch_bound_by facts)) refl e)
      by_name (Some x) e =
          let vote = first_voted config world before run tx h rm (name_names tx rm x e) in
          let there = voted_found config rm node before is_sound kept lines tx vote.0 vote.1 in
          ap (λ (rs : List Row). row_at rs key)
          (sym (writes_by config rm node before is_sound kept lines tx rows are there.keys there.looked_up there.stands x e))
          ∙ keys_there rows (keys_voted facts tx) key are
          (subst AreAscending (sym there.looked_up) (kept.ascending tx there.keys there.stands))
