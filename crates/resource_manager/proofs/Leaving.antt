-- What is left of a resource manager's facts without the writes of what is committed says what they say.
-- Needed by Above; crates forgetting and node_core.
use Rattle.std.proofs.Common.{◌≡◌, ◌⊎◌, inl, inr, ◌∙◌, ℕ, Bool, true, false, not, ◌&&◌, ◌||◌, if◌then◌else◌, List, [], ◌∷◌, ◌++◌}
use Rattle.std.proofs.Common.{Option, Some, None, refl, sym, ap, subst, unwrap_or, fold}
use Rattle.std.specs.Prelude.{map, filter, filter_map, find, option_map}
use Rattle.std.specs.List.{list_any, cons_option}
use Rattle.std.specs.Option.{option_map_or}
use Rattle.std.proofs.lemmas.Bool.{and_parts, and_from, both_ways, cond-false, false_from_ne_true}
use Rattle.xid.specs.Names.{XidParts, xid_eq}
use Rattle.xid.specs.Transactions.{TxParts, BranchParts, tx_eq, is_at, is_participant, xid_of, xid_at}
use Rattle.xid.specs.declared.transaction.Vote.{Vote}
use Rattle.xid.specs.declared.transaction.Vote.TheVariants as votes
use Rattle.xid.proofs.Deciding.{tx_decides}
use Rattle.ballot.specs.Greatest.{IsIn}
use Rattle.stable_record.specs.Facts.{fact_tx}
use Rattle.stable_record.specs.declared.fact.Touched.{Touched}
use Rattle.stable_record.specs.declared.fact.FactKind.TheVariants as stored
use Rattle.stable_record.specs.declared.fact.FactKind.{FactKind as Fact}
use Rattle.protocol.specs.declared.nodes.NodeId.TheVariants.{R}
use Rattle.protocol.specs.declared.rows.Row.{Row}
use Rattle.protocol.specs.declared.states.BranchState.TheVariants as states
use Rattle.protocol.specs.Branches.{hinders_use, is_write}
use Rattle.protocol.specs.Effects.{Config}
use Rattle.protocol.specs.Facts.{Bound, is_vote_of, is_commit_of, is_abort_of, is_spent, is_prepared_view, is_open_view, branch_bound_by}
use Rattle.protocol.specs.Facts.{bound_branches, view}
use Rattle.protocol.specs.Managers.{stored_votes, is_name_spent, is_some_held, plays_at_manager, view_by}
use Rattle.protocol.specs.Nodes.{plays, all_play}
use Rattle.protocol.specs.Tables.{commit_of, keys_voted, put_row, table, with_writes}
use Rattle.protocol.proofs.Lists.{any_found, found_any, IsIn-mapped, filter_map_given}
use Rattle.protocol.proofs.Manager.Apart.{bound_stored, stored_bound}
use Rattle.protocol.proofs.Manager.Views.{prepared_shows, committed_same}
use Rattle.resource_manager.specs.Courses.{Stored, stored_in, view_among}
use Rattle.resource_manager.proofs.Kept.{first_vote, is_new_among}
use Rattle.resource_manager.specs.Left.{without_writes}

-- where a transaction is prepared it isn't committed
pub uncommitted : (facts : List Fact) (tx : TxParts) → is_prepared_view (view facts tx) ≡ true → list_any (is_commit_of tx) facts ≡ false
uncommitted facts tx prepared = false_from_ne_true (list_any (is_commit_of tx) facts)
    (λ committed.
    let found = any_found (is_commit_of tx) facts committed in
    (prepared_shows facts tx prepared).1 (subst (IsIn facts) (committed_same tx found.element found.passes) found.among))

module _ (whole : List Fact) where
  abbrev w : Fact → Fact
  w = without_writes whole

  -- a fact without its writes is about the same transaction
  pub same_tx : (f : Fact) → fact_tx (w f) ≡ fact_tx f
  same_tx (stored.VotePrepared tx keys) = refl
  same_tx f = refl

  -- ---- what is stored

  same_vote : (tx : TxParts) (v : Vote) (f : Fact) → is_vote_of tx v (w f) ≡ is_vote_of tx v f
  same_vote tx votes.Prepared (stored.VotePrepared other keys) = refl
  same_vote tx votes.Aborted (stored.VotePrepared other keys) = refl
  same_vote tx v f = refl

  same_commit : (tx : TxParts) (f : Fact) → is_commit_of tx (w f) ≡ is_commit_of tx f
  same_commit tx (stored.VotePrepared other keys) = refl
  same_commit tx f = refl

  same_abort : (tx : TxParts) (f : Fact) → is_abort_of tx (w f) ≡ is_abort_of tx f
  same_abort tx (stored.VotePrepared other keys) = refl
  same_abort tx f = refl

  any_left : (q : Fact → Bool) → ((f : Fact) → q (w f) ≡ q f) → (facts : List Fact) → list_any q (map w facts) ≡ list_any q facts
  any_left q same [] = refl
  any_left q same (f ∷ fs) = λ k. same f k || any_left q same fs k

  -- the same is stored of each
  pub stored_left : (facts : List Fact) (tx : TxParts) → stored_in (map w facts) tx ≡ stored_in facts tx
  stored_left facts tx = λ k. record {
    voted_prepared = any_left (is_vote_of tx votes.Prepared) (same_vote tx votes.Prepared) facts k;
    voted_aborted = any_left (is_vote_of tx votes.Aborted) (same_vote tx votes.Aborted) facts k;
    committed = any_left (is_commit_of tx) (same_commit tx) facts k;
    aborted = any_left (is_abort_of tx) (same_abort tx) facts k;
  }

  -- ---- spent names

  module _ (rm : ℕ) where
    abbrev name_of : Fact → Option XidParts
    name_of f = xid_at (fact_tx f) rm

    names_left : (facts : List Fact) → filter_map name_of (map w facts) ≡ filter_map name_of facts
    names_left [] = refl
    names_left (f ∷ fs) = λ k. cons_option (xid_at (same_tx f k) rm) (names_left fs k)

    -- the same names are spent
    pub spent_left : (facts : List Fact) (x : XidParts) → is_spent rm (map w facts) x ≡ is_spent rm facts x
    spent_left facts x = ap (list_any (xid_eq x)) (names_left facts)

    name_spent_left : (facts : List Fact) (tx : TxParts)
        → is_name_spent rm (stored_votes rm (map w facts)) tx ≡ is_name_spent rm (stored_votes rm facts) tx
    name_spent_left facts tx = by_branch (find (is_at rm) tx.branches)
      where
        by_branch : (o : Option BranchParts) → option_map_or (is_spent rm (map w facts)) (option_map (xid_of tx) o) false
            ≡ option_map_or (is_spent rm facts) (option_map (xid_of tx) o) false
        by_branch None = refl
        by_branch (Some b) = spent_left facts (xid_of tx b)

  -- ---- prepared branches

  -- where what is prepared by some facts isn't committed by the whole, they are the same
  module _ (facts : List Fact) (apart : (tx : TxParts) (keys : List Touched) → IsIn facts (stored.VotePrepared tx keys)
      → is_prepared_view (view facts tx) ≡ true → list_any (is_commit_of tx) whole ≡ false) where
    abbrev is_prepared_now : Bound → Bool
    is_prepared_now b = is_prepared_view (view facts b.tx)

    bound_by : (fs : List Fact) → ((f : Fact) → IsIn fs f → IsIn facts f)
        → filter is_prepared_now (filter_map branch_bound_by (map w fs)) ≡ filter is_prepared_now (filter_map branch_bound_by fs)
    bound_by [] among = refl
    bound_by (f ∷ fs) among = by_fact f (among f (inl refl)) (bound_by fs (λ g h. among g (inr h)))
      where
        by_test : (tx : TxParts) (keys : List Touched) (bs cs : List Bound) → bs ≡ cs → (t : Bool)
            → (t ≡ true → list_any (is_commit_of tx) whole ≡ false)
            → (if t then record { tx = tx; keys = if list_any (is_commit_of tx) whole then [] else keys } ∷ bs else bs)
            ≡ (if t then record { tx = tx; keys = keys } ∷ cs else cs)
        by_test tx keys bs cs rest true unwritten = λ k.
            record { tx = tx; keys = cond-false (list_any (is_commit_of tx) whole) [] keys (unwritten refl) k } ∷ rest k
        by_test tx keys bs cs rest false unwritten = rest

        by_fact : (g : Fact) → IsIn facts g
            → filter is_prepared_now (filter_map branch_bound_by (map w fs)) ≡ filter is_prepared_now (filter_map branch_bound_by fs)
            → filter is_prepared_now (cons_option (branch_bound_by (w g)) (filter_map branch_bound_by (map w fs)))
            ≡ filter is_prepared_now (cons_option (branch_bound_by g) (filter_map branch_bound_by fs))
        by_fact (stored.VotePrepared tx keys) h rest =
            by_test tx keys (filter is_prepared_now (filter_map branch_bound_by (map w fs)))
            (filter is_prepared_now (filter_map branch_bound_by fs)) rest (is_prepared_view (view facts tx)) (apart tx keys h)
        by_fact (stored.VoteAborted tx) h rest = rest
        by_fact (stored.Committed tx) h rest = rest
        by_fact (stored.Aborted tx) h rest = rest
        by_fact (stored.Promise tx i b) h rest = rest
        by_fact (stored.Accept tx i b v) h rest = rest
        by_fact (stored.PromiseAll tx b) h rest = rest
        by_fact (stored.Ballot tx b) h rest = rest

    -- and the same branches are bound
    pub bound_left : bound_branches (map w facts) ≡ bound_branches facts
    bound_left =
        (λ k. filter (λ b. is_prepared_view (view_among (stored_left facts b.tx k))) (filter_map branch_bound_by (map w facts)))
        ∙ bound_by facts (λ f h. h)

  -- ---- they play

  module _ (rm : ℕ) where
    -- of a branch without keys no key is held
    unheld : (keys : List Touched)
        → list_any (λ touched. hinders_use (is_write touched.act) touched.key (view_by states.Prepared [])) keys ≡ false
    unheld [] = refl
    unheld (touched ∷ keys) = λ k. by_test (is_write touched.act) k || unheld keys k
      where
        by_test : (t : Bool) → hinders_use t touched.key (view_by states.Prepared []) ≡ false
        by_test true = refl
        by_test false = refl

    -- a vote that is left was there, with its keys or with others
    record IsLeftVote (g : Fact) (tx : TxParts) (keys : List Touched) : Type 0 where
      pub had : List Touched
      pub fact_is : g ≡ stored.VotePrepared tx had
      pub keys_are : (keys ≡ []) ⊎ (keys ≡ had)

    left_vote : (g : Fact) (tx : TxParts) (keys : List Touched) → w g ≡ stored.VotePrepared tx keys → IsLeftVote g tx keys
    left_vote (stored.VotePrepared other had) tx keys e = record {
      had = had;
      fact_is = ap (λ (t : TxParts). stored.VotePrepared t had) (ap fact_tx e);
      keys_are = by_test (list_any (is_commit_of other) whole) (ap keys_in e);
    }
      where
        keys_in : Fact → List Touched
        keys_in (stored.VotePrepared t ks) = ks
        keys_in f = []

        by_test : (t : Bool) → (if t then [] else had) ≡ keys → (keys ≡ []) ⊎ (keys ≡ had)
        by_test true same = inl (sym same)
        by_test false same = inr (sym same)
    left_vote (stored.VoteAborted other) tx keys e = absurd (cc (e))
    left_vote (stored.Committed other) tx keys e = absurd (cc (e))
    left_vote (stored.Aborted other) tx keys e = absurd (cc (e))
    left_vote (stored.Promise other i b) tx keys e = absurd (cc (e))
    left_vote (stored.Accept other i b v) tx keys e = absurd (cc (e))
    left_vote (stored.PromiseAll other b) tx keys e = absurd (cc (e))
    left_vote (stored.Ballot other b) tx keys e = absurd (cc (e))

    module _ (before : List Fact) where
      abbrev hinders_some : List Touched → Bound → Bool
      hinders_some keys one =
          list_any (λ touched. hinders_use (is_write touched.act) touched.key (view_by states.Prepared one.keys)) keys

      -- keys that no prepared branch holds are held by none that is left
      free_left : (keys : List Touched) → is_some_held (bound_branches before) keys ≡ false
          → is_some_held (bound_branches (map w before)) keys ≡ false
      free_left keys free = false_from_ne_true (is_some_held (bound_branches (map w before)) keys)
          (λ held.
          let found = any_found (hinders_some keys) (bound_branches (map w before)) held in
          let is = bound_stored (map w before) found.element found.among in
          let from = IsIn-mapped w before (stored.VotePrepared found.element.tx found.element.keys) is.voted in
          let vote = left_vote from.source found.element.tx found.element.keys from.maps in
          elim vote.keys_are [
            | inl none ↦ both_ways (hinders_some keys found.element)
                (ap (λ (ks : List Touched). hinders_some keys (record { tx = found.element.tx; keys = ks })) none ∙ unheld keys)
                found.passes
            | inr same ↦
                let bound : Bound = record { tx = found.element.tx; keys = vote.had } in
                let among = stored_bound before bound (record {
                  voted = subst (IsIn before) vote.fact_is from.among;
                  prepared = sym (ap (λ (s : Stored). is_prepared_view (view_among s)) (stored_left before found.element.tx)) ∙ is.prepared;
                }) in
                both_ways (is_some_held (bound_branches before) keys) free
                (found_any (hinders_some keys) (bound_branches before) bound among
                (ap (λ (ks : List Touched). hinders_some keys (record { tx = found.element.tx; keys = ks })) (sym same) ∙ found.passes))
          ])

      none_held : (bound : List Bound) → is_some_held bound [] ≡ false
      none_held [] = refl
      none_held (b ∷ bound) = none_held bound

      keys_free : (tx : TxParts) (keys : List Touched) → is_some_held (bound_branches before) keys ≡ false
          → is_some_held (bound_branches (map w before)) (if list_any (is_commit_of tx) whole then [] else keys) ≡ false
      keys_free tx keys free = by_test (list_any (is_commit_of tx) whole)
        where
          by_test : (t : Bool) → is_some_held (bound_branches (map w before)) (if t then [] else keys) ≡ false
          by_test true = none_held (bound_branches (map w before))
          by_test false = free_left keys free

      plays_left : (f : Fact) → plays_at_manager rm (stored_votes rm before) f ≡ true
          → plays_at_manager rm (stored_votes rm (map w before)) (w f) ≡ true
      plays_left (stored.VotePrepared tx keys) p =
          let is = first_vote rm before tx keys p in λ k.
          is.named k && (ap (λ (s : Stored). is_new_among s) (stored_left before tx) ∙ is.new) k
          && not ((name_spent_left rm before tx ∙ is.unspent) k) && not (keys_free tx keys is.free k)
      plays_left (stored.VoteAborted tx) p =
          ap (λ (s : Stored). is_participant tx rm && is_new_among s) (stored_left before tx) ∙ p
      plays_left (stored.Committed tx) p = ap (λ (s : Stored). is_prepared_view (view_among s)) (stored_left before tx) ∙ p
      plays_left (stored.Aborted tx) p =
          ap (λ (s : Stored). is_participant tx rm && is_open_view (view_among s)) (stored_left before tx) ∙ p
      plays_left (stored.Promise tx i b) p = absurd (cc (p))
      plays_left (stored.Accept tx i b v) p = absurd (cc (p))
      plays_left (stored.PromiseAll tx b) p = absurd (cc (p))
      plays_left (stored.Ballot tx b) p = absurd (cc (p))

    map_push : (before : List Fact) (f : Fact) → map w (before ++ f ∷ []) ≡ map w before ++ w f ∷ []
    map_push [] f = refl
    map_push (g ∷ gs) f = ap (λ (fs : List Fact). w g ∷ fs) (map_push gs f)

    -- in whatever cluster
    pub all_play_left : (from next : Config) (before facts : List Fact) → all_play from (R rm) before facts ≡ true
        → all_play next (R rm) (map w before) (map w facts) ≡ true
    all_play_left from next before [] h = refl
    all_play_left from next before (f ∷ fs) h =
        let parts = and_parts (plays from (R rm) before f) (all_play from (R rm) (before ++ f ∷ []) fs) h in
        and_from (plays next (R rm) (map w before) (w f)) (all_play next (R rm) (map w before ++ w f ∷ []) (map w fs))
        (plays_left before f parts.0)
        (subst (λ (gs : List Fact). all_play next (R rm) gs (map w fs) ≡ true) (map_push before f)
        (all_play_left from next (before ++ f ∷ []) fs parts.1))

  -- ---- the table

  module _ (facts : List Fact) (among : (f : Fact) → IsIn facts f → IsIn whole f) where
    abbrev vote_left : TxParts → List Fact → Option Bound
    vote_left tx fs = find (λ b. tx_eq tx b.tx) (filter_map branch_bound_by (map w fs))

    -- what is committed has no writes left
    keys_step : (tx : TxParts) → list_any (is_commit_of tx) whole ≡ true → (fs : List Fact)
        → option_map_or (λ (b : Bound). b.keys) (vote_left tx fs) [] ≡ [] → (g : Fact)
        → option_map_or (λ (b : Bound). b.keys) (vote_left tx (g ∷ fs)) [] ≡ []
    keys_step tx committed fs rest (stored.VotePrepared other keys) = by_test (tx_eq tx other) refl
      where
        by_test : (t : Bool) → tx_eq tx other ≡ t
            → option_map_or (λ (b : Bound). b.keys)
            (if t then Some (record { tx = other; keys = if list_any (is_commit_of other) whole then [] else keys })
            else vote_left tx fs) []
            ≡ []
        by_test true e =
            let its : list_any (is_commit_of other) whole ≡ true =
            subst (λ (t : TxParts). list_any (is_commit_of t) whole ≡ true) ((tx_decides tx other).0 e) committed in
            ap (λ (t : Bool). if t then [] else keys) its
        by_test false e = rest
    keys_step tx committed fs rest (stored.VoteAborted other) = rest
    keys_step tx committed fs rest (stored.Committed other) = rest
    keys_step tx committed fs rest (stored.Aborted other) = rest
    keys_step tx committed fs rest (stored.Promise other i b) = rest
    keys_step tx committed fs rest (stored.Accept other i b v) = rest
    keys_step tx committed fs rest (stored.PromiseAll other b) = rest
    keys_step tx committed fs rest (stored.Ballot other b) = rest

    keys_by : (tx : TxParts) → list_any (is_commit_of tx) whole ≡ true → (fs : List Fact)
        → option_map_or (λ (b : Bound). b.keys) (vote_left tx fs) [] ≡ []
    keys_by tx committed [] = refl
    keys_by tx committed (f ∷ fs) = keys_step tx committed fs (keys_by tx committed fs) f

    committed_in : (tx : TxParts) → IsIn (filter_map commit_of (map w facts)) tx → list_any (is_commit_of tx) whole ≡ true
    committed_in tx h =
        let given = filter_map_given commit_of (map w facts) tx h in
        let from = IsIn-mapped w facts given.source given.among in
        found_any (is_commit_of tx) whole from.source (among from.source from.among)
        (its from.source (ap commit_of from.maps ∙ given.gives))
      where
        its : (g : Fact) → commit_of (w g) ≡ Some tx → is_commit_of tx g ≡ true
        its (stored.Committed other) e = (tx_decides tx other).1 (sym (ap (λ (o : Option TxParts). unwrap_or o other) e))
        its (stored.VotePrepared other keys) e = absurd (cc (e))
        its (stored.VoteAborted other) e = absurd (cc (e))
        its (stored.Aborted other) e = absurd (cc (e))
        its (stored.Promise other i b) e = absurd (cc (e))
        its (stored.Accept other i b v) e = absurd (cc (e))
        its (stored.PromiseAll other b) e = absurd (cc (e))
        its (stored.Ballot other b) e = absurd (cc (e))

    still_by : (txs : List TxParts) → ((tx : TxParts) → IsIn txs tx → keys_voted (map w facts) tx ≡ []) → (rows : List Row)
        → fold (λ before tx. with_writes before (keys_voted (map w facts) tx)) rows txs ≡ rows
    still_by [] none rows = refl
    still_by (tx ∷ txs) none rows =
        ap (λ (keys : List Touched). fold (λ before t. with_writes before (keys_voted (map w facts) t)) (with_writes rows keys) txs)
        (none tx (inl refl))
        ∙ still_by txs (λ t h. none t (inr h)) rows

    -- rows in order stay as they are
    pub table_left : (rows : List Row) → fold put_row [] rows ≡ rows → table rows (map w facts) ≡ rows
    table_left rows again =
        still_by (filter_map commit_of (map w facts)) (λ tx h. keys_by tx (committed_in tx h) facts) (fold put_row [] rows) ∙ again
