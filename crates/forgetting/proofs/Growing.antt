-- What few facts say of names that aren't below a floor they go on to say with one more fact of such a name.
use Rattle.std.proofs.Common.{◌≡◌, ◌∙◌, ℕ, max, Bool, true, false, not, ◌&&◌, ◌||◌, List, [], ◌∷◌, ◌++◌, Option, Some, None}
use Rattle.std.proofs.Common.{refl, sym, ap, subst, append-nil}
use Rattle.std.specs.Prelude.{filter, filter_map}
use Rattle.std.specs.List.{list_any, last_or, cons_option}
use Rattle.std.specs.Option.{option_map_or}
use Rattle.std.proofs.lemmas.List.Elements.{filter-append, filter_map-append}
use Rattle.std.proofs.lemmas.List.Folds.{list_any-append}
use Rattle.xid.specs.Names.{XidParts, xid_eq}
use Rattle.xid.specs.Transactions.{TxParts, tx_eq, is_participant, xid_at}
use Rattle.xid.specs.declared.transaction.Vote.{Vote}
use Rattle.xid.specs.declared.transaction.Vote.TheVariants as votes
use Rattle.xid.proofs.Deciding.{tx_decides}
use Rattle.ballot.specs.Greatest.{greatest, IsIn}
use Rattle.ballot.specs.Choice.{Report}
use Rattle.ballot.specs.declared.slot.Slot.{Slot}
use Rattle.stable_record.specs.Facts.{fact_tx}
use Rattle.stable_record.specs.declared.fact.FactKind.TheVariants as stored
use Rattle.protocol.specs.Basics.{Fact}
use Rattle.safety.specs.Vocabulary.{NodeId, A, L, R, Row}
use Rattle.protocol.specs.Acceptors.{plays_at_acceptor}
use Rattle.protocol.specs.Effects.{Config}
use Rattle.protocol.specs.Facts.{Bound, ballot_joined, accept_of, slot, ballot_begun, last_ballot, is_prepared_view, is_open_view, is_spent}
use Rattle.protocol.specs.Facts.{view, branch_bound_by, bound_branches}
use Rattle.protocol.specs.Leaders.{plays_at_leader}
use Rattle.protocol.specs.Managers.{stored_votes, is_some_held, plays_at_manager}
use Rattle.protocol.specs.Nodes.{plays, all_play, first_rows}
use Rattle.protocol.specs.Tables.{commit_of, keys_voted, table, with_writes}
use Rattle.protocol.proofs.Lists.{only_one, filter_map_given}
use Rattle.protocol.proofs.Manager.Apart.{bound_is, bound_stored, stored_bound}
use Rattle.protocol.proofs.Manager.Keys.{names_name}
use Rattle.protocol.proofs.Manager.Played.{voted_named}
use Rattle.protocol.proofs.Manager.Views.{prepared_before, prepared_shows}
use Rattle.protocol.proofs.Local.{acceptor_play, leader_play}
use Rattle.safety.proofs.Leader.Memory.{greatest-append}
use Rattle.resource_manager.specs.Courses.{Stored, stored_in, view_among}
use Rattle.resource_manager.proofs.Kept.{commits_voted, is_new_among}
use Rattle.resource_manager.proofs.More.{keys_stay, stored_other, table_more}
use Rattle.resource_manager.proofs.Pieces.{either, stored_append}
use Rattle.resource_manager.proofs.Standing.{keys_of_vote}
use Rattle.xid.specs.Places.{Place, is_below}
use Rattle.resource_manager.specs.Left.{rows_of, AreAlike}
use Rattle.forgetting.specs.Above.{ManagerSays, Says}
use Rattle.forgetting.proofs.Lists.{filter_among, filter_under, last_after}
use Rattle.forgetting.proofs.Saying.{name_same}

-- ---- slots and ballots

module _ (tx : TxParts) (fact : Fact) where
  -- what was accepted last, after what one more fact has accepted
  abbrev later : Report → Report → Report
  later None before = before
  later (Some last) before = Some last

  -- an instance's slot after one more fact
  abbrev slot_then : (ℕ → Slot) → ℕ → Slot
  slot_then before i = record {
    mbal = max (before i).mbal (greatest (filter_map (ballot_joined tx i) (fact ∷ [])));
    report = later (accept_of tx i fact) (before i).report;
  }

  report_by : (o : Report) (xs : List (ℕ × Vote)) → last_or None (xs ++ cons_option o []) ≡ later o (last_or None xs)
  report_by None xs = ap (last_or None) (append-nil xs)
  report_by (Some last) xs = last_after None xs last

  module _ (facts : List Fact) where
    slot_more : slot (facts ++ fact ∷ []) tx ≡ slot_then (slot facts tx)
    slot_more = λ k i. record {
      mbal = (ap greatest (filter_map-append (ballot_joined tx i) facts (fact ∷ []))
          ∙ greatest-append (filter_map (ballot_joined tx i) facts) (filter_map (ballot_joined tx i) (fact ∷ []))) k;
      report = (ap (last_or None) (filter_map-append (accept_of tx i) facts (fact ∷ []))
          ∙ report_by (accept_of tx i fact) (filter_map (accept_of tx i) facts)) k;
    }

    last_more : last_ballot (facts ++ fact ∷ []) tx
        ≡ max (last_ballot facts tx) (greatest (filter_map (ballot_begun tx) (fact ∷ [])))
    last_more =
        ap greatest (filter_map-append (ballot_begun tx) facts (fact ∷ []))
        ∙ greatest-append (filter_map (ballot_begun tx) facts) (filter_map (ballot_begun tx) (fact ∷ []))

-- ---- prepared branches

module _ (facts : List Fact) (fact : Fact) where
  abbrev is_prepared_then : Bound → Bool
  is_prepared_then b = is_prepared_view (view (facts ++ fact ∷ []) b.tx)

  -- those of the facts that stay prepared, and what the fact binds
  bound_more : bound_branches (facts ++ fact ∷ [])
      ≡ filter is_prepared_then (bound_branches facts) ++ filter is_prepared_then (filter_map branch_bound_by (fact ∷ []))
  bound_more =
      ap (filter is_prepared_then) (filter_map-append branch_bound_by facts (fact ∷ []))
      ∙ filter-append is_prepared_then (filter_map branch_bound_by facts) (filter_map branch_bound_by (fact ∷ []))
      ∙ ap (λ (bs : List Bound). bs ++ filter is_prepared_then (filter_map branch_bound_by (fact ∷ [])))
      (filter_under (λ b. is_prepared_view (view facts b.tx)) is_prepared_then (filter_map branch_bound_by facts)
      (λ b h later.
      let given = filter_map_given branch_bound_by facts b h in
      let voted = subst (IsIn facts) (bound_is given.source b given.gives) given.among in
      prepared_before facts fact b.tx (b.keys, voted) later))

  -- one of another transaction stays prepared
  still_prepared : (b : Bound) → IsIn (bound_branches facts) b → tx_eq b.tx (fact_tx fact) ≡ false → is_prepared_then b ≡ true
  still_prepared b h other =
      ap (λ (s : Stored). is_prepared_view (view_among s)) (stored_other facts fact b.tx other) ∙ (bound_stored facts b h).prepared

-- ---- a resource manager

module _ (rm : ℕ) (floor : Option Place) (few all : List Fact) (says : ManagerSays rm floor few all) (fact : Fact)
    (above : is_below floor (fact_tx fact) ≡ false) where
  stored_more : (tx : TxParts) → is_below floor tx ≡ false → stored_in (few ++ fact ∷ []) tx ≡ stored_in (all ++ fact ∷ []) tx
  stored_more tx high =
      stored_append few (fact ∷ []) tx ∙ ap (λ (s : Stored). either s (stored_in (fact ∷ []) tx)) (says.stored_are tx high)
      ∙ sym (stored_append all (fact ∷ []) tx)

  abbrev name_of : Fact → Option XidParts
  name_of f = xid_at (fact_tx f) rm

  spent_then : (facts : List Fact) (x : XidParts)
      → is_spent rm (facts ++ fact ∷ []) x ≡ (is_spent rm facts x || list_any (xid_eq x) (filter_map name_of (fact ∷ [])))
  spent_then facts x =
      ap (list_any (xid_eq x)) (filter_map-append name_of facts (fact ∷ []))
      ∙ list_any-append (xid_eq x) (filter_map name_of facts) (filter_map name_of (fact ∷ []))

  same_bound : (b : Bound) → IsIn (bound_branches few) b → is_prepared_then few fact b ≡ is_prepared_then all fact b
  same_bound b h = by_test (tx_eq b.tx (fact_tx fact)) refl
    where
      by_test : (t : Bool) → tx_eq b.tx (fact_tx fact) ≡ t → is_prepared_then few fact b ≡ is_prepared_then all fact b
      by_test true e =
          let high : is_below floor b.tx ≡ false =
          subst (λ (t : TxParts). is_below floor t ≡ false) (sym ((tx_decides b.tx (fact_tx fact)).0 e)) above in
          ap (λ (s : Stored). is_prepared_view (view_among s)) (stored_more b.tx high)
      by_test false e =
          still_prepared few fact b h e
          ∙ sym (still_prepared all fact b (subst (λ (bs : List Bound). IsIn bs b) says.bound_are h) e)

  new_bound : (b : Bound) → IsIn (filter_map branch_bound_by (fact ∷ [])) b
      → is_prepared_then few fact b ≡ is_prepared_then all fact b
  new_bound b h =
      let given = filter_map_given branch_bound_by (fact ∷ []) b h in
      let high : is_below floor b.tx ≡ false =
      subst (λ (f : Fact). is_below floor (fact_tx f) ≡ false) (bound_is given.source b given.gives)
      (only_one (λ (f : Fact). is_below floor (fact_tx f) ≡ false) fact above given.source given.among) in
      ap (λ (s : Stored). is_prepared_view (view_among s)) (stored_more b.tx high)

  manager_more : ManagerSays rm floor (few ++ fact ∷ []) (all ++ fact ∷ [])
  manager_more = record {
    stored_are = stored_more;
    spent_are = λ x high.
        spent_then few x
        ∙ ap (λ (b : Bool). b || list_any (xid_eq x) (filter_map name_of (fact ∷ []))) (says.spent_are x high)
        ∙ sym (spent_then all x);
    bound_are =
        bound_more few fact
        ∙ (λ k. filter_among (is_prepared_then few fact) (is_prepared_then all fact) (bound_branches few) same_bound k
        ++ filter_among (is_prepared_then few fact) (is_prepared_then all fact) (filter_map branch_bound_by (fact ∷ [])) new_bound k)
        ∙ ap (λ (bs : List Bound). filter (is_prepared_then all fact) bs
        ++ filter (is_prepared_then all fact) (filter_map branch_bound_by (fact ∷ []))) says.bound_are
        ∙ sym (bound_more all fact);
  }

  -- the same facts play
  pub manager_plays : plays_at_manager rm (stored_votes rm few) fact ≡ plays_at_manager rm (stored_votes rm all) fact
  manager_plays = by_fact fact above
    where
      by_fact : (f : Fact) → is_below floor (fact_tx f) ≡ false
          → plays_at_manager rm (stored_votes rm few) f ≡ plays_at_manager rm (stored_votes rm all) f
      by_fact (stored.VotePrepared tx keys) high = λ k.
          is_participant tx rm && is_new_among (says.stored_are tx high k) && not (name_same rm floor few all says tx high k)
          && not (is_some_held (says.bound_are k) keys)
      by_fact (stored.VoteAborted tx) high = λ k. is_participant tx rm && is_new_among (says.stored_are tx high k)
      by_fact (stored.Committed tx) high = λ k. is_prepared_view (view_among (says.stored_are tx high k))
      by_fact (stored.Aborted tx) high = λ k. is_participant tx rm && is_open_view (view_among (says.stored_are tx high k))
      by_fact (stored.Promise tx i b) high = refl
      by_fact (stored.PromiseAll tx b) high = refl
      by_fact (stored.Accept tx i b v) high = refl
      by_fact (stored.Ballot tx b) high = refl

  -- ---- its table

  module _ (from config : Config) (few_play : all_play from (R rm) [] few ≡ true)
      (all_play_too : all_play config (R rm) [] all ≡ true) where
    -- a transaction that is prepared was voted with the same keys
    keys_same : (tx : TxParts) → is_prepared_view (view few tx) ≡ true → (g : Fact)
        → keys_voted (few ++ g ∷ []) tx ≡ keys_voted (all ++ g ∷ []) tx
    keys_same tx prepared g =
        let vote = (prepared_shows few tx prepared).0 in
        let bound : Bound = record { tx = tx; keys = vote.0 } in
        let among = stored_bound few bound (record { voted = vote.1; prepared = prepared }) in
        let also = bound_stored all bound (subst (λ (bs : List Bound). IsIn bs bound) says.bound_are among) in
        let name = names_name tx rm (voted_named from rm few few_play tx votes.Prepared vote) in
        keys_stay few g tx vote ∙ keys_of_vote from rm few name.0 few_play tx vote.0 vote.1 name.1
        ∙ sym (keys_of_vote config rm all name.0 all_play_too tx vote.0 also.voted name.1)
        ∙ sym (keys_stay all g tx (vote.0, also.voted))

    writes_same : (g : Fact) → plays_at_manager rm (stored_votes rm few) g ≡ true → (rows : List Row)
        → option_map_or (λ tx. with_writes rows (keys_voted (few ++ g ∷ []) tx)) (commit_of g) rows
        ≡ option_map_or (λ tx. with_writes rows (keys_voted (all ++ g ∷ []) tx)) (commit_of g) rows
    writes_same (stored.Committed tx) prepared rows = ap (with_writes rows) (keys_same tx prepared (stored.Committed tx))
    writes_same (stored.VotePrepared tx keys) e rows = refl
    writes_same (stored.VoteAborted tx) e rows = refl
    writes_same (stored.Aborted tx) e rows = refl
    writes_same (stored.Promise tx i b) e rows = refl
    writes_same (stored.PromiseAll tx b) e rows = refl
    writes_same (stored.Accept tx i b v) e rows = refl
    writes_same (stored.Ballot tx b) e rows = refl

    table_same : table (first_rows from rm) few ≡ table (first_rows config rm) all → plays_at_manager rm (stored_votes rm few) fact ≡ true
        → table (first_rows from rm) (few ++ fact ∷ []) ≡ table (first_rows config rm) (all ++ fact ∷ [])
    table_same rows p =
        table_more few fact (commits_voted from rm few few_play) (first_rows from rm)
        ∙ ap (λ (rs : List Row). option_map_or (λ tx. with_writes rs (keys_voted (few ++ fact ∷ []) tx)) (commit_of fact) rs) rows
        ∙ writes_same fact p (table (first_rows config rm) all)
        ∙ sym (table_more all fact (commits_voted config rm all all_play_too) (first_rows config rm))

-- ---- whatever node it is

pub says_more : (who : NodeId) (floor : Option Place) (few all : List Fact) → Says who floor few all → (fact : Fact)
    → is_below floor (fact_tx fact) ≡ false → Says who floor (few ++ fact ∷ []) (all ++ fact ∷ [])
says_more (A a) floor few all says fact above = λ tx high.
    slot_more tx fact few ∙ ap (slot_then tx fact) (says tx high) ∙ sym (slot_more tx fact all)
says_more (L l) floor few all says fact above = λ tx high.
    last_more tx fact few ∙ ap (λ (b : ℕ). max b (greatest (filter_map (ballot_begun tx) (fact ∷ [])))) (says tx high)
    ∙ sym (last_more tx fact all)
says_more (R rm) floor few all says fact above = manager_more rm floor few all says fact above

-- the same facts play
pub plays_alike : (from config : Config) (who : NodeId) (floor : Option Place) (few all : List Fact) → AreAlike who from config
    → Says who floor few all → (fact : Fact) → is_below floor (fact_tx fact) ≡ false → plays from who few fact ≡ plays config who all fact
plays_alike from config (A a) floor few all alike says fact above =
    acceptor_play (slot few) fact ∙ ap (λ (s : ℕ → Slot). plays_at_acceptor (λ tx. s) fact) (says (fact_tx fact) above)
    ∙ sym (acceptor_play (slot all) fact)
plays_alike from config (L l) floor few all alike says fact above =
    ap (λ (c : Config). plays c (L l) few fact) alike ∙ leader_play config.leaders l (last_ballot few) fact
    ∙ ap (λ (b : ℕ). plays_at_leader config.leaders l (λ tx. b) fact) (says (fact_tx fact) above)
    ∙ sym (leader_play config.leaders l (last_ballot all) fact)
plays_alike from config (R rm) floor few all alike says fact above = manager_plays rm floor few all says fact above

-- and the rows stay the same, where the fact plays
pub rows_more : (from config : Config) (who : NodeId) (floor : Option Place) (few all : List Fact) → Says who floor few all
    → rows_of from who few ≡ rows_of config who all → all_play from who [] few ≡ true → all_play config who [] all ≡ true → (fact : Fact)
    → is_below floor (fact_tx fact) ≡ false → plays from who few fact ≡ true
    → rows_of from who (few ++ fact ∷ []) ≡ rows_of config who (all ++ fact ∷ [])
rows_more from config (A a) floor few all says rows few_play all_play_too fact above p = refl
rows_more from config (L l) floor few all says rows few_play all_play_too fact above p = refl
rows_more from config (R rm) floor few all says rows few_play all_play_too fact above p =
    table_same rm floor few all says fact above from config few_play all_play_too rows p
