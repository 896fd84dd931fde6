-- The facts that a shorter record stands for play, and lead to the same table, spent names and prepared branches.
-- Needed by Above, Leaving, Same and Shortened; crate forgetting.
use Rattle.std.proofs.Common.{◌≡◌, ◌∙◌, ℕ, Bool, true, false, not, ◌||◌, ◌&&◌, cond, List, [], ◌∷◌, ◌++◌, Option, Some, None, refl, sym, ap}
use Rattle.std.proofs.Common.{subst, inl, inr, is_none, append-nil, append_assoc}
use Rattle.std.specs.Prelude.{filter, filter_map, fold}
use Rattle.std.specs.List.{cons_option, list_any}
use Rattle.std.specs.Option.{option_map_or}
use Rattle.std.proofs.lemmas.Bool.{and_parts, both_ways, false_from_ne_true, not-true, or_left}
use Rattle.std.proofs.lemmas.List.Elements.{filter-append, filter_map-append}
use Rattle.std.proofs.lemmas.List.Folds.{list_any-append}
use Rattle.xid.specs.Names.{XidParts, xid_eq}
use Rattle.xid.specs.Transactions.{TxParts, tx_eq, is_participant, xid_at}
use Rattle.xid.specs.declared.transaction.Vote.{Vote}
use Rattle.xid.proofs.Deciding.{tx_decides, tx_self}
use Rattle.ballot.specs.Greatest.{IsIn}
use Rattle.stable_record.specs.declared.fact.FactKind.{FactKind as Fact}
use Rattle.stable_record.specs.declared.fact.Touched.{Touched}
use Rattle.stable_record.specs.Facts.{fact_tx}
use Rattle.protocol.specs.declared.nodes.NodeId.TheVariants.{R}
use Rattle.protocol.specs.declared.rows.Row.{Row}
use Rattle.protocol.specs.declared.states.BranchState.TheVariants as states
use Rattle.protocol.specs.Branches.{hinders_use, is_write}
use Rattle.protocol.specs.Effects.{Config}
use Rattle.protocol.specs.Facts.{Bound, HasVote, bound_branches, branch_bound_by, is_open_view, is_prepared_view, is_spent, is_vote_of}
use Rattle.protocol.specs.Facts.{view}
use Rattle.protocol.specs.Managers.{stored_votes, plays_at_manager, is_new, is_name_spent, is_some_held, view_by}
use Rattle.protocol.specs.Nodes.{all_play, plays}
use Rattle.protocol.specs.Tables.{commit_of, keys_voted, put_row, table, with_writes}
use Rattle.protocol.proofs.Lists.{any_found, found_any, IsIn-before, IsIn-after, IsIn-last, IsIn-push, filter_kept, filter_keeps}
use Rattle.protocol.proofs.Lists.{filter_map_given, filter_map_gives}
use Rattle.protocol.proofs.Manager.Apart.{bound_is, bound_stored, stored_bound}
use Rattle.protocol.proofs.Manager.Keys.{names_name}
use Rattle.protocol.proofs.Manager.Played.{all_play_then, voted_named}
use Rattle.protocol.proofs.Manager.Views.{HasVote-kept, prepared_before, prepared_shows}
use Rattle.resource_manager.specs.declared.course.Course.{Course}
use Rattle.resource_manager.specs.Courses.{Stored, stored_in, stored_by, view_among, view_of, vote_among, is_ended_among, is_new_course}
use Rattle.resource_manager.specs.Courses.{begun_in}
use Rattle.resource_manager.proofs.Begun.{any_begun, begun_again, begun_course, begun_more, begun_test, is_begun, or_four}
use Rattle.resource_manager.proofs.More.{keys_stay, table_more, voted_then}
use Rattle.resource_manager.proofs.Pieces.{part, parts_of, parts_push, parts_vote, begun_parts, either, stored_append, stored_parts}
use Rattle.resource_manager.proofs.Played.{prepared_course}
use Rattle.resource_manager.proofs.Standing.{keys_of_vote}

-- ---- facts that played, one by one

-- a fact of some that played, with those before it and after it
pub record IsStep (config : Config) (rm : ℕ) (facts before : List Fact) (fact : Fact) : Type 0 where
  pub rest : List Fact
  pub whole : before ++ fact ∷ rest ≡ facts
  pub earlier : all_play config (R rm) [] before ≡ true
  pub played : plays_at_manager rm (stored_votes rm before) fact ≡ true
  pub later : all_play config (R rm) (before ++ fact ∷ []) rest ≡ true

module _ (config : Config) (rm : ℕ) (facts : List Fact) (play : all_play config (R rm) [] facts ≡ true) where
  -- what each keeps, all keep
  pub through : (Q : List Fact → Type 0) → Q []
      → ((before : List Fact) (fact : Fact) → IsStep config rm facts before fact → Q before → Q (before ++ fact ∷ [])) → Q facts
  through Q start step = go [] facts refl refl play start
    where
      go : (before rest : List Fact) → before ++ rest ≡ facts → all_play config (R rm) [] before ≡ true
          → all_play config (R rm) before rest ≡ true → Q before → Q facts
      go before [] e early p q = subst Q (sym (append-nil before) ∙ e) q
      go before (fact ∷ rest) e early p q =
          let parts = and_parts (plays config (R rm) before fact) (all_play config (R rm) (before ++ fact ∷ []) rest) p in
          go (before ++ fact ∷ []) rest (append_assoc before (fact ∷ []) rest ∙ e)
          (all_play_then config (R rm) [] before fact early parts.0) parts.1
          (step before fact (record { rest = rest; whole = e; earlier = early; played = parts.0; later = parts.1 }) q)

  -- nothing is committed that wasn't voted prepared
  pub commits_voted : (tx : TxParts) → IsIn facts (Fact.Committed tx) → HasVote facts tx Vote.Prepared
  commits_voted =
      through (λ fs. (tx : TxParts) → IsIn fs (Fact.Committed tx) → HasVote fs tx Vote.Prepared) (λ tx h. absurd h)
      (λ before fact is so tx h.
      let kept = HasVote-kept before (before ++ fact ∷ []) tx Vote.Prepared (λ g k. IsIn-before before (fact ∷ []) g k) in
      elim (IsIn-push before fact (Fact.Committed tx) h) [
        | inl old ↦ kept (so tx old)
        | inr e ↦ kept
            (prepared_shows before tx (subst (λ (g : Fact). plays_at_manager rm (stored_votes rm before) g ≡ true) e is.played)).0
      ])

-- where a vote prepared was stored, a view that is prepared was so before later facts
pub prepared_earlier : (before rest : List Fact) (tx : TxParts) → HasVote before tx Vote.Prepared
    → is_prepared_view (view (before ++ rest) tx) ≡ true → is_prepared_view (view before tx) ≡ true
prepared_earlier before [] tx voted e = subst (λ (fs : List Fact). is_prepared_view (view fs tx) ≡ true) (append-nil before) e
prepared_earlier before (fact ∷ rest) tx voted e =
    prepared_before before fact tx voted
    (prepared_earlier (before ++ fact ∷ []) rest tx
    (HasVote-kept before (before ++ fact ∷ []) tx Vote.Prepared (λ g k. IsIn-before before (fact ∷ []) g k) voted)
    (subst (λ (fs : List Fact). is_prepared_view (view fs tx) ≡ true) (sym (append_assoc before (fact ∷ []) rest)) e))

-- ---- what is stored of a transaction

unbegun_by : (p a c d : Bool) → ((p || a) || (c || d)) ≡ false
    → ◌≡◌ {A = Stored} (record { voted_prepared = p; voted_aborted = a; committed = c; aborted = d }) (stored_by Course.Working)
unbegun_by true a c d e = absurd (cc (e))
unbegun_by false true c d e = absurd (cc (e))
unbegun_by false false true d e = absurd (cc (e))
unbegun_by false false false true e = absurd (cc (e))
unbegun_by false false false false e = refl

unbegun : (s : Stored) → is_begun s ≡ false → s ≡ stored_by Course.Working
unbegun s e = unbegun_by s.voted_prepared s.voted_aborted s.committed s.aborted e

-- whether neither a vote nor an outcome is among these
abbrev pub is_new_among : Stored → Bool
is_new_among s = is_none (vote_among s) && not (is_ended_among s)

new_by_bits : (p a c d : Bool) → is_new_among (record { voted_prepared = p; voted_aborted = a; committed = c; aborted = d }) ≡ true
    → ((p || a) || (c || d)) ≡ false
new_by_bits true a c d e = absurd (cc (e))
new_by_bits false true c d e = absurd (cc (e))
new_by_bits false false true d e = absurd (cc (e))
new_by_bits false false false true e = absurd (cc (e))
new_by_bits false false false false e = refl

new_unbegun : (s : Stored) → is_new_among s ≡ true → is_begun s ≡ false
new_unbegun s e = new_by_bits s.voted_prepared s.voted_aborted s.committed s.aborted e

begun_either : (s t : Stored) → is_begun (either s t) ≡ (is_begun s || is_begun t)
begun_either s t =
    (λ i. or_four s.voted_prepared t.voted_prepared s.voted_aborted t.voted_aborted i
    || or_four s.committed t.committed s.aborted t.aborted i)
    ∙ or_four (s.voted_prepared || s.voted_aborted) (t.voted_prepared || t.voted_aborted) (s.committed || s.aborted)
    (t.committed || t.aborted)

-- the conditions of a vote prepared
pub record IsFirstVote (rm : ℕ) (facts : List Fact) (tx : TxParts) (keys : List Touched) : Type 0 where
  pub named : is_participant tx rm ≡ true
  pub new : is_new (stored_votes rm facts) tx ≡ true
  pub unspent : is_name_spent rm (stored_votes rm facts) tx ≡ false
  pub free : is_some_held (bound_branches facts) keys ≡ false

-- a vote to commit that plays is the first of its transaction
pub first_vote : (rm : ℕ) (facts : List Fact) (tx : TxParts) (keys : List Touched)
    → plays_at_manager rm (stored_votes rm facts) (Fact.VotePrepared tx keys) ≡ true → IsFirstVote rm facts tx keys
first_vote rm facts tx keys e =
    let new = is_new (stored_votes rm facts) tx in
    let spent = is_name_spent rm (stored_votes rm facts) tx in
    let all = and_parts (is_participant tx rm && new && not spent) (not (is_some_held (bound_branches facts) keys)) e in
    let most = and_parts (is_participant tx rm && new) (not spent) all.0 in
    let some = and_parts (is_participant tx rm) new most.0 in
    record {
      named = some.0;
      new = some.1;
      unspent = not-true spent most.1;
      free = not-true (is_some_held (bound_branches facts) keys) all.1;
    }

vote_plays : (rm : ℕ) (facts : List Fact) (tx : TxParts) (keys : List Touched) → IsFirstVote rm facts tx keys
    → plays_at_manager rm (stored_votes rm facts) (Fact.VotePrepared tx keys) ≡ true
vote_plays rm facts tx keys is =
    λ i. is.named i && is.new i && not (is.unspent i) && not (is.free i)

-- a vote prepared, or another fact
is_voting : (fact : Fact) → is_vote_of (fact_tx fact) Vote.Prepared fact ≡ true
    → (keys : List Touched) × (fact ≡ Fact.VotePrepared (fact_tx fact) keys)
is_voting (Fact.VotePrepared tx keys) e = (keys, refl)
is_voting (Fact.VoteAborted tx) e = absurd (cc (e))
is_voting (Fact.Committed tx) e = absurd (cc (e))
is_voting (Fact.Aborted tx) e = absurd (cc (e))
is_voting (Fact.Promise tx i b) e = absurd (cc (e))
is_voting (Fact.PromiseAll tx b) e = absurd (cc (e))
is_voting (Fact.Accept tx i b v) e = absurd (cc (e))
is_voting (Fact.Ballot tx b) e = absurd (cc (e))

binds_none : (fact : Fact) → is_vote_of (fact_tx fact) Vote.Prepared fact ≡ false → branch_bound_by fact ≡ None
binds_none (Fact.VotePrepared tx keys) e = absurd (both_ways (tx_eq tx tx) e (tx_self tx))
binds_none (Fact.VoteAborted tx) e = refl
binds_none (Fact.Committed tx) e = refl
binds_none (Fact.Aborted tx) e = refl
binds_none (Fact.Promise tx i b) e = refl
binds_none (Fact.PromiseAll tx b) e = refl
binds_none (Fact.Accept tx i b v) e = refl
binds_none (Fact.Ballot tx b) e = refl

or_nothing : (a b : Bool) → b ≡ false → (a || (b || false)) ≡ a
or_nothing true b e = refl
or_nothing false b e = ap (λ t. t || false) e

-- once something is stored of a transaction, it isn't voted prepared any more
module _ (config : Config) (rm : ℕ) (tx : TxParts) where
  no_vote_more : (before : List Fact) (fact : Fact) → is_begun (stored_in before tx) ≡ true
      → plays_at_manager rm (stored_votes rm before) fact ≡ true → is_vote_of tx Vote.Prepared fact ≡ false
  no_vote_more before (Fact.VotePrepared other keys) begun play = false_from_ne_true (tx_eq tx other)
      (λ same.
      let is = first_vote rm before other keys play in
      both_ways (is_begun (stored_in before other)) (new_unbegun (stored_in before other) is.new)
      (subst (λ (t : TxParts). is_begun (stored_in before t) ≡ true) ((tx_decides tx other).0 same) begun))
  no_vote_more before (Fact.VoteAborted other) begun play = refl
  no_vote_more before (Fact.Committed other) begun play = refl
  no_vote_more before (Fact.Aborted other) begun play = refl
  no_vote_more before (Fact.Promise other i b) begun play = refl
  no_vote_more before (Fact.PromiseAll other b) begun play = refl
  no_vote_more before (Fact.Accept other i b v) begun play = refl
  no_vote_more before (Fact.Ballot other b) begun play = refl

  votes_stay : (before rest : List Fact) → all_play config (R rm) before rest ≡ true → is_begun (stored_in before tx) ≡ true
      → list_any (is_vote_of tx Vote.Prepared) (before ++ rest) ≡ list_any (is_vote_of tx Vote.Prepared) before
  votes_stay before [] play begun = ap (list_any (is_vote_of tx Vote.Prepared)) (append-nil before)
  votes_stay before (fact ∷ rest) play begun =
      let test = is_vote_of tx Vote.Prepared in
      let parts = and_parts (plays config (R rm) before fact) (all_play config (R rm) (before ++ fact ∷ []) rest) play in
      let more = before ++ fact ∷ [] in
      let still : is_begun (stored_in more tx) ≡ true =
      ap is_begun (stored_append before (fact ∷ []) tx) ∙ begun_either (stored_in before tx) (stored_in (fact ∷ []) tx)
      ∙ or_left (is_begun (stored_in before tx)) (is_begun (stored_in (fact ∷ []) tx)) begun in
      ap (list_any test) (sym (append_assoc before (fact ∷ []) rest)) ∙ votes_stay more rest parts.1 still
      ∙ list_any-append test before (fact ∷ [])
      ∙ or_nothing (list_any test before) (test fact) (no_vote_more before fact begun parts.0)

-- ---- spent names

module _ {X Y : Type 0} (p : Y → Bool) (h : X → Option Y) where
  any_given : (xs : List X) → list_any p (filter_map h xs) ≡ list_any (λ x. option_map_or p (h x) false) xs
  any_given [] = refl
  any_given (x ∷ xs) = by (h x) (any_given xs)
    where
      by : (o : Option Y) → list_any p (filter_map h xs) ≡ list_any (λ x. option_map_or p (h x) false) xs
          → list_any p (cons_option o (filter_map h xs)) ≡ (option_map_or p o false || list_any (λ x. option_map_or p (h x) false) xs)
      by None rest = rest
      by (Some y) rest = ap (λ t. p y || t) rest

-- names are spent by the transactions that have begun
pub spent_begun : (rm : ℕ) (facts : List Fact) (x : XidParts)
    → is_spent rm facts x ≡ list_any (λ tx. option_map_or (xid_eq x) (xid_at tx rm) false) (begun_in facts)
spent_begun rm facts x =
    any_given (xid_eq x) (λ fact. xid_at (fact_tx fact) rm) facts
    ∙ sym (any_begun (λ tx. option_map_or (xid_eq x) (xid_at tx rm) false) facts)

-- where the same names are spent, so is the one of a transaction
pub name_spent_same : (rm : ℕ) (facts others : List Fact) (tx : TxParts)
    → ((x : XidParts) → is_spent rm facts x ≡ is_spent rm others x)
    → is_name_spent rm (stored_votes rm facts) tx ≡ is_name_spent rm (stored_votes rm others) tx
name_spent_same rm facts others tx same = by (xid_at tx rm)
  where
    by : (o : Option XidParts) → option_map_or (is_spent rm facts) o false ≡ option_map_or (is_spent rm others) o false
    by None = refl
    by (Some x) = same x

-- ---- branches

-- tests that say the same keep the same
pub same_filter : {X : Type 0} (p q : X → Bool) → ((x : X) → p x ≡ q x) → (xs : List X) → filter p xs ≡ filter q xs
same_filter p q each [] = refl
same_filter p q each (x ∷ xs) = λ i. cond (each x i) (x ∷ same_filter p q each xs i) (same_filter p q each xs i)

-- keys that no prepared branch holds are held by none of fewer
fewer_hold : (some all : List Bound) (keys : List Touched) → ((b : Bound) → IsIn some b → IsIn all b) → is_some_held all keys ≡ false
    → is_some_held some keys ≡ false
fewer_hold some all keys among free = false_from_ne_true (is_some_held some keys)
    (λ held.
    let holds =
    λ (one : Bound). list_any (λ touched. hinders_use (is_write touched.act) touched.key (view_by states.Prepared one.keys)) keys in
    let found = any_found holds some held in
    both_ways (is_some_held all keys) free (found_any holds all found.element (among found.element found.among) found.passes))

-- no keys are held
none_hold : (bound : List Bound) → is_some_held bound [] ≡ false
none_hold [] = refl
none_hold (b ∷ bound) = none_hold bound

-- ---- the facts that a shorter record stands for

module _ (config : Config) (rm : ℕ) (facts : List Fact) (play : all_play config (R rm) [] facts ≡ true) (course : TxParts → Course)
    (stored : (tx : TxParts) → stored_in facts tx ≡ stored_by (course tx)) where
  -- the keys of a stored vote are those that are looked up
  voted_keys : (tx : TxParts) (keys : List Touched) → IsIn facts (Fact.VotePrepared tx keys) → keys ≡ keys_voted facts tx
  voted_keys tx keys h =
      let name = names_name tx rm (voted_named config rm facts play tx Vote.Prepared (keys, h)) in
      sym (keys_of_vote config rm facts name.0 play tx keys h name.1)

  -- those for the transactions of some facts
  abbrev pub kept : List Fact → List Fact
  kept before = parts_of course (keys_voted facts) (begun_in before)

  -- whether a branch is prepared in the end
  abbrev is_left : Bound → Bool
  is_left b = is_prepared_view (view_of (course b.tx))

  -- ---- at some facts before

  module _ (before rest : List Fact) (whole : before ++ rest ≡ facts) (earlier : all_play config (R rm) [] before ≡ true) where
    -- of a transaction that has begun something is stored in the end
    begun_new : (tx : TxParts) → IsIn (begun_in before) tx → is_new_course (course tx) ≡ false
    begun_new tx h =
        let test = λ (fact : Fact). tx_eq tx (fact_tx fact) in
        let there = sym (any_begun (tx_eq tx) before) ∙ found_any (tx_eq tx) (begun_in before) tx h (tx_self tx) in
        let all =
        ap (list_any test) (sym whole) ∙ list_any-append test before rest ∙ or_left (list_any test before) (list_any test rest) there in
        not-true (is_new_course (course tx))
        (sym (begun_course (course tx)) ∙ sym (ap is_begun (stored tx)) ∙ sym (begun_test tx config rm facts play)
        ∙ any_begun (tx_eq tx) facts ∙ all)

    kept_begun : begun_in (kept before) ≡ begun_in before
    kept_begun = begun_parts course (keys_voted facts) [] (begun_in before) begun_new ∙ begun_again before

    kept_spent : (x : XidParts) → is_spent rm (kept before) x ≡ is_spent rm before x
    kept_spent x =
        spent_begun rm (kept before) x
        ∙ ap (list_any (λ tx. option_map_or (xid_eq x) (xid_at tx rm) false)) kept_begun ∙ sym (spent_begun rm before x)

    -- a branch that is prepared by them was so by the facts
    module _ (same : filter is_left (filter_map branch_bound_by (kept before)) ≡ filter is_left (filter_map branch_bound_by before)) where
      kept_bound : (b : Bound) → IsIn (bound_branches (kept before)) b → IsIn (bound_branches before) b
      kept_bound b h =
          let is = bound_stored (kept before) b h in
          let vote = parts_vote course (keys_voted facts) (begun_in before) b.tx b.keys is.voted in
          let there = found_any (tx_eq b.tx) (begun_in before) b.tx vote.among (tx_self b.tx) in
          let stands = stored_parts course (keys_voted facts) (begun_in before) b.tx
          ∙ ap (λ t. stored_by (cond t (course b.tx) Course.Working)) there in
          let left : is_left b ≡ true = ap (λ s. is_prepared_view (view_among s)) (sym stands) ∙ is.prepared in
          let in_kept = filter_map_gives branch_bound_by (kept before) (Fact.VotePrepared b.tx b.keys) b is.voted refl in
          let in_both = filter_kept is_left (filter_map branch_bound_by before) b
          (subst (λ (bs : List Bound). IsIn bs b) same (filter_keeps is_left (filter_map branch_bound_by (kept before)) b in_kept left)) in
          let given = filter_map_given branch_bound_by before b in_both.0 in
          let voted = subst (IsIn before) (bound_is given.source b given.gives) given.among in
          stored_bound before b
          (record {
            voted = voted;
            prepared = prepared_earlier before rest b.tx (b.keys, voted)
                (subst (λ (fs : List Fact). is_prepared_view (view fs b.tx) ≡ true) (sym whole)
                (ap (λ s. is_prepared_view (view_among s)) (stored b.tx) ∙ left));
          })

  -- ---- one fact more

  -- a table that is put in order again is as it is
  module _ (rows : List Row) (again : fold put_row [] rows ≡ rows) where
    -- facts that play, and leave the rows
    pub record IsStill (fs : List Fact) : Type 0 where
      pub plays : all_play config (R rm) [] fs ≡ true
      pub rows_are : table rows fs ≡ rows

    still_more : (fs : List Fact) (fact : Fact) → IsStill fs → plays_at_manager rm (stored_votes rm fs) fact ≡ true
        → option_map_or (λ tx. with_writes rows (keys_voted (fs ++ fact ∷ []) tx)) (commit_of fact) rows ≡ rows
        → IsStill (fs ++ fact ∷ [])
    still_more fs fact still p leaves = record {
      plays = all_play_then config (R rm) [] fs fact still.plays p;
      rows_are =
          table_more fs fact (commits_voted config rm fs still.plays) rows
          ∙ ap (λ rs. option_map_or (λ tx. with_writes rs (keys_voted (fs ++ fact ∷ []) tx)) (commit_of fact) rs) still.rows_are ∙ leaves;
    }

    pub record IsKept (before : List Fact) : Type 0 where
      pub still : IsStill (kept before)
      pub bound_are : filter is_left (filter_map branch_bound_by (kept before)) ≡ filter is_left (filter_map branch_bound_by before)

    -- the first fact of a transaction
    module _ (before : List Fact) (fact : Fact) (step : IsStep config rm facts before fact) (was : IsKept before)
        (first : list_any (tx_eq (fact_tx fact)) (begun_in before) ≡ false) where
      abbrev tx : TxParts
      tx = fact_tx fact

      abbrev old : List Fact
      old = kept before

      unstored : stored_in before tx ≡ stored_by Course.Working
      unstored = unbegun (stored_in before tx) (sym (begun_test tx config rm before step.earlier) ∙ first)

      unstored_kept : stored_in old tx ≡ stored_by Course.Working
      unstored_kept =
          stored_parts course (keys_voted facts) (begun_in before) tx ∙ ap (λ t. stored_by (cond t (course tx) Course.Working)) first

      -- it is a vote prepared where one is stored in the end
      votes : is_vote_of tx Vote.Prepared fact ≡ (stored_by (course tx)).voted_prepared
      votes =
          let test = is_vote_of tx Vote.Prepared in
          let own : tx_eq tx tx ≡ true = tx_self tx in
          let begun : is_begun (stored_in (before ++ fact ∷ []) tx) ≡ true =
          sym (begun_test tx config rm (before ++ fact ∷ []) (all_play_then config (R rm) [] before fact step.earlier step.played))
          ∙ any_begun (tx_eq tx) (before ++ fact ∷ [])
          ∙ found_any (λ f. tx_eq tx (fact_tx f)) (before ++ fact ∷ []) fact (IsIn-last before fact) own in
          or_only (list_any test before) (test fact) (ap (λ (s : Stored). s.voted_prepared) unstored)
          ∙ sym (list_any-append test before (fact ∷ []))
          ∙ sym (votes_stay config rm tx (before ++ fact ∷ []) step.rest step.later begun)
          ∙ ap (list_any test) (append_assoc before (fact ∷ []) step.rest ∙ step.whole)
          ∙ ap (λ (s : Stored). s.voted_prepared) (stored tx)
        where
          or_only : (a b : Bool) → a ≡ false → b ≡ (a || (b || false))
          or_only a true e = sym (ap (λ t. t || true) e)
          or_only a false e = sym (ap (λ t. t || false) e)

      named : is_participant tx rm ≡ true
      named = by fact refl step.played
        where
          by : (f : Fact) → fact ≡ f → plays_at_manager rm (stored_votes rm before) f ≡ true → is_participant (fact_tx f) rm ≡ true
          by (Fact.VotePrepared t keys) e p = (first_vote rm before t keys p).named
          by (Fact.VoteAborted t) e p = (and_parts (is_participant t rm) (is_new (stored_votes rm before) t) p).0
          by (Fact.Aborted t) e p = (and_parts (is_participant t rm) (is_open_view (view before t)) p).0
          by (Fact.Committed t) e p =
              absurd (both_ways (is_prepared_view (view before t))
              (ap (λ s. is_prepared_view (view_among s))
              (subst (λ (f : Fact). stored_in before (fact_tx f) ≡ stored_by Course.Working) e unstored)) p)
          by (Fact.Promise t i b) e p = absurd (cc (p))
          by (Fact.PromiseAll t b) e p = absurd (cc (p))
          by (Fact.Accept t i b v) e p = absurd (cc (p))
          by (Fact.Ballot t b) e p = absurd (cc (p))

      new_kept : is_new (stored_votes rm old) tx ≡ true
      new_kept = ap (λ s. is_new_among s) unstored_kept

      -- a vote that the facts have can be stored after them, with its keys or with none
      module _ (keys : List Touched) (is : fact ≡ Fact.VotePrepared tx keys) where
        conditions : IsFirstVote rm before tx keys
        conditions = first_vote rm before tx keys
            (subst (λ (g : Fact). plays_at_manager rm (stored_votes rm before) g ≡ true) is step.played)

        vote_kept : (ks : List Touched) → is_some_held (bound_branches old) ks ≡ false
            → plays_at_manager rm (stored_votes rm old) (Fact.VotePrepared tx ks) ≡ true
        vote_kept ks free = vote_plays rm old tx ks (record {
          named = named;
          new = new_kept;
          unspent =
              name_spent_same rm old before tx (kept_spent before (fact ∷ step.rest) step.whole step.earlier) ∙ conditions.unspent;
          free = free;
        })

        own_vote : keys ≡ keys_voted facts tx
        own_vote =
            voted_keys tx keys
            (subst (λ (fs : List Fact). IsIn fs (Fact.VotePrepared tx keys)) step.whole
            (IsIn-after before (fact ∷ step.rest) (Fact.VotePrepared tx keys) (inl is)))

        vote_kept_own : plays_at_manager rm (stored_votes rm old) (Fact.VotePrepared tx (keys_voted facts tx)) ≡ true
        vote_kept_own = vote_kept (keys_voted facts tx)
            (fewer_hold (bound_branches old) (bound_branches before) (keys_voted facts tx)
            (kept_bound before (fact ∷ step.rest) step.whole step.earlier was.bound_are)
            (subst (λ (ks : List Touched). is_some_held (bound_branches before) ks ≡ false) own_vote conditions.free))

      -- after a vote with no keys
      abbrev past : List Fact
      past = old ++ Fact.VotePrepared tx [] ∷ []

      voted_past : stored_in past tx ≡ stored_by Course.Prepared
      voted_past = voted_then old tx [] unstored_kept

      still_past : (stored_by (course tx)).voted_prepared ≡ true → IsStill past
      still_past voted =
          let is = is_voting fact (votes ∙ voted) in
          still_more old (Fact.VotePrepared tx []) was.still (vote_kept is.0 is.1 [] (none_hold (bound_branches old))) refl

      no_keys : IsStill past → (g : Fact) → keys_voted (past ++ g ∷ []) tx ≡ []
      no_keys still g =
          let vote = IsIn-last old (Fact.VotePrepared tx []) in
          let name = names_name tx rm named in
          keys_stay past g tx ([], vote) ∙ keys_of_vote config rm past name.0 still.plays tx [] vote name.1

      still_part : (c : Course) → course tx ≡ c → IsStill (old ++ part tx c (keys_voted facts tx))
      still_part Course.Working e = subst IsStill (sym (append-nil old)) was.still
      still_part Course.Prepared e =
          let is = is_voting fact (votes ∙ ap (λ c. (stored_by c).voted_prepared) e) in
          still_more old (Fact.VotePrepared tx (keys_voted facts tx)) was.still (vote_kept_own is.0 is.1) refl
      still_part Course.VotedAborted e =
          still_more old (Fact.VoteAborted tx) was.still (λ i. named i && new_kept i) refl
      still_part Course.Committed e =
          let still = still_past (ap (λ c. (stored_by c).voted_prepared) e) in
          subst IsStill (append_assoc old (Fact.VotePrepared tx [] ∷ []) (Fact.Committed tx ∷ []))
          (still_more past (Fact.Committed tx) still (ap (λ s. is_prepared_view (view_among s)) voted_past)
          (ap (with_writes rows) (no_keys still (Fact.Committed tx))))
      still_part Course.RolledBack e =
          let still = still_past (ap (λ c. (stored_by c).voted_prepared) e) in
          subst IsStill (append_assoc old (Fact.VotePrepared tx [] ∷ []) (Fact.Aborted tx ∷ []))
          (still_more past (Fact.Aborted tx) still
          (λ i. named i && is_open_view (view_among (voted_past i))) refl)
      still_part Course.AbortedUnvoted e =
          still_more old (Fact.Aborted tx) was.still (λ i. named i && is_open_view (view_among (unstored_kept i))) refl

      -- ---- the branches that are left

      abbrev bounds : List Fact → List Bound
      bounds fs = filter is_left (filter_map branch_bound_by fs)

      bounds_more : (fs more : List Fact) → bounds (fs ++ more) ≡ bounds fs ++ bounds more
      bounds_more fs more =
          ap (filter is_left) (filter_map-append branch_bound_by fs more)
          ∙ filter-append is_left (filter_map branch_bound_by fs) (filter_map branch_bound_by more)

      -- of one that isn't prepared in the end none is left
      module _ (ended : is_prepared_view (view_of (course tx)) ≡ false) where
        gone_part : (c : Course) (ks : List Touched) → bounds (part tx c ks) ≡ []
        gone_part Course.Working ks = refl
        gone_part Course.Prepared ks = ap (λ t. cond t (record { tx = tx; keys = ks } ∷ []) []) ended
        gone_part Course.VotedAborted ks = refl
        gone_part Course.Committed ks = ap (λ t. cond t (record { tx = tx; keys = [] } ∷ []) []) ended
        gone_part Course.RolledBack ks = ap (λ t. cond t (record { tx = tx; keys = [] } ∷ []) []) ended
        gone_part Course.AbortedUnvoted ks = refl

        gone_fact : bounds (fact ∷ []) ≡ []
        gone_fact = by (is_vote_of tx Vote.Prepared fact) refl
          where
            by : (t : Bool) → is_vote_of tx Vote.Prepared fact ≡ t → bounds (fact ∷ []) ≡ []
            by true e =
                let is = is_voting fact e in
                ap (λ (f : Fact). bounds (f ∷ [])) is.1 ∙ ap (λ t. cond t (record { tx = tx; keys = is.0 } ∷ []) []) ended
            by false e = ap (λ (o : Option Bound). filter is_left (cons_option o [])) (binds_none fact e)

      same_bounds : bounds (part tx (course tx) (keys_voted facts tx)) ≡ bounds (fact ∷ [])
      same_bounds = by (is_prepared_view (view_of (course tx))) refl
        where
          by : (t : Bool) → is_prepared_view (view_of (course tx)) ≡ t
              → bounds (part tx (course tx) (keys_voted facts tx)) ≡ bounds (fact ∷ [])
          by true e =
              let prepared = prepared_course (course tx) e in
              let is = is_voting fact (votes ∙ ap (λ c. (stored_by c).voted_prepared) prepared) in
              ap (λ c. bounds (part tx c (keys_voted facts tx))) prepared
              ∙ ap (λ ks. bounds (Fact.VotePrepared tx ks ∷ [])) (sym (own_vote is.0 is.1)) ∙ ap (λ (f : Fact). bounds (f ∷ [])) (sym is.1)
          by false e = gone_part e (course tx) (keys_voted facts tx) ∙ sym (gone_fact e)

      kept_first : kept (before ++ fact ∷ []) ≡ old ++ part tx (course tx) (keys_voted facts tx)
      kept_first =
          ap (parts_of course (keys_voted facts))
          (begun_more before fact ∙ ap (λ t. cond t (begun_in before) (begun_in before ++ tx ∷ [])) first)
          ∙ parts_push course (keys_voted facts) (begun_in before) tx

      first_kept : IsKept (before ++ fact ∷ [])
      first_kept = record {
        still = subst IsStill (sym kept_first) (still_part (course tx) refl);
        bound_are =
            ap bounds kept_first ∙ bounds_more old (part tx (course tx) (keys_voted facts tx))
            ∙ (λ i. was.bound_are i ++ same_bounds i) ∙ sym (bounds_more before (fact ∷ []));
      }

    -- a later fact of a transaction
    later_kept : (before : List Fact) (fact : Fact) → IsStep config rm facts before fact → IsKept before
        → list_any (tx_eq (fact_tx fact)) (begun_in before) ≡ true → IsKept (before ++ fact ∷ [])
    later_kept before fact step was there =
        let begun = sym (begun_test (fact_tx fact) config rm before step.earlier) ∙ there in
        let same : kept (before ++ fact ∷ []) ≡ kept before =
        ap (parts_of course (keys_voted facts))
        (begun_more before fact ∙ ap (λ t. cond t (begun_in before) (begun_in before ++ fact_tx fact ∷ [])) there) in
        let none = binds_none fact (no_vote_more config rm (fact_tx fact) before fact begun step.played) in
        record {
          still = subst IsStill (sym same) was.still;
          bound_are =
              ap (λ fs. filter is_left (filter_map branch_bound_by fs)) same ∙ was.bound_are
              ∙ ap (filter is_left)
              (sym (filter_map-append branch_bound_by before (fact ∷ [])
              ∙ ap (λ (o : Option Bound). filter_map branch_bound_by before ++ cons_option o []) none
              ∙ append-nil (filter_map branch_bound_by before)));
        }

    -- what is kept of all facts is kept
    pub all_kept : IsKept facts
    all_kept =
        through config rm facts play IsKept
        (record { still = record { plays = refl; rows_are = again }; bound_are = refl })
        (λ before fact step was. by before fact step was (list_any (tx_eq (fact_tx fact)) (begun_in before)) refl)
      where
        by : (before : List Fact) (fact : Fact) → IsStep config rm facts before fact → IsKept before → (t : Bool)
            → list_any (tx_eq (fact_tx fact)) (begun_in before) ≡ t → IsKept (before ++ fact ∷ [])
        by before fact step was true e = later_kept before fact step was e
        by before fact step was false e = first_kept before fact step was e

    -- ---- the whole

    -- the same transactions have begun, in the same order
    pub kept_order : begun_in (kept facts) ≡ begun_in facts
    kept_order = kept_begun facts [] (append-nil facts) play

    -- the same is stored of each
    pub kept_stored : (tx : TxParts) → stored_in (kept facts) tx ≡ stored_in facts tx
    kept_stored tx =
        stored_parts course (keys_voted facts) (begun_in facts) tx
        ∙ ap (λ t. stored_by (cond t (course tx) Course.Working))
        (begun_test tx config rm facts play ∙ ap is_begun (stored tx) ∙ begun_course (course tx))
        ∙ by (course tx) ∙ sym (stored tx)
      where
        by : (c : Course) → stored_by (cond (not (is_new_course c)) c Course.Working) ≡ stored_by c
        by Course.Working = refl
        by Course.Prepared = refl
        by Course.VotedAborted = refl
        by Course.Committed = refl
        by Course.RolledBack = refl
        by Course.AbortedUnvoted = refl

    -- and the same branches are bound
    pub kept_branches : bound_branches (kept facts) ≡ bound_branches facts
    kept_branches =
        same_filter (λ b. is_prepared_view (view (kept facts) b.tx)) is_left
        (λ b. ap (λ s. is_prepared_view (view_among s)) (kept_stored b.tx ∙ stored b.tx)) (filter_map branch_bound_by (kept facts))
        ∙ all_kept.bound_are
        ∙ sym (same_filter (λ b. is_prepared_view (view facts b.tx)) is_left
        (λ b. ap (λ s. is_prepared_view (view_among s)) (stored b.tx)) (filter_map branch_bound_by facts))
