-- Facts that lead to the same say the same, whatever is played after them.
-- Needed by Alike and Shortened.
use Rattle.std.proofs.Common.{◌≡◌, ◌∙◌, ℕ, Bool, true, false, not, ◌&&◌, List, [], ◌∷◌, ◌++◌, refl, sym, ap, subst}
use Rattle.std.proofs.Common.{append-nil, append_assoc, cond, inl, inr}
use Rattle.std.specs.Prelude.{filter, filter_map, fold}
use Rattle.std.specs.List.{list_any}
use Rattle.std.specs.Option.{option_map_or}
use Rattle.std.proofs.lemmas.Bool.{and_parts, both_ways}
use Rattle.std.proofs.lemmas.List.Elements.{filter-append, filter_map-append}
use Rattle.xid.specs.Names.{XidParts, xid_eq}
use Rattle.xid.specs.Transactions.{TxParts, is_participant, xid_at}
use Rattle.xid.specs.declared.transaction.Vote.{Vote}
use Rattle.ballot.specs.Greatest.{IsIn}
use Rattle.stable_record.specs.declared.fact.FactKind.{FactKind as Fact}
use Rattle.protocol.specs.declared.nodes.NodeId.TheVariants.{R}
use Rattle.protocol.specs.declared.rows.Row.{Row}
use Rattle.protocol.specs.Effects.{Config}
use Rattle.protocol.specs.Facts.{Bound, bound_branches, branch_bound_by, is_open_view, is_prepared_view, is_spent, view}
use Rattle.protocol.specs.Holds.{AreApart}
use Rattle.protocol.specs.Managers.{Branch, stored_votes, plays_at_manager, is_some_held}
use Rattle.protocol.specs.Nodes.{all_play, first_rows, plays}
use Rattle.protocol.specs.Tables.{commit_of, keys_voted, table, with_writes}
use Rattle.protocol.proofs.Lists.{filter_map_given}
use Rattle.protocol.proofs.Manager.Apart.{bound_is, bound_stored, stored_bound}
use Rattle.protocol.proofs.Manager.Keys.{names_name}
use Rattle.protocol.proofs.Manager.Played.{all_play_then, voted_named}
use Rattle.protocol.proofs.Manager.Views.{prepared_shows}
use Rattle.resource_manager.specs.Courses.{stored_in, view_among, begun_in}
use Rattle.resource_manager.proofs.Begun.{begun_append, seen_after}
use Rattle.resource_manager.proofs.Kept.{commits_voted, name_spent_same, prepared_earlier, same_filter, spent_begun, is_new_among}
use Rattle.resource_manager.proofs.More.{keys_stay, table_more}
use Rattle.resource_manager.proofs.Pieces.{either, stored_append}
use Rattle.resource_manager.proofs.Standing.{keys_of_vote}

-- ---- prepared branches, after more facts

module _ {X : Type 0} (p q : X → Bool) where
  -- of what passes a stronger test nothing is lost by a weaker one before
  filter_under : (xs : List X) → ((x : X) → IsIn xs x → q x ≡ true → p x ≡ true) → filter q xs ≡ filter q (filter p xs)
  filter_under [] under = refl
  filter_under (x ∷ xs) under =
      by (p x) (q x) refl refl (under x (inl refl)) (filter_under xs (λ y h. under y (inr h)))
    where
      by : (t u : Bool) → p x ≡ t → q x ≡ u → (q x ≡ true → p x ≡ true) → filter q xs ≡ filter q (filter p xs)
          → filter q (x ∷ xs) ≡ filter q (cond t (x ∷ filter p xs) (filter p xs))
      by true u e f weaker rest = ap (λ ys. cond (q x) (x ∷ ys) ys) rest
      by false true e f weaker rest = absurd (both_ways (p x) e (weaker f))
      by false false e f weaker rest = ap (λ t. cond t (x ∷ filter q xs) (filter q xs)) f ∙ rest

module _ (facts more : List Fact) where
  abbrev is_prepared_then : Bound → Bool
  is_prepared_then b = is_prepared_view (view (facts ++ more) b.tx)

  -- those of the facts that stay prepared, and those of the later facts
  bound_more : bound_branches (facts ++ more)
      ≡ filter is_prepared_then (bound_branches facts) ++ filter is_prepared_then (filter_map branch_bound_by more)
  bound_more =
      ap (filter is_prepared_then) (filter_map-append branch_bound_by facts more)
      ∙ filter-append is_prepared_then (filter_map branch_bound_by facts) (filter_map branch_bound_by more)
      ∙ ap (λ bs. bs ++ filter is_prepared_then (filter_map branch_bound_by more))
      (filter_under (λ b. is_prepared_view (view facts b.tx)) is_prepared_then (filter_map branch_bound_by facts)
      (λ b h later.
      let given = filter_map_given branch_bound_by facts b h in
      let voted = subst (IsIn facts) (bound_is given.source b given.gives) given.among in
      prepared_earlier facts more b.tx (b.keys, voted) later))

-- ---- two lists of facts that lead to the same

pub record LeadsSame (number : ℕ) (kept facts : List Fact) : Type 0 where
  pub stored_are : (tx : TxParts) → stored_in kept tx ≡ stored_in facts tx
  pub begun_are : begun_in kept ≡ begun_in facts
  pub bound_are : bound_branches kept ≡ bound_branches facts

module _ (number : ℕ) (kept facts : List Fact) (same : LeadsSame number kept facts) where
  -- with more facts they still do
  pub leads_more : (more : List Fact) → LeadsSame number (kept ++ more) (facts ++ more)
  leads_more more = record {
    stored_are = stored_then;
    begun_are =
        begun_append [] kept more ∙ ap (λ seen. fold seen_after seen more) same.begun_are ∙ sym (begun_append [] facts more);
    bound_are =
        bound_more kept more
        ∙ (λ i. same_filter (is_prepared_then kept more) (is_prepared_then facts more) prepared_then (bound_branches kept) i
        ++ same_filter (is_prepared_then kept more) (is_prepared_then facts more) prepared_then (filter_map branch_bound_by more) i)
        ∙ ap (λ bs. filter (is_prepared_then facts more) bs ++ filter (is_prepared_then facts more) (filter_map branch_bound_by more))
        same.bound_are
        ∙ sym (bound_more facts more);
  }
    where
      stored_then : (tx : TxParts) → stored_in (kept ++ more) tx ≡ stored_in (facts ++ more) tx
      stored_then tx =
          stored_append kept more tx ∙ ap (λ s. either s (stored_in more tx)) (same.stored_are tx) ∙ sym (stored_append facts more tx)

      prepared_then : (b : Bound) → is_prepared_then kept more b ≡ is_prepared_then facts more b
      prepared_then b = ap (λ s. is_prepared_view (view_among s)) (stored_then b.tx)

  -- the same names are spent
  pub spent_same : (x : XidParts) → is_spent number kept x ≡ is_spent number facts x
  spent_same x =
      spent_begun number kept x
      ∙ ap (list_any (λ tx. option_map_or (xid_eq x) (xid_at tx number) false)) same.begun_are ∙ sym (spent_begun number facts x)

  -- the same facts play
  pub plays_same : (fact : Fact)
      → plays_at_manager number (stored_votes number kept) fact ≡ plays_at_manager number (stored_votes number facts) fact
  plays_same (Fact.VotePrepared tx keys) = λ i.
      is_participant tx number && is_new_among (same.stored_are tx i) && not (name_spent_same number kept facts tx spent_same i)
      && not (is_some_held (same.bound_are i) keys)
  plays_same (Fact.VoteAborted tx) = λ i. is_participant tx number && is_new_among (same.stored_are tx i)
  plays_same (Fact.Committed tx) = λ i. is_prepared_view (view_among (same.stored_are tx i))
  plays_same (Fact.Aborted tx) = λ i. is_participant tx number && is_open_view (view_among (same.stored_are tx i))
  plays_same (Fact.Promise tx i b) = refl
  plays_same (Fact.PromiseAll tx b) = refl
  plays_same (Fact.Accept tx i b v) = refl
  plays_same (Fact.Ballot tx b) = refl

  -- branches that are apart beside the one are so beside the other
  pub apart_same : (branches : List Branch) → AreApart number kept branches → AreApart number facts branches
  apart_same branches are = record {
    unspent = λ b h. sym (spent_same b.xid) ∙ are.unspent b h;
    apart = are.apart;
    free = λ b bound h k. are.free b bound h (subst (λ (bs : List Bound). IsIn bs bound) (sym same.bound_are) k);
    distinct = are.distinct;
    ordered = are.ordered;
  }

-- ---- playing on

-- facts behind others play after them
pub all_play_append : (config : Config) (rm : ℕ) (before facts more : List Fact) → all_play config (R rm) before (facts ++ more) ≡ true
    → all_play config (R rm) (before ++ facts) more ≡ true
all_play_append config rm before [] more play =
    subst (λ (fs : List Fact). all_play config (R rm) fs more ≡ true) (sym (append-nil before)) play
all_play_append config rm before (fact ∷ facts) more play =
    let parts = and_parts (plays config (R rm) before fact) (all_play config (R rm) (before ++ fact ∷ []) (facts ++ more)) play in
    subst (λ (fs : List Fact). all_play config (R rm) fs more ≡ true) (append_assoc before (fact ∷ []) facts)
    (all_play_append config rm (before ++ fact ∷ []) facts more parts.1)

-- two lists of facts that played, and have led to the same and to one table
pub record PlayedSame (over config : Config) (number : ℕ) (kept facts : List Fact) : Type 0 where
  pub kept_play : all_play over (R number) [] kept ≡ true
  pub play : all_play config (R number) [] facts ≡ true
  pub leads : LeadsSame number kept facts
  pub rows_are : table (first_rows over number) kept ≡ table (first_rows config number) facts

module _ (over config : Config) (number : ℕ) where
  -- a transaction that is prepared was voted with the same keys
  same_keys : (kept facts : List Fact) → PlayedSame over config number kept facts → (tx : TxParts)
      → is_prepared_view (view kept tx) ≡ true → (g : Fact) → keys_voted (kept ++ g ∷ []) tx ≡ keys_voted (facts ++ g ∷ []) tx
  same_keys kept facts same tx prepared g =
      let vote = (prepared_shows kept tx prepared).0 in
      let bound : Bound = record { tx = tx; keys = vote.0 } in
      let among = stored_bound kept bound (record { voted = vote.1; prepared = prepared }) in
      let also = bound_stored facts bound (subst (λ (bs : List Bound). IsIn bs bound) same.leads.bound_are among) in
      let name = names_name tx number (voted_named over number kept same.kept_play tx Vote.Prepared vote) in
      keys_stay kept g tx vote ∙ keys_of_vote over number kept name.0 same.kept_play tx vote.0 vote.1 name.1
      ∙ sym (keys_of_vote config number facts name.0 same.play tx vote.0 also.voted name.1)
      ∙ sym (keys_stay facts g tx (vote.0, also.voted))

  same_step : (kept facts : List Fact) → PlayedSame over config number kept facts → (fact : Fact)
      → plays_at_manager number (stored_votes number kept) fact ≡ true
      → PlayedSame over config number (kept ++ fact ∷ []) (facts ++ fact ∷ [])
  same_step kept facts same fact p =
      let also = sym (plays_same number kept facts same.leads fact) ∙ p in
      record {
        kept_play = all_play_then over (R number) [] kept fact same.kept_play p;
        play = all_play_then config (R number) [] facts fact same.play also;
        leads = leads_more number kept facts same.leads (fact ∷ []);
        rows_are =
            table_more kept fact (commits_voted over number kept same.kept_play) (first_rows over number)
            ∙ ap (λ rows. option_map_or (λ tx. with_writes rows (keys_voted (kept ++ fact ∷ []) tx)) (commit_of fact) rows) same.rows_are
            ∙ writes fact p (table (first_rows config number) facts)
            ∙ sym (table_more facts fact (commits_voted config number facts same.play) (first_rows config number));
      }
    where
      writes : (g : Fact) → plays_at_manager number (stored_votes number kept) g ≡ true → (rows : List Row)
          → option_map_or (λ tx. with_writes rows (keys_voted (kept ++ g ∷ []) tx)) (commit_of g) rows
          ≡ option_map_or (λ tx. with_writes rows (keys_voted (facts ++ g ∷ []) tx)) (commit_of g) rows
      writes (Fact.Committed tx) prepared rows = ap (with_writes rows) (same_keys kept facts same tx prepared (Fact.Committed tx))
      writes (Fact.VotePrepared tx keys) e rows = refl
      writes (Fact.VoteAborted tx) e rows = refl
      writes (Fact.Aborted tx) e rows = refl
      writes (Fact.Promise tx i b) e rows = refl
      writes (Fact.PromiseAll tx b) e rows = refl
      writes (Fact.Accept tx i b v) e rows = refl
      writes (Fact.Ballot tx b) e rows = refl

  -- facts that lead to the same do so with more behind them
  pub same_on : (kept facts more : List Fact) → PlayedSame over config number kept facts → all_play over (R number) kept more ≡ true
      → PlayedSame over config number (kept ++ more) (facts ++ more)
  same_on kept facts [] same play =
      subst (λ (fs : List Fact). PlayedSame over config number fs (facts ++ [])) (sym (append-nil kept))
      (subst (PlayedSame over config number kept) (sym (append-nil facts)) same)
  same_on kept facts (fact ∷ more) same play =
      let parts = and_parts (plays over (R number) kept fact) (all_play over (R number) (kept ++ fact ∷ []) more) play in
      let then = same_on (kept ++ fact ∷ []) (facts ++ fact ∷ []) more (same_step kept facts same fact parts.0) parts.1 in
      subst (λ (fs : List Fact). PlayedSame over config number fs (facts ++ fact ∷ more)) (append_assoc kept (fact ∷ []) more)
      (subst (PlayedSame over config number ((kept ++ fact ∷ []) ++ more)) (append_assoc facts (fact ∷ []) more) then)
