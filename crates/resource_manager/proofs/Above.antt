-- What is left of a resource manager above a floor stands for what is left of its facts.
-- Needed by `ResourceManager::above`; crate forgetting.
use Rattle.std.proofs.Common.{◌≡◌, ◌∙◌, inl, inr, ℕ, Bool, true, false, not, ◌||◌, if◌then◌else◌, List, [], ◌∷◌, Some, refl, sym, ap}
use Rattle.std.proofs.Common.{subst, fold}
use Rattle.std.specs.Prelude.{filter, map}
use Rattle.std.specs.List.{list_any}
use Rattle.std.specs.Option.{option_map_or}
use Rattle.std.proofs.lemmas.Bool.{both_ways, false_from_ne_true, not-true}
use Rattle.xid.specs.Names.{XidParts, xid_eq}
use Rattle.xid.specs.Places.{Place, is_below}
use Rattle.xid.specs.Transactions.{TxParts, tx_eq, xid_at}
use Rattle.xid.specs.declared.transaction.Vote.{Vote}
use Rattle.xid.proofs.Deciding.{tx_decides}
use Rattle.ballot.specs.Greatest.{IsIn}
use Rattle.stable_record.specs.declared.fact.FactKind.{FactKind as Fact}
use Rattle.stable_record.specs.declared.fact.FactKind.TheVariants as stored
use Rattle.stable_record.specs.declared.fact.Touched.{Touched}
use Rattle.stable_record.specs.Facts.{fact_tx}
use Rattle.transactions.specs.Seen.{seen_with}
use Rattle.transactions.proofs.Above.{first_passing}
use Rattle.protocol.specs.declared.nodes.NodeId.TheVariants.{R}
use Rattle.protocol.specs.declared.states.View.TheVariants as views
use Rattle.protocol.specs.Effects.{Config}
use Rattle.protocol.specs.Facts.{Bound, bound_branches, is_abort_of, is_commit_of, is_prepared_view, is_spent, is_vote_of, view}
use Rattle.protocol.specs.Holds.{AreApart}
use Rattle.protocol.specs.Kept.{are_free_below, is_kept, kept_facts}
use Rattle.protocol.specs.Managers.{Branch, all_branches}
use Rattle.protocol.specs.Nodes.{first_rows}
use Rattle.protocol.specs.Tables.{table}
use Rattle.protocol.proofs.Kept.Facts.{bound_kept, free_branch, free_prepared, other_abort, other_commit, other_vote, spent_kept, view_kept}
use Rattle.protocol.proofs.Kept.Leaders.{any_filter, other_tx}
use Rattle.protocol.proofs.Kept.Playing.{all_play_kept}
use Rattle.protocol.proofs.Lists.{any_found, filter_kept, found_any}
use Rattle.branch_table.specs.TableStates.{branch_named}
use Rattle.resource_manager.specs.declared.course.Course.{Course}
use Rattle.resource_manager.specs.Courses.{begun_in, course_in, stored_by, stored_in}
use Rattle.resource_manager.specs.Forgetting.{AreCoursesOf, begun_above}
use Rattle.resource_manager.specs.Left.{manager_left, without_writes}
use Rattle.resource_manager.specs.Managers.{ManagerParts, StandsFor}
use Rattle.resource_manager.specs.SpentNames.{is_spent_in}
use Rattle.resource_manager.proofs.Ascending.{put_again, table_ascends}
use Rattle.resource_manager.proofs.Begun.{any_begun, seen_after}
use Rattle.resource_manager.proofs.Kept.{spent_begun}
use Rattle.resource_manager.proofs.Leaving.{all_play_left, bound_left, same_tx, spent_left, stored_left, table_left, uncommitted}

-- ---- facts of one transaction, or none

any_none : {X : Type 0} (q : X → Bool) (xs : List X) → ((x : X) → IsIn xs x → q x ≡ false) → list_any q xs ≡ false
any_none q [] none = refl
any_none q (x ∷ xs) none = λ k. none x (inl refl) k || any_none q xs (λ y h. none y (inr h)) k

-- of a transaction that no fact is about nothing is stored
none_stored : (facts : List Fact) (tx : TxParts) → ((f : Fact) → IsIn facts f → tx_eq tx (fact_tx f) ≡ false)
    → stored_in facts tx ≡ stored_by Course.Working
none_stored facts tx other = λ k. record {
  voted_prepared = any_none (is_vote_of tx Vote.Prepared) facts (λ f h. other_vote tx Vote.Prepared f (other f h)) k;
  voted_aborted = any_none (is_vote_of tx Vote.Aborted) facts (λ f h. other_vote tx Vote.Aborted f (other f h)) k;
  committed = any_none (is_commit_of tx) facts (λ f h. other_commit tx f (other f h)) k;
  aborted = any_none (is_abort_of tx) facts (λ f h. other_abort tx f (other f h)) k;
}

-- facts without writes come in the same order
begun_left : (whole facts : List Fact) (seen : List TxParts)
    → fold seen_after seen (map (without_writes whole) facts) ≡ fold seen_after seen facts
begun_left whole [] seen = refl
begun_left whole (f ∷ fs) seen =
    begun_left whole fs (seen_after seen (without_writes whole f))
    ∙ ap (λ (tx : TxParts). fold seen_after (seen_with seen tx) fs) (same_tx whole f)

module _ (place : Place) (facts : List Fact) where
  abbrev kept : List Fact
  kept = kept_facts (Some place) facts

  abbrev left : List Fact
  left = manager_left (Some place) facts

  abbrev p : TxParts → Bool
  p tx = not (is_below (Some place) tx)

  begun_are : begun_in left ≡ filter p (begun_in facts)
  begun_are = begun_left facts kept [] ∙ first_passing p fact_tx facts

  -- ---- what is stored

  -- what is stored of a transaction that isn't below the floor is kept
  pub stored_kept : (tx : TxParts) → is_below (Some place) tx ≡ false → stored_in kept tx ≡ stored_in facts tx
  stored_kept tx high = λ k. record {
    voted_prepared = tested (is_vote_of tx Vote.Prepared) (other_vote tx Vote.Prepared) k;
    voted_aborted = tested (is_vote_of tx Vote.Aborted) (other_vote tx Vote.Aborted) k;
    committed = tested (is_commit_of tx) (other_commit tx) k;
    aborted = tested (is_abort_of tx) (other_abort tx) k;
  }
    where
      tested : (q : Fact → Bool) → ((f : Fact) → tx_eq tx (fact_tx f) ≡ false → q f ≡ false) → list_any q kept ≡ list_any q facts
      tested q none = any_filter (is_kept (Some place)) q facts (λ f dropped. none f (other_tx (Some place) tx high (fact_tx f) dropped))

  -- one that is among those above isn't below
  above_there : (txs : List TxParts) (tx : TxParts) → list_any (tx_eq tx) (filter p txs) ≡ true → is_below (Some place) tx ≡ false
  above_there txs tx there =
      let found = any_found (tx_eq tx) (filter p txs) there in
      subst (λ (t : TxParts). is_below (Some place) t ≡ false) (sym ((tx_decides tx found.element).0 found.passes))
      (not-true (is_below (Some place) found.element) (filter_kept p txs found.element found.among).1)

  course_by : (tx : TxParts) (course : Course) → stored_in facts tx ≡ stored_by course → (t : Bool)
      → list_any (tx_eq tx) (filter p (begun_in facts)) ≡ t → stored_in left tx ≡ stored_by (if t then course else Course.Working)
  course_by tx course stands true there =
      stored_left facts kept tx ∙ stored_kept tx (above_there (begun_in facts) tx there) ∙ stands
  course_by tx course stands false absent =
      stored_left facts kept tx ∙ none_stored kept tx (λ f h. false_from_ne_true (tx_eq tx (fact_tx f))
      (λ same. both_ways (list_any (tx_eq tx) (filter p (begun_in facts))) absent
      (sym (ap (list_any (tx_eq tx)) (first_passing p fact_tx facts)) ∙ any_begun (tx_eq tx) kept
      ∙ found_any (λ g. tx_eq tx (fact_tx g)) kept f h same)))

  -- what is prepared by what is kept isn't committed
  pub open_kept : (tx : TxParts) (keys : List Touched) → IsIn kept (stored.VotePrepared tx keys)
      → is_prepared_view (view kept tx) ≡ true → list_any (is_commit_of tx) facts ≡ false
  open_kept tx keys h prepared =
      let high = not-true (is_below (Some place) tx) (filter_kept (is_kept (Some place)) facts (stored.VotePrepared tx keys) h).1 in
      uncommitted facts tx (ap is_prepared_view (sym (view_kept (Some place) tx high facts)) ∙ prepared)

  -- the same branches are bound, where none of them is below
  pub bound_same : ((tx : TxParts) → view facts tx ≡ views.Prepared → is_below (Some place) tx ≡ false)
      → bound_branches left ≡ bound_branches facts
  bound_same free = bound_left facts kept open_kept ∙ bound_kept (Some place) facts free

  -- ---- its table

  -- the table is the same, where it begins with the rows that are
  pub rows_same : (config next : Config) (rm : ℕ) → first_rows next rm ≡ table (first_rows config rm) facts
      → table (first_rows next rm) left ≡ table (first_rows config rm) facts
  rows_same config next rm begins =
      ap (λ rows. table rows left) begins
      ∙ table_left facts kept (λ f h. (filter_kept (is_kept (Some place)) facts f h).0) (table (first_rows config rm) facts)
      (put_again (table (first_rows config rm) facts) (table_ascends (first_rows config rm) facts))

-- ---- the whole

module _ (place : Place) (config next : Config) (number : ℕ) (old left_one : ManagerParts) (facts : List Fact) (branches : List Branch)
    (stands : StandsFor config number old facts branches) (free : are_free_below place facts branches ≡ true)
    (is : AreCoursesOf (begun_above place old) old left_one.courses left_one.spent)
    (begins : first_rows next number ≡ table (first_rows config number) facts) where
  bound_now : bound_branches (left place facts) ≡ bound_branches facts
  bound_now = bound_same place facts (free_prepared place facts branches free)

  spent_now : (x : XidParts) → is_spent number (left place facts) x ≡ is_spent_in left_one.spent x
  spent_now x =
      spent_begun number (left place facts) x
      ∙ ap (list_any (λ tx. option_map_or (xid_eq x) (xid_at tx number) false))
      (begun_are place facts ∙ ap (filter (p place facts)) (sym stands.begun_are))
      ∙ ap (λ (n : ℕ). list_any (λ tx. option_map_or (xid_eq x) (xid_at tx n) false) (begun_above place old)) (sym stands.number_is)
      ∙ sym (is.spent_are x)

  apart_now : AreApart number (left place facts) branches
  apart_now = record {
    unspent = λ b h.
        spent_left facts number (kept place facts) b.xid
        ∙ spent_kept (Some place) number b.xid (free_branch place facts branches free b h) facts ∙ stands.apart.unspent b h;
    apart = stands.apart.apart;
    free = λ b bound h k. stands.apart.free b bound h (subst (λ (bs : List Bound). IsIn bs bound) bound_now k);
    distinct = stands.apart.distinct;
    ordered = stands.apart.ordered;
  }

  -- what is left of a resource manager stands for what is left of its facts
  pub manager_stands : left_one.number ≡ old.number → left_one.managers ≡ old.managers → next.managers ≡ config.managers
      → left_one.table ≡ old.table → StandsFor next number left_one (left place facts) branches
  manager_stands number_is managers sizes tables = record {
    number_is = number_is ∙ stands.number_is;
    managers_are = managers ∙ stands.managers_are ∙ sym sizes;
    played = all_play_left facts number config next [] (kept place facts)
        (all_play_kept (Some place) config (R number) [] facts stands.played);
    apart = apart_now;
    unprepared = stands.unprepared;
    stored_are = λ tx.
        course_by place facts tx (course_in old.courses tx) (stands.stored_are tx)
        (list_any (tx_eq tx) (filter (p place facts) (begun_in facts))) refl
        ∙ ap stored_by
        (ap (λ (begun : List TxParts).
        if list_any (tx_eq tx) (filter (p place facts) begun) then course_in old.courses tx else Course.Working)
        (sym stands.begun_are)
        ∙ sym (is.courses_are tx));
    begun_are = is.begun_are ∙ ap (filter (p place facts)) stands.begun_are ∙ sym (begun_are place facts);
    spent_are = spent_now;
    rows_are = ap (λ t. t.rows) tables ∙ stands.rows_are ∙ sym (rows_same place facts config next number begins);
    branches_are = λ x.
        ap (λ t. branch_named t.branches x) tables ∙ stands.branches_are x
        ∙ ap (λ (bs : List Bound). branch_named (all_branches number bs branches) x) (sym bound_now);
  }
