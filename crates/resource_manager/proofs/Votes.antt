-- What playing a fact makes of a resource manager, for whatever it stands for.
use Rattle.std.proofs.Common.{◌≡◌, ◌⊎◌, ◌∙◌, inl, inr, ℕ, Bool, true, false, not, ◌&&◌, cond, List, [], ◌∷◌, ◌++◌}
use Rattle.std.proofs.Common.{Option, Some, None, is_none, is_some, refl, sym, ap, subst, filter}
use Rattle.std.specs.Prelude.{find, option_map}
use Rattle.std.specs.List.{list_any}
use Rattle.std.specs.Option.{option_map_or}
use Rattle.std.proofs.lemmas.Bool.{and_parts, both_ways, false_from_ne_true, not_from_false}
use Rattle.xid.specs.Names.{XidParts, xid_eq}
use Rattle.xid.specs.Transactions.{TxParts, xid_at}
use Rattle.xid.specs.declared.transaction.Vote.{Vote}
use Rattle.xid.proofs.Deciding.{xid_decides, tx_self}
use Rattle.ballot.specs.Greatest.{IsIn}
use Rattle.stable_record.specs.declared.fact.FactKind.{FactKind as Fact}
use Rattle.stable_record.specs.declared.fact.Touched.{Touched}
use Rattle.protocol.specs.declared.states.BranchState.TheVariants as states
use Rattle.protocol.specs.Branches.{BranchView, no_branch, is_write, hinders_use}
use Rattle.protocol.specs.Effects.{Config}
use Rattle.protocol.specs.Facts.{Bound, bound_branches, is_prepared_view, is_spent, is_vote_of, is_commit_of, view, HasVote}
use Rattle.protocol.specs.Holds.{AreApart, AreNamedOnce, AreDisjoint}
use Rattle.protocol.specs.Managers.{Branch, stored_votes, plays_at_manager, is_new, is_some_held, branches_without, idle_keys, view_by}
use Rattle.protocol.specs.Nodes.{first_rows}
use Rattle.protocol.specs.Tables.{keys_voted, commit_of, table, with_writes}
use Rattle.protocol.proofs.Lists.{any_found, found_any, IsIn-last, Contains-among, IsIn-contains}
use Rattle.protocol.proofs.Manager.Apart.{named_so, bound_stored, stored_bound, bound_named, without_some, gone, voted_apart}
use Rattle.protocol.proofs.Manager.Apart.{unheld_by, name_of}
use Rattle.protocol.proofs.Manager.Effects.{name_names}
use Rattle.protocol.proofs.Manager.Keys.{names_name, spent_by}
use Rattle.protocol.proofs.Manager.Prepared.{prepared_or_not, names_held_once}
use Rattle.protocol.proofs.Manager.Views.{prepared_shows, casts_decides}
use Rattle.branch_table.specs.TableStates.{branch_named}
use Rattle.branch_table.specs.Outcomes.{AreHindered, CanBePrepared, idle_branch, prepared_branch}
use Rattle.branch_table.proofs.Found.{view_or_none, view_of_named}
use Rattle.resource_manager.specs.declared.course.Course.{Course}
use Rattle.resource_manager.specs.Courses.{Stored, stored_by, view_among, vote_among, is_ended_among, course_in}
use Rattle.resource_manager.specs.SpentNames.{is_spent_in}
use Rattle.resource_manager.specs.Managers.{ManagerParts, StandsFor, HasBranch, IsPlayable, branches_in, unspent_branches}
use Rattle.resource_manager.specs.Playing.{Becomes, IsThere}
use Rattle.resource_manager.proofs.Named.{named_at, named_in, idle_named, named_idle}
use Rattle.resource_manager.proofs.More.{voted_then, table_more}
use Rattle.resource_manager.proofs.Standing.{bound_in, other_in, stands_then, then_once}

-- ---- conditions, by the course of a transaction

module _ (config : Config) (number : ℕ) (m : ManagerParts) (facts : List Fact) (branches : List Branch)
    (stands : StandsFor config number m facts branches) (tx : TxParts) where
  -- a transaction is new where its course says so
  pub new_by : (c : Course) → course_in m.courses tx ≡ c → is_new (stored_votes number facts) tx
      ≡ (is_none (vote_among (stored_by c)) && not (is_ended_among (stored_by c)))
  new_by c e =
      ap (λ (s : Stored). is_none (vote_among s) && not (is_ended_among s)) (stands.stored_are tx ∙ ap stored_by e)

  -- and its view is the one of its course
  pub view_is : (c : Course) → course_in m.courses tx ≡ c → view facts tx ≡ view_among (stored_by c)
  view_is c e = ap view_among (stands.stored_are tx ∙ ap stored_by e)

  -- no vote prepared stands of a transaction that isn't seen so
  pub unvoted : (c : Course) → course_in m.courses tx ≡ c → (stored_by c).voted_prepared ≡ false → (keys : List Touched)
      → IsIn facts (Fact.VotePrepared tx keys) → ⊥
  unvoted c e none keys h =
      both_ways (list_any (is_vote_of tx Vote.Prepared) facts)
      (ap (λ (s : Stored). s.voted_prepared) (stands.stored_are tx ∙ ap stored_by e) ∙ none)
      (found_any (is_vote_of tx Vote.Prepared) facts (Fact.VotePrepared tx keys) h (tx_self tx))

  -- a prepared transaction has its vote, and its name is spent
  pub prepared_vote : course_in m.courses tx ≡ Course.Prepared → HasVote facts tx Vote.Prepared
  prepared_vote e = (prepared_shows facts tx (ap is_prepared_view (view_is Course.Prepared e))).0

-- nothing is committed that wasn't voted prepared
pub committed_voted : (config : Config) (number : ℕ) (m : ManagerParts) (facts : List Fact) (branches : List Branch)
    → StandsFor config number m facts branches → (tx : TxParts) → IsIn facts (Fact.Committed tx) → HasVote facts tx Vote.Prepared
committed_voted config number m facts branches stands tx h = by (course_in m.courses tx) refl
  where
    is : list_any (is_commit_of tx) facts ≡ true
    is = found_any (is_commit_of tx) facts (Fact.Committed tx) h (tx_self tx)

    by : (c : Course) → course_in m.courses tx ≡ c → HasVote facts tx Vote.Prepared
    by Course.Committed e =
        (casts_decides facts tx Vote.Prepared).0 (ap (λ (s : Stored). s.voted_prepared) (stands.stored_are tx ∙ ap stored_by e))
    by Course.Working e = absurd (both_ways _ (ap (λ (s : Stored). s.committed) (stands.stored_are tx ∙ ap stored_by e)) is)
    by Course.Prepared e = absurd (both_ways _ (ap (λ (s : Stored). s.committed) (stands.stored_are tx ∙ ap stored_by e)) is)
    by Course.VotedAborted e = absurd (both_ways _ (ap (λ (s : Stored). s.committed) (stands.stored_are tx ∙ ap stored_by e)) is)
    by Course.RolledBack e = absurd (both_ways _ (ap (λ (s : Stored). s.committed) (stands.stored_are tx ∙ ap stored_by e)) is)
    by Course.AbortedUnvoted e = absurd (both_ways _ (ap (λ (s : Stored). s.committed) (stands.stored_are tx ∙ ap stored_by e)) is)

-- the rows after a fact that is no commit
pub rows_stay : (config : Config) (number : ℕ) (m new : ManagerParts) (facts : List Fact) (branches : List Branch)
    → StandsFor config number m facts branches → (fact : Fact) → commit_of fact ≡ None → new.table.rows ≡ m.table.rows
    → new.table.rows ≡ table (first_rows config number) (facts ++ fact ∷ [])
rows_stay config number m new facts branches stands fact none same =
    same ∙ stands.rows_are
    ∙ sym (table_more facts fact (committed_voted config number m facts branches stands) (first_rows config number)
    ∙ ap (λ (o : Option TxParts). option_map_or
    (λ tx. with_writes (table (first_rows config number) facts) (keys_voted (facts ++ fact ∷ []) tx)) o
    (table (first_rows config number) facts)) none)

-- a name that isn't spent is of no vote
pub unspent_unvoted : (number : ℕ) (facts : List Fact) (x : XidParts) → is_spent number facts x ≡ false → (tx : TxParts)
    (keys : List Touched)
    → IsIn facts (Fact.VotePrepared tx keys) → xid_at tx number ≡ Some x → ⊥
unspent_unvoted number facts x unspent tx keys h name =
    both_ways (is_spent number facts x) unspent (spent_by number facts (Fact.VotePrepared tx keys) x h name)

-- of a name that isn't spent only branches are that aren't prepared
pub only_named : (number : ℕ) (facts : List Fact) (branches : List Branch) (x : XidParts) → is_spent number facts x ≡ false → (b : Branch)
    → b.xid ≡ x → IsIn (branches_in number facts branches) b → IsIn branches b
only_named number facts branches x unspent b e h = elim (prepared_or_not number facts branches b h) [
  | inl one ↦
      absurd (unspent_unvoted number facts x unspent one.bound.tx one.bound.keys (bound_stored facts one.bound one.among).voted
      (one.name ∙ ap Some e))
  | inr own ↦ own
]

-- ---- a vote prepared

-- find in a filtered list
find_filter : (p q : Branch → Bool) (bs : List Branch) → ((b : Branch) → p b ≡ true → q b ≡ true) → find p (filter q bs) ≡ find p bs
find_filter p q [] pass = refl
find_filter p q (b ∷ bs) pass = by (q b) (p b) refl refl (find_filter p q bs pass)
  where
    by : (t u : Bool) → q b ≡ t → p b ≡ u → find p (filter q bs) ≡ find p bs
        → find p (cond (q b) (b ∷ filter q bs) (filter q bs)) ≡ cond (p b) (Some b) (find p bs)
    by true u e f rest =
        ap (λ (t : Bool). find p (cond t (b ∷ filter q bs) (filter q bs))) e ∙ ap (cond (p b) (Some b)) rest
    by false true e f rest = absurd (both_ways (q b) e (pass b f))
    by false false e f rest =
        ap (λ (t : Bool). find p (cond t (b ∷ filter q bs) (filter q bs))) e ∙ rest
        ∙ sym (ap (λ (t : Bool). cond t (Some b) (find p bs)) f)

module _ (config : Config) (number : ℕ) (m : ManagerParts) (facts : List Fact) (branches : List Branch)
    (stands : StandsFor config number m facts (unspent_branches number facts branches)) (tx : TxParts) (x : XidParts) (keys : List Touched)
    (name : xid_at tx number ≡ Some x) (working : course_in m.courses tx ≡ Course.Working)
    (unspent : is_spent_in m.spent x ≡ false) where
  abbrev was : List Branch
  was = unspent_branches number facts branches

  abbrev all : List Branch
  all = branches_in number facts was

  once : AreNamedOnce all
  once = names_held_once config number facts was stands.played stands.apart

  free_name : is_spent number facts x ≡ false
  free_name = stands.spent_are x ∙ unspent

  -- the condition of the vote is that its keys are held by no prepared branch
  pub plays_by : (held : Bool) → is_some_held (bound_branches facts) keys ≡ held
      → plays_at_manager number (stored_votes number facts) (Fact.VotePrepared tx keys) ≡ not held
  plays_by held e =
      λ i. (name_names tx number x name i && new_by config number m facts was stands tx Course.Working working i
      && not ((ap (λ (o : Option XidParts). option_map_or (is_spent number facts) o false) name ∙ free_name) i))
      && not (e i)

  -- a branch of this name is none of the prepared ones
  only_other : (b : Branch) → branch_named m.table.branches x ≡ Some b → IsIn was b
  only_other b e =
      let found = named_in all x b (sym (stands.branches_are x) ∙ e) in only_named number facts was x free_name b found.1 found.0

  -- the branch that is idle with just the keys
  abbrev IsIdle : Type 0
  IsIdle = branch_named m.table.branches x ≡ Some (idle_branch x keys)

  idle_keys_are : IsIdle → idle_keys was x ≡ Some keys
  idle_keys_are e =
      let there = only_other (idle_branch x keys) e in
      named_idle was x keys stands.apart.distinct (named_at was (idle_branch x keys) x stands.apart.distinct there refl)

  idle_unheld : IsIdle → is_some_held (bound_branches facts) keys ≡ false
  idle_unheld e =
      unheld_by number facts was x keys stands.apart
      (record { branch = idle_branch x keys; among = only_other (idle_branch x keys) e; name = refl; holds = refl })

  abbrev hindered : Bound → Touched → Bool
  hindered one touched = hinders_use (is_write touched.act) touched.key (view_by states.Prepared one.keys)

  -- where a prepared branch holds a key, another branch hinders
  held_hinders : is_some_held (bound_branches facts) keys ≡ true → AreHindered m.table.branches x keys
  held_hinders h =
      let outer = any_found (λ (one : Bound). list_any (hindered one) keys) (bound_branches facts) h in
      let inner = any_found (hindered outer.element) keys outer.passes in
      let one = outer.element in
      let other = names_name one.tx number (bound_named config number facts stands.played one outer.among) in
      let there = bound_in number facts was one other.0 outer.among other.1 in
      let shows = view_of_named m.table.branches other.0
      ∙ ap view_or_none (stands.branches_are other.0 ∙ named_at all (named_so one.keys other.0) other.0 once there refl) in (
        inner.element,
        Contains-among keys inner.element inner.among,
        (
          other.0,
          λ same. unspent_unvoted number facts x free_name one.tx one.keys (bound_stored facts one outer.among).voted (other.1
              ∙ ap Some same),
          ap (hinders_use (is_write inner.element.act) inner.element.key) shows ∙ inner.passes,
        ),
      )

  none_hinders_use : (writes : Bool) (key : List ℕ) → hinders_use writes key no_branch ≡ false
  none_hinders_use true key = refl
  none_hinders_use false key = refl

  -- where there are none but prepared branches, one that hinders holds a key
  hinders_held : was ≡ [] → AreHindered m.table.branches x keys → is_some_held (bound_branches facts) keys ≡ true
  hinders_held none is = by (branch_named m.table.branches is.2.0) refl
    where
      test : BranchView → Bool
      test = hinders_use (is_write is.0.act) is.0.key

      by : (o : Option Branch) → branch_named m.table.branches is.2.0 ≡ o → is_some_held (bound_branches facts) keys ≡ true
      by None e =
          absurd (both_ways (test no_branch) (none_hinders_use (is_write is.0.act) is.0.key)
          (sym (ap test (view_of_named m.table.branches is.2.0 ∙ ap view_or_none e)) ∙ is.2.2))
      by (Some b) e =
          let found = named_in all is.2.0 b (sym (stands.branches_are is.2.0) ∙ e) in
          elim (prepared_or_not number facts was b found.0) [
            | inl one ↦
                found_any (λ (bound : Bound). list_any (hindered bound) keys) (bound_branches facts) one.bound one.among
                (found_any (hindered one.bound) keys is.0 (IsIn-contains keys is.0 is.1)
                (ap test (λ i. view_by (sym one.state i) (sym one.keys i))
                ∙ sym (ap test (view_of_named m.table.branches is.2.0 ∙ ap view_or_none e)) ∙ is.2.2))
            | inr own ↦ absurd (subst (λ (bs : List Branch). IsIn bs b) none own)
          ]

  -- where the vote is playable, there are none but prepared branches, and none of this name; or its branch is idle with just the keys
  situation : IsPlayable number branches (Fact.VotePrepared tx keys)
      → ((was ≡ []) × (branch_named m.table.branches x ≡ None)) ⊎ IsIdle
  situation (inl none) =
      let empty : was ≡ [] = ap (unspent_branches number facts) none in
      inl (empty, by (branch_named m.table.branches x) refl empty)
    where
      by : (o : Option Branch) → branch_named m.table.branches x ≡ o → was ≡ [] → branch_named m.table.branches x ≡ None
      by None e empty = e
      by (Some b) e empty = absurd (subst (λ (bs : List Branch). IsIn bs b) empty (only_other b e))
  situation (inr idle) =
      let same : idle.0 ≡ x = name_of (xid_at tx number) idle.0 x idle.1 name in
      let kept : idle_keys was x ≡ idle_keys branches x = ap (option_map (λ (b : Branch). b.keys))
      (find_filter _ (λ b. not (is_spent number facts b.xid)) branches (λ b passes.
      not_from_false (is_spent number facts b.xid)
      (ap (is_spent number facts) ((xid_decides b.xid x).0 (and_parts (xid_eq b.xid x) _ passes).0) ∙ free_name))) in
      let found = idle_named was x keys stands.apart.distinct (kept ∙ subst (λ y. idle_keys branches y ≡ Some keys) same idle.2) in
      let there = named_in was x (idle_branch x keys) found in
      inr (stands.branches_are x ∙ named_at all (idle_branch x keys) x once (other_in number facts was (idle_branch x keys) there.0) refl)

  -- where its branch can be prepared, the vote plays; and else it doesn't
  pub can_play : IsPlayable number branches (Fact.VotePrepared tx keys) → CanBePrepared m.table.branches x keys
      → is_some_held (bound_branches facts) keys ≡ false
  can_play playable (inl idle) = idle_unheld idle
  can_play playable (inr free) = false_from_ne_true (is_some_held (bound_branches facts) keys) (λ h. free.1 (held_hinders h))

  -- a vote to commit that the table can't prepare doesn't play
  pub cannot_play : IsPlayable number branches (Fact.VotePrepared tx keys) → (CanBePrepared m.table.branches x keys → ⊥)
      → is_some_held (bound_branches facts) keys ≡ true
  cannot_play playable cannot = by (is_some_held (bound_branches facts) keys) refl (situation playable)
    where
      by : (held : Bool) → is_some_held (bound_branches facts) keys ≡ held
          → ((was ≡ []) × (branch_named m.table.branches x ≡ None)) ⊎ IsIdle → is_some_held (bound_branches facts) keys ≡ true
      by true e is = e
      by false e (inl is) =
          absurd (cannot (inr (is.1, λ h. both_ways (is_some_held (bound_branches facts) keys) e (hinders_held is.0 h))))
      by false e (inr idle) = absurd (cannot (inl idle))

  -- one whose branch is there does
  pub there_play : IsPlayable number branches (Fact.VotePrepared tx keys) → IsThere m x → is_some_held (bound_branches facts) keys ≡ false
  there_play playable there = elim (situation playable) [
    | inl is ↦ absurd (both_ways (is_some (branch_named m.table.branches x)) (ap is_some is.1) there)
    | inr idle ↦ idle_unheld idle
  ]

  module _ (new : ManagerParts) (becomes : Becomes m new tx x Course.Prepared (Some (prepared_branch x keys)))
      (playable : IsPlayable number branches (Fact.VotePrepared tx keys)) (can : CanBePrepared m.table.branches x keys) where
    abbrev fact : Fact
    fact = Fact.VotePrepared tx keys

    plays : plays_at_manager number (stored_votes number facts) fact ≡ true
    plays = plays_by false (can_play playable can)

    new_apart : (bound : Bound) → fact ≡ Fact.VotePrepared bound.tx bound.keys → (b : Branch) → IsIn (branches_without was x) b
        → AreDisjoint b.keys bound.keys
    new_apart bound e b h = elim (situation playable) [
      | inl is ↦ absurd (subst (λ (bs : List Branch). IsIn bs b) is.0 (without_some was x b h))
      | inr idle ↦ voted_apart number facts was stands.apart tx x keys (idle_keys_are idle) bound e b h
    ]

    apart : AreApart number (facts ++ fact ∷ []) (branches_without was x)
    apart = gone number facts was stands.apart fact x name new_apart

    now_bound : branch_named (branches_in number (facts ++ fact ∷ []) (branches_without was x)) x ≡ Some (prepared_branch x keys)
    now_bound =
        let stored = voted_then facts tx keys (stands.stored_are tx ∙ ap stored_by working) in
        let bound : Bound = record { tx = tx; keys = keys } in
        let among = stored_bound (facts ++ fact ∷ []) bound
        (record { voted = IsIn-last facts fact; prepared = ap (λ (s : Stored). is_prepared_view (view_among s)) stored }) in
        named_at (branches_in number (facts ++ fact ∷ []) (branches_without was x)) (prepared_branch x keys) x
        (then_once config number m new facts branches fact x stands plays name apart)
        (bound_in number (facts ++ fact ∷ []) (branches_without was x) bound x among name) refl

    -- after a vote to commit
    pub vote_stands : StandsFor config number new (facts ++ fact ∷ []) (unspent_branches number (facts ++ fact ∷ []) branches)
    vote_stands =
        stands_then config number m new facts branches fact x stands plays name apart Course.Prepared (Some (prepared_branch x keys))
        becomes.number becomes.managers becomes.courses becomes.begun
        (voted_then facts tx keys (stands.stored_are tx ∙ ap stored_by working))
        becomes.spent (rows_stay config number m new facts was stands fact refl becomes.rows) becomes.branches now_bound

-- a branch that is idle has its branch in the table
pub idle_there : (config : Config) (number : ℕ) (m : ManagerParts) (facts : List Fact) (branches : List Branch)
    → StandsFor config number m facts branches → (tx : TxParts) (x : XidParts) (keys : List Touched) → xid_at tx number ≡ Some x
    → idle_keys branches x ≡ Some keys → HasBranch m tx
idle_there config number m facts branches stands tx x keys name idle y e =
    let same = name_of (xid_at tx number) x y name (ap (xid_at tx) (sym stands.number_is) ∙ e) in
    let found = idle_named branches x keys stands.apart.distinct idle in
    let among = named_in branches x (idle_branch x keys) found in
    let once = names_held_once config number facts branches stands.played stands.apart in
    subst (λ (z : XidParts). is_some (branch_named m.table.branches z) ≡ true) same
    (ap is_some (stands.branches_are x
    ∙ named_at (branches_in number facts branches) (idle_branch x keys) x once
    (other_in number facts branches (idle_branch x keys) among.0) refl))
