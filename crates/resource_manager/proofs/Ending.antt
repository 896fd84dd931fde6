-- What playing the end of a branch makes of a resource manager: a vote aborted, an abort, a commit.
-- Needed by Played.
use Rattle.std.proofs.Common.{◌≡◌, ◌∙◌, inl, inr, ℕ, Bool, true, false, ◌||◌, ◌&&◌, if◌then◌else◌, List, [], ◌∷◌, ◌++◌}
use Rattle.std.proofs.Common.{Option, Some, None, refl, sym, ap, subst}
use Rattle.std.specs.Option.{option_map_or}
use Rattle.std.proofs.lemmas.Bool.{both_ways}
use Rattle.xid.specs.Names.{XidParts, xid_eq}
use Rattle.xid.specs.Transactions.{TxParts, xid_at}
use Rattle.xid.specs.declared.transaction.Vote.{Vote}
use Rattle.xid.proofs.Deciding.{xid_decides}
use Rattle.ballot.specs.Greatest.{IsIn}
use Rattle.stable_record.specs.declared.fact.FactKind.{FactKind as Fact}
use Rattle.stable_record.specs.declared.fact.Touched.{Touched}
use Rattle.stable_record.specs.Facts.{fact_tx}
use Rattle.protocol.specs.Effects.{Config}
use Rattle.protocol.specs.Facts.{Bound, is_prepared_view, is_open_view, is_spent, view, HasVote}
use Rattle.protocol.specs.Holds.{AreApart, AreNamedOnce}
use Rattle.protocol.specs.Managers.{Branch, stored_votes, plays_at_manager, branches_without}
use Rattle.protocol.specs.Nodes.{first_rows}
use Rattle.protocol.specs.Tables.{keys_voted, commit_of, table, with_writes}
use Rattle.protocol.proofs.Lists.{IsIn-push}
use Rattle.protocol.proofs.Manager.Apart.{bound_stored, stored_bound, gone, without_name, without_some}
use Rattle.protocol.proofs.Manager.Effects.{name_names}
use Rattle.protocol.proofs.Manager.Keys.{spent_by}
use Rattle.protocol.proofs.Manager.Prepared.{names_held_once}
use Rattle.branch_table.specs.TableStates.{branch_named}
use Rattle.branch_table.specs.Outcomes.{keys_named, prepared_branch}
use Rattle.resource_manager.specs.declared.course.Course.{Course}
use Rattle.resource_manager.specs.Courses.{Stored, stored_in, stored_by, view_among, course_in}
use Rattle.resource_manager.specs.SpentNames.{is_spent_in}
use Rattle.resource_manager.specs.Managers.{ManagerParts, StandsFor, branches_in, unspent_branches}
use Rattle.resource_manager.specs.Playing.{Becomes, BecomesCommitted}
use Rattle.resource_manager.proofs.Named.{named_at}
use Rattle.resource_manager.proofs.More.{refused_then, committed_then, aborted_then, undone_then, keys_stay, table_more}
use Rattle.resource_manager.proofs.Standing.{keys_of_vote, one_vote, bound_in, keeps_branch, loses_branch, stands_then, then_once}
use Rattle.resource_manager.proofs.Votes.{new_by, view_is, unvoted, prepared_vote, committed_voted, rows_stay, unspent_unvoted}

-- a fact that is no vote prepared
abbrev pub IsNoVote : Fact → Type 0
IsNoVote fact = (tx : TxParts) (keys : List Touched) → fact ≡ Fact.VotePrepared tx keys → ⊥

module _ (config : Config) (number : ℕ) (m new : ManagerParts) (facts : List Fact) (branches : List Branch) (fact : Fact) (x : XidParts)
    (stands : StandsFor config number m facts (unspent_branches number facts branches))
    (plays : plays_at_manager number (stored_votes number facts) fact ≡ true) (name : xid_at (fact_tx fact) number ≡ Some x)
    (is_end : IsNoVote fact) where
  abbrev was : List Branch
  was = unspent_branches number facts branches

  abbrev left : List Branch
  left = branches_without was x

  abbrev then_facts : List Fact
  then_facts = facts ++ fact ∷ []

  apart : AreApart number then_facts left
  apart = gone number facts was stands.apart fact x name (λ bound e. absurd (is_end bound.tx bound.keys e))

  once : AreNamedOnce (branches_in number then_facts left)
  once = then_once config number m new facts branches fact x stands plays name apart

  -- a vote prepared among the facts was there before
  voted_before : (tx : TxParts) (keys : List Touched) → IsIn then_facts (Fact.VotePrepared tx keys) → IsIn facts (Fact.VotePrepared tx keys)
  voted_before tx keys h =
      elim (IsIn-push facts fact (Fact.VotePrepared tx keys) h) [ inl old ↦ old | inr same ↦ absurd (is_end tx keys same) ]

  -- where the name is spent, but not by the fact's own transaction, its branch stays
  branch_stays : ((keys : List Touched) → IsIn facts (Fact.VotePrepared (fact_tx fact) keys) → ⊥) → is_spent number facts x ≡ true
      → branch_named m.table.branches x ≡ branch_named (branches_in number then_facts left) x
  branch_stays unvoted_own spent =
      stands.branches_are x
      ∙ keeps_branch number facts fact was left x once
      (λ tx keys h e same. unvoted_own keys
      (subst (λ (t : TxParts). IsIn facts (Fact.VotePrepared t keys)) same (voted_before tx keys h)))
      (λ b e h. absurd (both_ways (is_spent number facts b.xid) (stands.apart.unspent b h) (ap (is_spent number facts) e ∙ spent)))
      (λ b e h. without_some was x b h)

  -- where it isn't spent, it has none
  branch_goes : is_spent number facts x ≡ false → branch_named (branches_in number then_facts left) x ≡ None
  branch_goes unspent = loses_branch number facts fact was left x
      (λ bound h e. unspent_unvoted number facts x unspent bound.tx bound.keys
      (voted_before bound.tx bound.keys (bound_stored then_facts bound h).voted) e)
      (λ b h. without_name was x b h)

  -- nor where it was the fact's transaction that had bound it
  branch_ends : HasVote facts (fact_tx fact) Vote.Prepared → is_prepared_view (view then_facts (fact_tx fact)) ≡ false
      → branch_named (branches_in number then_facts left) x ≡ None
  branch_ends voted ended = loses_branch number facts fact was left x
      (λ bound h e.
      let is = bound_stored then_facts bound h in
      let same = one_vote config number facts x stands.played bound.tx (fact_tx fact) bound.keys voted.0
      (voted_before bound.tx bound.keys is.voted) voted.1 e name in
      both_ways (is_prepared_view (view then_facts (fact_tx fact))) ended
      (ap (λ (b : Bound). is_prepared_view (view then_facts b.tx)) (sym same) ∙ is.prepared))
      (λ b h. without_name was x b h)

  -- without effect
  module _ (course : Course) (now : Option Branch) (becomes : Becomes m new (fact_tx fact) x course now)
      (stored : stored_in then_facts (fact_tx fact) ≡ stored_by course) (none : commit_of fact ≡ None)
      (own : branch_named (branches_in number then_facts left) x ≡ now) where
    pub ended_stands : StandsFor config number new then_facts (unspent_branches number then_facts branches)
    ended_stands =
        stands_then config number m new facts branches fact x stands plays name apart course now becomes.number becomes.managers
        becomes.courses becomes.begun stored becomes.spent (rows_stay config number m new facts was stands fact none becomes.rows)
        becomes.branches own

-- ---- conditions of ends

module _ (config : Config) (number : ℕ) (m new : ManagerParts) (facts : List Fact) (branches : List Branch)
    (stands : StandsFor config number m facts (unspent_branches number facts branches)) (tx : TxParts) (x : XidParts)
    (name : xid_at tx number ≡ Some x) where
  abbrev before : List Branch
  before = unspent_branches number facts branches

  -- a vote to abort plays while a transaction works
  pub refused_plays : course_in m.courses tx ≡ Course.Working
      → plays_at_manager number (stored_votes number facts) (Fact.VoteAborted tx) ≡ true
  refused_plays working = λ i. name_names tx number x name i && new_by config number m facts before stands tx Course.Working working i

  -- an abort plays while it is open
  pub aborted_plays : (c : Course) → course_in m.courses tx ≡ c
      → plays_at_manager number (stored_votes number facts) (Fact.Aborted tx) ≡ is_open_view (view_among (stored_by c))
  aborted_plays c e = λ i. name_names tx number x name i && is_open_view (view_is config number m facts before stands tx c e i)

  -- a commit plays where it is prepared
  pub committed_plays : (c : Course) → course_in m.courses tx ≡ c
      → plays_at_manager number (stored_votes number facts) (Fact.Committed tx) ≡ is_prepared_view (view_among (stored_by c))
  committed_plays c e = ap is_prepared_view (view_is config number m facts before stands tx c e)

  -- the branch that is left to a name that may be another's
  abbrev left_over : (anothers : Bool) → Option Branch
  left_over anothers = if anothers then branch_named m.table.branches x else None

  unvoted_now : course_in m.courses tx ≡ Course.Working → (keys : List Touched) → IsIn facts (Fact.VotePrepared tx keys) → ⊥
  unvoted_now working = unvoted config number m facts before stands tx Course.Working working refl

  -- of a transaction that isn't voted on, its name keeps its branch where it is spent
  kept_or_gone : (fact : Fact) → fact_tx fact ≡ tx → IsNoVote fact
      → (plays : plays_at_manager number (stored_votes number facts) fact ≡ true)
      → course_in m.courses tx ≡ Course.Working → (anothers : Bool) → is_spent_in m.spent x ≡ anothers
      → branch_named (branches_in number (facts ++ fact ∷ []) (branches_without before x)) x ≡ left_over anothers
  kept_or_gone fact own is_end plays working true spent =
      sym (branch_stays config number m new facts branches fact x stands plays (ap (λ (t : TxParts). xid_at t number) own ∙ name) is_end
      (λ keys h. unvoted_now working keys (subst (λ (t : TxParts). IsIn facts (Fact.VotePrepared t keys)) own h))
      (stands.spent_are x ∙ spent))
  kept_or_gone fact own is_end plays working false spent =
      branch_goes config number m new facts branches fact x stands plays (ap (λ (t : TxParts). xid_at t number) own ∙ name) is_end
      (stands.spent_are x ∙ spent)

  -- after a vote to abort
  pub refused_stands : course_in m.courses tx ≡ Course.Working → (anothers : Bool) → is_spent_in m.spent x ≡ anothers
      → Becomes m new tx x Course.VotedAborted (left_over anothers)
      → StandsFor config number new (facts ++ Fact.VoteAborted tx ∷ []) (unspent_branches number
      (facts ++ Fact.VoteAborted tx ∷ []) branches)
  refused_stands working anothers spent becomes =
      let is_end : IsNoVote (Fact.VoteAborted tx) = λ t keys e. absurd (cc (e)) in
      let plays = refused_plays working in
      ended_stands config number m new facts branches (Fact.VoteAborted tx) x stands plays name is_end Course.VotedAborted
      (left_over anothers) becomes (refused_then facts tx (stands.stored_are tx ∙ ap stored_by working)) refl
      (kept_or_gone (Fact.VoteAborted tx) refl is_end plays working anothers spent)

  -- after an abort of what works
  pub aborted_stands : course_in m.courses tx ≡ Course.Working → (anothers : Bool) → is_spent_in m.spent x ≡ anothers
      → Becomes m new tx x Course.AbortedUnvoted (left_over anothers)
      → StandsFor config number new (facts ++ Fact.Aborted tx ∷ []) (unspent_branches number (facts ++ Fact.Aborted tx ∷ []) branches)
  aborted_stands working anothers spent becomes =
      let is_end : IsNoVote (Fact.Aborted tx) = λ t keys e. absurd (cc (e)) in
      let plays = aborted_plays Course.Working working in
      ended_stands config number m new facts branches (Fact.Aborted tx) x stands plays name is_end Course.AbortedUnvoted
      (left_over anothers) becomes (aborted_then facts tx (stands.stored_are tx ∙ ap stored_by working)) refl
      (kept_or_gone (Fact.Aborted tx) refl is_end plays working anothers spent)

  -- after an abort of what is prepared
  pub undone_stands : course_in m.courses tx ≡ Course.Prepared → Becomes m new tx x Course.RolledBack None
      → StandsFor config number new (facts ++ Fact.Aborted tx ∷ []) (unspent_branches number (facts ++ Fact.Aborted tx ∷ []) branches)
  undone_stands prepared becomes =
      let is_end : IsNoVote (Fact.Aborted tx) = λ t keys e. absurd (cc (e)) in
      let plays = aborted_plays Course.Prepared prepared in
      let stored = undone_then facts tx (stands.stored_are tx ∙ ap stored_by prepared) in
      ended_stands config number m new facts branches
      (Fact.Aborted tx) x stands plays name is_end Course.RolledBack None becomes stored refl
      (branch_ends config number m new facts branches (Fact.Aborted tx) x stands plays name is_end
      (prepared_vote config number m facts before stands tx prepared) (ap (λ (s : Stored). is_prepared_view (view_among s)) stored))

  -- ---- a commit

  module _ (prepared : course_in m.courses tx ≡ Course.Prepared) (becomes : BecomesCommitted m new tx x) where
    abbrev fact : Fact
    fact = Fact.Committed tx

    abbrev later : List Fact
    later = facts ++ fact ∷ []

    voted : HasVote facts tx Vote.Prepared
    voted = prepared_vote config number m facts before stands tx prepared

    plays : plays_at_manager number (stored_votes number facts) fact ≡ true
    plays = committed_plays Course.Prepared prepared

    is_end : IsNoVote fact
    is_end t keys e = absurd (cc (e))

    spent_already : is_spent_in m.spent x ≡ true
    spent_already = sym (stands.spent_are x) ∙ spent_by number facts (Fact.VotePrepared tx voted.0) x voted.1 name

    spent_then : (y : XidParts) → is_spent_in new.spent y ≡ (xid_eq y x || is_spent_in m.spent y)
    spent_then y = becomes.spent y ∙ by (xid_eq y x) refl
      where
        by : (t : Bool) → xid_eq y x ≡ t → is_spent_in m.spent y ≡ (xid_eq y x || is_spent_in m.spent y)
        by true e = ap (is_spent_in m.spent) ((xid_decides y x).0 e) ∙ spent_already ∙ sym (ap (λ (t : Bool). t || is_spent_in m.spent y) e)
        by false e = sym (ap (λ (t : Bool). t || is_spent_in m.spent y) e)

    -- the branch has just the keys of the vote
    own_keys : keys_named m.table.branches x ≡ keys_voted later tx
    own_keys =
        let bound : Bound = record { tx = tx; keys = voted.0 } in
        let among = stored_bound facts bound
        (record {
          voted = voted.1;
          prepared = ap is_prepared_view
              (view_is config number m facts before stands tx Course.Prepared prepared);
        }) in
        let there = bound_in number facts before bound x among name in
        ap (λ (o : Option Branch). option_map_or (λ (b : Branch). b.keys) o [])
        (stands.branches_are x
        ∙ named_at (branches_in number facts before) (prepared_branch x voted.0) x
        (names_held_once config number facts before stands.played stands.apart) there refl)
        ∙ sym (keys_of_vote config number facts x stands.played tx voted.0 voted.1 name) ∙ sym (keys_stay facts fact tx voted)

    rows_then : new.table.rows ≡ table (first_rows config number) later
    rows_then =
        becomes.rows ∙ (λ i. with_writes (stands.rows_are i) (own_keys i))
        ∙ sym (table_more facts fact (committed_voted config number m facts before stands) (first_rows config number))

    -- after a commit
    pub committed_stands : StandsFor config number new later (unspent_branches number later branches)
    committed_stands =
        let stored = committed_then facts tx (stands.stored_are tx ∙ ap stored_by prepared) in
        stands_then config number m new facts branches fact x stands plays name
        (apart config number m new facts branches fact x stands plays name is_end) Course.Committed None becomes.number becomes.managers
        becomes.courses becomes.begun stored spent_then rows_then becomes.branches
        (branch_ends config number m new facts branches fact x stands plays name is_end voted
        (ap (λ (s : Stored). is_prepared_view (view_among s)) stored))
