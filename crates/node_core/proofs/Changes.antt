-- The change of a view that a stored fact makes.
-- Needed by Steps; crates floored, cluster and cluster_run.
use Rattle.std.proofs.Common.{◌≡◌, ◌∙◌, ℕ, ◌==◌, true, not, ◌&&◌, List, [], ◌∷◌, ◌++◌, length, Option, Some, None, refl, sym, ap, arith}
use Rattle.std.specs.Prelude.{if◌then◌else◌, slice_get, is_none}
use Rattle.resource_manager.specs.Courses.{vote_among, is_ended_among}
use Rattle.std.specs.Option.{option_and_then}
use Rattle.std.proofs.lemmas.Bool.{and_parts}
use Rattle.std.proofs.lemmas.Option.{slice_get_past}
use Rattle.xid.specs.Transactions.{TxParts, is_participant}
use Rattle.stable_record.specs.declared.fact.FactKind.{FactKind as Fact}
use Rattle.stable_record.specs.declared.fact.Touched.{Touched}
use Rattle.stable_record.specs.Facts.{fact_tx}
use Rattle.protocol.specs.declared.events.Change.{Change}
use Rattle.protocol.specs.declared.nodes.NodeId.{NodeId}
use Rattle.protocol.specs.declared.nodes.NodeId.TheVariants.{A, L, R}
use Rattle.protocol.specs.declared.states.View.{View}
use Rattle.protocol.specs.Effects.{Config}
use Rattle.protocol.specs.Facts.{view, is_prepared_view, is_open_view, bound_branches}
use Rattle.protocol.specs.Managers.{stored_votes, is_new, is_name_spent, is_some_held, plays_at_manager}
use Rattle.protocol.specs.Nodes.{Memory, plays}
use Rattle.protocol.specs.Worlds.{change_of, view_number}
use Rattle.resource_manager.specs.Courses.{Stored, stored_in, stored_by, view_among, view_of, is_new_course, course_in}
use Rattle.resource_manager.specs.declared.course.Course.{Course}
use Rattle.resource_manager.proofs.More.{voted_then, refused_then, committed_then, aborted_then, undone_then}
use Rattle.node_core.specs.declared.role.Role.{Role}
use Rattle.node_core.specs.Roles.{RoleStands}
use Rattle.node_core.specs.Storing.{change_made}

-- the fact that was added
pub last_fact : (facts : List Fact) (fact : Fact) → slice_get (facts ++ fact ∷ []) (length facts) ≡ Some fact
last_fact [] fact = refl
last_fact (first ∷ facts) fact = last_fact facts fact

-- with no fact, no view is changed
pub unchanged : (who : NodeId) (facts : List Fact) → change_of who facts facts ≡ None
unchanged (A a) facts = refl
unchanged (L l) facts = refl
unchanged (R rm) facts = rw (slice_get_past facts (length facts) (omega arith))

-- the change between two views
abbrev change_between : ℕ → TxParts → (before after : View) → Option Change
change_between rm tx before after =
    if view_number before == view_number after then None else Some (record { rm = rm; tx = tx; view = after })

abbrev change_for : ℕ → (before after : List Fact) → Fact → Option Change
change_for rm before after fact = change_between rm (fact_tx fact) (view before (fact_tx fact)) (view after (fact_tx fact))

module _ (rm : ℕ) (facts : List Fact) (fact : Fact) where
  abbrev later : List Fact
  later = facts ++ fact ∷ []

  by_views : (before after : Stored) → stored_in facts (fact_tx fact) ≡ before → stored_in later (fact_tx fact) ≡ after
      → change_of (R rm) facts later ≡ change_between rm (fact_tx fact) (view_among before) (view_among after)
  by_views before after is now =
      ap (option_and_then (change_for rm facts later)) (last_fact facts fact)
      ∙ (λ i. change_between rm (fact_tx fact) (view_among (is i)) (view_among (now i)))

module _ (rm : ℕ) (facts : List Fact) (tx : TxParts) where
  new_course : (c : Course) → stored_in facts tx ≡ stored_by c → is_new (stored_votes rm facts) tx ≡ true → is_new_course c ≡ true
  new_course c is h = sym (ap (λ (s : Stored). is_none (vote_among s) && not (is_ended_among s)) is) ∙ h

  vote_changes : (keys : List Touched) (c : Course) → stored_in facts tx ≡ stored_by c → is_new_course c ≡ true
      → change_of (R rm) facts (facts ++ Fact.VotePrepared tx keys ∷ []) ≡ change_made (R rm) (Fact.VotePrepared tx keys)
  vote_changes keys Course.Working is h = by_views rm facts (Fact.VotePrepared tx keys) _ _ is (voted_then facts tx keys is)
  vote_changes keys Course.Prepared is h = absurd (cc (h))
  vote_changes keys Course.VotedAborted is h = absurd (cc (h))
  vote_changes keys Course.Committed is h = absurd (cc (h))
  vote_changes keys Course.RolledBack is h = absurd (cc (h))
  vote_changes keys Course.AbortedUnvoted is h = absurd (cc (h))

  refusal_changes : (c : Course) → stored_in facts tx ≡ stored_by c → is_new_course c ≡ true
      → change_of (R rm) facts (facts ++ Fact.VoteAborted tx ∷ []) ≡ change_made (R rm) (Fact.VoteAborted tx)
  refusal_changes Course.Working is h = by_views rm facts (Fact.VoteAborted tx) _ _ is (refused_then facts tx is)
  refusal_changes Course.Prepared is h = absurd (cc (h))
  refusal_changes Course.VotedAborted is h = absurd (cc (h))
  refusal_changes Course.Committed is h = absurd (cc (h))
  refusal_changes Course.RolledBack is h = absurd (cc (h))
  refusal_changes Course.AbortedUnvoted is h = absurd (cc (h))

  commit_changes : (c : Course) → stored_in facts tx ≡ stored_by c → is_prepared_view (view_of c) ≡ true
      → change_of (R rm) facts (facts ++ Fact.Committed tx ∷ []) ≡ change_made (R rm) (Fact.Committed tx)
  commit_changes Course.Prepared is h = by_views rm facts (Fact.Committed tx) _ _ is (committed_then facts tx is)
  commit_changes Course.Working is h = absurd (cc (h))
  commit_changes Course.VotedAborted is h = absurd (cc (h))
  commit_changes Course.Committed is h = absurd (cc (h))
  commit_changes Course.RolledBack is h = absurd (cc (h))
  commit_changes Course.AbortedUnvoted is h = absurd (cc (h))

  abort_changes : (c : Course) → stored_in facts tx ≡ stored_by c → is_open_view (view_of c) ≡ true
      → change_of (R rm) facts (facts ++ Fact.Aborted tx ∷ []) ≡ change_made (R rm) (Fact.Aborted tx)
  abort_changes Course.Working is h = by_views rm facts (Fact.Aborted tx) _ _ is (aborted_then facts tx is)
  abort_changes Course.Prepared is h = by_views rm facts (Fact.Aborted tx) _ _ is (undone_then facts tx is)
  abort_changes Course.VotedAborted is h = absurd (cc (h))
  abort_changes Course.Committed is h = absurd (cc (h))
  abort_changes Course.RolledBack is h = absurd (cc (h))
  abort_changes Course.AbortedUnvoted is h = absurd (cc (h))

-- at a resource manager
fact_changes : (rm : ℕ) (facts : List Fact) (fact : Fact) (c : Course) → stored_in facts (fact_tx fact) ≡ stored_by c
    → plays_at_manager rm (stored_votes rm facts) fact ≡ true → change_of (R rm) facts (facts ++ fact ∷ []) ≡ change_made (R rm) fact
fact_changes rm facts (Fact.VotePrepared tx keys) c is h =
    let most = and_parts (is_participant tx rm && is_new (stored_votes rm facts) tx && not (is_name_spent rm (stored_votes rm facts) tx))
    (not (is_some_held (bound_branches facts) keys)) h in
    let some =
    and_parts (is_participant tx rm && is_new (stored_votes rm facts) tx) (not (is_name_spent rm (stored_votes rm facts) tx)) most.0 in
    let new = and_parts (is_participant tx rm) (is_new (stored_votes rm facts) tx) some.0 in
    vote_changes rm facts tx keys c is (new_course rm facts tx c is new.1)
fact_changes rm facts (Fact.VoteAborted tx) c is h =
    let new = and_parts (is_participant tx rm) (is_new (stored_votes rm facts) tx) h in
    refusal_changes rm facts tx c is (new_course rm facts tx c is new.1)
fact_changes rm facts (Fact.Committed tx) c is h =
    commit_changes rm facts tx c is (sym (ap (λ (s : Stored). is_prepared_view (view_among s)) is) ∙ h)
fact_changes rm facts (Fact.Aborted tx) c is h =
    let parts = and_parts (is_participant tx rm) (is_open_view (view facts tx)) h in
    abort_changes rm facts tx c is (sym (ap (λ (s : Stored). is_open_view (view_among s)) is) ∙ parts.1)
fact_changes rm facts other c is h = absurd (cc (h))

-- a stored fact that plays changes the view as it says
pub changes_made : (config : Config) (who : NodeId) (role : Role) (facts : List Fact) (memory : Memory) (fact : Fact)
    → RoleStands config who role facts memory → plays config who facts fact ≡ true
    → change_of who facts (facts ++ fact ∷ []) ≡ change_made who fact
changes_made config (A a) role facts memory fact s fits = refl
changes_made config (L l) role facts memory fact s fits = refl
changes_made config (R rm) (Role.Manager p) facts memory fact s fits =
    fact_changes rm facts fact (course_in p.courses (fact_tx fact)) (s.stored_are (fact_tx fact)) fits
changes_made config (R rm) (Role.Acceptor p) facts memory fact s fits = absurd s
changes_made config (R rm) (Role.Leader p) facts memory fact s fits = absurd s
