-- What a node keeps of its record plays, where the whole does.
-- Needed by crates floors, acceptor, resource_manager, forgetting and node_core.
use Rattle.std.proofs.Common.{◌≡◌, ◌∙◌, ℕ, Bool, true, false, not, ◌&&◌, if◌then◌else◌, List, [], ◌∷◌, ◌++◌, Option, refl, sym, ap, subst}
use Rattle.std.specs.Prelude.{filter, filter_map, find, is_none}
use Rattle.std.specs.List.{list_any}
use Rattle.std.proofs.lemmas.Bool.{cond_both, cond-true, cond-false, and_from, and_parts, not-true, not_from_false, false_from_ne_true}
use Rattle.std.proofs.lemmas.Bool.{both_ways}
use Rattle.xid.specs.Transactions.{TxParts, is_at, is_participant}
use Rattle.ballot.specs.Greatest.{IsIn}
use Rattle.stable_record.specs.Facts.{fact_tx}
use Rattle.stable_record.specs.declared.fact.Touched.{Touched}
use Rattle.stable_record.specs.declared.fact.FactKind.TheVariants as stored
use Rattle.protocol.specs.Basics.{Fact}
use Rattle.protocol.specs.declared.states.BranchState.{BranchState}
use Rattle.protocol.specs.Vocabulary.{NodeId, A, L, R, View}
use Rattle.protocol.specs.Acceptors.{plays_at_acceptor}
use Rattle.protocol.specs.Branches.{is_write, hinders_use}
use Rattle.protocol.specs.Effects.{Config}
use Rattle.protocol.specs.Facts.{Bound, slot, last_ballot, branch_bound_by, bound_branches, is_prepared_view, is_open_view}
use Rattle.protocol.specs.Leaders.{plays_at_leader}
use Rattle.protocol.specs.Managers.{StoredVotes, stored_votes, is_new, is_name_spent, is_some_held, plays_at_manager, view_by}
use Rattle.protocol.specs.Nodes.{plays, all_play}
use Rattle.protocol.proofs.Lists.{any_found, found_any, filter_kept, filter_keeps, filter_map_given, filter_map_gives}
use Rattle.xid.specs.Places.{Place, is_below}
use Rattle.protocol.specs.Kept.{is_kept, kept_facts}
use Rattle.protocol.proofs.Kept.Facts.{slot_kept, last_ballot_kept, vote_kept, ended_kept, view_kept, name_above, same_test, now, earlier}
use Rattle.protocol.proofs.Local.{acceptor_play, leader_play}

-- ---- one fact

module _ (config : Config) (floor : Option Place) (before : List Fact) where
  abbrev few : List Fact
  few = kept_facts floor before

  -- prepared branches by what is kept are some of those by all
  bound_among : (bound : Bound) → IsIn (bound_branches few) bound → IsIn (bound_branches before) bound
  bound_among bound h =
      let kept = filter_kept (earlier floor before) (filter_map branch_bound_by few) bound h in
      let from = filter_map_given branch_bound_by few bound kept.0 in
      let whole = filter_kept (is_kept floor) before from.source from.among in
      filter_keeps (now floor before) (filter_map branch_bound_by before) bound
      (filter_map_gives branch_bound_by before from.source bound whole.0 from.gives)
      (sym (same_test floor before from.source whole.1 bound from.gives) ∙ kept.1)

  still_free : (keys : List Touched) → is_some_held (bound_branches before) keys ≡ false → is_some_held (bound_branches few) keys ≡ false
  still_free keys free = false_from_ne_true (is_some_held (bound_branches few) keys)
      (λ held.
      let found = any_found hinders_some (bound_branches few) held in
      both_ways (is_some_held (bound_branches before) keys) free
      (found_any hinders_some (bound_branches before) found.element (bound_among found.element found.among) found.passes))
    where
      hinders_some : Bound → Bool
      hinders_some one =
          list_any (λ touched. hinders_use (is_write touched.act) touched.key (view_by BranchState.Prepared one.keys)) keys

  module _ (rm : ℕ) where
    abbrev less : StoredVotes
    less = stored_votes rm few

    abbrev full : StoredVotes
    full = stored_votes rm before

    new_kept : (tx : TxParts) → is_below floor tx ≡ false → is_new less tx ≡ is_new full tx
    new_kept tx above = λ k. is_none (vote_kept floor tx above before k) && not (ended_kept floor tx above before k)

    spent_same : (tx : TxParts) → is_below floor tx ≡ false → is_name_spent rm less tx ≡ is_name_spent rm full tx
    spent_same tx above = name_above floor before tx rm above (find (is_at rm) tx.branches)

    prepared_plays : (tx : TxParts) (keys : List Touched) → is_below floor tx ≡ false
        → plays_at_manager rm full (stored.VotePrepared tx keys) ≡ true → plays_at_manager rm less (stored.VotePrepared tx keys) ≡ true
    prepared_plays tx keys above h =
        subst (λ (b : Bool). (b && not (is_some_held (bound_branches few) keys)) ≡ true) (sym tests)
        (and_from (is_participant tx rm && is_new full tx && not (is_name_spent rm full tx)) (not (is_some_held (bound_branches few) keys))
        parts.0 (not_from_false (is_some_held (bound_branches few) keys)
        (still_free keys (not-true (is_some_held (bound_branches before) keys) parts.1))))
      where
        parts : (is_participant tx rm && is_new full tx && not (is_name_spent rm full tx) ≡ true)
            × (not (is_some_held (bound_branches before) keys) ≡ true)
        parts = and_parts (is_participant tx rm && is_new full tx && not (is_name_spent rm full tx))
            (not (is_some_held (bound_branches before) keys)) h

        tests : (is_participant tx rm && is_new less tx && not (is_name_spent rm less tx))
            ≡ (is_participant tx rm && is_new full tx && not (is_name_spent rm full tx))
        tests = λ k. is_participant tx rm && new_kept tx above k && not (spent_same tx above k)

    manager_plays : (f : Fact) → is_below floor (fact_tx f) ≡ false → plays_at_manager rm full f ≡ true → plays_at_manager rm less f ≡ true
    manager_plays (stored.VotePrepared tx keys) above h = prepared_plays tx keys above h
    manager_plays (stored.VoteAborted tx) above h = ap (λ (b : Bool). is_participant tx rm && b) (new_kept tx above) ∙ h
    manager_plays (stored.Committed tx) above h = ap is_prepared_view (view_kept floor tx above before) ∙ h
    manager_plays (stored.Aborted tx) above h =
        ap (λ (v : View). is_participant tx rm && is_open_view v) (view_kept floor tx above before) ∙ h
    manager_plays (stored.Promise tx i b) above h = absurd (cc (h))
    manager_plays (stored.Accept tx i b v) above h = absurd (cc (h))
    manager_plays (stored.PromiseAll tx b) above h = absurd (cc (h))
    manager_plays (stored.Ballot tx b) above h = absurd (cc (h))

  -- a fact that is kept plays after those that are kept before it
  plays_kept : (who : NodeId) (f : Fact) → is_below floor (fact_tx f) ≡ false → plays config who before f ≡ true
      → plays config who few f ≡ true
  plays_kept (A a) f above h =
      acceptor_play (slot few) f ∙ ap (λ s. plays_at_acceptor (λ tx. s) f) (slot_kept floor (fact_tx f) above before)
      ∙ sym (acceptor_play (slot before) f) ∙ h
  plays_kept (L l) f above h =
      leader_play config.leaders l (last_ballot few) f
      ∙ ap (λ b. plays_at_leader config.leaders l (λ tx. b) f) (last_ballot_kept floor (fact_tx f) above before)
      ∙ sym (leader_play config.leaders l (last_ballot before) f) ∙ h
  plays_kept (R rm) f above h = manager_plays rm f above h

-- ---- one after another

module _ (floor : Option Place) where
  abbrev p : Fact → Bool
  p = is_kept floor

  push_by : (x : Fact) (xs ys rest : List Fact) (t : Bool) → xs ≡ ys ++ rest
      → (if t then x ∷ xs else xs) ≡ (if t then x ∷ ys else ys) ++ rest
  push_by x xs ys rest true e = ap (λ (zs : List Fact). x ∷ zs) e
  push_by x xs ys rest false e = e

  push_kept : (xs : List Fact) (f : Fact) → p f ≡ true → kept_facts floor (xs ++ f ∷ []) ≡ kept_facts floor xs ++ f ∷ []
  push_kept [] f e = cond-true (p f) (f ∷ []) [] e
  push_kept (x ∷ xs) f e = push_by x (kept_facts floor (xs ++ f ∷ [])) (kept_facts floor xs) (f ∷ []) (p x) (push_kept xs f e)

  push_dropped : (xs : List Fact) (f : Fact) → p f ≡ false → kept_facts floor (xs ++ f ∷ []) ≡ kept_facts floor xs
  push_dropped [] f e = cond-false (p f) (f ∷ []) [] e
  push_dropped (x ∷ xs) f e = ap (λ (zs : List Fact). if p x then x ∷ zs else zs) (push_dropped xs f e)

  -- what is kept of facts plays on what is kept of those before them
  pub all_play_kept : (config : Config) (who : NodeId) (before facts : List Fact) → all_play config who before facts ≡ true
      → all_play config who (kept_facts floor before) (kept_facts floor facts) ≡ true
  all_play_kept config who before [] h = refl
  all_play_kept config who before (f ∷ fs) h =
      let parts = and_parts (plays config who before f) (all_play config who (before ++ f ∷ []) fs) h in
      let rest = all_play_kept config who (before ++ f ∷ []) fs parts.1 in
      cond_both (p f) (f ∷ filter p fs) (filter p fs) (λ (zs : List Fact). all_play config who (kept_facts floor before) zs ≡ true)
      (λ kept. and_from (plays config who (kept_facts floor before) f)
      (all_play config who (kept_facts floor before ++ f ∷ []) (kept_facts floor fs))
      (plays_kept config floor before who f (not-true (is_below floor (fact_tx f)) kept) parts.0)
      (subst (λ (xs : List Fact). all_play config who xs (kept_facts floor fs) ≡ true) (push_kept before f kept) rest))
      (λ dropped. subst (λ (xs : List Fact). all_play config who xs (kept_facts floor fs) ≡ true) (push_dropped before f dropped) rest)
