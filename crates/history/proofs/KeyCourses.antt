-- What becomes of a key that a branch has read: until its transaction has ended there, no other that writes the key commits.
-- Needed by SerialReads.
use Rattle.std.proofs.Common.{◌≡◌, ◌≢◌, ◌⊎◌, inl, inr, ◌∙◌, ℕ, Bool, true, false, if◌then◌else◌, List, [], ◌∷◌, ◌++◌, Option, Some, None}
use Rattle.std.proofs.Common.{refl, sym, ap, subst}
use Rattle.std.specs.List.{list_any, cons_option}
use Rattle.std.specs.Str.{bytes_eq}
use Rattle.std.proofs.lemmas.Bool.{both_ways, false_from_ne_true, or_right}
use Rattle.std.proofs.lemmas.List.Elements.{filter_map-append}
use Rattle.xid.specs.Names.{XidParts, xid_eq}
use Rattle.xid.specs.Transactions.{TxParts, xid_at}
use Rattle.xid.specs.declared.transaction.Vote.TheVariants as votes
use Rattle.xid.proofs.Deciding.{xid_decides, tx_decides, tx_self}
use Rattle.stable_record.specs.Facts.{fact_tx}
use Rattle.stable_record.specs.declared.fact.FactKind.TheVariants as stored
use Rattle.protocol.specs.Basics.{Fact, Touched}
use Rattle.protocol.specs.declared.states.View.TheVariants as views
use Rattle.safety.specs.Vocabulary.{View, Action, Start, Put, Del, Get, End, EndFail, Rollback, Step}
use Rattle.protocol.specs.Branches.{BranchView, is_write, is_done, key_of}
use Rattle.protocol.specs.Effects.{Config}
use Rattle.protocol.specs.Facts.{Bound, is_prepared_view, is_open_view, is_vote_of, view}
use Rattle.protocol.specs.Managers.{Branch, act_on, has_key, view_named}
use Rattle.protocol.specs.Nodes.{NodeState, Input}
use Rattle.protocol.specs.Tables.{commit_of}
use Rattle.safety.proofs.World.Changes.{view_other}
use Rattle.branch_table.proofs.Views.{view_of}
use Rattle.protocol.specs.Holds.{IsIn}
use Rattle.safety.specs.Laws.{IsViewOf}
use Rattle.safety.specs.Standing.{HasVote}
use Rattle.protocol.proofs.Lists.{IsIn-push, IsIn-before, IsIn-after}
use Rattle.protocol.proofs.Manager.Apart.{stored_bound, idle_branch, name_of}
use Rattle.protocol.proofs.Manager.Effects.{IsManagerFact}
use Rattle.protocol.proofs.Manager.Prepared.{bound_apart}
use Rattle.protocol.proofs.Manager.Views.{view_is}
use Rattle.history.specs.Calls.{is_restart}
use Rattle.history.specs.Lines.{change_stored}
use Rattle.history.specs.LookingBack.{is_name_at, is_rollback, touched_keys, branch_by, done_at, actions_since}
use Rattle.history.proofs.Changes.{changes_view, is_new_by, new_is_working}
use Rattle.history.proofs.Conflicts.{commits_in, commit_stored, stored_commit, open_before}
use Rattle.protocol.proofs.DoneCalls.{IsReadyFor}
use Rattle.history.proofs.HeldOnce.{listed_or_none}
use Rattle.history.proofs.Moves.{branches_of, IsMove, Quiet, Restarted, Called, Stored, IsCalled, IsStored}
use Rattle.history.proofs.Orders.{IsFirst, first_alone, first_more}
use Rattle.history.proofs.Stretches.{since_restart, since_silent, since_call, since_change}
use Rattle.history.proofs.Told.{IsSound, IsTold, no_restart, does_by, leaves, own_shows}

-- ---- facts

-- a rule stores a fact of a transaction that is working or prepared
opens_before : (rm : ℕ) (facts : List Fact) (branches : List Branch) (input : Input) (fact : Fact)
    → IsManagerFact rm facts branches input fact → is_open_view (view facts (fact_tx fact)) ≡ true
opens_before rm facts branches input (stored.VotePrepared tx keys) rule =
    ap is_open_view (new_is_working facts tx (is_new_by facts tx rule.1.first.new rule.1.first.unended))
opens_before rm facts branches input (stored.VoteAborted tx) rule =
    ap is_open_view (new_is_working facts tx (is_new_by facts tx rule.1.new rule.1.unended))
opens_before rm facts branches input (stored.Committed tx) rule = prepared_open (view facts tx) rule.prepared
  where
    prepared_open : (v : View) → is_prepared_view v ≡ true → is_open_view v ≡ true
    prepared_open views.Prepared e = refl
    prepared_open other e = absurd (cc (e))
opens_before rm facts branches input (stored.Aborted tx) rule = rule.1.opens
opens_before rm facts branches input fact rule = absurd rule

vote_is : (tx : TxParts) (fact : Fact) → is_vote_of tx votes.Prepared fact ≡ true
    → (keys : List Touched) × (fact ≡ stored.VotePrepared tx keys)
vote_is tx (stored.VotePrepared other keys) e = (keys, ap (λ (t : TxParts). stored.VotePrepared t keys) (sym ((tx_decides tx other).0 e)))
vote_is tx fact e = absurd (cc (e))

any_cons : (p : List ℕ → Bool) (o : Option (List ℕ)) (keys : List (List ℕ)) → list_any p keys ≡ true
    → list_any p (cons_option o keys) ≡ true
any_cons p None keys e = e
any_cons p (Some key) keys e = or_right (p key) (list_any p keys) e

-- ---- the course

module _ (rm : ℕ) (x : XidParts) (tx : TxParts) (name : xid_at tx rm ≡ Some x) (key : List ℕ) (early : List TxParts) where
  -- another that writes the key, and that is committed here with this one not before it, was committed early
  abbrev pub AreEarly : List Fact → Type 0
  AreEarly facts = (other : TxParts) (keys : List Touched) → tx ≢ other → IsIn facts (stored.VotePrepared other keys)
      → is_write (act_on keys key) ≡ true → IsIn (commits_in facts) other → (IsFirst tx other (commits_in facts) → ⊥) → IsIn early other

  -- the branch holds the key and its transaction isn't voted on
  pub record IsAlive (facts : List Fact) (before : List Step) : Type 0 where
    pub unvoted : ¬ HasVote facts tx votes.Prepared
    pub touched : (branch_by (actions_since rm x before)).touched key ≡ true
    pub others : AreEarly facts

  -- its transaction was voted on with the key, and isn't aborted
  pub record IsVoted (facts : List Fact) : Type 0 where
    pub keys : List Touched
    pub stands : IsIn facts (stored.VotePrepared tx keys)
    pub has : has_key key keys ≡ true
    pub unaborted : view facts tx ≢ views.Aborted
    pub others : AreEarly facts

  -- nothing is left in the branch, and the transaction isn't voted on
  pub record IsGone (facts : List Fact) (before : List Step) : Type 0 where
    pub unvoted : ¬ HasVote facts tx votes.Prepared
    pub actions : actions_since rm x before ≡ []

  pub data IsCourse (facts : List Fact) (before : List Step) : Type 0 where
    Alive : IsAlive facts before → IsCourse facts before
    Voted : IsVoted facts → IsCourse facts before
    Gone : IsGone facts before → IsCourse facts before
    Aborted : view facts tx ≡ views.Aborted → IsCourse facts before

  module _ (config : Config) (old new : NodeState) (step : Step) (before : List Step) (sound : IsSound config rm old)
      (told : IsTold rm old before) (shows : (t : TxParts) → IsIn (commits_in old.facts) t → view old.facts t ≡ views.Committed)
      (unstarted : done_at rm x step ≢ Some Start) where
    abbrev Now : Type 0
    Now = IsCourse new.facts (step ∷ before)

    -- where no fact is stored
    module _ (facts : new.facts ≡ old.facts) where
      still_unvoted : ¬ HasVote old.facts tx votes.Prepared → ¬ HasVote new.facts tx votes.Prepared
      still_unvoted none h = none (subst (λ (fs : List Fact). HasVote fs tx votes.Prepared) facts h)

      still_early : AreEarly old.facts → AreEarly new.facts
      still_early are = subst AreEarly (sym facts) are

      same_voted : IsVoted old.facts → Now
      same_voted is = Voted (subst IsVoted (sym facts) is)

      same_aborted : view old.facts tx ≡ views.Aborted → Now
      same_aborted e = Aborted (subst (λ (fs : List Fact). view fs tx ≡ views.Aborted) (sym facts) e)

      same_alive : IsAlive old.facts before → actions_since rm x (step ∷ before) ≡ actions_since rm x before → Now
      same_alive is same = Alive (record {
        unvoted = still_unvoted is.unvoted;
        touched = ap (λ (actions : List Action). (branch_by actions).touched key) same ∙ is.touched;
        others = still_early is.others;
      })

      now_gone : ¬ HasVote old.facts tx votes.Prepared → actions_since rm x (step ∷ before) ≡ [] → Now
      now_gone none nothing = Gone (record { unvoted = still_unvoted none; actions = nothing })

    -- a call
    module _ (is : IsCalled config rm old new step.event step.answer step.now) where
      abbrev action : Action
      action = is.action

      restart : is_restart rm step.event step.answer ≡ false
      restart = no_restart config rm old new step before told sound is

      silent : done_at rm x step ≡ None → actions_since rm x (step ∷ before) ≡ actions_since rm x before
      silent none = since_silent rm step before x restart is.change none

      called : done_at rm x step ≡ Some action
          → actions_since rm x (step ∷ before) ≡ (if is_rollback action then [] else action ∷ actions_since rm x before)
      called does = since_call rm step before x action restart is.change does

      called_alive : IsAlive old.facts before → Now
      called_alive alive = by_done (is_done action step.answer) (xid_eq is.xid x) refl refl
        where
          by_done : (done own : Bool) → is_done action step.answer ≡ done → xid_eq is.xid x ≡ own → Now
          by_done false own d o = same_alive is.facts alive (silent (does_by config rm old new step before told sound is x false own d o))
          by_done true false d o = same_alive is.facts alive (silent (does_by config rm old new step before told sound is x true false d o))
          by_done true true d o = by_rollback (is_rollback action)
              (called (does_by config rm old new step before told sound is x true true d o))
            where
              by_rollback : (r : Bool) → actions_since rm x (step ∷ before) ≡ (if r then [] else action ∷ actions_since rm x before) → Now
              by_rollback true e = now_gone is.facts alive.unvoted e
              by_rollback false e = Alive (record {
                unvoted = still_unvoted is.facts alive.unvoted;
                touched = ap (λ (actions : List Action). (branch_by actions).touched key) e
                    ∙ any_cons (λ other. bytes_eq other key) (key_of action) (touched_keys (actions_since rm x before)) alive.touched;
                others = still_early is.facts alive.others;
              })

      -- a call that is done in a branch that isn't there starts it
      called_gone : IsGone old.facts before → Now
      called_gone gone = by_done (is_done action step.answer) (xid_eq is.xid x) refl refl
        where
          nothing : done_at rm x step ≡ None → Now
          nothing none = now_gone is.facts gone.unvoted (silent none ∙ gone.actions)

          by_done : (done own : Bool) → is_done action step.answer ≡ done → xid_eq is.xid x ≡ own → Now
          by_done false own d o = nothing (does_by config rm old new step before told sound is x false own d o)
          by_done true false d o = nothing (does_by config rm old new step before told sound is x true false d o)
          by_done true true d o =
              by_action action refl (does_by config rm old new step before told sound is x true true d o)
              (ap (λ (y : XidParts). (view_named (branches_of old) y).state) ((xid_decides is.xid x).0 o)
              ∙ ap (λ (v : BranchView). v.state) (told.branches is.up x)
              ∙ ap (λ (actions : List Action). (branch_by actions).state) gone.actions)
              (leaves config rm old new step before told sound is d).0
            where
              by_action : (a : Action) → action ≡ a → done_at rm x step ≡ Some action → (view_named (branches_of old) is.xid).state ≡ None
                  → IsReadyFor action (view_named (branches_of old) is.xid).state → Now
              by_action Start e does none ready = absurd (unstarted (does ∙ ap Some e))
              by_action Rollback e does none ready = now_gone is.facts gone.unvoted
                  (called does ∙ ap (λ (a : Action). if is_rollback a then [] else a ∷ actions_since rm x before) e)
              by_action (Put k value) e does none ready =
                  let active = subst (λ (a : Action). IsReadyFor a (view_named (branches_of old) is.xid).state) e ready in
                  absurd (cc (sym none ∙ active))
              by_action (Del k) e does none ready =
                  let active = subst (λ (a : Action). IsReadyFor a (view_named (branches_of old) is.xid).state) e ready in
                  absurd (cc (sym none ∙ active))
              by_action (Get k) e does none ready =
                  let active = subst (λ (a : Action). IsReadyFor a (view_named (branches_of old) is.xid).state) e ready in
                  absurd (cc (sym none ∙ active))
              by_action End e does none ready =
                  let active = subst (λ (a : Action). IsReadyFor a (view_named (branches_of old) is.xid).state) e ready in
                  absurd (cc (sym none ∙ active))
              by_action EndFail e does none ready =
                  let active = subst (λ (a : Action). IsReadyFor a (view_named (branches_of old) is.xid).state) e ready in
                  absurd (cc (sym none ∙ active))

    -- a fact
    module _ (is : IsStored config rm old new step.event step.answer step.now) where
      abbrev fact : Fact
      fact = is.fact

      rule_of : (f : Fact) → fact ≡ f → IsManagerFact rm old.facts (branches_of old) is.input f
      rule_of f e = subst (IsManagerFact rm old.facts (branches_of old) is.input) e is.rule

      was_or_is : (f : Fact) → IsIn new.facts f → IsIn old.facts f ⊎ (fact ≡ f)
      was_or_is f h = IsIn-push old.facts fact f (subst (λ (fs : List Fact). IsIn fs f) is.facts h)

      stays_in : (f : Fact) → IsIn old.facts f → IsIn new.facts f
      stays_in f h = subst (λ (fs : List Fact). IsIn fs f) (sym is.facts) (IsIn-before old.facts (fact ∷ []) f h)

      since : actions_since rm x (step ∷ before) ≡ (if is_name_at rm x (fact_tx fact) then [] else actions_since rm x before)
      since = since_change rm step before x (change_stored rm fact) is.restart is.change (is.calls x)

      more_first : (other : TxParts) → IsFirst tx other (commits_in old.facts) → IsFirst tx other (commits_in new.facts)
      more_first other e = subst (IsFirst tx other) (sym (ap commits_in is.facts ∙ filter_map-append commit_of old.facts (fact ∷ [])))
          (first_more tx other (commits_in old.facts) (cons_option (commit_of fact) []) e)

      not_open : (t : TxParts) → IsIn (commits_in old.facts) t → fact_tx fact ≡ t → ⊥
      not_open t h e = open_before rm old.facts (branches_of old) is.input fact is.rule
          (subst (λ (u : TxParts). view old.facts u ≡ views.Committed) (sym e) (shows t h))

      -- no other that writes the key is prepared beside this one
      abbrev Excludes : Type 0
      Excludes = (other : TxParts) (keys : List Touched) → tx ≢ other → IsIn old.facts (stored.VotePrepared other keys)
          → is_write (act_on keys key) ≡ true → is_prepared_view (view old.facts other) ≡ true → ¬ IsIn (commits_in old.facts) other
          → (IsFirst tx other (commits_in new.facts) → ⊥) → ⊥

      more_early : AreEarly old.facts → Excludes → AreEarly new.facts
      more_early are excludes other keys apart v w h late = elim (was_or_is (stored.Committed other) (commit_stored new.facts other h)) [
        | inl was ↦ elim (was_or_is (stored.VotePrepared other keys) v) [
          | inl voted ↦ are other keys apart voted w (stored_commit old.facts other was) (λ e. late (more_first other e))
          | inr votes_now ↦ absurd (not_open other (stored_commit old.facts other was) (ap fact_tx votes_now))
        ]
        | inr commits_now ↦ elim (was_or_is (stored.VotePrepared other keys) v) [
          | inl voted ↦ absurd (excludes other keys apart voted w (rule_of (stored.Committed other) commits_now).prepared
              (λ among. not_open other among (ap fact_tx commits_now)) late)
          | inr votes_now ↦ absurd (cc (sym commits_now ∙ votes_now))
        ]
      ]

      alive_excludes : IsAlive old.facts before → Excludes
      alive_excludes alive other keys apart v w prepared none late = elim (listed_or_none (branches_of old) x) [
        | inl nothing ↦ absurd (cc (ap (λ (u : BranchView). u.touched key) (sym nothing ∙ told.branches is.up x), alive.touched))
        | inr one ↦
            let bound : Bound = record { tx = other; keys = keys } in
            (sound.apart.free one.branch bound one.among (stored_bound old.facts bound (record { voted = v; prepared = prepared }))).1 key w
            (ap (λ (u : BranchView). u.touched key) (sym one.shows ∙ told.branches is.up x) ∙ alive.touched)
      ]

      voted_excludes : IsVoted old.facts → Excludes
      voted_excludes voted other keys apart v w prepared none late = by_view (view old.facts tx) refl (view_is old.facts tx)
        where
          by_view : (u : View) → view old.facts tx ≡ u → IsViewOf old.facts tx u → ⊥
          by_view views.Working e stands = stands.0 votes.Prepared (voted.keys, voted.stands)
          by_view views.Aborted e stands = voted.unaborted e
          by_view views.Committed e stands =
              late (more_first other (first_alone tx other (commits_in old.facts) (stored_commit old.facts tx stands.0) none))
          by_view views.Prepared e stands =
              let bound : Bound = record { tx = other; keys = keys } in
              let own : Bound = record { tx = tx; keys = voted.keys } in
              (bound_apart config rm old.facts sound.played).apart bound own
              (stored_bound old.facts bound (record { voted = v; prepared = prepared }))
              (stored_bound old.facts own (record { voted = voted.stands; prepared = ap is_prepared_view e }))
              (λ same. apart (sym same)) key w voted.has

      -- the vote on the transaction, with the keys of its branch
      vote_keys : (keys : List Touched) → fact ≡ stored.VotePrepared tx keys
          → (b : Branch) × IsIn (branches_of old) b × (b.keys ≡ keys) × (view_of b ≡ branch_by (actions_since rm x before))
      vote_keys keys e =
          let rule = rule_of (stored.VotePrepared tx keys) e in
          let held = idle_branch (branches_of old) rule.0 keys rule.1.idle in
          let same : held.branch.xid ≡ x = held.name ∙ name_of (xid_at tx rm) rule.0 x rule.1.first.name name in (
            held.branch,
            held.among,
            held.holds,
            sym (own_shows (branches_of old) held.branch sound.apart.distinct held.among) ∙ ap (view_named (branches_of old)) same
                ∙ told.branches is.up x,
          )

      still_unvoted_by : is_vote_of tx votes.Prepared fact ≡ false → ¬ HasVote old.facts tx votes.Prepared
          → ¬ HasVote new.facts tx votes.Prepared
      still_unvoted_by other none h = elim (was_or_is (stored.VotePrepared tx h.0) h.1) [
        | inl was ↦ none (h.0, was)
        | inr e ↦ both_ways (is_vote_of tx votes.Prepared fact) other (ap (is_vote_of tx votes.Prepared) e ∙ tx_self tx)
      ]

      -- the view of the transaction of a vote is prepared
      voted_view : (keys : List Touched) → fact ≡ stored.VotePrepared tx keys → view new.facts tx ≢ views.Aborted
      voted_view keys e aborted =
          let after = (changes_view rm old.facts (branches_of old) is.input (stored.VotePrepared tx keys)
          (rule_of (stored.VotePrepared tx keys) e)).after in
          let now : view new.facts tx ≡ views.Prepared =
          ap (λ (fs : List Fact). view fs tx) (is.facts ∙ ap (λ (f : Fact). old.facts ++ f ∷ []) e) ∙ after in
          absurd (cc (sym now ∙ aborted))

      stored_alive : IsAlive old.facts before → Now
      stored_alive alive = by_vote (is_vote_of tx votes.Prepared fact) refl
        where
          by_name : (own : Bool) → actions_since rm x (step ∷ before) ≡ (if own then [] else actions_since rm x before)
              → is_vote_of tx votes.Prepared fact ≡ false → Now
          by_name true e other = Gone (record { unvoted = still_unvoted_by other alive.unvoted; actions = e })
          by_name false e other = Alive (record {
            unvoted = still_unvoted_by other alive.unvoted;
            touched = ap (λ (actions : List Action). (branch_by actions).touched key) e ∙ alive.touched;
            others = more_early alive.others (alive_excludes alive);
          })

          by_vote : (b : Bool) → is_vote_of tx votes.Prepared fact ≡ b → Now
          by_vote false e = by_name (is_name_at rm x (fact_tx fact)) since e
          by_vote true e =
              let vote = vote_is tx fact e in
              let branch = vote_keys vote.0 vote.1 in
              Voted (record {
                keys = vote.0;
                stands = subst (λ (fs : List Fact). IsIn fs (stored.VotePrepared tx vote.0)) (sym is.facts)
                    (IsIn-after old.facts (fact ∷ []) (stored.VotePrepared tx vote.0) (inl vote.1));
                has = ap (has_key key) (sym branch.2) ∙ ap (λ (u : BranchView). u.touched key) branch.3 ∙ alive.touched;
                unaborted = voted_view vote.0 vote.1;
                others = more_early alive.others (alive_excludes alive);
              })

      stored_gone : IsGone old.facts before → Now
      stored_gone gone = by_vote (is_vote_of tx votes.Prepared fact) refl
        where
          nothing : (own : Bool) → actions_since rm x (step ∷ before) ≡ (if own then [] else actions_since rm x before)
              → actions_since rm x (step ∷ before) ≡ []
          nothing true e = e
          nothing false e = e ∙ gone.actions

          by_vote : (b : Bool) → is_vote_of tx votes.Prepared fact ≡ b → Now
          by_vote false e = Gone (record {
            unvoted = still_unvoted_by e gone.unvoted;
            actions = nothing (is_name_at rm x (fact_tx fact)) since;
          })
          by_vote true e =
              let vote = vote_is tx fact e in
              let branch = vote_keys vote.0 vote.1 in
              let state : Some branch.0.state ≡ None = ap (λ (u : BranchView). u.state) branch.3
              ∙ ap (λ (actions : List Action). (branch_by actions).state) gone.actions in
              absurd (cc (state))

      stored_voted : IsVoted old.facts → Now
      stored_voted voted = by_view (view new.facts tx) refl
        where
          stays : view new.facts tx ≢ views.Aborted → Now
          stays unaborted = Voted (record {
            keys = voted.keys;
            stands = stays_in (stored.VotePrepared tx voted.keys) voted.stands;
            has = voted.has;
            unaborted = unaborted;
            others = more_early voted.others (voted_excludes voted);
          })

          by_view : (v : View) → view new.facts tx ≡ v → Now
          by_view views.Aborted e = Aborted e
          by_view views.Working e = stays (λ f. absurd (cc (sym e ∙ f)))
          by_view views.Prepared e = stays (λ f. absurd (cc (sym e ∙ f)))
          by_view views.Committed e = stays (λ f. absurd (cc (sym e ∙ f)))

      stored_aborted : view old.facts tx ≡ views.Aborted → Now
      stored_aborted e = Aborted (ap (λ (fs : List Fact). view fs tx) is.facts
          ∙ view_other old.facts fact tx (false_from_ne_true _ (λ own. closed (subst (λ (t : TxParts). view old.facts t ≡ views.Aborted)
          ((tx_decides tx (fact_tx fact)).0 own) e))) ∙ e)
        where
          closed : view old.facts (fact_tx fact) ≡ views.Aborted → ⊥
          closed is_aborted =
              absurd (cc (ap is_open_view is_aborted, opens_before rm old.facts (branches_of old) is.input fact is.rule))

    pub course_moved : IsCourse old.facts before → IsMove config rm old new step.event step.answer step.now → Now
    course_moved (Voted is) (Quiet move) = same_voted move.facts is
    course_moved (Voted is) (Restarted move) = same_voted move.facts is
    course_moved (Voted is) (Called move) = same_voted move.facts is
    course_moved (Voted is) (Stored move) = stored_voted move is
    course_moved (Aborted e) (Quiet move) = same_aborted move.facts e
    course_moved (Aborted e) (Restarted move) = same_aborted move.facts e
    course_moved (Aborted e) (Called move) = same_aborted move.facts e
    course_moved (Aborted e) (Stored move) = stored_aborted move e
    course_moved (Alive is) (Quiet move) =
        same_alive move.facts is (since_silent rm step before x move.silent.restart move.silent.change (move.silent.calls x))
    course_moved (Alive is) (Restarted move) = now_gone move.facts is.unvoted (since_restart rm step before x move.restart)
    course_moved (Alive is) (Called move) = called_alive move is
    course_moved (Alive is) (Stored move) = stored_alive move is
    course_moved (Gone is) (Quiet move) = now_gone move.facts is.unvoted
        (since_silent rm step before x move.silent.restart move.silent.change (move.silent.calls x) ∙ is.actions)
    course_moved (Gone is) (Restarted move) = now_gone move.facts is.unvoted (since_restart rm step before x move.restart)
    course_moved (Gone is) (Called move) = called_gone move is
    course_moved (Gone is) (Stored move) = stored_gone move is
