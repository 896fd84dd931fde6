-- What a manager has is what its history tells, one event after another.
-- Needed by 10 files here; crates cluster and audit.
use Rattle.std.proofs.Common.{◌≡◌, ◌≢◌, ◌⊎◌, inl, inr, ◌∙◌, ℕ, Bool, true, false, ◌&&◌, ◌||◌, if◌then◌else◌, eq-eqb, List}
use Rattle.std.proofs.Common.{[], ◌∷◌, ◌++◌, Option, Some, None, unwrap_or, refl, sym, ap, subst}
use Rattle.std.specs.Prelude.{filter_map, find}
use Rattle.std.specs.List.{list_any, cons_option}
use Rattle.std.specs.Option.{option_map_or}
use Rattle.std.proofs.lemmas.Bool.{cond_both, and_right, both_ways, cond-true}
use Rattle.std.proofs.lemmas.List.Folds.{list_any-append}
use Rattle.std.proofs.lemmas.List.Elements.{filter_map-append}
use Rattle.xid.specs.Names.{XidParts, xid_eq}
use Rattle.xid.specs.Transactions.{TxParts, tx_eq, xid_at}
use Rattle.xid.specs.declared.transaction.Vote.TheVariants as votes
use Rattle.xid.proofs.Deciding.{xid_decides, xid_self, tx_decides, tx_self}
use Rattle.stable_record.specs.Facts.{fact_tx}
use Rattle.stable_record.specs.declared.fact.FactKind.TheVariants as stored
use Rattle.protocol.specs.Basics.{Fact, Touched}
use Rattle.protocol.specs.declared.states.BranchState.TheVariants.{Prepared}
use Rattle.protocol.specs.declared.states.View.TheVariants as views
use Rattle.safety.specs.Vocabulary.{Change, R, Event, Action, Step, Rollback, Row}
use Rattle.protocol.specs.Branches.{BranchView, no_branch, is_done}
use Rattle.protocol.specs.Effects.{Config}
use Rattle.protocol.specs.Facts.{view, is_spent, is_prepared_view}
use Rattle.protocol.specs.Managers.{Branch, view_by, view_named, branches_without, on_call, stored_votes}
use Rattle.protocol.specs.Nodes.{NodeState, new_node, all_play, first_rows}
use Rattle.protocol.specs.Tables.{table}
use Rattle.protocol.specs.Worlds.{World, node_at, step_of, world_step}
use Rattle.safety.proofs.World.Changes.{view_other, or_none}
use Rattle.branch_table.specs.OneCall.{view_in_state, view_after_done}
use Rattle.branch_table.proofs.Views.{view_of}
use Rattle.protocol.specs.Holds.{AreInOrder, AreNamedOnce, IsIn, names_of, AreApart}
use Rattle.safety.specs.Standing.{HasVote}
use Rattle.protocol.proofs.Lists.{IsIn-push, IsIn-map, all_each}
use Rattle.protocol.proofs.Manager.Apart.{none_apart, idle_branch, name_of}
use Rattle.protocol.proofs.Manager.Effects.{IsManagerFact}
use Rattle.protocol.proofs.Manager.Keys.{names_name, spent_by}
use Rattle.protocol.proofs.Manager.Played.{voted_named}
use Rattle.protocol.proofs.Manager.Views.{prepared_shows, unvoted}
use Rattle.safety.proofs.World.Events.{safe_ever}
use Rattle.safety.proofs.World.SafeSteps.{IsSafe}
use Rattle.history.specs.Lines.{change_at, changes_at, change_stored, view_stored, view_back, is_spent_back}
use Rattle.history.specs.Calls.{call_done, is_restart}
use Rattle.history.specs.LookingBack.{is_rollback, branch_by, done_at, actions_since, is_vote_at, before_vote}
use Rattle.history.proofs.Changes.{IsViewChange, changes_view}
use Rattle.history.proofs.Moves.{manager_in, branches_of, left_by, IsQuiet, IsRestarted, IsCalled, IsStored, IsMove, Quiet, Restarted}
use Rattle.history.proofs.Moves.{Called, Stored, event_moved}
use Rattle.history.proofs.Runs.{IsRun, AtFirst, Then, reached, facts_in, new_manager}
use Rattle.history.proofs.Actions.{equal_views, plain_at, done_shows}
use Rattle.protocol.proofs.DoneCalls.{IsReadyFor}
use Rattle.history.proofs.CallsLeave.{IsLeft, call_leaves, undone_leaves, gone_own, gone_other}
use Rattle.history.proofs.Stretches.{since_restart, since_silent, since_call, since_change, changes_silent, changes_said, before_other}
use Rattle.history.proofs.Stretches.{before_own}

-- ---- a manager in a safe world

-- its facts have played, and its branches are apart
pub record IsSound (config : Config) (rm : ℕ) (node : NodeState) : Type 0 where
  pub played : all_play config (R rm) [] node.facts ≡ true
  pub apart : AreApart rm node.facts (branches_of node)

apart_by : (rm : ℕ) (o : Option NodeState) → ((node : NodeState) → o ≡ Some node → AreApart rm node.facts (branches_of node))
    → AreApart rm (unwrap_or o new_node).facts (branches_of (unwrap_or o new_node))
apart_by rm None each = none_apart rm []
apart_by rm (Some node) each = each node refl

sound_in : (config : Config) (world : World) (rm : ℕ) → IsSafe config world → IsSound config rm (manager_in config world rm)
sound_in config world rm safe = record {
  played = subst (λ (facts : List Fact). all_play config (R rm) [] facts ≡ true) (facts_in config world rm) (safe.played (R rm));
  apart = apart_by rm (node_at config world (R rm)) (safe.apart rm);
}

pub sound : (config : Config) (world : World) (before : List Step) (rm : ℕ) → IsRun config world before
    → IsSound config rm (manager_in config world rm)
sound config world before rm run = sound_in config world rm (safe_ever config world (reached config world before run))

-- ---- what is told

pub record IsTold (rm : ℕ) (node : NodeState) (before : List Step) : Type 0 where
  pub views : (tx : TxParts) → view node.facts tx ≡ view_back rm before tx
  pub spent : (x : XidParts) → is_spent rm node.facts x ≡ is_spent_back rm before x
  pub branches : node.up ≡ true → (x : XidParts) → view_named (branches_of node) x ≡ branch_by (actions_since rm x before)
  pub voted : (tx : TxParts) (keys : List Touched) (x : XidParts) → IsIn node.facts (stored.VotePrepared tx keys) → xid_at tx rm ≡ Some x
      → view_by Prepared keys ≡ view_in_state (branch_by (actions_since rm x (before_vote rm tx before))) Prepared

told_at_first : (rm : ℕ) → IsTold rm new_node []
told_at_first rm = record {
  views = λ tx. refl;
  spent = λ x. refl;
  branches = λ up x. refl;
  voted = λ tx keys x h. absurd h;
}

-- ---- a step that stores nothing

module _ (rm : ℕ) (old new : NodeState) (step : Step) (before : List Step) (told : IsTold rm old before)
    (change : change_at rm step ≡ None) (facts : new.facts ≡ old.facts) where
  views_stay : (tx : TxParts) → view new.facts tx ≡ view_back rm (step ∷ before) tx
  views_stay tx =
      ap (λ (fs : List Fact). view fs tx) facts ∙ told.views tx
      ∙ sym (ap (λ (cs : List Change). option_map_or (λ c. c.view) (find (λ c. tx_eq tx c.tx) cs) views.Working)
      (changes_silent rm step before change))

  spent_stay : (x : XidParts) → is_spent rm new.facts x ≡ is_spent_back rm (step ∷ before) x
  spent_stay x =
      ap (λ (fs : List Fact). is_spent rm fs x) facts ∙ told.spent x
      ∙ sym (ap (λ (cs : List Change). list_any (xid_eq x) (filter_map (λ c. xid_at c.tx rm) cs)) (changes_silent rm step before change))

  no_vote : (tx : TxParts) → is_vote_at rm tx step ≡ false
  no_vote tx = ap (λ (o : Option Change). option_map_or (λ c. tx_eq tx c.tx && is_prepared_view c.view) o false) change

  voted_stay : (tx : TxParts) (keys : List Touched) (x : XidParts) → IsIn new.facts (stored.VotePrepared tx keys) → xid_at tx rm ≡ Some x
      → view_by Prepared keys ≡ view_in_state (branch_by (actions_since rm x (before_vote rm tx (step ∷ before)))) Prepared
  voted_stay tx keys x h name =
      told.voted tx keys x (subst (λ (fs : List Fact). IsIn fs (stored.VotePrepared tx keys)) facts h) name
      ∙ sym (ap (λ (hs : List Step). view_in_state (branch_by (actions_since rm x hs)) Prepared) (before_other rm step before tx
      (no_vote tx)))

  stays : (new.up ≡ true → (x : XidParts) → view_named (branches_of new) x ≡ branch_by (actions_since rm x (step ∷ before)))
      → IsTold rm new (step ∷ before)
  stays branches = record { views = views_stay; spent = spent_stay; branches = branches; voted = voted_stay }

-- ---- quiet steps, restarts and calls

pub told_quiet : (rm : ℕ) (old new : NodeState) (step : Step) (before : List Step) → IsTold rm old before
    → IsQuiet rm old new step.event step.answer step.now → IsTold rm new (step ∷ before)
told_quiet rm old new step before told is =
    stays rm old new step before told is.silent.change is.facts
    (λ up x. ap (λ (bs : List Branch). view_named bs x) (is.kept up).1 ∙ told.branches (is.kept up).0 x
    ∙ sym (ap branch_by (since_silent rm step before x is.silent.restart is.silent.change (is.silent.calls x))))

pub told_restarted : (rm : ℕ) (old new : NodeState) (step : Step) (before : List Step) → IsTold rm old before
    → IsRestarted rm old new step.event step.answer step.now → IsTold rm new (step ∷ before)
told_restarted rm old new step before told is =
    stays rm old new step before told is.change is.facts
    (λ up x. ap (λ (bs : List Branch). view_named bs x) is.left ∙ sym (ap branch_by (since_restart rm step before x is.restart)))

rolled_back : (action : Action) (v : BranchView) → is_rollback action ≡ true → view_after_done v action ≡ no_branch
rolled_back Rollback v r = refl
rolled_back action v r = absurd (cc (r))

module _ (config : Config) (rm : ℕ) (old new : NodeState) (step : Step) (before : List Step) (told : IsTold rm old before)
    (sound : IsSound config rm old) (is : IsCalled config rm old new step.event step.answer step.now) where
  abbrev action : Action
  action = is.action

  abbrev rows : List Row
  rows = first_rows config rm

  pub no_restart : is_restart rm step.event step.answer ≡ false
  no_restart = ap (λ (event : Event). is_restart rm event step.answer) is.is

  -- the call, by whether it was done, and whether it is in this branch
  pub does_by : (y : XidParts) (done own : Bool) → is_done action step.answer ≡ done → xid_eq is.xid y ≡ own
      → done_at rm y step ≡ (if done then if own then Some action else None else None)
  does_by y done own d o =
      ap (λ (event : Event). call_done rm y event step.answer) is.is
      ∙ (λ i. if d i then if (eq-eqb rm rm refl i) && o i then Some action else None else None)

  in_order : AreInOrder (branches_of old)
  in_order = all_each _ (branches_of old) sound.apart.ordered

  answer_done : (done : Bool) → is_done action step.answer ≡ done
      → is_done action (on_call rm (stored_votes rm old.facts) (table rows old.facts) (branches_of old) is.xid action).answer ≡ done
  answer_done done d = ap (is_done action) (sym is.answered) ∙ d

  pub undone_shows : (y : XidParts) → is_done action step.answer ≡ false
      → view_named (branches_of new) y ≡ branch_by (actions_since rm y (step ∷ before))
  undone_shows y d =
      ap (λ (bs : List Branch). view_named bs y)
      (is.left ∙ undone_leaves rm old.facts rows (branches_of old) is.xid action (answer_done false d))
      ∙ told.branches is.up y
      ∙ sym (ap branch_by (since_silent rm step before y no_restart is.change (does_by y false (xid_eq is.xid y) d refl)))

  module _ (d : is_done action step.answer ≡ true) where
    abbrev x : XidParts
    x = is.xid

    abbrev actions : List Action
    actions = actions_since rm x before

    pub leaves : IsReadyFor action (view_named (branches_of old) x).state
        × IsLeft x action (branches_of old) (on_call rm (stored_votes rm old.facts) (table rows old.facts)
        (branches_of old) x action).memory
    leaves = call_leaves rm old.facts rows (branches_of old) x action in_order (answer_done true d)

    other_shows : (y : XidParts) → xid_eq x y ≡ false → view_named (branches_of new) y ≡ branch_by (actions_since rm y (step ∷ before))
    other_shows y o =
        ap (λ (bs : List Branch). view_named bs y) is.left
        ∙ (leaves.1).others y (λ e. both_ways (xid_eq x y) o ((xid_decides x y).1 (sym e)))
        ∙ told.branches is.up y
        ∙ sym (ap branch_by (since_silent rm step before y no_restart is.change (does_by y true false d o)))

    own_after : (rollback : Bool) → is_rollback action ≡ rollback
        → view_after_done (view_named (branches_of old) x) action ≡ branch_by (if rollback then [] else action ∷ actions)
    own_after true r = rolled_back action (view_named (branches_of old) x) r
    own_after false r =
        let shows = told.branches is.up x in
        ap (λ (v : BranchView). view_after_done v action) shows
        ∙ equal_views _ _ (done_shows actions action
        (subst (λ (v : BranchView). v.state ≡ None → v ≡ no_branch) shows (plain_at (branches_of old) x))
        (subst (λ (v : BranchView). IsReadyFor action v.state) shows leaves.0) r)

    own_shows_so : view_named (branches_of new) x ≡ branch_by (actions_since rm x (step ∷ before))
    own_shows_so =
        ap (λ (bs : List Branch). view_named bs x) is.left ∙ equal_views _ _ (leaves.1).own
        ∙ own_after (is_rollback action) refl
        ∙ sym (ap branch_by (since_call rm step before x action no_restart is.change (does_by x true true d (xid_self x))))

    done_shows_so : (y : XidParts) (own : Bool) → xid_eq x y ≡ own
        → view_named (branches_of new) y ≡ branch_by (actions_since rm y (step ∷ before))
    done_shows_so y true o =
        subst (λ (z : XidParts). view_named (branches_of new) z ≡ branch_by (actions_since rm z (step ∷ before)))
        ((xid_decides x y).0 o) own_shows_so
    done_shows_so y false o = other_shows y o

  called_shows : (y : XidParts) (done : Bool) → is_done action step.answer ≡ done
      → view_named (branches_of new) y ≡ branch_by (actions_since rm y (step ∷ before))
  called_shows y false d = undone_shows y d
  called_shows y true d = done_shows_so d y (xid_eq is.xid y) refl

  pub told_called : IsTold rm new (step ∷ before)
  told_called = stays rm old new step before told is.change is.facts (λ up y. called_shows y (is_done action step.answer) refl)

-- ---- a fact is stored

-- a branch shows at its name, as no other has it
pub own_shows : (bs : List Branch) (b : Branch) → AreNamedOnce bs → IsIn bs b → view_named bs b.xid ≡ view_of b
own_shows [] b once there = absurd there
own_shows (c ∷ bs) b once (inl e) =
    ap (λ (d : Branch). view_named (c ∷ bs) d.xid) (sym e)
    ∙ cond-true (xid_eq c.xid c.xid) (view_of c) (view_named bs c.xid) (xid_self c.xid) ∙ ap view_of e
own_shows (c ∷ bs) b once (inr there) =
    cond_both (xid_eq c.xid b.xid) (view_of c) (view_named bs b.xid) (λ (u : BranchView). u ≡ view_of b)
    (λ same. absurd (once.0 (subst (IsIn (names_of bs)) (sym ((xid_decides c.xid b.xid).0 same))
    (IsIn-map (λ (d : Branch). d.xid) bs b there))))
    (λ other. own_shows bs b once.1 there)

-- a name that none has shows no branch
pub none_shows : (bs : List Branch) (x : XidParts) → ((b : Branch) → IsIn bs b → b.xid ≢ x) → view_named bs x ≡ no_branch
none_shows [] x none = refl
none_shows (b ∷ bs) x none =
    cond_both (xid_eq b.xid x) (view_of b) (view_named bs x) (λ (v : BranchView). v ≡ no_branch)
    (λ own. absurd (none b (inl refl) ((xid_decides b.xid x).0 own))) (λ other. none_shows bs x (λ c h. none c (inr h)))

bool_cases : (b : Bool) → (b ≡ true) ⊎ (b ≡ false)
bool_cases true = inl refl
bool_cases false = inr refl

module _ (config : Config) (rm : ℕ) (old new : NodeState) (step : Step) (before : List Step) (told : IsTold rm old before)
    (sound : IsSound config rm old) (is : IsStored config rm old new step.event step.answer step.now) where
  abbrev fact : Fact
  fact = is.fact

  abbrev tx : TxParts
  tx = fact_tx fact

  abbrev changed : IsViewChange old.facts fact
  changed = changes_view rm old.facts (branches_of old) is.input fact is.rule

  -- the views
  views_by : (other : TxParts) (own : Bool) → tx_eq other tx ≡ own
      → view (old.facts ++ fact ∷ []) other ≡ option_map_or (λ (c : Change). c.view)
      (if own then Some (change_stored rm fact) else find (λ c. tx_eq other c.tx) (changes_at rm before)) views.Working
  views_by other true e =
      subst (λ (t : TxParts). view (old.facts ++ fact ∷ []) t ≡ view_stored fact) (sym ((tx_decides other tx).0 e)) changed.after
  views_by other false e = view_other old.facts fact other e ∙ told.views other

  views_then : (other : TxParts) → view new.facts other ≡ view_back rm (step ∷ before) other
  views_then other =
      ap (λ (fs : List Fact). view fs other) is.facts ∙ views_by other (tx_eq other tx) refl
      ∙ sym (ap (λ (cs : List Change). option_map_or (λ c. c.view) (find (λ c. tx_eq other c.tx) cs) views.Working)
      (changes_said rm step before (change_stored rm fact) is.change))

  -- spent names
  spent_by_name : (x : XidParts) (o : Option XidParts) (rest : List XidParts) (was : Bool) → was ≡ list_any (xid_eq x) rest
      → (was || list_any (xid_eq x) (cons_option o [])) ≡ list_any (xid_eq x) (cons_option o rest)
  spent_by_name x None rest was e = or_none was ∙ e
  spent_by_name x (Some y) rest was e = ap (λ (b : Bool). was || b) (or_none (xid_eq x y)) ∙ turned was (xid_eq x y)
      ∙ ap (λ (b : Bool). xid_eq x y || b) e
    where
      turned : (a b : Bool) → (a || b) ≡ (b || a)
      turned true true = refl
      turned true false = refl
      turned false true = refl
      turned false false = refl

  spent_then : (x : XidParts) → is_spent rm new.facts x ≡ is_spent_back rm (step ∷ before) x
  spent_then x =
      let at = λ (f : Fact). xid_at (fact_tx f) rm in
      ap (λ (fs : List Fact). is_spent rm fs x) is.facts
      ∙ ap (list_any (xid_eq x)) (filter_map-append at old.facts (fact ∷ []))
      ∙ list_any-append (xid_eq x) (filter_map at old.facts) (cons_option (at fact) [])
      ∙ spent_by_name x (at fact) (filter_map (λ (c : Change). xid_at c.tx rm) (changes_at rm before)) (is_spent rm old.facts x)
      (told.spent x)
      ∙ sym (ap (λ (cs : List Change). list_any (xid_eq x) (filter_map (λ c. xid_at c.tx rm) cs))
      (changes_said rm step before (change_stored rm fact) is.change))

  -- the name that its transaction has here
  name_by : (f : Fact) → IsManagerFact rm old.facts (branches_of old) is.input f → (x : XidParts) × (xid_at (fact_tx f) rm ≡ Some x)
  name_by (stored.VotePrepared t keys) rule = (rule.0, rule.1.first.name)
  name_by (stored.VoteAborted t) rule = (rule.0, rule.1.name)
  name_by (stored.Aborted t) rule = (rule.0, rule.1.name)
  name_by (stored.Committed t) rule =
      names_name t rm (voted_named config rm old.facts sound.played t votes.Prepared (prepared_shows old.facts t rule.prepared).0)
  name_by f rule = absurd rule

  abbrev here : XidParts
  here = (name_by fact is.rule).0

  named : xid_at tx rm ≡ Some here
  named = (name_by fact is.rule).1

  -- the branches
  without_own : (t : TxParts) (y : XidParts) → xid_at t rm ≡ Some y
      → view_named (option_map_or (branches_without (branches_of old)) (xid_at t rm) (branches_of old)) y ≡ no_branch
  without_own t y name =
      ap (λ (o : Option XidParts). view_named (option_map_or (branches_without (branches_of old)) o (branches_of old)) y) name
      ∙ gone_own y (branches_of old)

  without_other : (t : TxParts) (y z : XidParts) → xid_at t rm ≡ Some y → z ≢ y
      → view_named (option_map_or (branches_without (branches_of old)) (xid_at t rm) (branches_of old)) z ≡ view_named (branches_of old) z
  without_other t y z name apart =
      ap (λ (o : Option XidParts). view_named (option_map_or (branches_without (branches_of old)) o (branches_of old)) z) name
      ∙ gone_other y z (branches_of old) apart

  gone_by : (f : Fact) (y : XidParts) → IsManagerFact rm old.facts (branches_of old) is.input f → xid_at (fact_tx f) rm ≡ Some y
      → view_named (left_by rm (branches_of old) f) y ≡ no_branch
  gone_by (stored.Committed t) y rule name =
      let vote = (prepared_shows old.facts t rule.prepared).0 in
      none_shows (branches_of old) y (λ b h e. both_ways (is_spent rm old.facts b.xid) (sound.apart.unspent b h)
      (spent_by rm old.facts (stored.VotePrepared t vote.0) b.xid vote.1 (name ∙ ap Some (sym e))))
  gone_by (stored.VotePrepared t keys) y rule name = without_own t y name
  gone_by (stored.VoteAborted t) y rule name = without_own t y name
  gone_by (stored.Aborted t) y rule name = without_own t y name
  gone_by f y rule name = absurd rule

  kept_by : (f : Fact) (y z : XidParts) → IsManagerFact rm old.facts (branches_of old) is.input f → xid_at (fact_tx f) rm ≡ Some y
      → z ≢ y → view_named (left_by rm (branches_of old) f) z ≡ view_named (branches_of old) z
  kept_by (stored.Committed t) y z rule name apart = refl
  kept_by (stored.VotePrepared t keys) y z rule name apart = without_other t y z name apart
  kept_by (stored.VoteAborted t) y z rule name apart = without_other t y z name apart
  kept_by (stored.Aborted t) y z rule name apart = without_other t y z name apart
  kept_by f y z rule name apart = absurd rule

  branches_by : (y : XidParts) (own : Bool) → xid_eq y here ≡ own
      → view_named (left_by rm (branches_of old) fact) y ≡ branch_by (if own then [] else actions_since rm y before)
  branches_by y true e =
      subst (λ (z : XidParts). view_named (left_by rm (branches_of old) fact) z ≡ no_branch) (sym ((xid_decides y here).0 e))
      (gone_by fact here is.rule named)
  branches_by y false e =
      kept_by fact here y is.rule named (λ same. both_ways (xid_eq y here) e ((xid_decides y here).1 same)) ∙ told.branches is.up y

  branches_then : new.up ≡ true → (y : XidParts) → view_named (branches_of new) y ≡ branch_by (actions_since rm y (step ∷ before))
  branches_then up y =
      ap (λ (bs : List Branch). view_named bs y) (is.left up) ∙ branches_by y (xid_eq y here) refl
      ∙ sym (ap branch_by (since_change rm step before y (change_stored rm fact) is.restart is.change (is.calls y)
      ∙ ap (λ (o : Option XidParts). if option_map_or (xid_eq y) o false then [] else actions_since rm y before) named))

  -- the votes
  not_again : (f : Fact) (t : TxParts) → IsManagerFact rm old.facts (branches_of old) is.input f → HasVote old.facts t votes.Prepared
      → (tx_eq t (fact_tx f) && is_prepared_view (view_stored f)) ≡ false
  not_again (stored.VotePrepared other keys) t rule voted = elim (bool_cases (tx_eq t other)) [
    | inl same ↦
        absurd (unvoted old.facts other rule.1.first.new votes.Prepared
        (subst (λ (u : TxParts). HasVote old.facts u votes.Prepared) ((tx_decides t other).0 same) voted))
    | inr apart ↦ ap (λ (b : Bool). b && true) apart
  ]
  not_again (stored.VoteAborted other) t rule voted = and_right (tx_eq t other) false refl
  not_again (stored.Committed other) t rule voted = and_right (tx_eq t other) false refl
  not_again (stored.Aborted other) t rule voted = and_right (tx_eq t other) false refl
  not_again f t rule voted = absurd rule

  is_vote : (t : TxParts) → is_vote_at rm t step ≡ (tx_eq t tx && is_prepared_view (view_stored fact))
  is_vote t = ap (λ (o : Option Change). option_map_or (λ c. tx_eq t c.tx && is_prepared_view c.view) o false) is.change

  new_vote : (f : Fact) (t : TxParts) (keys : List Touched) (y : XidParts) → f ≡ stored.VotePrepared t keys
      → IsManagerFact rm old.facts (branches_of old) is.input f → xid_at t rm ≡ Some y
      → view_by Prepared keys ≡ view_in_state (view_named (branches_of old) y) Prepared
  new_vote f t keys y e rule name =
      let vote : IsManagerFact rm old.facts (branches_of old) is.input (stored.VotePrepared t keys) =
      subst (IsManagerFact rm old.facts (branches_of old) is.input) e rule in
      let held = idle_branch (branches_of old) vote.0 keys vote.1.idle in
      let same : held.branch.xid ≡ y = held.name ∙ name_of (xid_at t rm) vote.0 y vote.1.first.name name in
      let shows = own_shows (branches_of old) held.branch sound.apart.distinct held.among in
      ap (λ (ks : List Touched). view_by Prepared ks) (sym held.holds)
      ∙ ap (λ (v : BranchView). view_in_state v Prepared) (sym shows)
      ∙ ap (λ (z : XidParts). view_in_state (view_named (branches_of old) z) Prepared) same

  voted_then : (t : TxParts) (keys : List Touched) (y : XidParts) → IsIn new.facts (stored.VotePrepared t keys) → xid_at t rm ≡ Some y
      → view_by Prepared keys ≡ view_in_state (branch_by (actions_since rm y (before_vote rm t (step ∷ before)))) Prepared
  voted_then t keys y h name =
      elim (IsIn-push old.facts fact (stored.VotePrepared t keys) (subst (λ (fs : List Fact). IsIn fs
      (stored.VotePrepared t keys)) is.facts h)) [
        | inl was ↦
            told.voted t keys y was name
            ∙ sym (ap (λ (hs : List Step). view_in_state (branch_by (actions_since rm y hs)) Prepared)
            (before_other rm step before t (is_vote t ∙ not_again fact t is.rule (keys, was))))
        | inr e ↦
            let own : is_vote_at rm t step ≡ true = is_vote t
            ∙ ap (λ (f : Fact). tx_eq t (fact_tx f) && is_prepared_view (view_stored f)) e
            ∙ ap (λ (b : Bool). b && true) (tx_self t) in
            new_vote fact t keys y e is.rule name
            ∙ ap (λ (v : BranchView). view_in_state v Prepared) (told.branches is.up y)
            ∙ sym (ap (λ (hs : List Step). view_in_state (branch_by (actions_since rm y hs)) Prepared) (before_own rm step before t own))
      ]

  pub told_stored : IsTold rm new (step ∷ before)
  told_stored = record { views = views_then; spent = spent_then; branches = branches_then; voted = voted_then }

-- ---- every event

told_moved : (config : Config) (rm : ℕ) (old new : NodeState) (step : Step) (before : List Step) → IsSound config rm old
    → IsTold rm old before
    → IsMove config rm old new step.event step.answer step.now → IsTold rm new (step ∷ before)
told_moved config rm old new step before sound told (Quiet is) = told_quiet rm old new step before told is
told_moved config rm old new step before sound told (Restarted is) = told_restarted rm old new step before told is
told_moved config rm old new step before sound told (Called is) = told_called config rm old new step before told sound is
told_moved config rm old new step before sound told (Stored is) = told_stored config rm old new step before told sound is

-- in every run, what a manager has is what the history tells
pub told_ever : (config : Config) (world : World) (before : List Step) (rm : ℕ) → IsRun config world before
    → IsTold rm (manager_in config world rm) before
told_ever config _ _ rm AtFirst = subst (λ (node : NodeState). IsTold rm node []) (new_manager config rm) (told_at_first rm)
told_ever config _ _ rm (Then world before event fault run) =
    let result = world_step config world event fault in
    told_moved config rm (manager_in config world rm) (manager_in config result.world rm) (step_of world event result) before
    (sound config world before rm run) (told_ever config world before rm run) (event_moved config world rm event fault)
