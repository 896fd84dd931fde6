-- Writes are kept: the touched keys of a vote have the last acts that the accepted writes since the last start have.
-- Needed by Conflicts, Laws, SerialReads, SerialTables and TablesBack; crate audit.
use Rattle.std.proofs.Common.{◌≡◌, ◌≢◌, ◌⊎◌, inl, inr, ◌∙◌, ℕ, Bool, true, false, not, cond, if◌then◌else◌, List, [], ◌∷◌, Option}
use Rattle.std.proofs.Common.{Some, None, refl, sym, ap, subst}
use Rattle.std.specs.Prelude.{filter_map}
use Rattle.std.specs.List.{cons_option, take_while}
use Rattle.std.proofs.lemmas.Bool.{both_ways, false_from_ne_true}
use Rattle.std.proofs.lemmas.List.Sums.{take_while-cons}
use Rattle.xid.specs.Names.{XidParts, xid_eq}
use Rattle.xid.specs.Transactions.{TxParts, xid_at}
use Rattle.xid.specs.declared.transaction.Vote.TheVariants as votes
use Rattle.xid.proofs.Deciding.{xid_decides}
use Rattle.stable_record.specs.Facts.{AreAscending, fact_tx}
use Rattle.stable_record.specs.declared.fact.FactKind.TheVariants as stored
use Rattle.protocol.specs.Basics.{Fact, Touched, Act}
use Rattle.protocol.specs.declared.states.BranchState.TheVariants.{Active, Prepared}
use Rattle.safety.specs.Vocabulary.{BranchState, Action, Start, Put, Del, Get, End, EndFail, Rollback, Step, Row}
use Rattle.protocol.specs.Branches.{BranchView, no_branch, is_done, hinders, rollback_answer}
use Rattle.protocol.specs.Effects.{Config}
use Rattle.protocol.specs.Facts.{is_spent, bound_branches}
use Rattle.protocol.specs.Managers.{all_branches, view_named, is_hindered, act_on, named_answer, on_call, stored_votes}
use Rattle.protocol.specs.Nodes.{NodeState, new_node, first_rows}
use Rattle.protocol.specs.Tables.{table}
use Rattle.protocol.specs.Worlds.{World, step_of, world_step}
use Rattle.protocol.specs.Holds.{IsIn}
use Rattle.safety.specs.Standing.{HasVote}
use Rattle.protocol.proofs.Lists.{IsIn-push, IsIn-before}
use Rattle.protocol.proofs.Manager.Apart.{idle_branch, name_of}
use Rattle.protocol.proofs.Manager.Effects.{IsManagerFact}
use Rattle.protocol.proofs.Manager.Keys.{spent_by}
use Rattle.protocol.proofs.Manager.Views.{prepared_shows}
use Rattle.history.specs.Calls.{is_restart}
use Rattle.history.specs.Lines.{change_stored}
use Rattle.history.specs.LookingBack.{is_name_at, is_start, is_rollback, state_by, branch_by, done_at, writes_in, last_act_on}
use Rattle.history.specs.LookingBack.{actions_since}
use Rattle.history.specs.Writes.{actions_since_start}
use Rattle.history.proofs.Moves.{manager_in, branches_of, IsMove, Quiet, Restarted, Called, Stored, IsCalled, IsStored, event_moved}
use Rattle.history.proofs.Runs.{IsRun, AtFirst, Then, new_manager}
use Rattle.protocol.proofs.DoneCalls.{IsReadyFor, ready}
use Rattle.history.proofs.Actions.{done_shows, plain_at}
use Rattle.history.proofs.CallsLeave.{branch_view, prepared_or_none}
use Rattle.history.proofs.Stretches.{since_restart, since_silent, since_call, since_change}
use Rattle.history.proofs.Told.{IsSound, IsTold, sound, told_ever, own_shows, none_shows, no_restart, does_by, leaves}

-- ---- the actions since the last start, with one more step

since_start_silent : (rm : ℕ) (x : XidParts) (step : Step) (before : List Step) → done_at rm x step ≡ None
    → actions_since_start rm x (step ∷ before) ≡ actions_since_start rm x before
since_start_silent rm x step before none =
    ap (λ (o : Option Action). take_while (λ action. not (is_start action)) (cons_option o (filter_map (done_at rm x) before))) none

since_start_call : (rm : ℕ) (x : XidParts) (step : Step) (before : List Step) (action : Action) → done_at rm x step ≡ Some action
    → actions_since_start rm x (step ∷ before) ≡ cond (not (is_start action)) (action ∷ actions_since_start rm x before) []
since_start_call rm x step before action does =
    ap (λ (o : Option Action). take_while (λ a. not (is_start a)) (cons_option o (filter_map (done_at rm x) before))) does
    ∙ take_while-cons (λ (a : Action). not (is_start a)) action (filter_map (done_at rm x) before)

-- ---- a stretch that isn't empty began with the last start

-- nothing was done in a branch that doesn't exist, and in one that exists its writes are those since its start
abbrev pub IsBegun : List Action → List Action → Type 0
IsBegun actions since = (actions ≡ []) ⊎ ((writes_in actions ≡ writes_in since) × (state_by actions ≢ None))

pub started : (actions since : List Action) → IsBegun actions since → state_by actions ≢ None → writes_in actions ≡ writes_in since
started actions since (inl none) some = absurd (some (ap state_by none))
started actions since (inr h) some = h.0

unstarted : (actions since : List Action) → IsBegun actions since → state_by actions ≡ None → actions ≡ []
unstarted actions since (inl none) e = none
unstarted actions since (inr h) e = absurd (h.1 e)

active_some : (actions : List Action) → state_by actions ≡ Some Active → state_by actions ≢ None
active_some actions e none = absurd (cc (e, none))

-- one more action that is done
begun_more : (actions since : List Action) (action : Action) → IsBegun actions since →
    ((branch_by actions).state ≡ None → branch_by actions ≡ no_branch)
    → IsReadyFor action (state_by actions) → is_rollback action ≡ false
    → IsBegun (action ∷ actions) (cond (not (is_start action)) (action ∷ since) [])
begun_more actions since Start begun plain ready r =
    let nothing = unstarted actions since begun ready in
    inr (ap writes_in nothing, λ e. absurd (cc ((done_shows actions Start plain ready r).state, e)))
begun_more actions since (Put key value) begun plain ready r =
    let same = started actions since begun (active_some actions ready) in
    inr (
      ap (λ ts. record { key = key; act = Act.Put value } ∷ ts) same,
      λ e. absurd (cc ((done_shows actions (Put key value) plain ready r).state, e, ready)),
    )
begun_more actions since (Del key) begun plain ready r =
    let same = started actions since begun (active_some actions ready) in
    inr (
      ap (λ ts. record { key = key; act = Act.Del } ∷ ts) same,
      λ e. absurd (cc ((done_shows actions (Del key) plain ready r).state, e, ready)),
    )
begun_more actions since (Get key) begun plain ready r =
    inr (
      started actions since begun (active_some actions ready),
      λ e. absurd (cc ((done_shows actions (Get key) plain ready r).state, e, ready)),
    )
begun_more actions since End begun plain ready r =
    inr (started actions since begun (active_some actions ready), λ e. absurd (cc ((done_shows actions End plain ready r).state, e)))
begun_more actions since EndFail begun plain ready r =
    inr (started actions since begun (active_some actions ready), λ e. absurd (cc ((done_shows actions EndFail plain ready r).state, e)))
begun_more actions since Rollback begun plain ready r = absurd (cc (r))

-- ---- no call is done of a spent name

inactive : (s : Option BranchState) → (s ≡ None) ⊎ (s ≡ Some Prepared) → s ≡ Some Active → ⊥
inactive s (inl none) e = absurd (cc (none, e))
inactive s (inr prepared) e = absurd (cc (prepared, e))

spent_undone : (rows : List Row) (v : BranchView) (busy : Bool) (action : Action) → (v.state ≡ None) ⊎ (v.state ≡ Some Prepared)
    → is_done action (named_answer true rows v busy action) ≡ false
spent_undone rows v busy Start is = refl
spent_undone rows v busy Rollback (inl none) = ap (λ (s : Option BranchState). is_done Rollback (rollback_answer s)) none
spent_undone rows v busy Rollback (inr prepared) = ap (λ (s : Option BranchState). is_done Rollback (rollback_answer s)) prepared
spent_undone rows v busy (Put key value) is = false_from_ne_true _ (λ e. inactive v.state is (ready rows v busy (Put key value) e))
spent_undone rows v busy (Del key) is = false_from_ne_true _ (λ e. inactive v.state is (ready rows v busy (Del key) e))
spent_undone rows v busy (Get key) is = false_from_ne_true _ (λ e. inactive v.state is (ready rows v busy (Get key) e))
spent_undone rows v busy End is = false_from_ne_true _ (λ e. inactive v.state is (ready rows v busy End e))
spent_undone rows v busy EndFail is = false_from_ne_true _ (λ e. inactive v.state is (ready rows v busy EndFail e))

-- ---- what is kept

-- every stretch began with the last start; a vote prepared has the last acts that were accepted since, its keys ascend, and what is
-- committed was voted prepared
pub record IsKept (rm : ℕ) (node : NodeState) (before : List Step) : Type 0 where
  pub begun : (x : XidParts) → IsBegun (actions_since rm x before) (actions_since_start rm x before)
  pub written : (tx : TxParts) (keys : List Touched) (x : XidParts) → IsIn node.facts (stored.VotePrepared tx keys)
      → xid_at tx rm ≡ Some x → (key : List ℕ) → act_on keys key ≡ last_act_on (writes_in (actions_since_start rm x before)) key
  pub ascending : (tx : TxParts) (keys : List Touched) → IsIn node.facts (stored.VotePrepared tx keys) → AreAscending keys
  pub committed : (tx : TxParts) → IsIn node.facts (stored.Committed tx) → HasVote node.facts tx votes.Prepared

kept_at_first : (rm : ℕ) → IsKept rm new_node []
kept_at_first rm = record {
  begun = λ x. inl refl;
  written = λ tx keys x h. absurd h;
  ascending = λ tx keys h. absurd h;
  committed = λ tx h. absurd h;
}

begun_same : (a s b t : List Action) → b ≡ a → t ≡ s → IsBegun a s → IsBegun b t
begun_same a s b t e f begun =
    subst (λ (u : List Action). IsBegun u t) (sym e) (subst (λ (u : List Action). IsBegun a u) (sym f) begun)

-- no fact is stored
module _ (rm : ℕ) (old new : NodeState) (step : Step) (before : List Step) (kept : IsKept rm old before)
    (facts : new.facts ≡ old.facts) where
  was : (fact : Fact) → IsIn new.facts fact → IsIn old.facts fact
  was fact h = subst (λ (fs : List Fact). IsIn fs fact) facts h

  -- where no call is done in a branch whose name a vote has
  keeps : ((x : XidParts) → IsBegun (actions_since rm x (step ∷ before)) (actions_since_start rm x (step ∷ before)))
      → ((tx : TxParts) (keys : List Touched) (x : XidParts) → IsIn old.facts (stored.VotePrepared tx keys) → xid_at tx rm ≡ Some x
      → done_at rm x step ≡ None)
      → IsKept rm new (step ∷ before)
  keeps begun undone = record {
    begun = begun;
    written = λ tx keys x h name key.
        kept.written tx keys x (was (stored.VotePrepared tx keys) h) name key
        ∙ sym (ap (λ (actions : List Action). last_act_on (writes_in actions) key)
        (since_start_silent rm x step before (undone tx keys x (was (stored.VotePrepared tx keys) h) name)));
    ascending = λ tx keys h. kept.ascending tx keys (was (stored.VotePrepared tx keys) h);
    committed = λ tx h.
        let vote = kept.committed tx (was (stored.Committed tx) h) in
        (vote.0, subst (λ (fs : List Fact). IsIn fs (stored.VotePrepared tx vote.0)) (sym facts) vote.1);
  }

-- a call
module _ (config : Config) (rm : ℕ) (old new : NodeState) (step : Step) (before : List Step) (told : IsTold rm old before)
    (sound : IsSound config rm old) (kept : IsKept rm old before) (is : IsCalled config rm old new step.event step.answer step.now) where
  abbrev action : Action
  action = is.action

  restarted : is_restart rm step.event step.answer ≡ false
  restarted = no_restart config rm old new step before told sound is

  silent_begun : (y : XidParts) → done_at rm y step ≡ None
      → IsBegun (actions_since rm y (step ∷ before)) (actions_since_start rm y (step ∷ before))
  silent_begun y none = begun_same _ _ _ _ (since_silent rm step before y restarted is.change none)
      (since_start_silent rm y step before none) (kept.begun y)

  own_begun : (rollback : Bool) → is_rollback action ≡ rollback → is_done action step.answer ≡ true → done_at rm is.xid step ≡ Some action
      → IsBegun (actions_since rm is.xid (step ∷ before)) (actions_since_start rm is.xid (step ∷ before))
  own_begun true r d does =
      inl (since_call rm step before is.xid action restarted is.change does
      ∙ ap (λ (b : Bool). if b then [] else action ∷ actions_since rm is.xid before) r)
  own_begun false r d does =
      let shows = told.branches is.up is.xid in
      begun_same _ _ _ _
      (since_call rm step before is.xid action restarted is.change does
      ∙ ap (λ (b : Bool). if b then [] else action ∷ actions_since rm is.xid before) r)
      (since_start_call rm is.xid step before action does)
      (begun_more (actions_since rm is.xid before) (actions_since_start rm is.xid before) action (kept.begun is.xid)
      (subst (λ (v : BranchView). v.state ≡ None → v ≡ no_branch) shows (plain_at (branches_of old) is.xid))
      (subst (λ (v : BranchView). IsReadyFor action v.state) shows (leaves config rm old new step before told sound is d).0) r)

  begun_by : (y : XidParts) (done own : Bool) → is_done action step.answer ≡ done → xid_eq is.xid y ≡ own
      → IsBegun (actions_since rm y (step ∷ before)) (actions_since_start rm y (step ∷ before))
  begun_by y false own d o = silent_begun y (does_by config rm old new step before told sound is y false own d o)
  begun_by y true false d o = silent_begun y (does_by config rm old new step before told sound is y true false d o)
  begun_by y true true d o =
      subst (λ (z : XidParts). IsBegun (actions_since rm z (step ∷ before)) (actions_since_start rm z (step ∷ before)))
      ((xid_decides is.xid y).0 o)
      (own_begun (is_rollback action) refl d (does_by config rm old new step before told sound is is.xid true true d
      ((xid_decides is.xid is.xid).1 refl)))

  -- a name that a vote has
  pub voted_undone : (tx : TxParts) (keys : List Touched) (x : XidParts) → IsIn old.facts (stored.VotePrepared tx keys)
      → xid_at tx rm ≡ Some x
      → done_at rm x step ≡ None
  voted_undone tx keys x h name = by_own (is_done action step.answer) (xid_eq is.xid x) refl refl
    where
      spent : is_spent rm old.facts x ≡ true
      spent = spent_by rm old.facts (stored.VotePrepared tx keys) x h name

      undone : xid_eq is.xid x ≡ true → is_done action step.answer ≡ false
      undone o =
          let same : is.xid ≡ x = (xid_decides is.xid x).0 o in
          let all = branch_view rm old.facts (branches_of old) in
          let nothing = none_shows (branches_of old) x (λ b k e. both_ways (is_spent rm old.facts b.xid) (sound.apart.unspent b k)
          (ap (is_spent rm old.facts) e ∙ spent)) in
          let rows = table (first_rows config rm) old.facts in
          ap (is_done action) is.answered
          ∙ ap (λ (z : XidParts). is_done action (on_call rm (stored_votes rm old.facts) rows (branches_of old) z action).answer) same
          ∙ ap (λ (b : Bool). is_done action (named_answer b rows (all x)
          (is_hindered (hinders action) (all_branches rm (bound_branches old.facts) (branches_of old)) x) action)) spent
          ∙ spent_undone rows (all x) _ action (prepared_or_none rm old.facts (branches_of old) x nothing)

      by_own : (done own : Bool) → is_done action step.answer ≡ done → xid_eq is.xid x ≡ own → done_at rm x step ≡ None
      by_own false own d o = does_by config rm old new step before told sound is x false own d o
      by_own true false d o = does_by config rm old new step before told sound is x true false d o
      by_own true true d o = absurd (both_ways (is_done action step.answer) (undone o) d)

  kept_called : IsKept rm new (step ∷ before)
  kept_called = keeps rm old new step before kept is.facts (λ y. begun_by y (is_done action step.answer) (xid_eq is.xid y) refl refl)
      voted_undone

-- a fact
module _ (config : Config) (rm : ℕ) (old new : NodeState) (step : Step) (before : List Step) (told : IsTold rm old before)
    (sound : IsSound config rm old) (kept : IsKept rm old before) (is : IsStored config rm old new step.event step.answer step.now) where
  abbrev fact : Fact
  fact = is.fact

  stored_begun : (x : XidParts) → IsBegun (actions_since rm x (step ∷ before)) (actions_since_start rm x (step ∷ before))
  stored_begun x = by_name (is_name_at rm x (fact_tx fact))
      (since_change rm step before x (change_stored rm fact) is.restart is.change (is.calls x))
    where
      by_name : (own : Bool) → actions_since rm x (step ∷ before) ≡ (if own then [] else actions_since rm x before)
          → IsBegun (actions_since rm x (step ∷ before)) (actions_since_start rm x (step ∷ before))
      by_name true e = inl e
      by_name false e = begun_same _ _ _ _ e (since_start_silent rm x step before (is.calls x)) (kept.begun x)

  old_or_new : (f : Fact) → IsIn new.facts f → IsIn old.facts f ⊎ (fact ≡ f)
  old_or_new f h = IsIn-push old.facts fact f (subst (λ (fs : List Fact). IsIn fs f) is.facts h)

  rule_of : (f : Fact) → fact ≡ f → IsManagerFact rm old.facts (branches_of old) is.input f
  rule_of f e = subst (IsManagerFact rm old.facts (branches_of old) is.input) e is.rule

  stays_in : (f : Fact) → IsIn old.facts f → IsIn new.facts f
  stays_in f h = subst (λ (fs : List Fact). IsIn fs f) (sym is.facts) (IsIn-before old.facts (fact ∷ []) f h)

  -- the keys of a first vote
  new_written : (tx : TxParts) (keys : List Touched) (x : XidParts) → fact ≡ stored.VotePrepared tx keys → xid_at tx rm ≡ Some x
      → (key : List ℕ) → act_on keys key ≡ last_act_on (writes_in (actions_since_start rm x before)) key
  new_written tx keys x e name key =
      let vote = rule_of (stored.VotePrepared tx keys) e in
      let held = idle_branch (branches_of old) vote.0 keys vote.1.idle in
      let same : held.branch.xid ≡ x = held.name ∙ name_of (xid_at tx rm) vote.0 x vote.1.first.name name in
      let shows = sym (own_shows (branches_of old) held.branch sound.apart.distinct held.among)
      ∙ ap (view_named (branches_of old)) same ∙ told.branches is.up x in
      let some : state_by (actions_since rm x before) ≢ None =
      λ none. let e : Some held.branch.state ≡ None = ap (λ (v : BranchView). v.state) shows ∙ none in absurd (cc (e)) in
      ap (λ (ks : List Touched). act_on ks key) (sym held.holds) ∙ ap (λ (v : BranchView). v.act key) shows
      ∙ ap (λ (ts : List Touched). last_act_on ts key)
      (started (actions_since rm x before) (actions_since_start rm x before) (kept.begun x) some)

  new_ascending : (tx : TxParts) (keys : List Touched) → fact ≡ stored.VotePrepared tx keys → AreAscending keys
  new_ascending tx keys e =
      let vote = rule_of (stored.VotePrepared tx keys) e in
      let held = idle_branch (branches_of old) vote.0 keys vote.1.idle in
      subst AreAscending held.holds (sound.apart.ordered held.branch held.among)

  kept_stored : IsKept rm new (step ∷ before)
  kept_stored = record {
    begun = stored_begun;
    written = λ tx keys x h name key.
        elim (old_or_new (stored.VotePrepared tx keys) h) [
          | inl was ↦ kept.written tx keys x was name key
          | inr e ↦ new_written tx keys x e name key
        ]
        ∙ sym (ap (λ (actions : List Action). last_act_on (writes_in actions) key) (since_start_silent rm x step before (is.calls x)));
    ascending = λ tx keys h. elim (old_or_new (stored.VotePrepared tx keys) h) [
      | inl was ↦ kept.ascending tx keys was
      | inr e ↦ new_ascending tx keys e
    ];
    committed = λ tx h. elim (old_or_new (stored.Committed tx) h) [
      | inl was ↦ let vote = kept.committed tx was in (vote.0, stays_in (stored.VotePrepared tx vote.0) vote.1)
      | inr e ↦
          let vote = (prepared_shows old.facts tx (rule_of (stored.Committed tx) e).prepared).0 in
          (vote.0, stays_in (stored.VotePrepared tx vote.0) vote.1)
    ];
  }

-- ---- every event

kept_moved : (config : Config) (rm : ℕ) (old new : NodeState) (step : Step) (before : List Step) → IsSound config rm old
    → IsTold rm old before
    → IsKept rm old before → IsMove config rm old new step.event step.answer step.now → IsKept rm new (step ∷ before)
kept_moved config rm old new step before sound told kept (Quiet is) =
    keeps rm old new step before kept is.facts
    (λ x. begun_same _ _ _ _ (since_silent rm step before x is.silent.restart is.silent.change (is.silent.calls x))
    (since_start_silent rm x step before (is.silent.calls x)) (kept.begun x))
    (λ tx keys x h name. is.silent.calls x)
kept_moved config rm old new step before sound told kept (Restarted is) =
    keeps rm old new step before kept is.facts (λ x. inl (since_restart rm step before x is.restart)) (λ tx keys x h name. is.calls x)
kept_moved config rm old new step before sound told kept (Called is) = kept_called config rm old new step before told sound kept is
kept_moved config rm old new step before sound told kept (Stored is) = kept_stored config rm old new step before told sound kept is

pub kept_ever : (config : Config) (world : World) (before : List Step) (rm : ℕ) → IsRun config world before
    → IsKept rm (manager_in config world rm) before
kept_ever config _ _ rm AtFirst = subst (λ (node : NodeState). IsKept rm node []) (new_manager config rm) (kept_at_first rm)
kept_ever config _ _ rm (Then world before event fault run) =
    let result = world_step config world event fault in
    kept_moved config rm (manager_in config world rm) (manager_in config result.world rm) (step_of world event result) before
    (sound config world before rm run) (told_ever config world before rm run) (kept_ever config world before rm run)
    (event_moved config world rm event fault)
