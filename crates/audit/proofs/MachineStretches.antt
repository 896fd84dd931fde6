-- What was done in a branch since it was last started is, in each run of the machine, what looking back over its calls says.
use Rattle.std.proofs.Common.{◌≡◌, ◌≢◌, ◌∙◌, ℕ, Bool, true, false, not, ◌&&◌, ◌||◌, ◌==◌, if◌then◌else◌, cond, List, [], ◌∷◌, ◌++◌}
use Rattle.std.proofs.Common.{reverse, Option, Some, None, refl, sym, ap, subst}
use Rattle.std.specs.Prelude.{filter_map}
use Rattle.std.specs.List.{cons_option, list_any, take_while}
use Rattle.std.specs.Option.{option_map, option_map_or, option_and_then}
use Rattle.std.proofs.lemmas.Bool.{both_ways}
use Rattle.std.proofs.lemmas.List.{reverse-append, reverse-reverse}
use Rattle.std.proofs.lemmas.List.Sums.{take_while-cons}
use Rattle.xid.specs.declared.codes.XaCode.TheVariants as code
use Rattle.xid.specs.Names.{XidParts, xid_eq}
use Rattle.xid.specs.Transactions.{TxParts, xid_at}
use Rattle.xid.proofs.Deciding.{xid_decides}
use Rattle.protocol.specs.Basics.{Act, Touched}
use Rattle.protocol.specs.declared.states.BranchState.TheVariants.{Active, Idle, RollbackOnly}
use Rattle.safety.specs.Vocabulary.{Action, Start, Put, Del, Get, End, EndFail, Rollback, Answer, Code, Value, NoValue, BranchState, R}
use Rattle.safety.specs.Vocabulary.{Event, Ask, Call, Step}
use Rattle.protocol.specs.Branches.{is_done}
use Rattle.protocol.specs.Effects.{Config}
use Rattle.protocol.specs.Managers.{view_named}
use Rattle.protocol.specs.Nodes.{NodeState}
use Rattle.protocol.specs.Worlds.{World, step_of, world_step}
use Rattle.protocol.proofs.DoneCalls.{IsReadyFor}
use Rattle.history.specs.Calls.{call_done}
use Rattle.history.specs.LookingBack.{is_start, is_end, is_end_fail, state_by, write_by, writes_in, last_act_on, done_at, ends_at}
use Rattle.history.specs.LookingBack.{actions_since}
use Rattle.history.specs.Writes.{actions_since_start, accepted_writes, writes_of}
use Rattle.history.proofs.Moves.{manager_in, branches_of, IsMove, Quiet, Restarted, Called, Stored, event_moved}
use Rattle.history.proofs.Runs.{IsRun, AtFirst, Then}
use Rattle.history.proofs.Told.{IsSound, IsTold, sound, told_ever, does_by, leaves}
use Rattle.audit.specs.Stretches as stretches
use Rattle.audit.specs.Stretches.{StretchParts, with_get, own_act, stretch_after, stretch_by, stretch_back, stretches_back, writes_at}

-- ---- one event

undone : (action : Action) (answer : Answer) (s : Option StretchParts) → is_done action answer ≡ false → stretch_after action answer s ≡ s
undone Start (Code code.Ok) s e = absurd (cc (e))
undone (Put key value) (Code code.Ok) s e = absurd (cc (e))
undone (Del key) (Code code.Ok) s e = absurd (cc (e))
undone (Get key) (Value bytes) s e = absurd (cc (e))
undone (Get key) NoValue s e = absurd (cc (e))
undone action answer s e = refl

-- an event that does nothing in a branch
pub not_called : (rm : ℕ) (x : XidParts) (event : Event) (answer : Answer) (s : Option StretchParts) → call_done rm x event answer ≡ None
    → stretch_by rm x event answer s ≡ s
not_called rm x (Ask (R other) (Call y action)) answer s none = by (is_done action answer) ((other == rm) && xid_eq y x) refl none
  where
    by : (done here : Bool) → is_done action answer ≡ done → (if done then if here then Some action else None else None) ≡ None
        → (if here then stretch_after action answer s else s) ≡ s
    by false true d e = undone action answer s d
    by false false d e = refl
    by true true d e = absurd (cc (e))
    by true false d e = refl
not_called rm x event answer s none = refl

-- one that does something there
pub called : (rm : ℕ) (x : XidParts) (event : Event) (answer : Answer) (s : Option StretchParts) (action : Action)
    → call_done rm x event answer ≡ Some action
    → (stretch_by rm x event answer s ≡ stretch_after action answer s) × (is_done action answer ≡ true)
called rm x (Ask (R other) (Call y a)) answer s action is = by (is_done a answer) ((other == rm) && xid_eq y x) refl is
  where
    by : (done here : Bool) → is_done a answer ≡ done → (if done then if here then Some a else None else None) ≡ Some action
        → ((if here then stretch_after a answer s else s) ≡ stretch_after action answer s) × (is_done action answer ≡ true)
    by true true d e =
        let same : a ≡ action = cc (e) in
        (ap (λ b. stretch_after b answer s) same, ap (λ b. is_done b answer) (sym same) ∙ d)
    by true false d e = absurd (cc (e))
    by false true d e = absurd (cc (e))
    by false false d e = absurd (cc (e))
called rm x event answer s action is = absurd (cc (is))

-- ---- by the actions that were done in a branch, the newest first

abbrev pub since : List Action → List Action
since acts = take_while (λ action. not (is_start action)) acts

since_cons : (a : Action) (acts : List Action) → since (a ∷ acts) ≡ cond (not (is_start a)) (a ∷ since acts) []
since_cons a acts = take_while-cons (λ (action : Action). not (is_start action)) a acts

-- a branch that was never started has written nothing, and one that was has the writes since its last start
abbrev pub IsStretch : List Action → Option StretchParts → Type 0
IsStretch acts None = (list_any is_start acts ≡ false) × (writes_in (since acts) ≡ [])
IsStretch acts (Some s) = s.writes ≡ reverse (writes_in (since acts))

-- an action that neither starts nor writes
abbrev IsPlain : Action → Type 0
IsPlain a = (is_start a ≡ false) × ((acts : List Action) → writes_in (since (a ∷ acts)) ≡ writes_in (since acts))

plain_more : (a : Action) (acts : List Action) (s : Option StretchParts) → IsPlain a → IsStretch acts s → IsStretch (a ∷ acts) s
plain_more a acts None plain is = (ap (λ b. b || list_any is_start acts) plain.0 ∙ is.0, plain.1 acts ∙ is.1)
plain_more a acts (Some s) plain is = is ∙ ap reverse (sym (plain.1 acts))

gets_plain : (key : List ℕ) → IsPlain (Get key)
gets_plain key = (refl, λ acts. ap writes_in (since_cons (Get key) acts))

shown_more : (acts : List Action) (key : List ℕ) (found : Option (List ℕ)) (s : Option StretchParts) → IsStretch acts s
    → IsStretch acts (option_map (with_get key found) s)
shown_more acts key found None is = is
shown_more acts key found (Some s) is = is

written_more : (a : Action) (acts : List Action) (w : Touched) (s : StretchParts) → write_by a ≡ Some w
    → since (a ∷ acts) ≡ a ∷ since acts → s.writes ≡ reverse (writes_in (since acts))
    → s.writes ++ w ∷ [] ≡ reverse (writes_in (since (a ∷ acts)))
written_more a acts w s writes more is =
    ap (λ (ws : List Touched). ws ++ w ∷ []) is ∙ sym (reverse-append (w ∷ []) (writes_in (since acts)))
    ∙ sym (ap (λ (o : Option Touched). reverse (cons_option o (writes_in (since acts)))) writes)
    ∙ sym (ap (λ (done : List Action). reverse (writes_in done)) more)

-- one action more that is done; none is written where there is no branch
grown : (action : Action) (answer : Answer) (acts : List Action) (s : Option StretchParts) → is_done action answer ≡ true
    → (write_by action ≢ None → s ≢ None) → IsStretch acts s → IsStretch (action ∷ acts) (stretch_after action answer s)
grown Start (Code code.Ok) acts s d begun is = ap (λ (done : List Action). reverse (writes_in done)) (sym (since_cons Start acts))
grown Start answer acts s d begun is = absurd (cc (d))
grown (Put key value) (Code code.Ok) acts None d begun is = absurd (begun (λ e. absurd (cc (e))) refl)
grown (Put key value) (Code code.Ok) acts (Some s) d begun is =
    written_more (Put key value) acts (record { key = key; act = Act.Put value }) s refl (since_cons (Put key value) acts) is
grown (Put key value) answer acts s d begun is = absurd (cc (d))
grown (Del key) (Code code.Ok) acts None d begun is = absurd (begun (λ e. absurd (cc (e))) refl)
grown (Del key) (Code code.Ok) acts (Some s) d begun is =
    written_more (Del key) acts (record { key = key; act = Act.Del }) s refl (since_cons (Del key) acts) is
grown (Del key) answer acts s d begun is = absurd (cc (d))
grown (Get key) (Value bytes) acts s d begun is =
    shown_more (Get key ∷ acts) key (Some bytes) s (plain_more (Get key) acts s (gets_plain key) is)
grown (Get key) NoValue acts s d begun is = shown_more (Get key ∷ acts) key None s (plain_more (Get key) acts s (gets_plain key) is)
grown (Get key) answer acts s d begun is = absurd (cc (d))
grown End answer acts s d begun is = plain_more End acts s (refl, λ more. ap writes_in (since_cons End more)) is
grown EndFail answer acts s d begun is = plain_more EndFail acts s (refl, λ more. ap writes_in (since_cons EndFail more)) is
grown Rollback answer acts s d begun is = plain_more Rollback acts s (refl, λ more. ap writes_in (since_cons Rollback more)) is

-- ---- a branch in which a write is done was started

active_started : (acts : List Action) → state_by acts ≡ Some Active → list_any is_start acts ≡ true
active_started acts e = by (list_any is_end_fail acts) (list_any is_end acts) (list_any is_start acts) e
  where
    by : (failed ended began : Bool)
        → (if failed then Some RollbackOnly else if ended then Some Idle else if began then Some Active else None) ≡ Some Active
        → began ≡ true
    by true ended began e = absurd (cc (e))
    by false true began e = absurd (cc (e))
    by false false true e = refl
    by false false false e = absurd (cc (e))

some_more : (o : Option Action) (fewer more : List Action)
    → (list_any is_start fewer ≡ true → list_any is_start more ≡ true)
    → list_any is_start (cons_option o fewer) ≡ true → list_any is_start (cons_option o more) ≡ true
some_more None fewer more each e = each e
some_more (Some a) fewer more each e = by (is_start a) e
  where
    by : (b : Bool) → (b || list_any is_start fewer) ≡ true → (b || list_any is_start more) ≡ true
    by true e = refl
    by false e = each e

some_since : (p : Step → Bool) (rm : ℕ) (x : XidParts) (history : List Step)
    → list_any is_start (filter_map (done_at rm x) (take_while p history)) ≡ true
    → list_any is_start (filter_map (done_at rm x) history) ≡ true
some_since p rm x [] e = e
some_since p rm x (step ∷ history) e =
    by (p step) (some_since p rm x history)
    (subst (λ (hs : List Step). list_any is_start (filter_map (done_at rm x) hs) ≡ true) (take_while-cons p step history) e)
  where
    by : (b : Bool) → (list_any is_start (filter_map (done_at rm x) (take_while p history)) ≡ true
        → list_any is_start (filter_map (done_at rm x) history) ≡ true)
        → list_any is_start (filter_map (done_at rm x) (cond b (step ∷ take_while p history) [])) ≡ true
        → list_any is_start (filter_map (done_at rm x) (step ∷ history)) ≡ true
    by true rest h =
        some_more (done_at rm x step) (filter_map (done_at rm x) (take_while p history)) (filter_map (done_at rm x) history) rest h
    by false rest h = absurd (cc (h))

writing_active : (action : Action) (state : Option BranchState) → write_by action ≢ None → IsReadyFor action state → state ≡ Some Active
writing_active Start state w ready = absurd (w refl)
writing_active Rollback state w ready = absurd (w refl)
writing_active (Put key value) state w ready = ready
writing_active (Del key) state w ready = ready
writing_active (Get key) state w ready = ready
writing_active End state w ready = ready
writing_active EndFail state w ready = ready

module _ (config : Config) (rm : ℕ) (x : XidParts) (old new : NodeState) (step : Step) (before : List Step)
    (is_sound : IsSound config rm old) (told : IsTold rm old before) (action : Action)
    (does : call_done rm x step.event step.answer ≡ Some action) (w : write_by action ≢ None) where
  begun : IsMove config rm old new step.event step.answer step.now → list_any is_start (filter_map (done_at rm x) before) ≡ true
  begun (Quiet is) = absurd (cc (sym (is.silent.calls x) ∙ does))
  begun (Restarted is) = absurd (cc (sym (is.calls x) ∙ does))
  begun (Stored is) = absurd (cc (sym (is.calls x) ∙ does))
  begun (Called is) = by_done (is_done is.action step.answer) (xid_eq is.xid x) refl refl
    where
      by_done : (done own : Bool) → is_done is.action step.answer ≡ done → xid_eq is.xid x ≡ own
          → list_any is_start (filter_map (done_at rm x) before) ≡ true
      by_done false own d o = absurd (cc (sym (does_by config rm old new step before told is_sound is x false own d o) ∙ does))
      by_done true false d o = absurd (cc (sym (does_by config rm old new step before told is_sound is x true false d o) ∙ does))
      by_done true true d o =
          let same : is.action ≡ action = cc (sym (does_by config rm old new step before told is_sound is x true true d o) ∙ does) in
          let own : is.xid ≡ x = (xid_decides is.xid x).0 o in
          let active = writing_active is.action (view_named (branches_of old) is.xid).state
          (λ none. w (ap write_by (sym same) ∙ none)) (leaves config rm old new step before told is_sound is d).0 in
          some_since (λ s. not (ends_at rm x s)) rm x before (active_started (actions_since rm x before)
          (sym (ap (λ v. v.state) (told.branches is.up x)) ∙ ap (λ y. (view_named (branches_of old) y).state) (sym own) ∙ active))

pub stretch_ever : (config : Config) (world : World) (history : List Step) → IsRun config world history → (rm : ℕ) (x : XidParts)
    → IsStretch (filter_map (done_at rm x) history) (stretch_back rm x history)
stretch_ever config _ _ AtFirst rm x = (refl, refl)
stretch_ever config _ _ (Then world before event fault run) rm x =
    let result = world_step config world event fault in
    let step = step_of world event result in
    by step (event_moved config world rm event fault) (stretch_ever config world before run rm x) (done_at rm x step) refl
  where
    by : (step : Step) → IsMove config rm (manager_in config world rm) (manager_in config (world_step config world event fault).world rm)
        step.event step.answer step.now
        → IsStretch (filter_map (done_at rm x) before) (stretch_back rm x before)
        → (o : Option Action) → done_at rm x step ≡ o
        → IsStretch (filter_map (done_at rm x) (step ∷ before)) (stretch_back rm x (step ∷ before))
    by step move ever None none =
        subst (λ (s : Option StretchParts). IsStretch (filter_map (done_at rm x) (step ∷ before)) s)
        (sym (not_called rm x step.event step.answer (stretch_back rm x before) none))
        (subst (λ (o : Option Action). IsStretch (cons_option o (filter_map (done_at rm x) before)) (stretch_back rm x before)) (sym none)
        ever)
    by step move ever (Some action) does =
        let here = called rm x step.event step.answer (stretch_back rm x before) action does in
        subst (λ (s : Option StretchParts). IsStretch (filter_map (done_at rm x) (step ∷ before)) s) (sym here.0)
        (subst (λ (o : Option Action). IsStretch (cons_option o (filter_map (done_at rm x) before))
        (stretch_after action step.answer (stretch_back rm x before))) (sym does)
        (grown action step.answer (filter_map (done_at rm x) before) (stretch_back rm x before) here.1
        (λ w none.
        let never = subst (IsStretch (filter_map (done_at rm x) before)) none ever in
        both_ways (list_any is_start (filter_map (done_at rm x) before)) never.0
        (begun config rm x (manager_in config world rm) (manager_in config (world_step config world event fault).world rm) step before
        (sound config world before rm run) (told_ever config world before rm run) action does w move))
        ever))

-- ---- so the accepted writes are the same

module _ (config : Config) (world : World) (history : List Step) (run : IsRun config world history) (rm : ℕ) where
  branch_writes : (x : XidParts) → stretches.writes_in (stretch_back rm x history) ≡ accepted_writes rm x history
  branch_writes x = by (stretch_back rm x history) (stretch_ever config world history run rm x)
    where
      by : (s : Option StretchParts) → IsStretch (filter_map (done_at rm x) history) s
          → stretches.writes_in s ≡ accepted_writes rm x history
      by None is = sym (ap reverse is.1)
      by (Some s) is = is

  pub writes_same : (tx : TxParts) → writes_at (stretches_back history) rm tx ≡ writes_of rm history tx
  writes_same tx = by (xid_at tx rm)
    where
      by : (o : Option XidParts) → stretches.writes_in (option_and_then (λ x. stretch_back rm x history) o)
          ≡ option_map_or (λ x. accepted_writes rm x history) o []
      by None = refl
      by (Some x) = branch_writes x

  pub own_same : (x : XidParts) (key : List ℕ)
      → own_act (stretches.writes_in (stretch_back rm x history)) key ≡ last_act_on (writes_in (actions_since_start rm x history)) key
  own_same x key =
      ap (λ (ws : List Touched). last_act_on (reverse ws) key) (branch_writes x)
      ∙ ap (λ (ws : List Touched). last_act_on ws key) (reverse-reverse (writes_in (actions_since_start rm x history)))
