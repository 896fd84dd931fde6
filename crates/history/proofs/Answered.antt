-- What a manager that is up answers is what looking back says.
-- Needed by Laws; crate cluster_run.
use Rattle.std.proofs.Common.{◌≡◌, inl, inr, ◌∙◌, ℕ, Bool, true, false, not, ◌&&◌, ◌==◌, if◌then◌else◌, List, []}
use Rattle.std.proofs.Common.{◌∷◌, Option, Some, None, refl, sym, ap, subst}
use Rattle.std.specs.Prelude.{filter_map}
use Rattle.std.specs.List.{cons_option, take_while}
use Rattle.std.specs.Option.{option_map_or}
use Rattle.std.proofs.lemmas.Bool.{cond_both, and_from, and_parts, both_ways, not-true}
use Rattle.std.proofs.lemmas.List.Sums.{take_while-cons}
use Rattle.xid.specs.Names.{XidParts, xid_eq}
use Rattle.xid.specs.Transactions.{TxParts}
use Rattle.xid.proofs.Deciding.{xid_decides, xid_apart}
use Rattle.safety.specs.Vocabulary.{R, BranchState, Event, Answer, Action, Start, Put, Del, Get, End, EndFail, Rollback, Call, Ask, Step}
use Rattle.safety.specs.Vocabulary.{Row, Request, Recover, Timeout, A, L}
use Rattle.protocol.specs.Branches.{is_done, hinders}
use Rattle.protocol.specs.Effects.{Config}
use Rattle.protocol.specs.Facts.{bound_branches}
use Rattle.protocol.specs.Managers.{Branch, all_branches, view_by, view_named, is_hindered, named_answer, stored_votes, on_call}
use Rattle.protocol.specs.Nodes.{NodeState}
use Rattle.protocol.specs.Tables.{table}
use Rattle.branch_table.specs.OneCall.{view_in_state}
use Rattle.branch_table.proofs.Views.{view_of, none_hinders, hindered_to}
use Rattle.protocol.specs.Holds.{IsIn}
use Rattle.protocol.proofs.Lists.{any_found, found_any, filter_map_given, filter_map_gives}
use Rattle.protocol.proofs.Manager.Prepared.{names_held_once}
use Rattle.history.specs.Calls.{call_done}
use Rattle.history.specs.LookingBack.{branch_by, done_at, ends_at, actions_since, is_vote_at, before_vote, prepared_in, branch_back}
use Rattle.history.specs.LookingBack.{called_name, is_hindered_back, answer_back}
use Rattle.history.proofs.Moves.{branches_of}
use Rattle.history.proofs.Told.{IsSound, IsTold, own_shows}
use Rattle.history.proofs.Shown.{shown_back}

-- ---- a branch that hinders was called

-- an action that was done in a branch was called there
call_named : (rm : ℕ) (y : XidParts) (event : Event) (answer : Answer) (action : Action) → call_done rm y event answer ≡ Some action
    → called_name rm event ≡ Some y
call_named rm y (Ask (R q) (Call z act)) answer action e = by_tests (is_done act answer) (q == rm) (xid_eq z y) refl e
  where
    by_tests : (done here own : Bool) → xid_eq z y ≡ own → (if done then if here && own then Some act else None else None) ≡ Some action
        → (if here then Some z else None) ≡ Some y
    by_tests true true true same f = ap Some ((xid_decides z y).0 same)
    by_tests true true false same f = absurd (cc (f))
    by_tests true false own same f = absurd (cc (f))
    by_tests false here own same f = absurd (cc (f))
call_named rm y (Ask (R q) Recover) answer action e = absurd (cc (e))
call_named rm y (Ask (R q) (Timeout tx)) answer action e = absurd (cc (e))
call_named rm y (Ask (R q) (Request.View tx)) answer action e = absurd (cc (e))
call_named rm y (Ask (R q) (Request.Commit tx)) answer action e = absurd (cc (e))
call_named rm y (Ask (R q) (Request.Status tx)) answer action e = absurd (cc (e))
call_named rm y (Ask (A a) request) answer action e = absurd (cc (e))
call_named rm y (Ask (L l) request) answer action e = absurd (cc (e))
call_named rm y event answer action e = absurd (cc (e))

taken_among : {X : Type 0} (p : X → Bool) (xs : List X) (x : X) → IsIn (take_while p xs) x → IsIn xs x
taken_among p [] x h = absurd h
taken_among p (y ∷ ys) x h =
    cond_both (p y) (y ∷ take_while p ys) [] (λ (zs : List _). IsIn zs x → IsIn (y ∷ ys) x)
    (λ passes k. elim k [ inl e ↦ inl e | inr rest ↦ inr (taken_among p ys x rest) ]) (λ fails k. absurd k)
    (subst (λ (zs : List _). IsIn zs x) (take_while-cons p y ys) h)

-- the names that were called at rm
abbrev pub names_called : ℕ → List Step → List XidParts
names_called rm before = filter_map (λ (step : Step). called_name rm step.event) before

action_called : (rm : ℕ) (y : XidParts) (before : List Step) (action : Action) → IsIn (actions_since rm y before) action
    → IsIn (names_called rm before) y
action_called rm y before action h =
    let given = filter_map_given (done_at rm y) (take_while (λ (step : Step). not (ends_at rm y step)) before) action h in
    filter_map_gives (λ (step : Step). called_name rm step.event) before given.source y
    (taken_among (λ (step : Step). not (ends_at rm y step)) before given.source given.among)
    (call_named rm y given.source.event given.source.answer action given.gives)

called_before : (rm : ℕ) (tx : TxParts) (y : XidParts) (before : List Step) → IsIn (names_called rm (before_vote rm tx before)) y
    → IsIn (names_called rm before) y
called_before rm tx y [] h = absurd h
called_before rm tx y (step ∷ before) h =
    more (called_name rm step.event)
    (cond_both (is_vote_at rm tx step) before (before_vote rm tx before)
    (λ (hs : List Step). IsIn (names_called rm hs) y → IsIn (names_called rm before) y) (λ vote k. k)
    (λ other k. called_before rm tx y before k) h)
  where
    more : (o : Option XidParts) → IsIn (names_called rm before) y → IsIn (cons_option o (names_called rm before)) y
    more None k = k
    more (Some z) k = inr k

module _ (action : Action) where
  nothing_hinders : (state : BranchState) → (hinders action (branch_by []) ≡ false)
      × (hinders action (view_in_state (branch_by []) state) ≡ false)
  nothing_hinders state = by_action action
    where
      by_action : (a : Action) → (hinders a (branch_by []) ≡ false) × (hinders a (view_in_state (branch_by []) state) ≡ false)
      by_action Start = (refl, refl)
      by_action (Put key value) = (refl, refl)
      by_action (Del key) = (refl, refl)
      by_action (Get key) = (refl, refl)
      by_action End = (refl, refl)
      by_action EndFail = (refl, refl)
      by_action Rollback = (refl, refl)

  -- where there are actions, there is one
  some_action : (actions : List Action) → (hinders action (branch_by actions) ≡ true) → (a : Action) × IsIn actions a
  some_action [] e = absurd (both_ways _ (nothing_hinders BranchState.Prepared).0 e)
  some_action (a ∷ actions) e = (a, inl refl)

  some_voted : (actions : List Action) → (hinders action (view_in_state (branch_by actions) BranchState.Prepared) ≡ true)
      → (a : Action) × IsIn actions a
  some_voted [] e = absurd (both_ways _ (nothing_hinders BranchState.Prepared).1 e)
  some_voted (a ∷ actions) e = (a, inl refl)

  pub hinderer_called : (rm : ℕ) (y : XidParts) (before : List Step) → hinders action (branch_back rm before y) ≡ true
      → IsIn (names_called rm before) y
  hinderer_called rm y before e = by_bound (prepared_in rm before y) e
    where
      by_bound : (o : Option TxParts) → hinders action (option_map_or
          (λ tx. view_in_state (branch_by (actions_since rm y (before_vote rm tx before))) BranchState.Prepared) o
          (branch_by (actions_since rm y before))) ≡ true → IsIn (names_called rm before) y
      by_bound None f =
          let one = some_action (actions_since rm y before) f in action_called rm y before one.0 one.1
      by_bound (Some tx) f =
          let one = some_voted (actions_since rm y (before_vote rm tx before)) f in
          called_before rm tx y before (action_called rm y (before_vote rm tx before) one.0 one.1)

-- ---- the answer of a call

pub same_tests : (a b : Bool) → (a ≡ true → b ≡ true) → (b ≡ true → a ≡ true) → a ≡ b
same_tests true b there back = sym (there refl)
same_tests false true there back = back refl
same_tests false false there back = refl

module _ (config : Config) (rm : ℕ) (node : NodeState) (before : List Step) (sound : IsSound config rm node)
    (told : IsTold rm node before) (up : node.up ≡ true) (x : XidParts) (action : Action) where
  abbrev all : List Branch
  all = all_branches rm (bound_branches node.facts) (branches_of node)

  shown : (y : XidParts) → view_named all y ≡ branch_back rm before y
  shown y = shown_back config rm node before sound told up y

  abbrev is_other : XidParts → Bool
  is_other other = not (xid_eq other x) && hinders action (branch_back rm before other)

  to_back : is_hindered (hinders action) all x ≡ true → is_hindered_back rm before x action ≡ true
  to_back e =
      let found = any_found (λ (b : Branch). not (xid_eq b.xid x) && hinders action (view_by b.state b.keys)) all e in
      let b = found.element in
      let parts = and_parts (not (xid_eq b.xid x)) (hinders action (view_of b)) found.passes in
      let once = names_held_once config rm node.facts (branches_of node) sound.played sound.apart in
      let hindering = ap (hinders action) (sym (shown b.xid) ∙ own_shows all b once found.among) ∙ parts.1 in
      found_any is_other (names_called rm before) b.xid (hinderer_called action rm b.xid before hindering)
      (and_from (not (xid_eq b.xid x)) (hinders action (branch_back rm before b.xid)) parts.0 hindering)

  from_back : is_hindered_back rm before x action ≡ true → is_hindered (hinders action) all x ≡ true
  from_back e =
      let found = any_found is_other (names_called rm before) e in
      let y = found.element in
      let parts = and_parts (not (xid_eq y x)) (hinders action (branch_back rm before y)) found.passes in
      hindered_to (hinders action) (none_hinders action) all x y (xid_apart y x (not-true (xid_eq y x) parts.0))
      (ap (hinders action) (shown y) ∙ parts.1)

  hindered_back : is_hindered (hinders action) all x ≡ is_hindered_back rm before x action
  hindered_back = same_tests _ _ to_back from_back

  pub answered_back : (first : List Row)
      → (on_call rm (stored_votes rm node.facts) (table first node.facts) (branches_of node) x action).answer
      ≡ answer_back (table first node.facts) rm before x action
  answered_back first = λ i. named_answer (told.spent x i) (table first node.facts) (shown x i) (hindered_back i) action
