-- A client call of a resource manager is the machine's.
-- Needed by 6 functions of this crate; crate cluster_run.
use Rattle.std.proofs.Common.{◌≡◌, ◌≢◌, ◌∙◌, inl, inr, ℕ, Bool, true, false, not, ◌&&◌, if◌then◌else◌, cond, List, [], ◌∷◌, ◌++◌, map}
use Rattle.std.proofs.Common.{Option, Some, None, refl, sym, ap, subst}
use Rattle.std.specs.Prelude.{filter_map, option_map, Result, Ok, Err, IfOk}
use Rattle.std.specs.Bool.{Decides}
use Rattle.std.specs.List.{cons_option}
use Rattle.std.proofs.lemmas.Bool.{cond_both, and_parts, and_from, both_ways, false_from_ne_true, not-true, not_from_false}
use Rattle.std.proofs.lemmas.Bool.Decides.{same_from_decides}
use Rattle.xid.specs.Names.{XidParts, xid_eq}
use Rattle.xid.specs.Transactions.{xid_at}
use Rattle.xid.proofs.Deciding.{xid_self, xid_decides}
use Rattle.ballot.specs.Greatest.{IsIn}
use Rattle.stable_record.specs.declared.fact.FactKind.{FactKind as Fact}
use Rattle.protocol.specs.declared.answers.Answer.{Answer}
use Rattle.protocol.specs.declared.requests.Action.{Action}
use Rattle.protocol.specs.declared.requests.Action.TheVariants.{Start, Put, Del, Get, End, EndFail, Rollback}
use Rattle.protocol.specs.declared.rows.Row.{Row}
use Rattle.protocol.specs.declared.states.BranchState.{BranchState}
use Rattle.protocol.specs.Branches.{BranchView, no_branch, hinders, call_answer, is_done}
use Rattle.protocol.specs.Effects.{Config}
use Rattle.protocol.specs.Facts.{Bound, bound_branches}
use Rattle.protocol.specs.Holds.{AreNamedOnce}
use Rattle.protocol.specs.Managers.{Branch, view_by, view_named, is_hindered, branch_after, branches_without, after_call, named_answer}
use Rattle.protocol.specs.Nodes.{first_rows}
use Rattle.protocol.specs.Tables.{table}
use Rattle.protocol.proofs.DoneCalls.{IsReadyFor, ready}
use Rattle.protocol.proofs.Lists.{any_found, found_any, IsIn-mapped, IsIn-push}
use Rattle.protocol.proofs.Manager.Apart.{bound_named, call_apart, without_some}
use Rattle.protocol.proofs.Manager.Keys.{changed_name}
use Rattle.protocol.proofs.Manager.Prepared.{names_held_once}
use Rattle.branch_table.specs.Admission.{end_action}
use Rattle.branch_table.specs.OneCall.{IsHindered, Answers}
use Rattle.branch_table.specs.declared.table.Ending.{Ending}
use Rattle.branch_table.specs.declared.table.Ending.TheVariants as endings
use Rattle.branch_table.specs.TableStates.{TableState, Steps, branch_named, branch_done, branch_left}
use Rattle.branch_table.proofs.Views.{none_hinders}
use Rattle.branch_table.proofs.Found.{view_or_none, view_of_named}
use Rattle.resource_manager.specs.SpentNames.{is_spent_in}
use Rattle.resource_manager.specs.Managers.{ManagerParts, StandsFor, IsCall, branches_in, call_effect}
use Rattle.resource_manager.proofs.Named.{named_own, named_in}

-- ---- who hinders

module _ (test : BranchView → Bool) (none : test no_branch ≡ false) (bs : List Branch) (x : XidParts) (once : AreNamedOnce bs) where
  abbrev is_other : Branch → Bool
  is_other b = not (xid_eq b.xid x) && test (view_by b.state b.keys)

  hindered_by : is_hindered test bs x ≡ true → IsHindered test (view_named bs) x
  hindered_by e =
      let found = any_found is_other bs e in
      let b = found.element in
      let parts = and_parts (not (xid_eq b.xid x)) (test (view_by b.state b.keys)) found.passes in (
        b.xid,
        λ same. both_ways (xid_eq b.xid x) (not-true (xid_eq b.xid x) parts.0) ((xid_decides b.xid x).1 same),
        ap test (view_of_named bs b.xid ∙ ap view_or_none (named_own bs b once found.among)) ∙ parts.1,
      )

  hindered_to : IsHindered test (view_named bs) x → is_hindered test bs x ≡ true
  hindered_to is = by (branch_named bs is.0) refl
    where
      by : (o : Option Branch) → branch_named bs is.0 ≡ o → is_hindered test bs x ≡ true
      by None e = absurd (both_ways (test no_branch) none (sym (ap test (view_of_named bs is.0 ∙ ap view_or_none e)) ∙ is.2))
      by (Some b) e =
          let found = named_in bs is.0 b e in
          found_any is_other bs b found.0
          (and_from (not (xid_eq b.xid x)) (test (view_by b.state b.keys))
          (not_from_false (xid_eq b.xid x) (false_from_ne_true (xid_eq b.xid x)
          (λ f. is.1 (sym found.1 ∙ (xid_decides b.xid x).0 f))))
          (sym (ap test (view_of_named bs is.0 ∙ ap view_or_none e)) ∙ is.2))

  -- whether a branch is hindered is what the views say
  pub busy_decides : Decides (is_hindered test bs x) (IsHindered test (view_named bs) x)
  busy_decides = (hindered_by, hindered_to)

-- ---- prepared branches stand first

abbrev prepared_in : ℕ → List Bound → List Branch
prepared_in rm bounds =
    filter_map (λ one. option_map (λ x. record { xid = x; state = BranchState.Prepared; keys = one.keys }) (xid_at one.tx rm)) bounds

bound_prepared : (one : Bound) (o : Option XidParts) (rest : List Branch) → ((b : Branch) → IsIn rest b → b.state ≡ BranchState.Prepared)
    → (b : Branch)
    → IsIn (cons_option (option_map (λ (x : XidParts). record { xid = x; state = BranchState.Prepared; keys = one.keys }) o) rest) b
    → b.state ≡ BranchState.Prepared
bound_prepared one None rest are b h = are b h
bound_prepared one (Some x) rest are b (inl e) = ap (λ (c : Branch). c.state) (sym e)
bound_prepared one (Some x) rest are b (inr h) = are b h

all_prepared : (rm : ℕ) (bounds : List Bound) (b : Branch) → IsIn (prepared_in rm bounds) b → b.state ≡ BranchState.Prepared
all_prepared rm [] b h = absurd h
all_prepared rm (one ∷ bounds) b h = bound_prepared one (xid_at one.tx rm) (prepared_in rm bounds) (all_prepared rm bounds) b h

-- the first of two
abbrev first : Option Branch → Option Branch → Option Branch
first None later = later
first (Some b) later = Some b

first_by : (b : Branch) (o rest later : Option Branch) (t : Bool) → o ≡ first rest later → cond t (Some b) o ≡ first (cond t
    (Some b) rest) later
first_by b o rest later true e = refl
first_by b o rest later false e = e

pub named_append : (ps bs : List Branch) (x : XidParts) → branch_named (ps ++ bs) x ≡ first (branch_named ps x) (branch_named bs x)
named_append [] bs x = refl
named_append (p ∷ ps) bs x =
    first_by p (branch_named (ps ++ bs) x) (branch_named ps x) (branch_named bs x) (xid_eq p.xid x) (named_append ps bs x)

-- ---- what a call that is done leaves of the branches

module _ (x : XidParts) where
  -- without the branch of a name
  gone_own : (bs : List Branch) → branch_named (branches_without bs x) x ≡ None
  gone_own [] = refl
  gone_own (b ∷ bs) =
      cond_both (not (xid_eq b.xid x)) (b ∷ branches_without bs x) (branches_without bs x) (λ (cs : List Branch). branch_named cs x ≡ None)
      (λ kept. ap (λ (t : Bool). cond t (Some b) (branch_named (branches_without bs x) x)) (not-true (xid_eq b.xid x) kept) ∙ gone_own bs)
      (λ cut. gone_own bs)

  gone_other : (y : XidParts) → y ≢ x → (bs : List Branch) → branch_named (branches_without bs x) y ≡ branch_named bs y
  gone_other y apart [] = refl
  gone_other y apart (b ∷ bs) =
      cond_both (not (xid_eq b.xid x)) (b ∷ branches_without bs x) (branches_without bs x)
      (λ (cs : List Branch). branch_named cs y ≡ branch_named (b ∷ bs) y)
      (λ kept. ap (cond (xid_eq b.xid y) (Some b)) (gone_other y apart bs))
      (λ cut.
      let away : xid_eq b.xid y ≡ false = false_from_ne_true (xid_eq b.xid y)
      (λ f. apart (sym ((xid_decides b.xid y).0 f) ∙ (xid_decides b.xid x).0 (unnot (xid_eq b.xid x) cut))) in
      gone_other y apart bs ∙ sym (ap (λ (t : Bool). cond t (Some b) (branch_named bs y)) away))
    where
      unnot : (t : Bool) → not t ≡ false → t ≡ true
      unnot true e = refl
      unnot false e = absurd (cc (e))

  module _ (action : Action) where
    abbrev step : Branch → Branch
    step b = if xid_eq b.xid x then branch_after action b else b

    step_name : (b : Branch) → (step b).xid ≡ b.xid
    step_name b = cond_both (xid_eq b.xid x) _ _ (λ (c : Branch). c.xid ≡ b.xid) (λ own. changed_name action b) (λ other. refl)

    mapped_by : (b : Branch) (o rest : Option Branch) (t u : Bool) → t ≡ u → o ≡ option_map step rest
        → cond t (Some (step b)) o ≡ option_map step (cond u (Some b) rest)
    mapped_by b o rest true true e f = refl
    mapped_by b o rest false false e f = f
    mapped_by b o rest true false e f = absurd (cc (e))
    mapped_by b o rest false true e f = absurd (cc (e))

    mapped : (bs : List Branch) (y : XidParts) → branch_named (map step bs) y ≡ option_map step (branch_named bs y)
    mapped [] y = refl
    mapped (b ∷ bs) y =
        mapped_by b (branch_named (map step bs) y) (branch_named bs y) (xid_eq (step b).xid y) (xid_eq b.xid y)
        (ap (λ (z : XidParts). xid_eq z y) (step_name b)) (mapped bs y)

    step_other : (bs : List Branch) (y : XidParts) → y ≢ x → (o : Option Branch) → branch_named bs y ≡ o → option_map step o ≡ o
    step_other bs y apart None e = refl
    step_other bs y apart (Some b) e =
        let other : xid_eq b.xid x ≡ false = false_from_ne_true (xid_eq b.xid x)
        (λ f. apart (sym (named_in bs y b e).1 ∙ (xid_decides b.xid x).0 f)) in
        ap (λ (t : Bool). Some (if t then branch_after action b else b)) other

    step_own : (bs : List Branch) (o : Option Branch) → branch_named bs x ≡ o → option_map step o ≡ option_map (branch_after action) o
    step_own bs None e = refl
    step_own bs (Some b) e =
        ap (λ (t : Bool). Some (if t then branch_after action b else b)) ((xid_decides b.xid x).1 (named_in bs x b e).1)

-- the branches that a call leaves which was done
pub record IsLeft (x : XidParts) (action : Action) (old new : List Branch) : Type 0 where
  pub own : branch_named new x ≡ branch_done (branch_named old x) x action
  pub others : (y : XidParts) → y ≢ x → branch_named new y ≡ branch_named old y

mapped_left : (x : XidParts) (action : Action) (bs : List Branch)
    → ((o : Option Branch) → branch_done o x action ≡ option_map (branch_after action) o) → IsLeft x action bs (map (step x action) bs)
mapped_left x action bs is = record {
  own = mapped x action bs x ∙ step_own x action bs (branch_named bs x) refl ∙ sym (is (branch_named bs x));
  others = λ y apart. mapped x action bs y ∙ step_other x action bs y apart (branch_named bs y) refl;
}

absent_name : (o : Option Branch) → (view_or_none o).state ≡ None → o ≡ None
absent_name None e = refl
absent_name (Some b) e = absurd (cc (e))

left_by : (x : XidParts) (action : Action) (bs : List Branch) → IsReadyFor action (view_named bs x).state
    → IsLeft x action bs (after_call bs x action)
left_by x Start bs none =
    let absent = absent_name (branch_named bs x) (sym (ap (λ (v : BranchView). v.state) (view_of_named bs x)) ∙ none) in
    let fresh : Branch = record { xid = x; state = BranchState.Active; keys = [] } in
    record {
      own = named_append bs (fresh ∷ []) x ∙ ap (λ (o : Option Branch). first o (branch_named (fresh ∷ []) x)) absent
          ∙ ap (λ (t : Bool). cond t (Some fresh) None) (xid_self x);
      others = λ y apart. named_append bs (fresh ∷ []) y
          ∙ ap (first (branch_named bs y))
          (ap (λ (t : Bool). cond t (Some fresh) None) (false_from_ne_true (xid_eq x y) (λ f. apart (sym ((xid_decides x y).0 f)))))
          ∙ first_none (branch_named bs y);
    }
  where
    first_none : (o : Option Branch) → first o None ≡ o
    first_none None = refl
    first_none (Some b) = refl
left_by x Rollback bs is = record { own = gone_own x bs; others = λ y apart. gone_other x y apart bs }
left_by x (Put key value) bs is = mapped_left x (Put key value) bs (λ o. refl)
left_by x (Del key) bs is = mapped_left x (Del key) bs (λ o. refl)
left_by x (Get key) bs is = mapped_left x (Get key) bs (λ o. refl)
left_by x End bs is = mapped_left x End bs (λ o. refl)
left_by x EndFail bs is = mapped_left x EndFail bs (λ o. refl)

-- no call that is done finds its branch prepared
never_prepared : (action : Action) (state : Option BranchState) → state ≡ Some BranchState.Prepared → IsReadyFor action state → ⊥
never_prepared Start state e is = absurd (cc (e, is))
never_prepared Rollback state e is = is e
never_prepared (Put key value) state e is = absurd (cc (e, is))
never_prepared (Del key) state e is = absurd (cc (e, is))
never_prepared (Get key) state e is = absurd (cc (e, is))
never_prepared End state e is = absurd (cc (e, is))
never_prepared EndFail state e is = absurd (cc (e, is))

-- the same behind the prepared branches
module _ (ps : List Branch) (prepared : (p : Branch) → IsIn ps p → p.state ≡ BranchState.Prepared) (x : XidParts) (action : Action)
    (bs : List Branch) (is : IsReadyFor action (view_named (ps ++ bs) x).state) where
  unprepared : branch_named ps x ≡ None
  unprepared = by (branch_named ps x) refl
    where
      by : (o : Option Branch) → branch_named ps x ≡ o → branch_named ps x ≡ None
      by None e = e
      by (Some p) e =
          let found = view_of_named (ps ++ bs) x
          ∙ ap view_or_none (named_append ps bs x ∙ ap (λ (o : Option Branch). first o (branch_named bs x)) e) in
          absurd (never_prepared action (view_named (ps ++ bs) x).state
          (ap (λ (v : BranchView). v.state) found ∙ ap Some (prepared p (named_in ps x p e).0)) is)

  through : (cs : List Branch) → branch_named (ps ++ cs) x ≡ branch_named cs x
  through cs = named_append ps cs x ∙ ap (λ (o : Option Branch). first o (branch_named cs x)) unprepared

  pub left_behind : IsLeft x action (ps ++ bs) (ps ++ after_call bs x action)
  left_behind =
      let view_same = view_of_named (ps ++ bs) x ∙ ap view_or_none (through bs) ∙ sym (view_of_named bs x) in
      let left = left_by x action bs (subst (λ (v : BranchView). IsReadyFor action v.state) view_same is) in
      record {
        own = through (after_call bs x action) ∙ left.own ∙ ap (λ (o : Option Branch). branch_done o x action) (sym (through bs));
        others = λ y apart.
            named_append ps (after_call bs x action) y ∙ ap (first (branch_named ps y)) (left.others y apart) ∙ sym (named_append ps bs y);
      }

-- ---- no call prepares a branch

changed_state : (action : Action) (b : Branch) → b.state ≢ BranchState.Prepared → (branch_after action b).state ≢ BranchState.Prepared
changed_state (Put key value) b is = is
changed_state (Del key) b is = is
changed_state (Get key) b is = is
changed_state End b is = λ e. absurd (cc (e))
changed_state EndFail b is = λ e. absurd (cc (e))
changed_state Start b is = is
changed_state Rollback b is = is

module _ (x : XidParts) where
  stepped_state : (action : Action) (bs : List Branch) → ((b : Branch) → IsIn bs b → b.state ≢ BranchState.Prepared) → (b : Branch)
      → IsIn (map (step x action) bs) b → b.state ≢ BranchState.Prepared
  stepped_state action bs are b h =
      let from = IsIn-mapped (step x action) bs b h in
      subst (λ (c : Branch). c.state ≢ BranchState.Prepared) from.maps
      (cond_both (xid_eq (from.source).xid x) (branch_after action from.source) from.source (λ (c : Branch). c.state ≢ BranchState.Prepared)
      (λ own. changed_state action from.source (are from.source from.among)) (λ other. are from.source from.among))

  unprepared_after : (action : Action) (bs : List Branch) → ((b : Branch) → IsIn bs b → b.state ≢ BranchState.Prepared) → (b : Branch)
      → IsIn (after_call bs x action) b → b.state ≢ BranchState.Prepared
  unprepared_after Start bs are b h =
      elim (IsIn-push bs (record { xid = x; state = BranchState.Active; keys = [] }) b h) [
        | inl old ↦ are b old
        | inr e ↦ λ p. let active : BranchState.Active ≡ BranchState.Prepared = ap (λ (c : Branch). c.state) e ∙ p in absurd (cc (active))
      ]
  unprepared_after Rollback bs are b h = are b (without_some bs x b h)
  unprepared_after (Put key value) bs are b h = stepped_state (Put key value) bs are b h
  unprepared_after (Del key) bs are b h = stepped_state (Del key) bs are b h
  unprepared_after (Get key) bs are b h = stepped_state (Get key) bs are b h
  unprepared_after End bs are b h = stepped_state End bs are b h
  unprepared_after EndFail bs are b h = stepped_state EndFail bs are b h

-- ---- a call

-- the answer of a call is that of the table of client calls
abbrev pub IsNamed : ManagerParts → XidParts → Action → Type 0
IsNamed m x action = (rows : List Row) (view : BranchView) (busy : Bool)
    → named_answer (is_spent_in m.spent x) rows view busy action ≡ call_answer rows view busy action

-- of a call that isn't start, whether its name is spent or not
pub put_named : (spent : Bool) (key value : List ℕ) (rows : List Row) (view : BranchView) (busy : Bool)
    → named_answer spent rows view busy (Put key value) ≡ call_answer rows view busy (Put key value)
put_named true key value rows view busy = refl
put_named false key value rows view busy = refl

-- a delete by name is answered as one by its view
pub del_named : (spent : Bool) (key : List ℕ) (rows : List Row) (view : BranchView) (busy : Bool)
    → named_answer spent rows view busy (Del key) ≡ call_answer rows view busy (Del key)
del_named true key rows view busy = refl
del_named false key rows view busy = refl

-- so is a get
pub get_named : (spent : Bool) (key : List ℕ) (rows : List Row) (view : BranchView) (busy : Bool)
    → named_answer spent rows view busy (Get key) ≡ call_answer rows view busy (Get key)
get_named true key rows view busy = refl
get_named false key rows view busy = refl

pub end_named : (spent : Bool) (rows : List Row) (view : BranchView) (busy : Bool)
    → named_answer spent rows view busy End ≡ call_answer rows view busy End
end_named true rows view busy = refl
end_named false rows view busy = refl

pub fail_named : (spent : Bool) (rows : List Row) (view : BranchView) (busy : Bool)
    → named_answer spent rows view busy EndFail ≡ call_answer rows view busy EndFail
fail_named true rows view busy = refl
fail_named false rows view busy = refl

-- a rollback
pub rollback_named : (spent : Bool) (rows : List Row) (view : BranchView) (busy : Bool)
    → named_answer spent rows view busy Rollback ≡ call_answer rows view busy Rollback
rollback_named true rows view busy = refl
rollback_named false rows view busy = refl

-- and a start of a name that isn't spent
pub start_named : (spent : Bool) → spent ≡ false → (rows : List Row) (view : BranchView) (busy : Bool)
    → named_answer spent rows view busy Start ≡ call_answer rows view busy Start
start_named true e rows view busy = absurd (cc (e))
start_named false e rows view busy = refl

abbrev with_table : ManagerParts → TableState → ManagerParts
with_table m t = record { number = m.number; managers = m.managers; courses = m.courses; spent = m.spent; table = t }

module _ (config : Config) (number : ℕ) (m : ManagerParts) (now : TableState) (x : XidParts) (action : Action) (answer : Answer)
    (named : IsNamed m x action) (steps : Steps m.table now x action answer) where
  module _ (facts : List Fact) (branches : List Branch) (stands : StandsFor config number m facts branches) where
    abbrev rows : List Row
    rows = table (first_rows config number) facts

    abbrev all : List Branch
    all = branches_in number facts branches

    once : AreNamedOnce all
    once = names_held_once config number facts branches stands.played stands.apart

    views : view_named m.table.branches ≡ view_named all
    views = λ i y. (view_of_named m.table.branches y ∙ ap view_or_none (stands.branches_are y) ∙ sym (view_of_named all y)) i

    answers : Answers rows (view_named all) x action answer
    answers =
        subst (λ at. Answers rows at x action answer) views
        (subst (λ rs. Answers rs (view_named m.table.branches) x action answer) stands.rows_are steps.answers)

    answer_is : answer ≡ (call_effect config number facts branches x action).answer
    answer_is =
        answers.2
        ∙ ap (λ (b : Bool). call_answer rows (view_named all x) b action)
        (same_from_decides _ _ answers.1 (busy_decides (hinders action) (none_hinders action) all x once))
        ∙ sym (named rows (view_named all x) (is_hindered (hinders action) all x))
        ∙ ap (λ (s : Bool). named_answer s rows (view_named all x) (is_hindered (hinders action) all x) action) (sym (stands.spent_are x))

    abbrev after : List Branch
    after = (call_effect config number facts branches x action).memory

    abbrev given : Answer
    given = (call_effect config number facts branches x action).answer

    -- what is left of all branches
    abbrev IsCallLeft : List Branch → Type 0
    IsCallLeft new = (branch_left (branch_named all x) x action given ≡ branch_named (branches_in number facts new) x)
        × ((y : XidParts) → y ≢ x → branch_named all y ≡ branch_named (branches_in number facts new) y)

    call_left : IsCallLeft after
    call_left = cond_both (is_done action given) (after_call branches x action) branches IsCallLeft
        (λ done.
        let is = ready rows (view_named all x) (is_hindered (hinders action) all x) action
        (ap (is_done action) (sym (named rows (view_named all x) (is_hindered (hinders action) all x))
        ∙ ap (λ (s : Bool). named_answer s rows (view_named all x) (is_hindered (hinders action) all x) action) (sym (stands.spent_are x)))
        ∙ done) in
        let left = left_behind (prepared_in number (bound_branches facts)) (all_prepared number
        (bound_branches facts)) x action branches is in (
          ap (λ (t : Bool). if t then branch_done (branch_named all x) x action else branch_named all x) done ∙ sym left.own,
          λ y apart. sym (left.others y apart),
        ))
        (λ undone. (
          ap (λ (t : Bool). if t then branch_done (branch_named all x) x action else branch_named all x) undone,
          λ y apart. refl,
        ))

    unprepared_then : (b : Branch) → IsIn after b → b.state ≢ BranchState.Prepared
    unprepared_then =
        cond_both (is_done action given) (after_call branches x action) branches
        (λ (bs : List Branch). (b : Branch) → IsIn bs b → b.state ≢ BranchState.Prepared)
        (λ done. unprepared_after x action branches stands.unprepared) (λ undone. stands.unprepared)

    each_branch : (y : XidParts) (t : Bool) → xid_eq y x ≡ t → branch_named now.branches y ≡ branch_named (branches_in number facts after) y
    each_branch y true e =
        let same = (xid_decides y x).0 e in
        ap (branch_named now.branches) same ∙ steps.branches.own
        ∙ (λ i. branch_left (stands.branches_are x i) x action (answer_is i)) ∙ call_left.0
        ∙ ap (branch_named (branches_in number facts after)) (sym same)
    each_branch y false e =
        let other : y ≢ x = λ f. both_ways (xid_eq y x) e ((xid_decides y x).1 f) in
        steps.branches.others y other ∙ stands.branches_are y ∙ call_left.1 y other

    stands_after : StandsFor config number (with_table m now) facts after
    stands_after = record {
      number_is = stands.number_is;
      managers_are = stands.managers_are;
      played = stands.played;
      apart = call_apart number facts branches x stands.apart (bound_named config number facts stands.played)
          (first_rows config number) action;
      unprepared = unprepared_then;
      stored_are = stands.stored_are;
      begun_are = stands.begun_are;
      spent_are = stands.spent_are;
      rows_are = steps.rows ∙ stands.rows_are;
      branches_are = λ y. each_branch y (xid_eq y x) refl;
    }

  pub is_call : IsCall config number m (with_table m now) x action answer
  is_call = record { answers = answer_is; stands = stands_after }

-- a step of the table is the call of the machine
pub called : (m old : ManagerParts) (now : TableState) (x : XidParts) (action : Action) (answer : Answer) → m ≡ old → IsNamed m x action
    → Steps m.table now x action answer → (config : Config) (number : ℕ) → IsCall config number old (with_table m now) x action answer
called m old now x action answer e named steps config number =
    subst (λ (o : ManagerParts). IsCall config number o (with_table m now) x action answer) e
    (is_call config number m now x action answer named steps)

-- a call that may lack memory
pub called_ok : {E : Type 0} (r : Result Answer E) (m old : ManagerParts) (now : TableState) (x : XidParts) (action : Action) → m ≡ old
    → IsNamed m x action → IfOk r (λ answer. Steps m.table now x action answer)
    → IfOk r (λ answer. (config : Config) (number : ℕ) → IsCall config number old (with_table m now) x action answer)
called_ok (Ok answer) m old now x action e named steps = called m old now x action answer e named steps
called_ok (Err refusal) m old now x action e named steps = tt

-- the ways to end
pub ending_named : (ending : Ending) (spent : Bool) (rows : List Row) (view : BranchView) (busy : Bool)
    → named_answer spent rows view busy (end_action ending) ≡ call_answer rows view busy (end_action ending)
ending_named endings.Success spent = end_named spent
ending_named endings.Fail spent = fail_named spent
