-- Lists of steps that say the same where one looks back over them: the steps of a run with floors, and those of the machine's run to the
-- same nodes. A step of one of them that the other hasn't is quiet: it does nothing that is looked back at.
use Rattle.std.proofs.Common.{◌≡◌, ◌∙◌, ℕ, Bool, true, false, not, ◌&&◌, ◌||◌, if◌then◌else◌, List, [], ◌∷◌, ◌++◌, map, Option, Some, None}
use Rattle.std.proofs.Common.{refl, sym, ap, subst}
use Rattle.std.proofs.Math.Path.{fun_ext}
use Rattle.std.specs.Prelude.{filter_map, filter, find, fold, reverse}
use Rattle.std.specs.List.{cons_option, take_while}
use Rattle.std.specs.Option.{option_map_or, option_and_then}
use Rattle.std.proofs.lemmas.List.Sums.{take_while-cons}
use Rattle.xid.specs.Names.{XidParts}
use Rattle.xid.specs.Transactions.{TxParts, tx_eq, xid_at}
use Rattle.protocol.specs.declared.events.Change.{Change}
use Rattle.safety.specs.Vocabulary.{Action, Row, Step, View}
use Rattle.protocol.specs.Branches.{no_branch}
use Rattle.protocol.specs.Facts.{is_prepared_view}
use Rattle.protocol.specs.Tables.{put_row, with_writes}
use Rattle.history.specs.Calls.{is_restart}
use Rattle.history.specs.Lines.{change_here, change_at, changes_at, view_back}
use Rattle.history.specs.LookingBack.{done_at, is_name_at, is_rollback, ends_at, actions_since, is_vote_at, before_vote, prepared_in}
use Rattle.history.specs.LookingBack.{branch_by, is_start, writes_in}
use Rattle.history.specs.SerialOrder.{commit_said, with_commit, first_commits, committed_at, voted_branch, serial_table}
use Rattle.history.specs.Writes.{actions_since_start, accepted_writes, writes_of, is_committed_view, changed_to, commit_order, table_back}

-- a step that changes no view, in which no call was done, and which is no restart
pub record IsQuiet (step : Step) : Type 0 where
  pub now : step.now ≡ None
  pub done : (rm : ℕ) (x : XidParts) → done_at rm x step ≡ None
  pub restart : (rm : ℕ) → is_restart rm step.event step.answer ≡ false
  pub sent : step.sent ≡ []

-- the steps that are shown, and those of the machine
pub data Alike : List Step → List Step → Type 0 where
  Nothing : Alike [] []
  Both : (step : Step) (shown machine : List Step) → Alike shown machine → Alike (step ∷ shown) (step ∷ machine)
  Shown : (step : Step) (shown machine : List Step) → IsQuiet step → Alike shown machine → Alike (step ∷ shown) machine
  Hidden : (step : Step) (shown machine : List Step) → IsQuiet step → Alike shown machine → Alike shown (step ∷ machine)

-- ---- one function after another

quiet_change : (rm : ℕ) (step : Step) → IsQuiet step → change_at rm step ≡ None
quiet_change rm step quiet = ap (option_and_then (change_here rm)) quiet.now

module _ {X : Type 0} (f : Step → Option X) (none : (step : Step) → IsQuiet step → f step ≡ None) where
  -- what is read off single steps, and not off quiet ones
  pub same_read : (shown machine : List Step) → Alike shown machine → filter_map f shown ≡ filter_map f machine
  same_read _ _ Nothing = refl
  same_read _ _ (Both step shown machine alike) = ap (cons_option (f step)) (same_read shown machine alike)
  same_read _ _ (Shown step shown machine quiet alike) =
      ap (λ (o : Option X). cons_option o (filter_map f shown)) (none step quiet) ∙ same_read shown machine alike
  same_read _ _ (Hidden step shown machine quiet alike) =
      same_read shown machine alike ∙ sym (ap (λ (o : Option X). cons_option o (filter_map f machine)) (none step quiet))

module _ (rm : ℕ) where
  pub same_changes : (shown machine : List Step) → Alike shown machine → changes_at rm shown ≡ changes_at rm machine
  same_changes shown machine alike = same_read (change_at rm) (quiet_change rm) shown machine alike

  pub same_view : (shown machine : List Step) → Alike shown machine → (tx : TxParts) → view_back rm shown tx ≡ view_back rm machine tx
  same_view shown machine alike tx =
      ap (λ (changes : List Change). option_map_or (λ change. change.view) (find (λ change. tx_eq tx change.tx) changes) View.Working)
      (same_changes shown machine alike)

  module _ (x : XidParts) where
    pub same_done : (shown machine : List Step) → Alike shown machine
        → filter_map (done_at rm x) shown ≡ filter_map (done_at rm x) machine
    same_done shown machine alike = same_read (done_at rm x) (λ step quiet. quiet.done rm x) shown machine alike

    -- a quiet step ends nothing
    quiet_goes_on : (step : Step) → IsQuiet step → ends_at rm x step ≡ false
    quiet_goes_on step quiet =
        ap (λ (b : Bool). b || option_map_or (λ change. is_name_at rm x change.tx) (change_at rm step) false
        || option_map_or is_rollback (done_at rm x step) false) (quiet.restart rm)
        ∙ ap (λ (o : Option Change). option_map_or (λ change. is_name_at rm x change.tx) o false
        || option_map_or is_rollback (done_at rm x step) false) (quiet_change rm step quiet)
        ∙ ap (λ (o : Option Action). option_map_or is_rollback o false) (quiet.done rm x)

    -- the actions after one step more
    abbrev after_step : Bool → Option Action → List Action → List Action
    after_step ends done actions = if ends then [] else cons_option done actions

    since_step : (step : Step) (before : List Step)
        → actions_since rm x (step ∷ before) ≡ after_step (ends_at rm x step) (done_at rm x step) (actions_since rm x before)
    since_step step before =
        ap (filter_map (done_at rm x)) (take_while-cons (λ (s : Step). not (ends_at rm x s)) step before) ∙ by_ends (ends_at rm x step)
      where
        by_ends : (ends : Bool)
            → filter_map (done_at rm x) (if not ends then step ∷ take_while (λ (s : Step). not (ends_at rm x s)) before else [])
            ≡ after_step ends (done_at rm x step) (actions_since rm x before)
        by_ends true = refl
        by_ends false = refl

    quiet_since : (step : Step) (before : List Step) → IsQuiet step → actions_since rm x (step ∷ before) ≡ actions_since rm x before
    quiet_since step before quiet =
        since_step step before
        ∙ ap (λ (b : Bool). after_step b (done_at rm x step) (actions_since rm x before)) (quiet_goes_on step quiet)
        ∙ ap (λ (o : Option Action). cons_option o (actions_since rm x before)) (quiet.done rm x)

    pub same_since : (shown machine : List Step) → Alike shown machine → actions_since rm x shown ≡ actions_since rm x machine
    same_since _ _ Nothing = refl
    same_since _ _ (Both step shown machine alike) =
        since_step step shown ∙ ap (after_step (ends_at rm x step) (done_at rm x step)) (same_since shown machine alike)
        ∙ sym (since_step step machine)
    same_since _ _ (Shown step shown machine quiet alike) = quiet_since step shown quiet ∙ same_since shown machine alike
    same_since _ _ (Hidden step shown machine quiet alike) = same_since shown machine alike ∙ sym (quiet_since step machine quiet)

    pub same_since_start : (shown machine : List Step) → Alike shown machine
        → actions_since_start rm x shown ≡ actions_since_start rm x machine
    same_since_start shown machine alike =
        ap (λ (actions : List Action). take_while (λ action. not (is_start action)) actions) (same_done shown machine alike)

    pub same_accepted : (shown machine : List Step) → Alike shown machine → accepted_writes rm x shown ≡ accepted_writes rm x machine
    same_accepted shown machine alike =
        ap (λ (actions : List Action). reverse (writes_in actions)) (same_since_start shown machine alike)

  -- ---- votes

  module _ (tx : TxParts) where
    quiet_no_vote : (step : Step) → IsQuiet step → is_vote_at rm tx step ≡ false
    quiet_no_vote step quiet =
        ap (λ (o : Option Change). option_map_or (λ change. tx_eq tx change.tx && is_prepared_view change.view) o false)
        (quiet_change rm step quiet)

    -- after a vote the steps before it, else those that are looked for
    by_vote : (vote : Bool) (shown machine earlier_shown earlier : List Step) → Alike shown machine → Alike earlier_shown earlier
        → Alike (if vote then shown else earlier_shown) (if vote then machine else earlier)
    by_vote true shown machine earlier_shown earlier here before = here
    by_vote false shown machine earlier_shown earlier here before = before

    pub alike_before : (shown machine : List Step) → Alike shown machine → Alike (before_vote rm tx shown) (before_vote rm tx machine)
    alike_before _ _ Nothing = Nothing
    alike_before _ _ (Both step shown machine alike) =
        by_vote (is_vote_at rm tx step) shown machine (before_vote rm tx shown) (before_vote rm tx machine) alike
        (alike_before shown machine alike)
    alike_before _ _ (Shown step shown machine quiet alike) =
        subst (λ (b : Bool). Alike (if b then shown else before_vote rm tx shown) (before_vote rm tx machine))
        (sym (quiet_no_vote step quiet)) (alike_before shown machine alike)
    alike_before _ _ (Hidden step shown machine quiet alike) =
        subst (λ (b : Bool). Alike (before_vote rm tx shown) (if b then machine else before_vote rm tx machine))
        (sym (quiet_no_vote step quiet)) (alike_before shown machine alike)

  -- ---- of two lists that are alike

  module _ (shown machine : List Step) (alike : Alike shown machine) where
    pub views_same : view_back rm shown ≡ view_back rm machine
    views_same = fun_ext (same_view shown machine alike)

    pub prepared_same : (x : XidParts) → prepared_in rm shown x ≡ prepared_in rm machine x
    prepared_same x =
        ap (λ (changes : List Change). find (λ tx. is_name_at rm x tx && is_prepared_view (view_back rm shown tx))
        (map (λ change. change.tx) changes)) (same_changes shown machine alike)
        ∙ ap (λ (views : TxParts → View). find (λ tx. is_name_at rm x tx && is_prepared_view (views tx))
        (map (λ change. change.tx) (changes_at rm machine))) views_same

    pub voted_actions : (x : XidParts) (tx : TxParts)
        → actions_since rm x (before_vote rm tx shown) ≡ actions_since rm x (before_vote rm tx machine)
    voted_actions x tx = same_since x (before_vote rm tx shown) (before_vote rm tx machine) (alike_before tx shown machine alike)

    pub voted_same : (tx : TxParts) → voted_branch rm shown tx ≡ voted_branch rm machine tx
    voted_same tx = by_name (xid_at tx rm)
      where
        by_name : (o : Option XidParts)
            → option_map_or (λ x. branch_by (actions_since rm x (before_vote rm tx shown))) o no_branch
            ≡ option_map_or (λ x. branch_by (actions_since rm x (before_vote rm tx machine))) o no_branch
        by_name None = refl
        by_name (Some x) = ap branch_by (voted_actions x tx)

    pub order_same : commit_order rm shown ≡ commit_order rm machine
    order_same =
        ap (λ (changes : List Change). filter_map (changed_to is_committed_view) (reverse changes)) (same_changes shown machine alike)

    writes_same : (tx : TxParts) → writes_of rm shown tx ≡ writes_of rm machine tx
    writes_same tx = by_name (xid_at tx rm)
      where
        by_name : (o : Option XidParts)
            → option_map_or (λ x. accepted_writes rm x shown) o [] ≡ option_map_or (λ x. accepted_writes rm x machine) o []
        by_name None = refl
        by_name (Some x) = same_accepted x shown machine alike

    pub serial_same : (first : List Row) (txs : List TxParts) → serial_table first rm shown txs ≡ serial_table first rm machine txs
    serial_same first txs = from (fold put_row [] first) txs
      where
        from : (rows : List Row) (txs : List TxParts)
            → fold (λ (rows : List Row) (tx : TxParts). with_writes rows (writes_of rm shown tx)) rows txs
            ≡ fold (λ (rows : List Row) (tx : TxParts). with_writes rows (writes_of rm machine tx)) rows txs
        from rows [] = refl
        from rows (tx ∷ txs) =
            from (with_writes rows (writes_of rm shown tx)) txs
            ∙ ap (λ (next : List Row). fold (λ (rows : List Row) (tx : TxParts). with_writes rows (writes_of rm machine tx)) next txs)
            (ap (with_writes rows) (writes_same tx))

    pub table_same : (first : List Row) → table_back first rm shown ≡ table_back first rm machine
    table_same first =
        serial_same first (commit_order rm shown) ∙ ap (serial_table first rm machine) order_same

-- ---- commits anywhere

pub commits_same : (shown machine : List Step) → Alike shown machine → first_commits shown ≡ first_commits machine
commits_same _ _ Nothing = refl
commits_same _ _ (Both step shown machine alike) =
    ap (λ (txs : List TxParts). option_map_or (with_commit txs) (commit_said step) txs) (commits_same shown machine alike)
commits_same _ _ (Shown step shown machine quiet alike) =
    ap (λ (o : Option Change). option_map_or (with_commit (first_commits shown))
    (option_and_then (changed_to is_committed_view) o) (first_commits shown)) quiet.now
    ∙ commits_same shown machine alike
commits_same _ _ (Hidden step shown machine quiet alike) =
    commits_same shown machine alike
    ∙ sym (ap (λ (o : Option Change). option_map_or (with_commit (first_commits machine))
    (option_and_then (changed_to is_committed_view) o) (first_commits machine)) quiet.now)

pub committed_same : (rm : ℕ) (shown machine : List Step) → Alike shown machine → committed_at rm shown ≡ committed_at rm machine
committed_same rm shown machine alike =
    ap (λ (txs : List TxParts). filter (λ tx. is_committed_view (view_back rm shown tx)) txs) (commits_same shown machine alike)
    ∙ ap (λ (views : TxParts → View). filter (λ tx. is_committed_view (views tx)) (first_commits machine))
    (views_same rm shown machine alike)

-- ---- a step in which a call was done is one of the machine's

-- where it stands there, and what stands before and after it
pub record IsAmong (later before : List Step) (step : Step) (machine : List Step) : Type 0 where
  pub newer : List Step
  pub older : List Step
  pub split : machine ≡ newer ++ step ∷ older
  pub newer_alike : Alike later newer
  pub older_alike : Alike before older

module _ (rm : ℕ) (x : XidParts) (action : Action) (step : Step) (before : List Step) (done : done_at rm x step ≡ Some action) where
  not_quiet : (other : Step) → IsQuiet other → other ≡ step → ⊥
  not_quiet other quiet same =
      let e : None ≡ Some action = sym (quiet.done rm x) ∙ ap (done_at rm x) same ∙ done in absurd (cc (e))

  newer_step : (later : List Step) (other : Step) (machine : List Step) → IsQuiet other → IsAmong later before step machine
      → IsAmong later before step (other ∷ machine)
  newer_step later other machine quiet is = record {
    newer = other ∷ is.newer;
    older = is.older;
    split = ap (λ (steps : List Step). other ∷ steps) is.split;
    newer_alike = Hidden other later is.newer quiet is.newer_alike;
    older_alike = is.older_alike;
  }

  pub found_among : (later : List Step) (shown machine : List Step) → Alike shown machine → shown ≡ later ++ step ∷ before
      → IsAmong later before step machine
  found_among [] _ _ Nothing is = absurd (cc (is))
  found_among (s ∷ later) _ _ Nothing is = absurd (cc (is))
  found_among [] _ _ (Both other shown machine alike) is =
      let head : other ≡ step = cc (is) in
      let tail : shown ≡ before = cc (is) in
      record {
        newer = [];
        older = machine;
        split = ap (λ (s : Step). s ∷ machine) head;
        newer_alike = Nothing;
        older_alike = subst (λ (steps : List Step). Alike steps machine) tail alike;
      }
  found_among (s ∷ later) _ _ (Both other shown machine alike) is =
      let head : other ≡ s = cc (is) in
      let tail : shown ≡ later ++ step ∷ before = cc (is) in
      let rest = found_among later shown machine alike tail in
      record {
        newer = s ∷ rest.newer;
        older = rest.older;
        split = ap (λ (t : Step). t ∷ machine) head ∙ ap (λ (steps : List Step). s ∷ steps) rest.split;
        newer_alike = Both s later rest.newer rest.newer_alike;
        older_alike = rest.older_alike;
      }
  found_among [] _ _ (Shown other shown machine quiet alike) is =
      let head : other ≡ step = cc (is) in absurd (not_quiet other quiet head)
  found_among (s ∷ later) _ _ (Shown other shown machine quiet alike) is =
      let head : other ≡ s = cc (is) in
      let tail : shown ≡ later ++ step ∷ before = cc (is) in
      let rest = found_among later shown machine alike tail in
      record {
        newer = rest.newer;
        older = rest.older;
        split = rest.split;
        newer_alike = Shown s later rest.newer (subst IsQuiet head quiet) rest.newer_alike;
        older_alike = rest.older_alike;
      }
  found_among later _ _ (Hidden other shown machine quiet alike) is =
      newer_step later other machine quiet (found_among later shown machine alike is)
