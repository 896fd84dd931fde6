-- What an auditor asks of the steps that are shown, floors aside, it may ask of the machine's: a quiet step is right, and changes nothing
-- that it looks back at.
use Rattle.std.proofs.Common.{◌≡◌, ◌∙◌, ℕ, Bool, true, ◌&&◌, ◌==◌, if◌then◌else◌, List, ◌∷◌, map, Option, Some, None, refl, sym, ap}
use Rattle.std.specs.Option.{option_map_or, option_and_then}
use Rattle.std.proofs.lemmas.Bool.{and_from, and_parts, eq-eqb}
use Rattle.xid.specs.Names.{XidParts, xid_eq}
use Rattle.xid.specs.Transactions.{TxParts, is_participant, participants}
use Rattle.xid.proofs.Deciding.{xid_decides}
use Rattle.protocol.specs.declared.answers.Answer.TheVariants.{NoValue, Value}
use Rattle.protocol.specs.declared.states.View.{View}
use Rattle.safety.specs.Vocabulary.{Action, Answer, Ask, Call, Change, Event, Get, R, Row, Step}
use Rattle.protocol.specs.Tables.{with_writes}
use Rattle.history.specs.Calls.{call_done}
use Rattle.history.specs.Lines.{change_here, view_back}
use Rattle.history.specs.SerialOrder.{first_commits}
use Rattle.history.specs.Writes.{changed_to, is_committed_view}
use Rattle.audit.specs.Consistent.{committed_back, is_history_consistent, is_order_kept}
use Rattle.audit.specs.Stretches.{StretchParts, Stretches, stretch_back, stretch_by, stretches_back, writes_at}
use Rattle.audit.specs.ToldTables.{are_tables, commit_at, is_event_right, shows_rightly, table_told}
use Rattle.audit.specs.Told.{each_step, is_move, may_move, moves_rightly}
use Rattle.audit.proofs.MachineStretches.{not_called}
use Rattle.cluster_run.proofs.Alike.{Alike, Both, Hidden, IsQuiet, Nothing, Shown, commits_same, same_view}

-- ---- branches

module _ (rm : ℕ) (x : XidParts) where
  quiet_stretch : (step : Step) (stretch : Option StretchParts) → IsQuiet step → stretch_by rm x step.event step.answer stretch ≡ stretch
  quiet_stretch step stretch quiet = not_called rm x step.event step.answer stretch (quiet.done rm x)

  same_stretch : (shown machine : List Step) → Alike shown machine → stretch_back rm x shown ≡ stretch_back rm x machine
  same_stretch _ _ Nothing = refl
  same_stretch _ _ (Both step shown machine alike) = ap (stretch_by rm x step.event step.answer) (same_stretch shown machine alike)
  same_stretch _ _ (Shown step shown machine quiet alike) =
      quiet_stretch step (stretch_back rm x shown) quiet ∙ same_stretch shown machine alike
  same_stretch _ _ (Hidden step shown machine quiet alike) =
      same_stretch shown machine alike ∙ sym (quiet_stretch step (stretch_back rm x machine) quiet)

same_stretches : (shown machine : List Step) → Alike shown machine → stretches_back shown ≡ stretches_back machine
same_stretches shown machine alike = λ i rm x. same_stretch rm x shown machine alike i

-- ---- tables

module _ (first : ℕ → List Row) where
  module _ (rm : ℕ) where
    -- a table after one step more, which says that a transaction is committed, or not
    abbrev table_by : Option TxParts → Stretches → List Row → List Row
    table_by commit done rows = option_map_or (λ tx. with_writes rows (writes_at done rm tx)) commit rows

    quiet_table : (step : Step) (before : List Step) → IsQuiet step → table_told first rm (step ∷ before) ≡ table_told first rm before
    quiet_table step before quiet =
        ap (λ (now : Option Change). table_by (option_and_then (changed_to is_committed_view) (option_and_then (change_here rm) now))
        (stretches_back (step ∷ before)) (table_told first rm before)) quiet.now

    same_table : (shown machine : List Step) → Alike shown machine → table_told first rm shown ≡ table_told first rm machine
    same_table _ _ Nothing = refl
    same_table _ _ (Both step shown machine alike) =
        ap (λ (done : Stretches). table_by (commit_at rm step) done (table_told first rm shown))
        (same_stretches (step ∷ shown) (step ∷ machine) (Both step shown machine alike))
        ∙ ap (table_by (commit_at rm step) (stretches_back (step ∷ machine))) (same_table shown machine alike)
    same_table _ _ (Shown step shown machine quiet alike) = quiet_table step shown quiet ∙ same_table shown machine alike
    same_table _ _ (Hidden step shown machine quiet alike) = same_table shown machine alike ∙ sym (quiet_table step machine quiet)

  -- the tables of all resource managers
  abbrev tables_of : List Step → ℕ → List Row
  tables_of steps rm = table_told first rm steps

  same_tables : (shown machine : List Step) → Alike shown machine → tables_of shown ≡ tables_of machine
  same_tables shown machine alike = λ i rm. same_table rm shown machine alike i

-- ---- views

-- where each resource manager stands in each transaction
abbrev Views : Type 0
Views = ℕ → TxParts → View

abbrev views_of : List Step → Views
views_of steps rm tx = view_back rm steps tx

same_views : (shown machine : List Step) → Alike shown machine → views_of shown ≡ views_of machine
same_views shown machine alike = λ i rm tx. same_view rm shown machine alike tx i

-- whether a change is a step of TCommit from these views
abbrev is_move_from : Views → Change → Bool
is_move_from views change =
    is_participant change.tx change.rm
    && may_move (map (λ rm. views rm change.tx) (participants change.tx)) (views change.rm change.tx) change.view

same_moves : (step : Step) (shown machine : List Step) → Alike shown machine → moves_rightly shown step ≡ moves_rightly machine step
same_moves step shown machine alike =
    ap (λ (views : Views). option_map_or (is_move_from views) step.now true) (same_views shown machine alike)

-- ---- steps

-- a call that was done in its own branch
own_call : (rm : ℕ) (x : XidParts) (action : Action) → (if (rm == rm) && xid_eq x x then Some action else None) ≡ None → ⊥
own_call rm x action none =
    let own : ((rm == rm) && xid_eq x x) ≡ true =
    and_from (rm == rm) (xid_eq x x) (eq-eqb rm rm refl) ((xid_decides x x).1 refl) in
    let some : Some action ≡ None = sym (ap (λ (b : Bool). if b then Some action else None) own) ∙ none in
    absurd (cc (some))

-- a get that shows something is a call that was done, and so isn't quiet
quiet_shows : (table : ℕ → List Row) (done : Stretches) (event : Event) (answer : Answer)
    → ((rm : ℕ) (x : XidParts) → call_done rm x event answer ≡ None) → is_event_right table done event answer ≡ true
quiet_shows table done (Ask (R rm) (Call x (Get key))) (Value bytes) none = absurd (own_call rm x (Get key) (none rm x))
quiet_shows table done (Ask (R rm) (Call x (Get key))) NoValue none = absurd (own_call rm x (Get key) (none rm x))
quiet_shows table done event answer none = refl

module _ (first : ℕ → List Row) where
  -- whether a step is right, by the steps before it
  abbrev is_right : List Step → Step → Bool
  is_right before step = shows_rightly first before step && moves_rightly before step

  quiet_right : (step : Step) (before : List Step) → IsQuiet step → is_right before step ≡ true
  quiet_right step before quiet =
      and_from (shows_rightly first before step) (moves_rightly before step)
      (quiet_shows (tables_of first before) (stretches_back before) step.event step.answer quiet.done)
      (ap (λ (now : Option Change). option_map_or (is_move before) now true) quiet.now)

  same_right : (step : Step) (shown machine : List Step) → Alike shown machine → is_right shown step ≡ is_right machine step
  same_right step shown machine alike = λ i.
      is_event_right (same_tables first shown machine alike i) (same_stretches shown machine alike i) step.event step.answer
      && same_moves step shown machine alike i

  right_alike : (shown machine : List Step) → Alike shown machine → each_step is_right machine ≡ true → each_step is_right shown ≡ true
  right_alike _ _ Nothing right = refl
  right_alike _ _ (Both step shown machine alike) right =
      let parts = and_parts (each_step is_right machine) (is_right machine step) right in
      and_from (each_step is_right shown) (is_right shown step) (right_alike shown machine alike parts.0)
      (same_right step shown machine alike ∙ parts.1)
  right_alike _ _ (Shown step shown machine quiet alike) right =
      and_from (each_step is_right shown) (is_right shown step) (right_alike shown machine alike right) (quiet_right step shown quiet)
  right_alike _ _ (Hidden step shown machine quiet alike) right =
      right_alike shown machine alike (and_parts (each_step is_right machine) (is_right machine step) right).0

-- ---- whole histories

module _ (first : ℕ → List Row) (shown machine : List Step) (alike : Alike shown machine) (finals : List (List Row)) where
  same_finals : are_tables (tables_of first shown) 0 finals ≡ are_tables (tables_of first machine) 0 finals
  same_finals = ap (λ (table : ℕ → List Row). are_tables table 0 finals) (same_tables first shown machine alike)

  same_order : is_order_kept first (stretches_back shown) (committed_back shown) (first_commits shown) finals
      ≡ is_order_kept first (stretches_back machine) (committed_back machine) (first_commits machine) finals
  same_order = λ i.
      is_order_kept first (same_stretches shown machine alike i)
      (λ (rm : ℕ) (tx : TxParts). is_committed_view (same_view rm shown machine alike tx i)) (commits_same shown machine alike i) finals

  -- the first four questions have the answer yes where they have it of the machine's steps
  pub consistent_alike : is_history_consistent first machine finals ≡ true → is_history_consistent first shown finals ≡ true
  consistent_alike consistent =
      let right = each_step (is_right first) in
      let tables = λ (steps : List Step). are_tables (tables_of first steps) 0 finals in
      let order = λ (steps : List Step).
      is_order_kept first (stretches_back steps) (committed_back steps) (first_commits steps) finals in
      let all = and_parts (right machine && tables machine) (order machine) consistent in
      let both = and_parts (right machine) (tables machine) all.0 in
      and_from (right shown && tables shown) (order shown)
      (and_from (right shown) (tables shown) (right_alike first shown machine alike both.0) (same_finals ∙ both.1))
      (same_order ∙ all.1)
