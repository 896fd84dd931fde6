-- Whole traces.
use Rattle.std.proofs.Common.{◌≡◌, ◌∙◌, ℕ, ◌+◌, ◌<◌, Bool, true, false, ◌&&◌, List, ◌∷◌, length, get_or, take, Result, Ok, Err, refl, sym}
use Rattle.std.proofs.Common.{ap, subst}
use Rattle.std.specs.Prelude.{IfOk}
use Rattle.safety.specs.Vocabulary.{Step, Row}
use Rattle.net_script.specs.declared.values.Entry.{Entry}
use Rattle.history.specs.SerialOrder.{first_commits}
use Rattle.xid.specs.declared.refusals.Refusal.{Refusal}
use Rattle.net_script.specs.declared.values.Table.{Table}
use Rattle.net_script.specs.declared.values.Trace.{Trace}
use Rattle.audit.specs.Told.{step_of, history_of, each_step, moves_rightly}
use Rattle.audit.specs.Stretches.{stretches_back}
use Rattle.audit.specs.ToldTables.{first_tables, table_told, shows_rightly, are_tables}
use Rattle.audit.specs.Floors.{stays_above}
use Rattle.audit.specs.Books.{rows_of, stretch_of, has_committed}
use Rattle.audit.specs.Following.{Follows, Takes}
use Rattle.audit.specs.Consistent.{committed_back, is_order_kept, is_consistent}
use Rattle.audit.specs.declared.ledger.Ledger.{Ledger}
use Rattle.audit.proofs.LedgerLemmas.{history_more, fails_at}
use Rattle.audit.proofs.SerialLemmas.{order_so}

-- whether a step is right after a history
abbrev pub is_right : (first : ℕ → List Row) → List Step → Step → Bool
is_right first before step = shows_rightly first before step && moves_rightly before step

pub and_true : (b : Bool) → b ≡ (b && true)
and_true true = refl
and_true false = refl

module _ (t : Trace) where
  abbrev first : ℕ → List Row
  first = first_tables t.tables

  abbrev tables_so : Bool
  tables_so = are_tables (λ rm. table_told first rm (history_of t.entries)) 0 t.finals

  abbrev order_kept : Bool
  order_kept =
      is_order_kept first (stretches_back (history_of t.entries)) (committed_back (history_of t.entries))
      (first_commits (history_of t.entries)) t.finals

  abbrev above : Bool
  above = each_step (stays_above t.sizes.rms) (history_of t.entries)

  module _ (i : ℕ) (entry : Entry) (lt : i < length t.entries) (is : entry ≡ get_or t.entries i entry) (new : Ledger) (ok : Bool)
      (takes : Takes first (history_of (take i t.entries)) (step_of entry) ok new) where
    tested : is_right first (history_of (take i t.entries)) (step_of (get_or t.entries i entry)) ≡ ok
    tested = ap (λ e. is_right first (history_of (take i t.entries)) (step_of e)) (sym is) ∙ sym takes.right

    more : history_of (take (i + 1) t.entries) ≡ step_of entry ∷ history_of (take i t.entries)
    more = history_more t.entries i entry lt ∙ ap (λ e. step_of e ∷ history_of (take i t.entries)) (sym is)

    -- a trace isn't consistent where one of its steps isn't right
    pub wrong_step : ok ≡ false → false ≡ is_consistent t
    wrong_step e = sym (ap (λ b. b && tables_so && order_kept && above) (fails_at (is_right first) t.entries i entry lt (tested ∙ e)))

    pub next_follows : ok ≡ true → Follows first (history_of (take (i + 1) t.entries)) new
    next_follows e = subst (λ h. Follows first h new) (sym more) (takes.follows e)

    pub next_right : ok ≡ true → each_step (is_right first) (history_of (take i t.entries)) ≡ true
        → each_step (is_right first) (history_of (take (i + 1) t.entries)) ≡ true
    next_right e before = ap (each_step (is_right first)) more ∙ (λ j. before j && (sym takes.right ∙ e) j)

  -- nor where one takes part below a floor
  pub wrong_floors : false ≡ above → false ≡ is_consistent t
  wrong_floors wrong = by (each_step (is_right first) (history_of t.entries) && tables_so && order_kept)
      ∙ ap (λ b. each_step (is_right first) (history_of t.entries) && tables_so && order_kept && b) wrong
    where
      by : (b : Bool) → false ≡ (b && false)
      by true = refl
      by false = refl

  module _ (ledger : Ledger) (follows : Follows first (history_of t.entries) ledger) where
    tables_read : are_tables (rows_of ledger.tables) 0 t.finals ≡ tables_so
    tables_read = λ i. are_tables (λ rm. follows.tables rm i) 0 t.finals

    -- it isn't where the last rows are others
    pub wrong_tables : false ≡ are_tables (rows_of ledger.tables) 0 t.finals → false ≡ is_consistent t
    wrong_tables wrong = by (each_step (is_right first) (history_of t.entries))
        ∙ ap (λ b. each_step (is_right first) (history_of t.entries) && b && order_kept && above) (wrong ∙ tables_read)
      where
        by : (b : Bool) → false ≡ (b && false && order_kept && above)
        by true = refl
        by false = refl

    -- else it is where the order of first commits explains it
    pub by_order : each_step (is_right first) (history_of t.entries) ≡ true → true ≡ are_tables (rows_of ledger.tables) 0 t.finals
        → true ≡ above → (b : Bool)
        → b ≡ is_order_kept first (stretch_of ledger.branches) (has_committed ledger.views) ledger.firsts t.finals
        → b ≡ is_consistent t
    by_order right tables stays b order =
        order ∙ order_so first (history_of t.entries) ledger t.finals follows ∙ and_true order_kept
        ∙ (λ i. sym right i && (tables ∙ tables_read) i && order_kept && stays i)

    pub by_result : each_step (is_right first) (history_of t.entries) ≡ true → true ≡ are_tables (rows_of ledger.tables) 0 t.finals
        → true ≡ above → (tables : List Table) → tables ≡ t.tables → (finals : List (List Row)) → finals ≡ t.finals
        → (r : Result Bool Refusal)
        → IfOk r (λ b. b ≡ is_order_kept (first_tables tables) (stretch_of ledger.branches) (has_committed ledger.views) ledger.firsts
        finals)
        → IfOk r (λ b. b ≡ is_consistent t)
    by_result right read stays tables tables_are finals finals_are (Ok b) order =
        by_order right read stays b
        (order ∙ (λ i. is_order_kept (first_tables (tables_are i)) (stretch_of ledger.branches) (has_committed ledger.views) ledger.firsts
        (finals_are i)))
    by_result right read stays tables tables_are finals finals_are (Err e) order = tt
