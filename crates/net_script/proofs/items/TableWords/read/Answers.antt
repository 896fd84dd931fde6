use Rattle.std.proofs.Common.{◌≡◌, ◌∙◌, sym, subst, List, refl}
use Rattle.std.proofs.lemmas.Bool.{iff_false}
use Rattle.std.specs.List.{AllPairs}
use Rattle.net_script.specs.Basics.{Row}
use Rattle.net_script.specs.Laws.{manager_of}
use Rattle.net_script.proofs.Arms.{passes}
use Rattle.net_script.proofs.WordLemmas.{table_rows}
use Rattle.net_script.proofs.items.TableWords.read.Goals as goal

pub returns-in_err-rm : goal.returns-in_err-rm
returns-in_err-rm c =
    passes (λ e. refl) (λ none t is e. none (manager_of t.rm, t.rows) (is.rm, is.rows.each) e) _ _ c.from_residual.ensures.1
    c.in_err-rm.ensures

pub returns-then-not-distinct : goal.returns-then-not-distinct
returns-then-not-distinct c = λ t is e.
    let read = c.in_ok-rm.ensures in
    let same : c.in_ok-rm.rows ≡ t.rows = table_rows c.in_ok-rm.rows t read.0.1 is (sym read.1 ∙ e) in
    iff_false c.in_ok-distinct.ensures.ok c.if-not-distinct.true
    (subst (λ (rows : List Row). AllPairs (λ (a b : Row). a.key ≡ b.key → ⊥) rows) (sym (c.as_slice.ensures ∙ same)) is.rows.keys)
