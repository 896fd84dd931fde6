use Rattle.std.proofs.Common.{List, get_or, arith, below_more, sym, ap, ◌∙◌}
use Rattle.std.proofs.lemmas.List.{get_or_default}
use Rattle.std.proofs.lemmas.List.Sums.{fold_more}
use Rattle.picture.specs.declared.rows.Row.{Row}
use Rattle.protocol.specs.declared.states.View.{View}
use Rattle.picture.specs.Passing.{changed}
use Rattle.picture.proofs.Passed.{passed_views}
use Rattle.picture.proofs.views.Views.pass.Goals as goal

pub returns-then-row-line-clause-before : goal.returns-then-row-line-clause-before
returns-then-row-line-clause-before c = λ rm.
    let v = c.loop-self.self in
    let is = c.loop-self.invariant.passed in
    is.last rm ∙ passed_views rm c.args.line 0 View.Working v.rows.now v.place is.ascend is.within is.before
    (λ lt d. omega (arith, ap (λ (r : Row). r.line) (get_or_default v.rows.now v.place c.index-self-self.result d lt)))

pub loop-self-preserved : goal.loop-self-preserved
loop-self-preserved c =
    let v = c.loop-self.self in
    let rows : List Row = v.rows.now in
    let row : Row = c.index-self-self.result in
    let is = c.loop-self.invariant.passed in
    record {
      rows = c.loop-self.invariant.rows;
      passed = record {
        ascend = is.ascend;
        within = omega arith;
        last = λ rm. c.change_view.ensures rm ∙ ap (λ (view : View). changed rm view (get_or rows v.place row)) (is.last rm)
            ∙ sym (fold_more (changed rm) View.Working rows v.place row (omega arith));
        before = below_more _ _ is.before
            (λ d. omega (arith, ap (λ (r : Row). r.line) (get_or_default rows v.place row d (omega arith))));
      };
    }

pub returns-clause-before : goal.returns-clause-before
returns-clause-before c = λ rm.
    let v = c.loop-self.self in
    let is = c.loop-self.invariant.passed in
    is.last rm ∙ passed_views rm c.args.line 0 View.Working v.rows.now v.place is.ascend is.within is.before
    (λ lt d. absurd (omega arith))
