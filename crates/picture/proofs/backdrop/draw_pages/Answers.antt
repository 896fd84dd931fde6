use Rattle.std.proofs.Common.{◌++◌, List, rules, arith, sym, ap, ◌∙◌}
use Rattle.std.proofs.lemmas.List.{append-nil}
use Rattle.picture.specs.declared.rows.Row.{Row}
use Rattle.picture.specs.Drawing.{page_elements}
use Rattle.picture.specs.Passing.{page_line}
use Rattle.picture.proofs.Loops.{range_step}
use Rattle.picture.proofs.backdrop.draw_pages.Goals as goal

pub loop-page-init : goal.loop-page-init
loop-page-init c = record {
  drawn = sym (append-nil c.args.out.now.items);
  same_rows = search rules;
  passed = c.new-views.ensures.passed (page_line 0);
}

pub loop-page-preserved : goal.loop-page-preserved
loop-page-preserved c =
    let page = c.loop-page.page in
    let out = c.loop-page.out.items in
    let is = c.pass.ensures.passed in
    let same = ap (λ rows. rows.now) c.pass.ensures.rows ∙ c.loop-page.invariant.same_rows in
    record {
      drawn = range_step (page_elements c.args.sizes c.args.lines c.args.rows.now) page c.args.out.now.items out c.draw_page.new.out.items
          c.loop-page.invariant.drawn
          (c.in_ok-draw_page.ensures.ok ∙ ap (λ (rows : List Row). out ++ page_elements c.args.sizes c.args.lines rows page) same);
      same_rows = same;
      passed = record {
        ascend = is.ascend;
        within = is.within;
        last = is.last;
        before = λ k lt d. omega (arith, is.before k lt d, c.page_line.ensures);
      };
    }
