use Rattle.std.proofs.Common.{◌≡◌, ◌++◌}
use Rattle.std.specs.List.{flat_map, range_with_len}
use Rattle.picture.specs.Drawing.{page_elements}
use Rattle.picture.specs.Passing.{HavePassed, page_line}
use Rattle.picture.proofs.backdrop.draw_pages.Given as goal

abbrev pub invariant-loop-page : goal.invariant-loop-page
invariant-loop-page l = record {
  drawn : l.out.items ≡ l.fn.out.items ++ flat_map (page_elements l.sizes l.lines l.rows) (range_with_len 0 l.page);
  same_rows : l.views.rows.now ≡ l.rows;
  passed : HavePassed l.views (page_line l.page);
}
