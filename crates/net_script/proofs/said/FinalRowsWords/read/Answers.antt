use Rattle.std.proofs.Common.{◌≡◌, ◌∙◌, sym, ap, true, false}
use Rattle.net_script.specs.Laws.{a_row}
use Rattle.net_script.specs.Spelling.{one_list}
use Rattle.net_script.specs.TraceLines.{are_ascending}
use Rattle.net_script.proofs.said.FinalRowsWords.read.Goals as goal

pub returns-then-not-are_ascending : goal.returns-then-not-are_ascending
returns-then-not-are_ascending c = λ y are e.
    let read = c.in_ok-rows.ensures in
    let same : c.in_ok-rows.rows ≡ y.0 = one_list a_row c.in_ok-rows.rows y.0 read.0 are.each (sym read.1 ∙ e) in
    let no' : are_ascending c.in_ok-rows.rows ≡ false =
    ap are_ascending (sym c.as_slice.ensures) ∙ sym c.are_ascending.ensures ∙ c.if-not-are_ascending.true in
    let up : are_ascending c.in_ok-rows.rows ≡ true = ap are_ascending same ∙ are.ascending in
    absurd (cc)
