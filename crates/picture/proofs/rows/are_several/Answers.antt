use Rattle.std.proofs.Common.{List, sym, ap, ◌∙◌, arith}
use Rattle.std.specs.List.{list_any}
use Rattle.net_script.specs.declared.values.Entry.{Entry}
use Rattle.picture.specs.Rows.{is_of_other}
use Rattle.picture.proofs.Several.{several_here}
use Rattle.picture.proofs.rows.are_several.Goals as goal

pub returns-in-Some : goal.returns-in-Some
returns-in-Some c =
    let here =
    several_here c.args.entries.now c.loop-place.place c.index-entries-place.result c.in-Some.tx.now (omega arith) c.index-entries-place.is
    c.in-Some.ensures in
    c.tell_of_other.ensures ∙ ap (λ (later : List Entry). list_any (is_of_other c.in-Some.tx.now) later) c.split_at.ensures.back
    ∙ sym (c.loop-place.invariant ∙ here)
