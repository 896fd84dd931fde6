use Rattle.std.proofs.Common.{List, sym, ap, ◌∙◌}
use Rattle.std.specs.List.{list_any}
use Rattle.std.specs.Option.{option_copied, is_some}
use Rattle.picture.specs.declared.rows.Row.{Row}
use Rattle.picture.specs.Drawing.{takes}
use Rattle.picture.specs.Datagrams.{earlier}
use Rattle.picture.proofs.Firsts.{any_takes, some_copied}
use Rattle.picture.proofs.datagrams.IndexedRows.is_taken_before.Goals as goal

pub returns : goal.returns
returns c =
    let is = c.self.invariant in
    let found = any_takes c.args.number c.args.line c.self.inside.rows.now _ is.ascend (is.taken_are c.args.number) in
    c.is_some.ensures ∙ sym (some_copied c.earlier.result)
    ∙ ap is_some (c.earlier.ensures ∙ ap (λ o. earlier c.args.line (option_copied o)) c.get.ensures.value) ∙ sym found
    ∙ ap (λ (rows : List Row). list_any (takes c.args.number c.args.line) rows) c.self.view_is
