use Rattle.std.proofs.Common.{List, find, sym, ap, ◌∙◌}
use Rattle.std.specs.Option.{option_copied}
use Rattle.picture.specs.declared.rows.Row.{Row}
use Rattle.picture.specs.Drawing.{is_sent}
use Rattle.picture.specs.Datagrams.{earlier}
use Rattle.picture.proofs.Firsts.{find_sent}
use Rattle.picture.proofs.datagrams.IndexedRows.find_sent.Goals as goal

pub returns : goal.returns
returns c =
    let is = c.self.invariant in
    let found = find_sent c.args.number c.args.line c.self.inside.rows.now _ is.ascend (is.sent_are c.args.number) in
    c.earlier.ensures ∙ ap (λ o. earlier c.args.line (option_copied o)) c.get.ensures.value ∙ sym found
    ∙ ap (λ (rows : List Row). find (is_sent c.args.number c.args.line) rows) c.self.view_is
