use Rattle.std.proofs.Common.{◌∙◌, sym}
use Rattle.std.proofs.lemmas.List.{length-map}
use Rattle.acceptor.proofs.table.Table.begun_count.Goals as goal

pub returns : goal.returns
returns c = c.len.ensures.value ∙ sym (length-map c.args.begun.now.numbers _)
