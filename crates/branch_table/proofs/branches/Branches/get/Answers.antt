use Rattle.std.proofs.Common.{◌∙◌, sym, ap}
use Rattle.std.specs.Option.{option_map}
use Rattle.branch_table.specs.Parts.{branch_of}
use Rattle.branch_table.specs.TableStates.{branch_named}
use Rattle.branch_table.proofs.Found.{copied_map, named_from}
use Rattle.branch_table.proofs.branches.Branches.get.Goals as goal

pub returns : goal.returns
returns c =
    let x = c.args.xid.now in
    copied_map x c.get.result ∙ ap (option_map (branch_of x)) c.get.ensures.value ∙ sym (named_from c.self.inside.named.entries x)
    ∙ ap (λ bs. branch_named bs x) c.self.view_is
