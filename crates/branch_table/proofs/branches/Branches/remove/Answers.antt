use Rattle.std.proofs.Common.{◌∙◌, None, sym, ap, subst}
use Rattle.std.specs.Option.{option_map}
use Rattle.branch_table.specs.Parts.{branch_of, Replaces}
use Rattle.branch_table.specs.TableStates.{branch_named}
use Rattle.branch_table.proofs.Found.{branches_of, named_from, removed}
use Rattle.branch_table.proofs.branches.Branches.remove.Goals as goal

pub returns-clause-value : goal.returns-clause-value
returns-clause-value c =
    let x = c.args.xid.now in
    ap (option_map (branch_of x)) c.swap_remove.ensures.value ∙ sym (named_from c.self.inside.named.entries x)
    ∙ ap (λ bs. branch_named bs x) c.self.view_is

pub returns-clause-left : goal.returns-clause-left
returns-clause-left c =
    let x = c.args.xid.now in
    let new = c.swap_remove.new.self.entries in
    subst (λ bs. Replaces bs (branches_of new) x (branch_named bs x) None) c.self.view_is
    (removed c.self.inside.named.entries new x c.swap_remove.ensures.entries
    (c.swap_remove.ensures.updates.1, c.swap_remove.ensures.updates.2) c.swap_remove.ensures.unique)
