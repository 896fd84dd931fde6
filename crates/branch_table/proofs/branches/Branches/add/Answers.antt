use Rattle.std.proofs.Common.{◌∙◌, None, Some, ap, subst}
use Rattle.xid.specs.Names.{xid_eq}
use Rattle.indexmap.proofs.CallerLemmas.{insert_entry-new}
use Rattle.branch_table.specs.Parts.{branch_of, Replaces}
use Rattle.branch_table.specs.TableStates.{branch_named}
use Rattle.branch_table.proofs.Found.{branches_of, no_entry, pushed}
use Rattle.branch_table.proofs.branches.Branches.add.Goals as goal

pub returns-clause-ok : goal.returns-clause-ok
returns-clause-ok c =
    let x = c.args.xid.now in
    let old = c.self.inside.named.entries in
    let new = c.insert.new.self.entries in
    let none = ap (λ bs. branch_named bs x) c.self.view_is ∙ c.requires in
    let is = c.in_ok-insert.ensures.entries ∙ insert_entry-new xid_eq c.self.inside.named x c.args.branch (no_entry old x none) in
    subst (λ bs. Replaces bs (branches_of new) x None (Some (branch_of x c.args.branch))) c.self.view_is
    (pushed old new x c.args.branch none is (c.in_ok-insert.ensures.updates.1, c.in_ok-insert.ensures.updates.2)
    c.in_ok-insert.ensures.unique)
