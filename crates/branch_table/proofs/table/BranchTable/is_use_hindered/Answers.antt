use Rattle.std.proofs.Common.{◌∙◌, sym, ap, subst}
use Rattle.std.specs.Bool.{Decides}
use Rattle.protocol.specs.Branches.{hinders_use, is_write}
use Rattle.protocol.specs.Managers.{view_named}
use Rattle.branch_table.specs.Admission.{is_writing}
use Rattle.branch_table.specs.OneCall.{IsHindered}
use Rattle.branch_table.specs.Parts.{uses_held, uses_of}
use Rattle.branch_table.proofs.Uses.{no_hold}
use Rattle.branch_table.proofs.table.BranchTable.is_use_hindered.Goals as goal

pub returns : goal.returns
returns c = λ x none.
    let w = is_writing c.of-access.result in
    let q = c.as_slice.result.now in
    let at = view_named c.args.self.now.branches in
    let own = ap (uses_held w) c.free.ensures ∙ no_hold w ∙ sym (ap (uses_of w q) none) in
    subst (λ key. Decides c.is_hindered.result (IsHindered (hinders_use (is_write c.args.touched.now.act) key) at x)) c.as_slice.ensures
    (subst (λ writes. Decides c.is_hindered.result (IsHindered (hinders_use writes q) at x)) c.of-access.ensures
    (c.is_hindered.ensures x own))
