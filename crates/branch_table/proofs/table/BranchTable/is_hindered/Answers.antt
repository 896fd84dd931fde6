use Rattle.std.proofs.Common.{◌∙◌, true, false, ap}
use Rattle.branch_table.proofs.Hindered.{decides_by}
use Rattle.branch_table.proofs.table.BranchTable.is_hindered.Goals as goal

pub returns-in-Read : goal.returns-in-Read
returns-in-Read c =
    let key = c.args.key.now in
    rw (c.in-Read.is, ← c.self.view_is)
    (λ x own. decides_by false key c.self.inside.branches x c.args.own.written_by c.hold_at-hold.result.written_by
    c.self.invariant.0.distinct own
    (ap (λ h. h.written_by) c.hold_at-hold.ensures ∙ c.self.invariant.1 false key))

pub returns-in-Write : goal.returns-in-Write
returns-in-Write c =
    let key = c.args.key.now in
    rw (c.in-Write.is, ← c.self.view_is)
    (λ x own. decides_by true key c.self.inside.branches x c.args.own.touched_by c.hold_at-hold.result.touched_by
    c.self.invariant.0.distinct own
    (ap (λ h. h.touched_by) c.hold_at-hold.ensures ∙ c.self.invariant.1 true key))
