use Rattle.std.proofs.Common.{false, refl, sym}
use Rattle.protocol.specs.declared.requests.Action.TheVariants.{Get}
use Rattle.branch_table.proofs.CallSteps.{key_denied, key_done, key_inval, get_call}
use Rattle.branch_table.proofs.Hindered.{is_busy}
use Rattle.branch_table.proofs.table.BranchTable.get.Goals as goal

pub returns-then-not-key_fits-clause-ok : goal.returns-then-not-key_fits-clause-ok
returns-then-not-key_fits-clause-ok c =
    let x = c.args.xid.now in
    let key = c.args.key.now in
    let busy = is_busy false key c.self.inside.branches x c.self.invariant.0.distinct in
    rw (← c.self.view_is) (key_inval _ x (Get key) key busy.0 busy.1 refl (rw (← c.if-not-key_fits.ensures) refl))

pub returns-in-Err-clause-ok : goal.returns-in-Err-clause-ok
returns-in-Err-clause-ok c =
    key_denied c.args.self.now c.args.xid.now c.in-Err.answer (get_call _ _ c.args.key.now (sym c.if-not-key_fits.ensures)) c.in-Err.ensures

pub returns-clause-ok : goal.returns-clause-ok
returns-clause-ok c =
    rw (c.in_ok-answer.ensures.ok)
    (key_done c.args.self.now c.touch.new.self c.args.xid.now (get_call _ _ c.args.key.now (sym c.if-not-key_fits.ensures))
    c.in-Ok.ensures.0
    c.in_ok-touch.ensures.ok)
