use Rattle.std.proofs.Common.{true, List, ℕ, refl, sym, subst}
use Rattle.protocol.specs.declared.requests.Action.TheVariants.{Put}
use Rattle.stable_record.specs.declared.fact.Act.TheVariants as acts
use Rattle.branch_table.specs.Admission.{Touches}
use Rattle.branch_table.proofs.CallSteps.{key_denied, key_done, key_inval, put_call}
use Rattle.branch_table.proofs.Hindered.{is_busy}
use Rattle.branch_table.proofs.table.BranchTable.put.Goals as goal

pub returns-then-not-put_fits-clause-ok : goal.returns-then-not-put_fits-clause-ok
returns-then-not-put_fits-clause-ok c =
    let x = c.args.xid.now in
    let key = c.args.key.now in
    let busy = is_busy true key c.self.inside.branches x c.self.invariant.0.distinct in
    rw (← c.self.view_is) (key_inval _ x (Put key c.args.value.now) key busy.0 busy.1 refl (rw (← c.if-not-put_fits.ensures) refl))

pub returns-in-Err-clause-ok : goal.returns-in-Err-clause-ok
returns-in-Err-clause-ok c =
    key_denied c.args.self.now c.args.xid.now c.in-Err.answer
    (put_call _ _ c.args.key.now c.args.value.now (sym c.if-not-put_fits.ensures)) c.in-Err.ensures

pub returns-clause-ok : goal.returns-clause-ok
returns-clause-ok c =
    let x = c.args.xid.now in
    let key = c.args.key.now in
    let touched = subst (λ (value : List ℕ). Touches c.args.self.now c.touch.new.self x key (acts.Put value)) c.in_ok-copy_of.ensures.ok
    c.in_ok-touch.ensures.ok in
    key_done c.args.self.now c.touch.new.self x (put_call _ _ key c.args.value.now (sym c.if-not-put_fits.ensures)) c.in-Ok.ensures.0
    touched
