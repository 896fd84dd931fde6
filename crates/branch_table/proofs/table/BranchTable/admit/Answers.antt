use Rattle.std.proofs.Common.{◌∙◌, sym, ap, subst}
use Rattle.std.specs.Bool.{Decides}
use Rattle.protocol.specs.Branches.{hinders_use}
use Rattle.protocol.specs.Managers.{view_named}
use Rattle.branch_table.specs.Admission.{is_writing}
use Rattle.branch_table.specs.OneCall.{IsHindered}
use Rattle.branch_table.specs.Parts.{branch_of, uses_held, uses_of}
use Rattle.branch_table.specs.TableStates.{branch_named}
use Rattle.branch_table.proofs.CallSteps.{admits, denies_absent, denies_ended, denies_full, denies_hindered}
use Rattle.branch_table.proofs.Hindered.{is_busy}
use Rattle.branch_table.proofs.Uses.{own_hold, uses_same}
use Rattle.branch_table.proofs.table.BranchTable.admit.Goals as goal

pub returns-in_default : goal.returns-in_default
returns-in_default c =
    let x = c.args.xid.now in
    let w = is_writing c.args.access in
    let key = c.args.key.now in
    let busy = is_busy w key c.self.inside.branches x c.self.invariant.0.distinct in
    rw (← c.self.view_is) (denies_absent c.self.inside.branches x w key busy.0 busy.1 (sym c.in_default.ensures))

pub returns-then-not-is_active : goal.returns-then-not-is_active
returns-then-not-is_active c =
    let x = c.args.xid.now in
    let w = is_writing c.args.access in
    let key = c.args.key.now in
    let b = branch_of x c.in-Some.branch.now in
    let busy = is_busy w key c.self.inside.branches x c.self.invariant.0.distinct in
    rw (← c.self.view_is)
    (denies_ended c.self.inside.branches x w key busy.0 b busy.1 (sym c.in-Some.ensures) (sym c.if-not-is_active.ensures))

pub returns-then-is_hindered : goal.returns-then-is_hindered
returns-then-is_hindered c =
    let x = c.args.xid.now in
    let w = is_writing c.args.access in
    let key = c.args.key.now in
    let b = branch_of x c.in-Some.branch.now in
    let bs = c.args.self.now.branches in
    let found = ap (λ t. branch_named t.branches x) (sym c.self.view_is) ∙ sym c.in-Some.ensures in
    let own = ap (uses_held w) c.hold_on-own.ensures ∙ own_hold w b.keys key ∙ sym (uses_same w key b) ∙ ap (uses_of w key) (sym found) in
    let busy =
    subst (λ r. Decides r (IsHindered (hinders_use w key) (view_named bs) x)) c.if-is_hindered.true (c.is_hindered.ensures x own) in
    denies_hindered bs x w key b busy found (sym c.if-not-is_active.ensures)

pub returns-then-not-has_room : goal.returns-then-not-has_room
returns-then-not-has_room c =
    let x = c.args.xid.now in
    let w = is_writing c.args.access in
    let key = c.args.key.now in
    let b = branch_of x c.in-Some.branch.now in
    let bs = c.args.self.now.branches in
    let found = ap (λ t. branch_named t.branches x) (sym c.self.view_is) ∙ sym c.in-Some.ensures in
    let own = ap (uses_held w) c.hold_on-own.ensures ∙ own_hold w b.keys key ∙ sym (uses_same w key b) ∙ ap (uses_of w key) (sym found) in
    let busy =
    subst (λ r. Decides r (IsHindered (hinders_use w key) (view_named bs) x)) c.if-is_hindered.false (c.is_hindered.ensures x own) in
    denies_full bs x w key b busy found (sym c.if-not-is_active.ensures) (sym c.if-not-has_room.ensures.value)

pub returns : goal.returns
returns c =
    let x = c.args.xid.now in
    let w = is_writing c.args.access in
    let key = c.args.key.now in
    let b = branch_of x c.in-Some.branch.now in
    let bs = c.args.self.now.branches in
    let found = ap (λ t. branch_named t.branches x) (sym c.self.view_is) ∙ sym c.in-Some.ensures in
    let own = ap (uses_held w) c.hold_on-own.ensures ∙ own_hold w b.keys key ∙ sym (uses_same w key b) ∙ ap (uses_of w key) (sym found) in
    let busy =
    subst (λ r. Decides r (IsHindered (hinders_use w key) (view_named bs) x)) c.if-is_hindered.false (c.is_hindered.ensures x own) in
    admits bs x w key b c.hold_on-own.result busy found (sym c.if-not-is_active.ensures) (sym c.if-not-has_room.ensures.value)
    c.has_room.ensures.valid.ascending c.hold_on-own.ensures
