use Rattle.std.proofs.Common.{◌∙◌, List, ℕ, ap, false, subst}
use Rattle.std.specs.Prelude.{Err}
use Rattle.xid.specs.Names.{IsBytes}
use Rattle.stable_record.specs.declared.record.RecordError.{RecordError}
use Rattle.stable_record.specs.Held.{HasFailed, HasPut, with_bytes}
use Rattle.stable_record.specs.Behind.{BehindParts, HasFailedToRise, standing_behind}
use Rattle.stable_record.proofs.Known.{failed_fronted, failed_rising, risen_fronted}
use Rattle.stable_record.proofs.behind.Behind.raise.Goals as goal

pub invariant_of-self : goal.invariant_of-self
invariant_of-self g c =
    let inside = c.self.inside in
    let old = g.R.Record.held inside.device in
    let new = g.R.Record.held c.replace.new.self in
    let made = c.in_ok-all.ensures.all in
    risen_fronted inside.floor c.args.floor.now c.args.bytes.now old new (subst IsBytes made c.in_ok-all.ensures.are_bytes)
    c.in_ok-all.ensures.valid inside.is_known c.if-not-self.false
    (c.in-Ok.ensures.step ∙ ap (λ (xs : List ℕ). with_bytes xs old) (c.deref.ensures.value ∙ made))

pub invariant_of-self-in-Err-Fault : goal.invariant_of-self-in-Err-Fault
invariant_of-self-in-Err-Fault g c =
    let inside = c.self.inside in
    let old = g.R.Record.held inside.device in
    let new = g.R.Record.held c.replace.new.self in
    let made = c.in_ok-all.ensures.all in
    let failed : HasFailed c.deref.result.now old new =
    subst (λ (e : RecordError). HasPut c.deref.result.now old new (Err e)) c.in-Err-Fault.field-0-is c.in-Err-Fault.ensures.step in
    failed_fronted inside.floor c.args.floor.now c.args.bytes.now old new (subst IsBytes made c.in_ok-all.ensures.are_bytes)
    c.in_ok-all.ensures.valid inside.is_known c.self.invariant
    (subst (λ (xs : List ℕ). HasFailed xs old new) (c.deref.ensures.value ∙ made) failed)

pub returns-in-Err-Fault : goal.returns-in-Err-Fault
returns-in-Err-Fault g c =
    let inside = c.self.inside in
    let place = c.args.floor.now in
    let next = c.args.bytes.now in
    let old = g.R.Record.held inside.device in
    let new = g.R.Record.held c.replace.new.self in
    let made = c.in_ok-all.ensures.all in
    let are_bytes = subst IsBytes made c.in_ok-all.ensures.are_bytes in
    let valid = c.in_ok-all.ensures.valid in
    let failed : HasFailed c.deref.result.now old new =
    subst (λ (e : RecordError). HasPut c.deref.result.now old new (Err e)) c.in-Err-Fault.field-0-is c.in-Err-Fault.ensures.step in
    subst (λ (b : BehindParts). HasFailedToRise place next b (standing_behind false inside.floor new)) c.self.view_is
    (failed_rising inside.floor place next old new are_bytes valid inside.is_known c.if-not-self.false c.self.invariant
    (subst (λ (xs : List ℕ). HasFailed xs old new) (c.deref.ensures.value ∙ made) failed))
