use Rattle.std.proofs.Common.{◌≡◌, ◌∙◌, Bool, Option, Some, ap, false, not, subst, sym}
use Rattle.std.specs.Prelude.{Ok, Err}
use Rattle.node_core.specs.declared.role.Role.{Role}
use Rattle.node_core.specs.Raising.{Raises, TellsClear}
use Rattle.node_core.proofs.Risen.{forgets_nature, raised_done, raised_refused}
use Rattle.node_core.proofs.raising.raise.Goals as goal

pub returns-in-Ok-clause-machine : goal.returns-in-Ok-clause-machine
returns-in-Ok-clause-machine g c = λ config who own m s.
    let place = c.args.floor.now in
    let up = c.in-Some-take.up in
    let same : c.in-Some.up ≡ up = cc (c.take.ensures.value, c.in-Some-take.is) in
    let tells = subst (λ (t : Bool). TellsClear place c.in-Some.up (not t)) c.if-is_held_back.false c.is_held_back.ensures in
    raised_done config who own m place c.args.device.now c.forget.new.device c.args.role.now s up (c.in-Some.is ∙ ap Some same)
    (subst (λ (role : Role). TellsClear place role (not false)) same tells) c.in-Ok.left c.in-Ok.ensures

pub returns-in-Err-clause-machine : goal.returns-in-Err-clause-machine
returns-in-Err-clause-machine g c = λ config who own m s.
    let place = c.args.floor.now in
    let up = c.in-Some-take.up in
    let same : c.in-Some.up ≡ up = cc (c.take.ensures.value, c.in-Some-take.is) in
    let tells = subst (λ (t : Bool). TellsClear place c.in-Some.up (not t)) c.if-is_held_back.false c.is_held_back.ensures in
    subst (λ (role : Option Role).
    Raises config who own m place c.args.device.now c.forget.new.device c.args.role.now role (Err c.in-Err.refusal))
    (sym c.take.ensures.after)
    (raised_refused config who own m place c.args.device.now c.forget.new.device c.args.role.now s up (c.in-Some.is ∙ ap Some same)
    (subst (λ (role : Role). TellsClear place role (not false)) same tells) c.in-Err.refusal c.in-Err.ensures)

pub returns-in-Ok-clause-nature : goal.returns-in-Ok-clause-nature
returns-in-Ok-clause-nature g c =
    forgets_nature c.args.floor.now c.in-Some-take.up c.args.device.now c.forget.new.device (Ok c.in-Ok.left) c.in-Ok.ensures

pub returns-in-Err-clause-nature : goal.returns-in-Err-clause-nature
returns-in-Err-clause-nature g c =
    forgets_nature c.args.floor.now c.in-Some-take.up c.args.device.now c.forget.new.device (Err c.in-Err.refusal) c.in-Err.ensures
