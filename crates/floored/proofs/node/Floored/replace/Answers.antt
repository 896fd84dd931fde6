use Rattle.std.proofs.Common.{Bool, subst}
use Rattle.std.specs.Prelude.{Ok}
use Rattle.floored.specs.Nodes.{FlooredMayReplace}
use Rattle.floored.proofs.Replacing.{asked_then, refused_replaces, unread_replaces}
use Rattle.floored.proofs.node.Floored.replace.Goals as goal

pub returns-in-Ok-true : goal.returns-in-Ok-true
returns-in-Ok-true g c = λ other config m s.
    asked_then config m c.args.floor.now c.args.self.now c.may_be_replaced.new.self c.restart_above.new.self c.restart_above.result other s
    (subst (λ (b : Bool). FlooredMayReplace config m c.args.self.now c.may_be_replaced.new.self c.args.floor.now (Ok b))
    c.in-Ok-true.field-0-test (c.in-Ok-true.ensures other config m s)) c.restart_above.ensures

pub returns-in-Ok-false : goal.returns-in-Ok-false
returns-in-Ok-false g c = λ other config m s.
    refused_replaces config m c.args.floor.now c.args.self.now s c.may_be_replaced.new.self
    (subst (λ (b : Bool). FlooredMayReplace config m c.args.self.now c.may_be_replaced.new.self c.args.floor.now (Ok b))
    c.in-Ok-false.field-0-test (c.in-Ok-false.ensures other config m s))

pub returns-in-Err : goal.returns-in-Err
returns-in-Err g c = λ other config m s.
    unread_replaces config m c.args.floor.now c.args.self.now s c.may_be_replaced.new.self c.in-Err.refusal
    (c.in-Err.ensures other config m s)
