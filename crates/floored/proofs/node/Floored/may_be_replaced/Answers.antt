use Rattle.std.proofs.Common.{◌∙◌, Some, ap, sym}
use Rattle.xid.specs.Places.{is_lower}
use Rattle.floored.proofs.Replacing.{asked_seen, asked_sound, lower_asked}
use Rattle.floored.proofs.node.Floored.may_be_replaced.Goals as goal

pub returns-then-is_lower_than : goal.returns-then-is_lower_than
returns-then-is_lower_than g c = λ other.
    let learned = c.in_ok-own.ensures in
    lower_asked c.args.floor.now c.args.self.now c.own_floor.new.self learned.1
    (ap (is_lower (Some c.args.floor.now)) (sym learned.0) ∙ sym c.is_lower_than.ensures ∙ c.if-is_lower_than.true)

pub invariant_of-self : goal.invariant_of-self
invariant_of-self g c =
    let inside = c.self.inside in
    asked_sound inside.node c.args.floor.now inside.floor c.is_unused_above.new.self c.is_unused_above.result c.self.invariant
    c.is_unused_above.ensures

pub returns : goal.returns
returns g c =
    let learned = c.in_ok-own.ensures in
    asked_seen c.self.inside.node c.args.self.now (c.self.view_is ∙ learned.1) c.args.floor.now c.is_unused_above.new.self
    c.is_unused_above.result c.is_unused_above.ensures
    (ap (is_lower (Some c.args.floor.now)) (sym learned.0) ∙ sym c.is_lower_than.ensures ∙ c.if-is_lower_than.false)
