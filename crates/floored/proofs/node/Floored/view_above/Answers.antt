use Rattle.std.proofs.Common.{◌∙◌, Option, ap, sym}
use Rattle.xid.specs.Places.{Place, is_below}
use Rattle.floored.proofs.Asked.{viewed_seen, viewed_sound}
use Rattle.floored.proofs.node.Floored.view_above.Goals as goal

pub invariant_of-self : goal.invariant_of-self
invariant_of-self g c =
    let inside = c.self.inside in
    viewed_sound inside.floor inside.node c.view.new.self c.args.tx.now c.view.result c.self.invariant c.view.ensures

pub returns : goal.returns
returns g c =
    let learned = c.in_ok-floor.ensures in
    viewed_seen c.self.inside.node c.args.self.now (c.self.view_is ∙ learned.1) c.args.tx.now c.view.new.self c.view.result c.view.ensures
    (ap (λ (f : Option Place). is_below f c.args.tx.now) (sym learned.0) ∙ sym c.stands_below.ensures ∙ c.if-stands_below.false)
