use Rattle.floored.proofs.Asked.{tabled_seen, tabled_sound}
use Rattle.floored.proofs.node.Floored.table.Goals as goal

pub invariant_of-self : goal.invariant_of-self
invariant_of-self g c =
    let inside = c.self.inside in
    tabled_sound inside.floor inside.node c.table.new.self c.table.result c.self.invariant c.table.ensures

pub returns : goal.returns
returns g c = tabled_seen c.self.inside.node c.args.self.now c.self.view_is c.table.new.self c.table.result c.table.ensures
