use Rattle.node_core.proofs.Shortening.{sound_compact, compacts_as, compacts_from}
use Rattle.node_core.proofs.node.Node.compact.Goals as goal

pub invariant_of-self : goal.invariant_of-self
invariant_of-self g c = sound_compact _ _ _ c.compact.result c.self.invariant c.compact.ensures

pub returns : goal.returns
returns g c =
    compacts_from _ _ _ c.compact.result c.self.view_is
    (λ config m s. compacts_as _ (g.R.Record.held c.compact.new.device) c.compact.new.role config m c.compact.result
    (c.compact.ensures config c.self.inside.who c.self.inside.rows.items m s.stands))
