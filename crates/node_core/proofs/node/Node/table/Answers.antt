use Rattle.node_core.proofs.Looking.{sound_still, tables_as, tables_from, tables_over}
use Rattle.node_core.proofs.node.Node.table.Goals as goal

pub invariant_of-self : goal.invariant_of-self
invariant_of-self g c =
    sound_still _ _ c.self.invariant (λ config m sizes s.
    (tables_over _ _ _ _ _ _ _ _ c.deref.ensures.value c.table.ensures config m sizes s).stands)

pub returns : goal.returns
returns g c =
    tables_from _ _ _ c.table.result c.self.view_is
    (λ config m s. tables_as _ (g.R.Record.held c.table.new.device) config m c.table.result
    (tables_over _ _ _ _ _ _ _ _ c.deref.ensures.value c.table.ensures config m s.sizes_are s.stands))
