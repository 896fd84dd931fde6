use Rattle.node_core.proofs.Looking.{sound_still, views_as, views_from, views_over}
use Rattle.node_core.proofs.node.Node.view.Goals as goal

pub invariant_of-self : goal.invariant_of-self
invariant_of-self g c =
    sound_still _ _ c.self.invariant (λ config m sizes s.
    (views_over _ _ _ _ _ _ _ _ _ c.deref.ensures.value c.view.ensures config m sizes s).stands)

pub returns : goal.returns
returns g c =
    views_from _ _ _ c.args.tx.now c.view.result c.self.view_is
    (λ config m s. views_as _ (g.R.Record.held c.view.new.device) config m c.args.tx.now c.view.result
    (views_over _ _ _ _ _ _ _ _ _ c.deref.ensures.value c.view.ensures config m s.sizes_are s.stands))
