use Rattle.node_core.proofs.Looking.{sound_still, unused_as, unused_from, unused_over}
use Rattle.node_core.proofs.node.Node.is_unused_above.Goals as goal

pub invariant_of-self : goal.invariant_of-self
invariant_of-self g c =
    sound_still _ _ c.self.invariant (λ config m sizes s.
    (unused_over _ _ _ _ _ _ _ _ _ c.deref.ensures.value c.is_unused_above.ensures config m sizes s).stands)

pub returns : goal.returns
returns g c =
    unused_from _ _ _ c.args.floor.now c.is_unused_above.result c.self.view_is
    (λ config m s. unused_as _ (g.R.Record.held c.is_unused_above.new.device) config m c.args.floor.now c.is_unused_above.result
    (unused_over _ _ _ _ _ _ _ _ _ c.deref.ensures.value c.is_unused_above.ensures config m s.sizes_are s.stands))
