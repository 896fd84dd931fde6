use Rattle.node_core.proofs.Restarting.{sound_restart, restarts_as, restarts_from, restarts_over}
use Rattle.node_core.proofs.node.Node.restart.Goals as goal

pub invariant_of-self : goal.invariant_of-self
invariant_of-self g c =
    sound_restart _ _ _ c.reload.result c.self.invariant (restarts_over _ _ _ _ _ _ _ _ _ c.deref.ensures.value c.reload.ensures)

pub returns : goal.returns
returns g c =
    restarts_from _ _ _ c.reload.result c.self.view_is
    (λ config m s. restarts_as _ (g.R.Record.held c.reload.new.device) c.reload.new.role config m c.reload.result
    (restarts_over _ _ _ _ _ _ _ _ _ c.deref.ensures.value c.reload.ensures config m s.sizes_are s.stands))
