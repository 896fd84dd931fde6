use Rattle.node_core.specs.Nodes.{input_of}
use Rattle.node_core.proofs.Handled.{freely_of, steps_of}
use Rattle.node_core.proofs.Sound.{sound_step, steps_as, steps_from}
use Rattle.node_core.proofs.node.Node.step_into.Goals as goal

pub invariant_of-self : goal.invariant_of-self
invariant_of-self g c =
    sound_step _ _ _ (input_of c.args.input) c.handle.new.out c.self.invariant
    (λ config m are s. steps_of config _ _ c.self.inside.rows.items m _ _ _ _ _ _ are c.handle.ensures s)

pub returns : goal.returns
returns g c =
    steps_from _ _ _ _ c.handle.new.out c.self.view_is
    (λ config m s. steps_as _ (g.R.Record.held c.handle.new.device) c.handle.new.role config m (input_of c.args.input) c.handle.new.out
    (steps_of config _ _ c.self.inside.rows.items m _ _ _ _ _ _ s.sizes_are c.handle.ensures s.stands)
    (freely_of config _ _ c.self.inside.rows.items m _ _ _ _ _ _ s.sizes_are c.handle.ensures s.stands))
