use Rattle.std.proofs.Common.{map}
use Rattle.node_core.specs.Nodes.{input_of}
use Rattle.node_core.proofs.Grouped.{sound_group, groups_as, groups_from}
use Rattle.node_core.proofs.node.Node.step_all.Goals as goal

pub invariant_of-self : goal.invariant_of-self
invariant_of-self g c =
    sound_group _ _ _ (map input_of c.args.inputs.now) c.handle_group.new.outs c.handle_group.result c.self.invariant
    (λ config m sizes s. c.handle_group.ensures.groups config c.self.inside.rows.items m sizes s)

pub returns : goal.returns
returns g c =
    groups_from _ _ _ (map input_of c.args.inputs.now) c.handle_group.new.outs c.handle_group.result c.self.view_is
    (λ config m s. groups_as _ (g.R.Record.held c.handle_group.new.device) c.handle_group.new.role (map input_of c.args.inputs.now)
    c.handle_group.new.outs c.handle_group.result config m
    (c.handle_group.ensures.groups config c.self.inside.rows.items m s.sizes_are s.stands)
    (c.handle_group.ensures.once config c.self.inside.rows.items m s.sizes_are s.stands))
