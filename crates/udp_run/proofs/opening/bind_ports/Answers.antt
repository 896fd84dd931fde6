use Rattle.std.proofs.Common.{◌∙◌, ap}
use Rattle.port.specs.Addresses.{with_address}
use Rattle.udp_run.proofs.Finding.{bound_next, few_of}
use Rattle.udp_run.proofs.opening.bind_ports.Goals as goal

pub loop-at-preserved : goal.loop-at-preserved
loop-at-preserved c =
    bound_next c.args.sizes (few_of c.args.sizes c.requires) c.loop-at.at c.loop-at.ports.items c.loop-at.addresses c.in_ok-port.port
    c.node_in.result c.node_in.ensures.placed c.loop-at.invariant c.push.new.self.items c.set.new.self c.in_ok-push.ensures.items
    (c.set.ensures ∙ ap (with_address c.loop-at.addresses c.node_in.result) c.number.ensures)
