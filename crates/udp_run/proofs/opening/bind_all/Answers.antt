use Rattle.std.proofs.Common.{ap}
use Rattle.port.specs.declared.udp.UdpPort.{UdpPort}
use Rattle.udp_run.proofs.Finding.{all_find}
use Rattle.udp_run.proofs.opening.bind_all.Goals as goal

pub returns-clause-ok : goal.returns-clause-ok
returns-clause-ok c =
    all_find c.args.sizes c.in_ok-ports.addresses c.in_ok-ports.ports.items c.tell.new.ports.items c.in_ok-ports.ensures.ok c.tell.ensures
    c.find_at.new.self (ap (λ (p : UdpPort). p.addresses) c.find_at.ensures)
