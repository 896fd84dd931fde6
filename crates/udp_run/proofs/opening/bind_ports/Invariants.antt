use Rattle.udp_run.proofs.Finding.{AreBound}
use Rattle.udp_run.proofs.opening.bind_ports.Given as goal

-- the ports of the first so many places
abbrev pub invariant-loop-at : goal.invariant-loop-at
invariant-loop-at l = AreBound l.sizes l.at l.ports.items l.addresses
