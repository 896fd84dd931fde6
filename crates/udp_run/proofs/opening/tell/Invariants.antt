use Rattle.udp_run.proofs.Finding.{KnowAddresses}
use Rattle.udp_run.proofs.opening.tell.Given as goal

-- the ports so far were told
abbrev pub invariant-loop-at : goal.invariant-loop-at
invariant-loop-at l = KnowAddresses l.addresses l.at l.fn.ports.items l.ports.items
