use Rattle.udp_run.specs.Runs.{AreOpened}
use Rattle.udp_run.proofs.opening.open_nodes.Given as goal

abbrev pub invariant-loop-at : goal.invariant-loop-at
invariant-loop-at l = AreOpened l.config l.sizes l.at l.nodes.items
