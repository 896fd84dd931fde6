use Rattle.udp_run.specs.Commands.{CarriesAll}
use Rattle.udp_run.proofs.site.Site.carry_out_all.Given as goal

-- the commands so far were carried out
abbrev pub invariant-loop-command : goal.invariant-loop-command
invariant-loop-command g l = CarriesAll g.P.Port.received g.P.Port.sent l.yielded l.fn.self l.self l.entries.items
