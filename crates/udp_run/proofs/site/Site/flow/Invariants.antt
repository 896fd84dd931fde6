use Rattle.udp_run.specs.Commands.{Joins, Flows}
use Rattle.udp_run.proofs.site.Site.flow.Given as goal

-- so many rounds were made
abbrev pub invariant-loop-round : goal.invariant-loop-round
invariant-loop-round g l =
    Joins (Flows g.P.Port.received g.P.Port.sent l._round) l.fn.self l.self l.fn.entries.items l.entries.items
