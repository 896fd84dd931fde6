use Rattle.one_node.specs.Embedding.{ServesRounds}
use Rattle.one_node.proofs.serve.Given as goal

-- so many rounds were served
abbrev pub invariant-loop-round : goal.invariant-loop-round
invariant-loop-round g l = ServesRounds g.P.Port.received g.P.Port.sent l._round l.fn.node l.node l.fn.port l.port
