use Rattle.node_process.specs.Gathering.{Receives, TakesMessages}
use Rattle.node_process.proofs.gathering.take_messages.Given as goal

-- what the port gave so far came into the group
abbrev pub invariant-loop : goal.invariant-loop
invariant-loop g l = record {
  taken : TakesMessages g.P.Port.received l.fn.port l.port l.fn.items.items l.items.items;
  receives : Receives g.P.Port.received l.fn.port l.port;
}
