use Rattle.port.specs.Calls.{SendsTo, acceptors_below}
use Rattle.port.proofs.calling.send_to_acceptors.Given as goal

-- they were sent to so many acceptors
abbrev pub invariant-loop-number : goal.invariant-loop-number
invariant-loop-number g l = SendsTo g.P.Port.sent l.fn.port l.port l.fn.bytes (acceptors_below l.number)
