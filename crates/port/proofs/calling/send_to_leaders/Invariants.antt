use Rattle.port.specs.Calls.{SendsTo, leaders_below}
use Rattle.port.proofs.calling.send_to_leaders.Given as goal

-- they were sent to so many leaders
abbrev pub invariant-loop-number : goal.invariant-loop-number
invariant-loop-number g l = SendsTo g.P.Port.sent l.fn.port l.port l.fn.bytes (leaders_below l.number)
