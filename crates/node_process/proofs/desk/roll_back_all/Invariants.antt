use Rattle.std.proofs.Common.{◌≡◌, ◌++◌, take}
use Rattle.node_process.specs.Going.{roll_back_all}
use Rattle.node_process.proofs.desk.roll_back_all.Given as goal

-- the branches so far are to be rolled back
abbrev pub invariant-loop-xid : goal.invariant-loop-xid
invariant-loop-xid l = l.pending.items ≡ l.fn.pending.items ++ roll_back_all (take l.xid-index l.names)
