use Rattle.std.proofs.Common.{take}
use Rattle.transactions.specs.Seen.{at_places}
use Rattle.acceptor.specs.SlotTables.{txs_above}
use Rattle.acceptor.proofs.Left.{HasRowsOf}
use Rattle.acceptor.proofs.table.Table.above.Given as goal

abbrev pub invariant-loop-i : goal.invariant-loop-i
invariant-loop-i l =
    HasRowsOf l.self (txs_above l.floor (take l.i (at_places l.self.transactions l.begun.numbers))) l.left l.order.numbers
