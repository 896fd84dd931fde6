use Rattle.std.proofs.Common.{arith}
use Rattle.node_process.proofs.DueLemmas.{watched_all, watched_next}
use Rattle.node_process.proofs.process.watch_all.Goals as goal

pub loop-tx-init : goal.loop-tx-init
loop-tx-init c last keep all = all

pub loop-tx-preserved : goal.loop-tx-preserved
loop-tx-preserved c last keep left =
    let next = watched_next c.args.txs.now c.loop-tx.tx-index c.tx-item.result c.loop-tx.watches c.add.new.self last 0 c.args.now
    (omega arith) c.tx-item.is c.in_ok-add.ensures.ok keep left in
    c.loop-tx.invariant last next.0 next.1

pub returns : goal.returns
returns c =
    c.loop-tx.invariant c.loop-tx.watches (λ spelled there. there)
    (watched_all c.args.txs.now c.loop-tx.tx-index c.loop-tx.watches (omega arith))
