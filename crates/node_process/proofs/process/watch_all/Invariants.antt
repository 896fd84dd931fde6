use Rattle.std.proofs.Common.{drop}
use Rattle.std.specs.List.{AllByRecursion}
use Rattle.serving.specs.declared.watches.Watches.{Watches}
use Rattle.node_process.specs.Due.{IsWatched}
use Rattle.node_process.proofs.DueLemmas.{KeepWatch}
use Rattle.node_process.proofs.process.watch_all.Given as goal

-- where those that are left come to be watched and none is watched no longer, all are
abbrev pub invariant-loop-tx : goal.invariant-loop-tx
invariant-loop-tx l =
    (last : Watches) → KeepWatch l.watches last → AllByRecursion (IsWatched last) (drop l.tx-index l.txs)
    → AllByRecursion (IsWatched last) l.txs
