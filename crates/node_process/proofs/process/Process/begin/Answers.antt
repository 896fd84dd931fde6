use Rattle.std.proofs.Common.{subst}
use Rattle.std.specs.List.{AllByRecursion}
use Rattle.node_process.specs.Due.{IsWatched}
use Rattle.node_process.proofs.DueLemmas.{open_watched}
use Rattle.node_process.proofs.process.Process.begin.Goals as goal

pub returns-clause-open : goal.returns-clause-open
returns-clause-open g c manager =
    open_watched c.args.self.now.node.floored.node c.in_ok-open.open c.watch_all.new.watches c.in_ok-open.ensures
    (subst (AllByRecursion (IsWatched c.watch_all.new.watches)) c.as_slice.ensures c.in_ok-watch_all.ensures)
