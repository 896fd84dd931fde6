use Rattle.protocol.specs.Worlds.{opening, world_after}
use Rattle.history.specs.Lines.{history}
use Rattle.history.proofs.Runs.{run_is}
use Rattle.history.proofs.Laws as laws
use Rattle.history.proofs.tables.writes_are_kept.Goals as goal

pub returns-clause-voted : goal.returns-clause-voted
returns-clause-voted c config events rm =
    laws.voted_writes config (world_after config (opening config) events) (history config events) rm (run_is config events)

pub returns-clause-unprepared : goal.returns-clause-unprepared
returns-clause-unprepared c config events rm =
    laws.unprepared_writes config (world_after config (opening config) events) (history config events) rm (run_is config events)
