use Rattle.protocol.specs.Worlds.{opening, world_after}
use Rattle.history.specs.Lines.{history}
use Rattle.history.proofs.Runs.{run_is}
use Rattle.history.proofs.Answering.{answered_ever}
use Rattle.history.proofs.Laws as laws
use Rattle.history.proofs.branches.answers_look_back.Goals as goal

pub returns-clause-up : goal.returns-clause-up
returns-clause-up c config events rm =
    laws.answers_back config (world_after config (opening config) events) (history config events) rm (run_is config events)

pub returns-clause-each : goal.returns-clause-each
returns-clause-each c config events =
    answered_ever config (world_after config (opening config) events) (history config events) (run_is config events)
