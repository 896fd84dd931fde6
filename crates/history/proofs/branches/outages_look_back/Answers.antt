use Rattle.protocol.specs.Worlds.{opening, world_after}
use Rattle.history.specs.Lines.{history}
use Rattle.history.proofs.Runs.{run_is}
use Rattle.history.proofs.Laws as laws
use Rattle.history.proofs.branches.outages_look_back.Goals as goal

pub returns-clause-may : goal.returns-clause-may
returns-clause-may c config events rm =
    laws.may_be_out config (world_after config (opening config) events) (history config events) rm (run_is config events)

pub returns-clause-must : goal.returns-clause-must
returns-clause-must c config events rm =
    laws.must_be_out config (world_after config (opening config) events) (history config events) rm (run_is config events)
