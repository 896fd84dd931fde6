use Rattle.protocol.specs.Worlds.{opening, world_after}
use Rattle.history.specs.Lines.{history}
use Rattle.history.proofs.Runs.{run_is}
use Rattle.history.proofs.Laws as laws
use Rattle.history.proofs.branches.branches_look_back.Goals as goal

pub returns : goal.returns
returns c config events rm =
    laws.branches_back config (world_after config (opening config) events) (history config events) rm (run_is config events)
