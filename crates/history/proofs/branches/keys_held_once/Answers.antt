use Rattle.protocol.specs.Worlds.{opening, world_after}
use Rattle.history.specs.Lines.{history}
use Rattle.history.proofs.Runs.{run_is}
use Rattle.history.proofs.HeldOnce.{held_back}
use Rattle.history.proofs.branches.keys_held_once.Goals as goal

pub returns : goal.returns
returns c config events rm =
    held_back config (world_after config (opening config) events) (history config events) rm (run_is config events)
