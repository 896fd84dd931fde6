use Rattle.protocol.specs.Worlds.{opening, world_after}
use Rattle.history.specs.Lines.{history}
use Rattle.history.proofs.Runs.{run_is}
use Rattle.history.proofs.Heard.{heard_of}
use Rattle.history.proofs.leaders.heard_came.Goals as goal

pub returns : goal.returns
returns c config events l =
    heard_of config (world_after config (opening config) events) (history config events) l (run_is config events)
