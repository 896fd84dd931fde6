use Rattle.protocol.specs.Worlds.{opening, world_after}
use Rattle.history.specs.Lines.{history}
use Rattle.history.proofs.Runs.{run_is}
use Rattle.audit.proofs.MachineTraces.{consistent}
use Rattle.audit.proofs.laws.machine_traces_are_consistent.Goals as goal

pub returns : goal.returns
returns c config events =
    consistent config (world_after config (opening config) events) (history config events) (run_is config events)
