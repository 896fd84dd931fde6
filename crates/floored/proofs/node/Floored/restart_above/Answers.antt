use Rattle.floored.proofs.Replacing.{down_replaces, up_then}
use Rattle.floored.proofs.node.Floored.restart_above.Goals as goal

pub returns-in-Ok : goal.returns-in-Ok
returns-in-Ok g c = λ other config m s may.
    up_then config m c.args.floor.now c.args.self.now c.restart.new.self c.raise.new.self c.raise.result other s may
    (c.in-Ok.ensures.machine config m s) c.raise.ensures.machine c.raise.ensures.node c.raise.ensures.nature

pub returns-in-Err : goal.returns-in-Err
returns-in-Err g c = λ other config m s may.
    down_replaces config m c.args.floor.now c.args.self.now s may c.restart.new.self c.in-Err.refusal (c.in-Err.ensures.machine config m s)
