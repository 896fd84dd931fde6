use Rattle.node_core.proofs.Restarting.{restarted, unrestarted}
use Rattle.node_core.proofs.opening.reload.Goals as goal

pub returns-in-Ok : goal.returns-in-Ok
returns-in-Ok g c = λ config m sizes s.
    restarted config c.args.who c.args.own.now m _ c.args.role.now s _ c.in-Ok.loaded (c.in-Ok.ensures config sizes)

pub returns-in-Err : goal.returns-in-Err
returns-in-Err g c = λ config m sizes s.
    unrestarted config c.args.who c.args.own.now m _ c.args.role.now s _ c.in-Err.refusal (c.in-Err.ensures config sizes)
