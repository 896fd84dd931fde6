use Rattle.std.proofs.Common.{subst, sym}
use Rattle.node_core.specs.declared.role.Role.{Role}
use Rattle.node_core.proofs.Looking.{SaysAll, manager_says}
use Rattle.node_core.proofs.viewing.view_of.Goals as goal

pub returns-in-Manager : goal.returns-in-Manager
returns-in-Manager c =
    subst (λ (role : Role). SaysAll role c.args.tx.now c.view.result) (sym c.in-Manager.is)
    (manager_says c.in-Manager.manager c.args.tx.now c.of.result c.view.result c.of.ensures c.view.ensures)
