use Rattle.resource_manager.proofs.Recovering.{recovers_ok}
use Rattle.resource_manager.proofs.manager.ResourceManager.recover.Goals as goal

pub returns-clause-ok : goal.returns-clause-ok
returns-clause-ok c = recovers_ok c.recover.result _ _ c.self.view_is c.recover.ensures.branches c.recover.ensures.ok
