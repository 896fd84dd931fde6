use Rattle.resource_manager.proofs.Opened.{all_open}
use Rattle.resource_manager.proofs.manager.ResourceManager.open_transactions.Goals as goal

pub returns-clause-ok : goal.returns-clause-ok
returns-clause-ok c = all_open c.prepared.result (λ txs. txs.items) c.args.self.now c.prepared.ensures.ok
