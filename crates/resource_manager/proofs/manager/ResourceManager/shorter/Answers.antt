use Rattle.resource_manager.proofs.Frames.{all_framed}
use Rattle.resource_manager.proofs.manager.ResourceManager.shorter.Goals as goal

pub returns-clause-ok : goal.returns-clause-ok
returns-clause-ok c = all_framed c.frames.result (λ frames. frames.items) c.args.self.now c.frames.ensures.ok
