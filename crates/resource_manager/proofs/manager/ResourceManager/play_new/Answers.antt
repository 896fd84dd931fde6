use Rattle.resource_manager.proofs.Played.{restore_refused}
use Rattle.resource_manager.proofs.manager.ResourceManager.play_new.Goals as goal

pub returns-in-Err : goal.returns-in-Err
returns-in-Err c =
    restore_refused _ c.args.self.now c.restore.new.self c.args.tx.now c.args.xid.now c.args.keys.now c.in-Err.refusal c.self.view_is
    c.in-Err.ensures.err
