use Rattle.protocol.specs.declared.requests.Action.TheVariants as actions
use Rattle.resource_manager.specs.SpentNames.{is_spent_in}
use Rattle.resource_manager.proofs.Calling.{called, rollback_named}
use Rattle.resource_manager.proofs.manager.ResourceManager.rollback.Goals as goal

pub returns : goal.returns
returns c =
    called _ _ c.rollback.new.self c.args.xid.now actions.Rollback c.rollback.result c.self.view_is
    (rollback_named (is_spent_in c.self.inside.spent c.args.xid.now)) c.rollback.ensures.steps
