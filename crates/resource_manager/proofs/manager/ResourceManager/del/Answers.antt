use Rattle.protocol.specs.declared.requests.Action.TheVariants as actions
use Rattle.resource_manager.specs.SpentNames.{is_spent_in}
use Rattle.resource_manager.proofs.Calling.{called_ok, del_named}
use Rattle.resource_manager.proofs.manager.ResourceManager.del.Goals as goal

pub returns-clause-ok : goal.returns-clause-ok
returns-clause-ok c =
    called_ok c.del.result _ _ c.del.new.self c.args.xid.now (actions.Del c.args.key.now) c.self.view_is
    (del_named (is_spent_in c.self.inside.spent c.args.xid.now) c.args.key.now) c.del.ensures.ok
