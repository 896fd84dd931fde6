use Rattle.protocol.specs.declared.requests.Action.TheVariants as actions
use Rattle.resource_manager.specs.SpentNames.{is_spent_in}
use Rattle.resource_manager.proofs.Calling.{called_ok, get_named}
use Rattle.resource_manager.proofs.manager.ResourceManager.get.Goals as goal

pub returns-clause-ok : goal.returns-clause-ok
returns-clause-ok c =
    called_ok c.get.result _ _ c.get.new.self c.args.xid.now (actions.Get c.args.key.now) c.self.view_is
    (get_named (is_spent_in c.self.inside.spent c.args.xid.now) c.args.key.now) c.get.ensures.ok
