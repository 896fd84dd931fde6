use Rattle.protocol.specs.declared.requests.Action.TheVariants as actions
use Rattle.resource_manager.specs.SpentNames.{is_spent_in}
use Rattle.resource_manager.proofs.Calling.{called_ok, put_named}
use Rattle.resource_manager.proofs.manager.ResourceManager.put.Goals as goal

pub returns-clause-ok : goal.returns-clause-ok
returns-clause-ok c =
    called_ok c.put.result _ _ c.put.new.self c.args.xid.now (actions.Put c.args.key.now c.args.value.now) c.self.view_is
    (put_named (is_spent_in c.self.inside.spent c.args.xid.now) c.args.key.now c.args.value.now) c.put.ensures.ok
