use Rattle.std.proofs.Common.{sym}
use Rattle.protocol.specs.declared.requests.Action.TheVariants as actions
use Rattle.resource_manager.specs.SpentNames.{is_spent_in}
use Rattle.resource_manager.proofs.Calling.{called_ok, start_named}
use Rattle.resource_manager.proofs.manager.ResourceManager.start.Goals as goal

pub returns-clause-ok : goal.returns-clause-ok
returns-clause-ok c =
    called_ok c.start.result _ _ c.start.new.self c.args.xid.now actions.Start c.self.view_is
    (start_named (is_spent_in c.self.inside.spent c.args.xid.now) (sym c.if-contains.ensures)) c.start.ensures.ok
