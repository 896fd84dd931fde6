use Rattle.branch_table.specs.Admission.{end_action}
use Rattle.resource_manager.specs.SpentNames.{is_spent_in}
use Rattle.resource_manager.proofs.Calling.{called, ending_named}
use Rattle.resource_manager.proofs.manager.ResourceManager.end.Goals as goal

pub returns : goal.returns
returns c =
    called _ _ c.end.new.self c.args.xid.now (end_action c.args.ending) c.end.result c.self.view_is
    (ending_named c.args.ending (is_spent_in c.self.inside.spent c.args.xid.now)) c.end.ensures.steps
