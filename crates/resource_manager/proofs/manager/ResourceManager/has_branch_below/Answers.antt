use Rattle.std.proofs.Common.{◌∙◌, Some, ap}
use Rattle.std.specs.List.{list_any}
use Rattle.xid.specs.Places.{is_xid_below}
use Rattle.resource_manager.proofs.Floors.{some_below}
use Rattle.resource_manager.proofs.manager.ResourceManager.has_branch_below.Goals as goal

pub returns : goal.returns
returns c config number facts branches stands =
    c.has_below.ensures
    ∙ ap (λ m. list_any (λ branch. is_xid_below (Some c.args.floor.now) branch.xid) m.table.branches) c.self.view_is
    ∙ some_below c.args.floor.now config number c.args.self.now facts branches stands
