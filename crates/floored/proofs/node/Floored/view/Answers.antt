use Rattle.std.proofs.Common.{◌∙◌, sym}
use Rattle.floored.proofs.node.Floored.view.Goals as goal

pub returns-in-R : goal.returns-in-R
returns-in-R g c = c.view_above.ensures c.in-R.field-0 (sym c.id.ensures ∙ c.in-R.is)
