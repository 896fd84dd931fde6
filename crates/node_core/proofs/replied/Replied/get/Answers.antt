use Rattle.std.proofs.Common.{◌∙◌, sym}
use Rattle.node_core.proofs.Replying.{one_replied}
use Rattle.node_core.proofs.replied.Replied.get.Goals as goal

pub returns : goal.returns
returns c = sym c.self.view_is ∙ one_replied c.self.inside.to _ c.in-Ok.message c.in-Ok.ensures.ok
