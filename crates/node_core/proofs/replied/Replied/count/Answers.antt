use Rattle.std.proofs.Common.{◌∙◌, length, sym, ap, arith}
use Rattle.node_core.proofs.Replying.{count_replied}
use Rattle.node_core.proofs.replied.Replied.count.Goals as goal

pub returns-else-self-eq0 : goal.returns-else-self-eq0
returns-else-self-eq0 c =
    sym (count_replied c.self.inside.to c.self.inside.len c.self.inside.bytes c.self.invariant (omega (arith, c.if-self-eq0.false)))
    ∙ ap length c.self.view_is
