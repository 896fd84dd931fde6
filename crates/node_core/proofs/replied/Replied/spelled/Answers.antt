use Rattle.std.proofs.Common.{◌∙◌, ◌<◌, List, length, sym, subst}
use Rattle.protocol.specs.declared.decisions.Outgoing.{Outgoing}
use Rattle.node_core.proofs.Replying.{one_replied, some_replied}
use Rattle.node_core.proofs.replied.Replied.spelled.Goals as goal

pub returns-clause-spells : goal.returns-clause-spells
returns-clause-spells c =
    let some : 0 < c.self.inside.len =
    some_replied c.self.inside.to c.self.inside.len c.self.inside.bytes
    (subst (λ (all : List Outgoing). 0 < length all) (sym c.self.view_is) c.requires) in
    let one = c.self.invariant.spells some in
    (one.0, one.1, sym c.self.view_is ∙ one_replied c.self.inside.to _ one.0 one.1)
