use Rattle.std.proofs.Common.{subst}
use Rattle.protocol.specs.Effects.{Config}
use Rattle.protocol.specs.Nodes.{NodeState}
use Rattle.node_core.specs.Listing.{ListsOpen}
use Rattle.node_core.specs.Nodes.{NodeStands}
use Rattle.floored.specs.Nodes.{FlooredParts}
use Rattle.floored.proofs.node.Floored.open_transactions.Goals as goal

pub returns : goal.returns
returns g c =
    subst (λ (f : FlooredParts). (config : Config) (m : NodeState) → NodeStands config f.node m
    → ListsOpen f.node.who m.facts f.node.role c.open_transactions.result) c.self.view_is c.open_transactions.ensures
