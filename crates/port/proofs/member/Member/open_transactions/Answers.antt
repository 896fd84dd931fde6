use Rattle.std.proofs.Common.{subst}
use Rattle.protocol.specs.Effects.{Config}
use Rattle.protocol.specs.Nodes.{NodeState}
use Rattle.node_core.specs.Listing.{ListsOpen}
use Rattle.node_core.specs.Nodes.{NodeStands}
use Rattle.port.specs.Members.{MemberParts}
use Rattle.port.proofs.member.Member.open_transactions.Goals as goal

pub returns : goal.returns
returns g c =
    subst (λ (x : MemberParts). (config : Config) (m : NodeState) → NodeStands config x.floored.node m
    → ListsOpen x.floored.node.who m.facts x.floored.node.role c.open_transactions.result) c.self.view_is c.open_transactions.ensures
