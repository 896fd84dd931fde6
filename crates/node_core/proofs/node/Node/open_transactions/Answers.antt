use Rattle.std.proofs.Common.{subst, sym}
use Rattle.node_core.specs.Nodes.{NodeParts, NodeStands}
use Rattle.node_core.specs.Listing.{ListsOpen}
use Rattle.node_core.proofs.node.Node.open_transactions.Goals as goal

pub returns : goal.returns
returns g c = λ config m s.
    subst (λ (n : NodeParts). ListsOpen n.who m.facts n.role c.list_open.result) c.self.view_is
    (c.list_open.ensures config _ _ m (subst (λ (n : NodeParts). NodeStands config n m) (sym c.self.view_is) s).stands)
