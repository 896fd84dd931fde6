use Rattle.std.proofs.Common.{subst}
use Rattle.cluster.specs.Clusters.{ClusterParts, Happens, cluster_of, step_by}
use Rattle.cluster.specs.Headlines.{MovesSafely}
use Rattle.cluster.proofs.Safe.{moves_safely}
use Rattle.cluster.proofs.cluster.Cluster.step_into.Goals as goal

pub returns-clause-safe : goal.returns-clause-safe
returns-clause-safe g c =
    let was : ClusterParts = cluster_of c.self.inside.sizes c.self.inside.nodes.items c.self.inside.network c.self.inside.notices in
    let new : ClusterParts = cluster_of c.self.inside.sizes c.happen.new.nodes.items c.happen.new.network c.happen.new.notices in
    subst (λ (old : ClusterParts). MovesSafely c.args.event.now old new
    (step_by c.args.event.now c.happen.new.answered old new)) c.self.view_is
    (moves_safely c.args.event.now was new (step_by c.args.event.now c.happen.new.answered was new) c.self.invariant
    c.happen.ensures.occurs)

pub returns-clause-occurs : goal.returns-clause-occurs
returns-clause-occurs g c =
    let new : ClusterParts = cluster_of c.self.inside.sizes c.happen.new.nodes.items c.happen.new.network c.happen.new.notices in
    subst (λ (old : ClusterParts). Happens c.args.event.now old new c.happen.new.answered) c.self.view_is c.happen.ensures.occurs
