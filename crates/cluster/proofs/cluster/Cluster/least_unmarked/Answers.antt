use Rattle.std.proofs.Common.{sym, subst}
use Rattle.cluster.specs.Clusters.{ClusterParts, ClusterStands}
use Rattle.cluster.proofs.cluster.Cluster.least_unmarked.Goals as goal

pub returns : goal.returns
returns g c = λ config world s.
    c.least_unmarked.ensures world.machine.net (subst (λ (p : ClusterParts). ClusterStands config p world) (sym c.self.view_is) s).net_is
