use Rattle.cluster.specs.Clusters.{cluster_of}
use Rattle.cluster.proofs.Asked.{sound_still, tabled_as}
use Rattle.cluster.proofs.cluster.Cluster.table.Goals as goal

pub invariant_of-self : goal.invariant_of-self
invariant_of-self g c =
    sound_still _ _ c.self.invariant (λ config world s. (c.table.ensures c.self.inside.network c.self.inside.notices config world s).stands)

pub returns : goal.returns
returns g c =
    tabled_as (cluster_of c.self.inside.sizes c.self.inside.nodes.items c.self.inside.network c.self.inside.notices) c.args.self.now
    (cluster_of c.self.inside.sizes c.table.new.nodes.items c.self.inside.network c.self.inside.notices) c.self.view_is c.args.rm
    c.table.result
    (c.table.ensures c.self.inside.network c.self.inside.notices)
