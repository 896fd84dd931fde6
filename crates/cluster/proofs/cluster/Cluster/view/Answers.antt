use Rattle.cluster.specs.Clusters.{cluster_of}
use Rattle.cluster.proofs.Asked.{sound_still, viewed_as}
use Rattle.cluster.proofs.cluster.Cluster.view.Goals as goal

pub invariant_of-self : goal.invariant_of-self
invariant_of-self g c =
    sound_still _ _ c.self.invariant (λ config world s. (c.view.ensures c.self.inside.network c.self.inside.notices config world s).stands)

pub returns : goal.returns
returns g c =
    viewed_as (cluster_of c.self.inside.sizes c.self.inside.nodes.items c.self.inside.network c.self.inside.notices) c.args.self.now
    (cluster_of c.self.inside.sizes c.view.new.nodes.items c.self.inside.network c.self.inside.notices) c.self.view_is c.args.rm
    c.args.tx.now c.view.result
    (c.view.ensures c.self.inside.network c.self.inside.notices)
