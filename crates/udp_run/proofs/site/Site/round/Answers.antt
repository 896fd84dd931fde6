use Rattle.std.proofs.Common.{length, subst}
use Rattle.std.specs.Result.{OnOk}
use Rattle.std.proofs.lemmas.Result.{on_ok_weaker}
use Rattle.node_core.specs.declared.config.Sizes.{Sizes}
use Rattle.udp_run.specs.Sites.{SiteParts, site_of}
use Rattle.udp_run.specs.Commands.{Joins, ServesFirst}
use Rattle.udp_run.proofs.site.Site.round.Goals as goal

pub returns-clause-ok : goal.returns-clause-ok
returns-clause-ok g c =
    subst (λ (s : SiteParts g.row.P.Denot). OnOk c.serve_each.result
    (Joins (ServesFirst g.P.Port.received g.P.Port.sent (length s.nodes)) s
    (site_of c.self.inside.sizes c.serve_each.new.nodes.items c.serve_each.new.ports.items c.self.inside.noise)
    c.args.entries.now.items c.serve_each.new.entries.items)) c.self.view_is
    (on_ok_weaker c.serve_each.result
    (λ (joins : (sizes : Sizes) (noise : g.row.P.Denot)
    → Joins (ServesFirst g.P.Port.received g.P.Port.sent (length c.self.inside.nodes.items))
    (site_of sizes c.self.inside.nodes.items c.self.inside.ports.items noise)
    (site_of sizes c.serve_each.new.nodes.items c.serve_each.new.ports.items noise) c.args.entries.now.items
    c.serve_each.new.entries.items). joins c.self.inside.sizes c.self.inside.noise)
    c.serve_each.ensures.ok)
