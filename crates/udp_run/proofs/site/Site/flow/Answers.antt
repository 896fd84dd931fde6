use Rattle.udp_run.proofs.Listing.{flows_none, flows_next}
use Rattle.udp_run.proofs.site.Site.flow.Goals as goal

pub loop-round-init : goal.loop-round-init
loop-round-init g c = flows_none g.P.Port.received g.P.Port.sent _ _

pub loop-round-preserved : goal.loop-round-preserved
loop-round-preserved g c =
    flows_next g.P.Port.received g.P.Port.sent c.args.self.now c.loop-round.self c.round.new.self c.loop-round._round
    c.args.entries.now.items c.loop-round.entries.items c.round.new.entries.items c.loop-round.invariant c.in_ok-round.ensures.ok
