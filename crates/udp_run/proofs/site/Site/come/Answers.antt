use Rattle.udp_run.proofs.Serving.{none_served}
use Rattle.udp_run.proofs.site.Site.come.Goals as goal

pub unreachable-requires : goal.unreachable-requires
unreachable-requires g c =
    none_served c.args.event.now c.requires c.in_default.not-Ask c.in_default.not-Noise c.in_default.not-Restart c.in_default.not-Compact
    c.in_default.not-Raise
