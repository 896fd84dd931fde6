use Rattle.std.proofs.Common.{sym, refl, ◌∙◌}
use Rattle.udp_run.proofs.Reaching.{noise_forged, noise_sent}
use Rattle.udp_run.proofs.happenings.noise.Goals as goal

pub returns-then-is_forged : goal.returns-then-is_forged
returns-then-is_forged g c =
    noise_forged g.P.Port.sent c.args.sizes c.args.who c.in-Some._at c.in-Some.ensures c.args.bytes.now c.args.port.now c.args.port.now
    c.refuses-then-is_forged.result (sym c.is_forged.ensures ∙ c.if-is_forged.true) refl c.refuses-then-is_forged.ensures

pub returns : goal.returns
returns g c =
    noise_sent g.P.Port.sent c.args.sizes c.args.who c.in-Some._at c.in-Some.ensures c.args.bytes.now c.args.port.now c.send.new.self
    c.answered.result (sym c.is_forged.ensures ∙ c.if-is_forged.false) c.send.result c.send.ensures.step c.answered.ensures
