use Rattle.std.proofs.Common.{refl}
use Rattle.node_core.proofs.Deciding.{led_follows}
use Rattle.node_core.proofs.sends.NodeSends.lead.Goals as goal

pub returns : goal.returns
returns c = (
  c.on_message.new.decision.fact,
  λ config number.
      led_follows config number c.args.leader.now c.on_message.new.self _ c.on_message.new.decision c.replace.result
      c.on_message.new.decision.fact c.clear.new.self c.clear-2.new.self c.clear-3.new.self c.replace.ensures.value refl c.clear.ensures
      c.clear-2.ensures c.clear-3.ensures (c.in_ok-on_message.ensures config number),
)
