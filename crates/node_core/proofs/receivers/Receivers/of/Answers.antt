use Rattle.std.proofs.Common.{◌∙◌, [], map, sym, ap}
use Rattle.xid.specs.Transactions.{participants}
use Rattle.wire.specs.declared.message.Kind.{Kind}
use Rattle.wire.specs.Messages.{message_tx}
use Rattle.wire.proofs.OneSpelling.{means_one}
use Rattle.protocol.specs.declared.decisions.Address.{Address}
use Rattle.protocol.specs.declared.nodes.NodeId.TheVariants.{R}
use Rattle.protocol.specs.Effects.{receivers}
use Rattle.node_core.specs.Configs.{config_by}
use Rattle.node_core.proofs.receivers.Receivers.of.Goals as goal

pub returns-in-Managers : goal.returns-in-Managers
returns-in-Managers c = λ message spells.
    ap (λ (k : Kind). map R (participants (message_tx k)))
    (means_one c.seen.result message c.args.bytes.now c.seen.ensures spells)
    ∙ sym (ap (λ (to : Address). receivers (config_by c.args.sizes []) to (message_tx message)) c.in-Managers.is)
