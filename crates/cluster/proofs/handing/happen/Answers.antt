use Rattle.std.proofs.Common.{◌∙◌, ℕ, List, ap, sym}
use Rattle.protocol.specs.declared.events.Event.TheVariants.{Ask, Deliver, Lose, Cut, Noise, Tear, Restart, Compact, Raise, Hear, Replace}
use Rattle.cluster.proofs.Occurring.{named_as, sound_after}
use Rattle.cluster.proofs.handing.happen.Goals as goal

pub returns-in-Ask-clause-sound : goal.returns-in-Ask-clause-sound
returns-in-Ask-clause-sound g c =
    sound_after (Ask c.in-Ask.node c.in-Ask.request) _ _ _ c.requires
    (c.ask.ensures c.args.notices.now)

pub returns-in-Deliver-clause-sound : goal.returns-in-Deliver-clause-sound
returns-in-Deliver-clause-sound g c =
    sound_after (Deliver c.in-Deliver.number) _ _ _ c.requires
    (c.deliver.ensures c.args.notices.now)

pub returns-in-Lose-clause-sound : goal.returns-in-Lose-clause-sound
returns-in-Lose-clause-sound g c =
    sound_after (Lose c.in-Lose.number) _ _ _ c.requires
    (c.lose.ensures c.args.sizes c.args.nodes.now.items c.args.notices.now)

pub returns-in-Lose-clause-occurs : goal.returns-in-Lose-clause-occurs
returns-in-Lose-clause-occurs g c =
    named_as (Lose c.in-Lose.number) c.args.event.now c.in-Lose.is _ _ c.lose.new.answered
    (c.lose.ensures c.args.sizes c.args.nodes.now.items c.args.notices.now)

pub returns-in-Cut-clause-sound : goal.returns-in-Cut-clause-sound
returns-in-Cut-clause-sound g c =
    sound_after (Cut c.in-Cut.number c.in-Cut.bytes) _ _ _ c.requires
    (c.cut.ensures c.args.notices.now)

pub returns-in-Noise-clause-sound : goal.returns-in-Noise-clause-sound
returns-in-Noise-clause-sound g c =
    sound_after (Noise c.in-Noise.node c.as_slice.result.now) _ _ _
    c.requires
    (c.noise.ensures c.args.network.now c.args.notices.now)

pub returns-in-Noise-clause-occurs : goal.returns-in-Noise-clause-occurs
returns-in-Noise-clause-occurs g c =
    named_as (Noise c.in-Noise.node c.as_slice.result.now) c.args.event.now
    (c.in-Noise.is ∙ ap (λ (bytes : List ℕ). Noise c.in-Noise.node bytes) (sym c.as_slice.ensures)) _ _ c.noise.new.answered
    (c.noise.ensures c.args.network.now c.args.notices.now)

pub returns-in-Tear-clause-sound : goal.returns-in-Tear-clause-sound
returns-in-Tear-clause-sound g c =
    sound_after (Tear c.in-Tear.node c.in-Tear.bytes) _ _ _ c.requires
    (c.tear.ensures c.args.network.now c.args.notices.now)

pub returns-in-Tear-clause-occurs : goal.returns-in-Tear-clause-occurs
returns-in-Tear-clause-occurs g c =
    named_as (Tear c.in-Tear.node c.in-Tear.bytes) c.args.event.now c.in-Tear.is _ _ c.tear.new.answered
    (c.tear.ensures c.args.network.now c.args.notices.now)

pub returns-in-Restart-clause-sound : goal.returns-in-Restart-clause-sound
returns-in-Restart-clause-sound g c =
    sound_after (Restart c.in-Restart.node) _ _ _ c.requires
    (c.restart.ensures c.args.network.now)

pub returns-in-Restart-clause-occurs : goal.returns-in-Restart-clause-occurs
returns-in-Restart-clause-occurs g c =
    named_as (Restart c.in-Restart.node) c.args.event.now c.in-Restart.is _ _ c.restart.new.answered
    (c.restart.ensures c.args.network.now)

pub returns-in-Ask-clause-occurs : goal.returns-in-Ask-clause-occurs
returns-in-Ask-clause-occurs g c =
    named_as (Ask c.in-Ask.node c.in-Ask.request) c.args.event.now c.in-Ask.is _ _ c.ask.new.answered (c.ask.ensures c.args.notices.now)

pub returns-in-Deliver-clause-occurs : goal.returns-in-Deliver-clause-occurs
returns-in-Deliver-clause-occurs g c =
    named_as (Deliver c.in-Deliver.number) c.args.event.now c.in-Deliver.is _ _ c.deliver.new.answered
    (c.deliver.ensures c.args.notices.now)

pub returns-in-Cut-clause-occurs : goal.returns-in-Cut-clause-occurs
returns-in-Cut-clause-occurs g c =
    named_as (Cut c.in-Cut.number c.in-Cut.bytes) c.args.event.now c.in-Cut.is _ _ c.cut.new.answered (c.cut.ensures c.args.notices.now)

pub returns-in-Compact-clause-sound : goal.returns-in-Compact-clause-sound
returns-in-Compact-clause-sound g c =
    sound_after (Compact c.in-Compact.node) _ _ _ c.requires
    (c.compact.ensures c.args.network.now c.args.notices.now)

pub returns-in-Compact-clause-occurs : goal.returns-in-Compact-clause-occurs
returns-in-Compact-clause-occurs g c =
    named_as (Compact c.in-Compact.node) c.args.event.now c.in-Compact.is _ _ c.compact.new.answered
    (c.compact.ensures c.args.network.now c.args.notices.now)

pub returns-in-Raise-clause-sound : goal.returns-in-Raise-clause-sound
returns-in-Raise-clause-sound g c =
    sound_after (Raise c.in-Raise.rm c.in-Raise.floor) _ _ _ c.requires
    (c.raise.ensures c.args.network.now)

pub returns-in-Raise-clause-occurs : goal.returns-in-Raise-clause-occurs
returns-in-Raise-clause-occurs g c =
    named_as (Raise c.in-Raise.rm c.in-Raise.floor) c.args.event.now c.in-Raise.is _ _ c.raise.new.answered
    (c.raise.ensures c.args.network.now)

pub returns-in-Hear-clause-sound : goal.returns-in-Hear-clause-sound
returns-in-Hear-clause-sound g c =
    sound_after (Hear c.in-Hear.number) _ _ _ c.requires
    (c.hear.ensures c.args.network.now)

pub returns-in-Hear-clause-occurs : goal.returns-in-Hear-clause-occurs
returns-in-Hear-clause-occurs g c =
    named_as (Hear c.in-Hear.number) c.args.event.now c.in-Hear.is _ _ c.hear.new.answered
    (c.hear.ensures c.args.network.now)

pub returns-in-Replace-clause-sound : goal.returns-in-Replace-clause-sound
returns-in-Replace-clause-sound g c =
    sound_after (Replace c.in-Replace.node c.in-Replace.floor) _ _ _ c.requires
    (c.replace.ensures c.args.network.now)

pub returns-in-Replace-clause-occurs : goal.returns-in-Replace-clause-occurs
returns-in-Replace-clause-occurs g c =
    named_as (Replace c.in-Replace.node c.in-Replace.floor) c.args.event.now c.in-Replace.is _ _ c.replace.new.answered
    (c.replace.ensures c.args.network.now)
