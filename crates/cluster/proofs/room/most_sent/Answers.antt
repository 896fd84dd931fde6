use Rattle.std.proofs.Common.{◌≤◌, length, sym, subst}
use Rattle.protocol.specs.declared.events.Event.{Event}
use Rattle.floors.specs.Worlds.{step_with_floors}
use Rattle.cluster.proofs.Reaching.{asked_few, noise_silent}
use Rattle.cluster.proofs.room.most_sent.Goals as goal

pub returns-in-Ask : goal.returns-in-Ask
returns-in-Ask c = λ nodes notices config world s fault.
    subst (λ (event : Event). length (step_with_floors config world event fault).sent ≤ c.most_asked.result) (sym c.in-Ask.is)
    (asked_few config world c.in-Ask.node c.in-Ask.request fault c.most_asked.result (c.most_asked.ensures.bound config s.sizes_are))

pub returns-in-Noise : goal.returns-in-Noise
returns-in-Noise c = λ nodes notices config world s fault.
    subst (λ (event : Event). length (step_with_floors config world event fault).sent ≤ 0) (sym c.in-Noise.is)
    (noise_silent config world c.in-Noise.node c.in-Noise.bytes fault)
