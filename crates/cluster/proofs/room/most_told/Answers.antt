use Rattle.std.proofs.Common.{◌≤◌, ℕ, length, sym, subst}
use Rattle.protocol.specs.declared.events.Event.{Event}
use Rattle.protocol.specs.declared.events.Event.TheVariants.{Raise}
use Rattle.floors.specs.Worlds.{step_with_floors}
use Rattle.cluster.proofs.Noticed.{raise_tells}
use Rattle.cluster.proofs.room.most_told.Goals as goal

pub returns-in-Raise : goal.returns-in-Raise
returns-in-Raise c = λ config are world fault.
    subst (λ (event : Event). length (step_with_floors config world event fault).noticed ≤ c.count_told.result) (sym c.in-Raise.is)
    (subst (λ (n : ℕ). length (step_with_floors config world (Raise c.in-Raise.rm c.in-Raise.floor) fault).noticed ≤ n)
    (sym c.count_told.ensures)
    (raise_tells config world c.args.sizes are c.in-Raise.rm c.in-Raise.floor fault))
