use Rattle.std.proofs.Common.{◌≡◌, ◌-◌, length}
use Rattle.picture.specs.Passing.{HavePassed}
use Rattle.picture.proofs.views.Views.pass.Given as goal

abbrev pub invariant-loop-self : goal.invariant-loop-self
invariant-loop-self l = record { rows : l.self.rows ≡ l.fn.self.rows; passed : HavePassed l.self l.line }

abbrev pub decreases-loop-self : goal.decreases-loop-self
decreases-loop-self l = length l.self.rows.now - l.self.place
