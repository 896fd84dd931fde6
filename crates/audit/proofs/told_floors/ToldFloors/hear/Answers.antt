use Rattle.std.proofs.Common.{◌≡◌, ◌∙◌, ◌==◌, cond, Some, ap}
use Rattle.audit.specs.Floors.{higher}
use Rattle.audit.specs.FloorBooks.{entry_of}
use Rattle.audit.proofs.FloorLemmas.{at_same}
use Rattle.audit.proofs.told_floors.ToldFloors.hear.Goals as goal

pub returns-clause-ok : goal.returns-clause-ok
returns-clause-ok c = λ other.
    let rm = c.args.rm in
    let high : Some c.higher-highest.result ≡ higher (entry_of c.args.self.now rm) (Some c.args.floor.now) =
    c.higher-highest.ensures ∙ ap (λ o. higher o (Some c.args.floor.now)) c.get.ensures in
    c.in_ok-insert.ensures.updates.0 other
    ∙ (λ j. cond (rm == other) (high j) (entry_of (c.self.view_is j) other))
    ∙ at_same rm other (λ k. higher (entry_of c.args.self.now k) (Some c.args.floor.now)) (entry_of c.args.self.now other)
