use Rattle.std.proofs.Common.{◌∙◌, sym, ap, subst}
use Rattle.leader.specs.Courses.{status_in}
use Rattle.leader.specs.Places.{IsPlaceOf}
use Rattle.leader.proofs.PlaceSteps.{unknown_at, fresh_status}
use Rattle.leader.proofs.courses.Courses.status_at.Goals as goal

pub returns-in-None : goal.returns-in-None
returns-in-None c =
    sym (ap status_in (unknown_at c.self.inside.transactions c.self.inside.rows.items c.self.inside.begun c.self.invariant c.args.tx.now
    c.args.self.now
    c.self.view_is (subst (IsPlaceOf c.args.self.now c.args.tx.now) c.in-None.is c.requires))
    ∙ fresh_status c.args.tx.now.branches c.count.ensures.valid.branches.some)
