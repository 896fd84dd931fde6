use Rattle.std.proofs.Common.{Some, sym, subst}
use Rattle.std.specs.List.{slice_set}
use Rattle.leader.specs.Courses.{after_ballot}
use Rattle.leader.specs.Places.{CoursesParts, IsPlaceOf}
use Rattle.leader.proofs.PlaceSteps.{changed_at, courses_at}
use Rattle.leader.proofs.Storing.{stored_at}
use Rattle.leader.proofs.courses.Courses.store.Goals as goal

pub returns-clause-now : goal.returns-clause-now
returns-clause-now c =
    stored_at c.args.self.now c.place_or_new.new.self c.list.new.self
    (courses_at c.self.inside.transactions (slice_set c.self.inside.rows.items c.in-Ok.place c.store.new.self) c.self.inside.begun)
    c.args.tx.now (after_ballot c.args.ballot) c.in-Ok.ensures.kept c.in-Ok-list.ensures.ok
    (changed_at c.self.inside.transactions c.self.inside.rows.items c.self.inside.begun c.self.invariant c.args.tx.now c.list.new.self
    c.self.view_is (after_ballot c.args.ballot) c.in-Ok.place c.index_mut.result.now c.store.new.self
    (subst (λ (k : CoursesParts). IsPlaceOf k c.args.tx.now (Some c.in-Ok.place)) (sym c.in-Ok-list.ensures.ok) c.in-Ok.ensures.there)
    c.index_mut.ensures.value c.store.ensures)
