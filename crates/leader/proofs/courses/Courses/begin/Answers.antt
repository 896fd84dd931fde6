use Rattle.leader.specs.Courses.{after_beginning}
use Rattle.leader.proofs.PlaceSteps.{changed_at}
use Rattle.leader.proofs.courses.Courses.begin.Goals as goal

pub returns-in-Some : goal.returns-in-Some
returns-in-Some c = λ stored.
    changed_at c.self.inside.transactions c.self.inside.rows.items c.self.inside.begun c.self.invariant c.args.tx.now c.args.self.now
    c.self.view_is
    (after_beginning c.args.ballot) c.in-Some.place c.index_mut.result.now c.begin.new.self c.in-Some.ensures c.index_mut.ensures.value
    c.begin.ensures
