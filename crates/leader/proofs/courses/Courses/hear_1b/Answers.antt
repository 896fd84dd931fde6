use Rattle.std.proofs.Common.{◌∙◌, sym, ap}
use Rattle.leader.specs.Courses.{after_1b}
use Rattle.leader.proofs.PlaceSteps.{changed_at, unknown_at, not_changed}
use Rattle.leader.proofs.courses.Courses.hear_1b.Goals as goal

pub returns-in_default-clause-now : goal.returns-in_default-clause-now
returns-in_default-clause-now c =
    let unknown : _ =
    unknown_at c.self.inside.transactions c.self.inside.rows.items c.self.inside.begun c.self.invariant c.args.tx.now c.args.self.now
    c.self.view_is c.in_default.ensures in
    not_changed c.args.self.now c.args.tx.now _
    (ap (after_1b c.args.acceptors c.args.ballot c.args.acceptor c.args.items.now) unknown ∙ sym unknown)

pub returns-clause-now : goal.returns-clause-now
returns-clause-now c =
    changed_at c.self.inside.transactions c.self.inside.rows.items c.self.inside.begun c.self.invariant c.args.tx.now c.args.self.now
    c.self.view_is
    (after_1b c.args.acceptors c.args.ballot c.args.acceptor c.args.items.now) c.in-Some.place c.index_mut.result.now c.on_1b.new.self
    c.in-Some.ensures c.index_mut.ensures.value c.on_1b.ensures.now
