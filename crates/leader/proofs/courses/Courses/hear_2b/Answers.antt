use Rattle.std.specs.Prelude.{Result, Ok, Err, OnOk}
use Rattle.std.specs.List.{slice_set}
use Rattle.xid.specs.declared.refusals.Refusal.{Refusal}
use Rattle.protocol.specs.declared.states.Status.{Status}
use Rattle.leader.specs.Courses.{after_2b}
use Rattle.leader.proofs.PlaceSteps.{changed_at, after_made, courses_at}
use Rattle.leader.proofs.courses.Courses.hear_2b.Goals as goal

on_ok : {P Q : Type 0} (r : Result Status Refusal) → OnOk r P → (P → Q) → OnOk r Q
on_ok (Ok status) h then_ = then_ h
on_ok (Err e) h then_ = tt

pub returns-clause-now : goal.returns-clause-now
returns-clause-now c =
    on_ok c.on_2b.result c.on_2b.ensures.now (λ is.
    after_made c.args.self.now c.make_place.new.self
    (courses_at c.self.inside.transactions (slice_set c.self.inside.rows.items c.in-Ok.place c.on_2b.new.self) c.self.inside.begun)
    c.args.tx.now (after_2b c.args.acceptors c.args.acceptor c.args.items.now) c.in-Ok.ensures.kept
    (changed_at c.self.inside.transactions c.self.inside.rows.items c.self.inside.begun c.self.invariant c.args.tx.now c.make_place.new.self
    c.self.view_is
    (after_2b c.args.acceptors c.args.acceptor c.args.items.now) c.in-Ok.place c.index_mut.result.now c.on_2b.new.self
    c.in-Ok.ensures.there c.index_mut.ensures.value is))
