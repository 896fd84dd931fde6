use Rattle.leader.proofs.Storing.{roomed_ready, roomed_kept}
use Rattle.leader.proofs.courses.Courses.make_ready.Goals as goal

pub returns-in-Ok-clause-ready : goal.returns-in-Ok-clause-ready
returns-in-Ok-clause-ready c =
    roomed_ready c.make_place.new.self c.reserve.new.self c.args.tx.now c.in-Ok.field-0 c.reserve.result c.in-Ok.ensures.there
    c.reserve.ensures.same c.reserve.ensures.room

pub returns-in-Ok-clause-kept : goal.returns-in-Ok-clause-kept
returns-in-Ok-clause-kept c =
    roomed_kept c.args.self.now c.make_place.new.self c.reserve.new.self c.in-Ok.ensures.kept c.reserve.ensures.same
