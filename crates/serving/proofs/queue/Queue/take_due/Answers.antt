use Rattle.std.proofs.Common.{rules, ◌<◌, length, refl, subst, arith}
use Rattle.std.proofs.lemmas.Bool.Decides.{nat_tests}
use Rattle.std.specs.Time.{instant_nanos}
use Rattle.serving.specs.Queues.{AreLater}
use Rattle.serving.proofs.QueueLemmas.{front_is_first}
use Rattle.serving.proofs.queue.Queue.take_due.Goals as goal

pub returns-in_default : goal.returns-in_default
returns-in_default c =
    let later : instant_nanos c.args.now < instant_nanos c.in-Some.place.now.due = grind (arith, nat_tests) in
    let some : 0 < c.self.inside.places.len = c.front.ensures.variant.0 (search rules) in
    let count : 0 < length c.self.inside.places.items = omega (arith, some, c.self.inside.places.ok.0) in
    let all = front_is_first c.args.now c.self.inside.places.items c.in-Some.place.now c.in-Some.ensures.lookup count later
    c.self.invariant in
    (subst (AreLater c.args.now) c.self.view_is all, refl)
