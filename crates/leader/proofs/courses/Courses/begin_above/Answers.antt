use Rattle.std.proofs.Common.{◌≡◌, ◌∙◌, length, not, Some, sym, ap, arith}
use Rattle.std.specs.Prelude.{filter}
use Rattle.std.proofs.lemmas.List.{length-map, take_all}
use Rattle.std.proofs.lemmas.Option.{get_or_from_slice_get}
use Rattle.xid.specs.Places.{is_below}
use Rattle.transactions.specs.Seen.{at_places, no_transaction}
use Rattle.transactions.proofs.Places.{begun_once}
use Rattle.leader.proofs.Left.{begins_not, begins_there}
use Rattle.leader.proofs.courses.Courses.begin_above.Goals as goal

pub loop-i-preserved-then-is_below : goal.loop-i-preserved-then-is_below
loop-i-preserved-then-is_below c =
    let begun = at_places c.args.transactions.now c.args.begun.now.numbers in
    let count : length begun ≡ length c.args.begun.now.numbers = length-map c.args.begun.now.numbers _ in
    begins_not c.args.floor.now begun c.loop-i.i c.in-Some.tx (omega (arith, c.loop-i-test.true, c.len-i-end.ensures.value, count))
    (get_or_from_slice_get begun c.loop-i.i c.in-Some.tx no_transaction (sym c.in-Some.ensures)) c.args.self.now c.loop-i.self
    (sym c.is_below.ensures ∙ c.if-is_below.true) c.loop-i.invariant

pub loop-i-preserved : goal.loop-i-preserved
loop-i-preserved c =
    let begun = at_places c.args.transactions.now c.args.begun.now.numbers in
    let count : length begun ≡ length c.args.begun.now.numbers = length-map c.args.begun.now.numbers _ in
    begins_there c.args.floor.now begun c.loop-i.i c.in-Some.tx (omega (arith, c.loop-i-test.true, c.len-i-end.ensures.value, count))
    (get_or_from_slice_get begun c.loop-i.i c.in-Some.tx no_transaction (sym c.in-Some.ensures)) c.args.self.now c.loop-i.self
    c.make_place.new.self c.list.new.self c.list.new.self.room
    (begun_once c.args.transactions.now c.len.ensures.distinct c.args.begun.now.numbers c.requires.inside c.len-i-end.ensures.distinct)
    (sym c.is_below.ensures ∙ c.if-is_below.false) c.in_ok-place.ensures.kept c.in_ok-list.ensures.ok c.loop-i.invariant

pub returns-clause-begun : goal.returns-clause-begun
returns-clause-begun c =
    let begun = at_places c.args.transactions.now c.args.begun.now.numbers in
    let count : length begun ≡ length c.args.begun.now.numbers = length-map c.args.begun.now.numbers _ in
    c.loop-i.invariant.begun_are
    ∙ ap (filter (λ tx. not (is_below (Some c.args.floor.now) tx)))
    (take_all c.loop-i.i begun (omega (arith, c.loop-i-test.false, c.len-i-end.ensures.value, count)))
