use Rattle.std.proofs.Common.{◌∙◌, ◌∷◌, ◌++◌, [], Some, None, ap}
use Rattle.std.specs.Prelude.{position}
use Rattle.ballot.specs.Majority.{has, is_majority}
use Rattle.transactions.proofs.Keys.{place_of_position, absent_from_place}
use Rattle.leader.specs.Courses.{is_place_of}
use Rattle.leader.proofs.ToldPlaces.{told_at, makes_at, told_first, makes_first}
use Rattle.leader.proofs.course.tell.Goals as goal

pub returns-in-Some-clause-result : goal.returns-in-Some-clause-result
returns-in-Some-clause-result c =
    let item : _ = c.args.item.now in
    let test : _ = is_place_of item.instance item.ballot item.vote in
    let found : _ = place_of_position test c.args.rows.now.items (Some c.in-Some.place)
    (c.in-Some.ensures ∙ ap (position test) c.deref.ensures.value) in
    c.tell.ensures.result
    ∙ makes_at c.args.acceptors c.args.acceptor item c.args.rows.now.items c.in-Some.place c.index_mut.result.now found.0 found.1
    c.index_mut.ensures.value

pub returns-in-Some-clause-items : goal.returns-in-Some-clause-items
returns-in-Some-clause-items c =
    let item : _ = c.args.item.now in
    let test : _ = is_place_of item.instance item.ballot item.vote in
    let found : _ = place_of_position test c.args.rows.now.items (Some c.in-Some.place)
    (c.in-Some.ensures ∙ ap (position test) c.deref.ensures.value) in
    told_at c.args.acceptors c.args.acceptor item c.args.rows.now.items c.in-Some.place c.index_mut.result.now found.0 found.1
    c.index_mut.ensures.value c.tell.new.self c.tell.ensures.row

pub returns-clause-result : goal.returns-clause-result
returns-clause-result c =
    let item : _ = c.args.item.now in
    let test : _ = is_place_of item.instance item.ballot item.vote in
    c.majority.ensures.value ∙ ap (λ row. is_majority c.args.acceptors (has row.members)) c.first-row.ensures
    ∙ makes_first c.args.acceptors c.args.acceptor item c.args.rows.now.items
    (absent_from_place test c.args.rows.now.items (place_of_position test c.args.rows.now.items None
    (c.in_default.ensures ∙ ap (position test) c.deref.ensures.value)))

pub returns-clause-items : goal.returns-clause-items
returns-clause-items c =
    let item : _ = c.args.item.now in
    let test : _ = is_place_of item.instance item.ballot item.vote in
    c.push_reserved.ensures.items ∙ (λ k. c.args.rows.now.items ++ c.first-row.ensures k ∷ [])
    ∙ told_first c.args.acceptors c.args.acceptor item c.args.rows.now.items
    (absent_from_place test c.args.rows.now.items (place_of_position test c.args.rows.now.items None
    (c.in_default.ensures ∙ ap (position test) c.deref.ensures.value)))
