use Rattle.std.proofs.Common.{◌≡◌, ◌∙◌, length, sym, ap, subst, arith}
use Rattle.std.specs.List.{IsDistinct}
use Rattle.std.proofs.lemmas.List.{length-map}
use Rattle.std.proofs.lemmas.Option.{get_or_from_slice_get}
use Rattle.std.proofs.lemmas.Result.{err_from_is_err_and}
use Rattle.xid.specs.Transactions.{tx_eq}
use Rattle.transactions.specs.Seen.{at_places, no_transaction}
use Rattle.transactions.proofs.Places.{begun_once}
use Rattle.acceptor.specs.SlotTables.{IsSeen, IsTable, TableParts}
use Rattle.acceptor.proofs.Left.{is_left, is_new, left_out, put_there, seen_at}
use Rattle.acceptor.proofs.table.Table.above.Goals as goal

pub loop-i-preserved-then-is_below : goal.loop-i-preserved-then-is_below
loop-i-preserved-then-is_below c =
    let begun = at_places c.args.self.now.transactions c.args.begun.now.numbers in
    let count : length begun ≡ length c.args.begun.now.numbers = length-map c.args.begun.now.numbers _ in
    left_out c.args.floor.now c.args.self.now begun c.loop-i.i c.in-Some.tx
    (omega (arith, c.loop-i-test.true, c.len-i-end.ensures.value, count))
    (get_or_from_slice_get begun c.loop-i.i c.in-Some.tx no_transaction (sym c.in-Some.ensures)) c.loop-i.left c.loop-i.order.numbers
    (sym c.is_below.ensures ∙ c.if-is_below.true) c.loop-i.invariant

pub put-requires-clause-new : goal.put-requires-clause-new
put-requires-clause-new c =
    let begun = at_places c.args.self.now.transactions c.args.begun.now.numbers in
    let count : length begun ≡ length c.args.begun.now.numbers = length-map c.args.begun.now.numbers _ in
    let once : IsDistinct tx_eq c.args.self.now.transactions =
    subst (λ (t : TableParts). IsDistinct tx_eq t.transactions) c.self.view_is c.len.ensures.distinct in
    is_new c.args.floor.now c.args.self.now begun c.loop-i.i c.in-Some.tx
    (omega (arith, c.loop-i-test.true, c.len-i-end.ensures.value, count))
    (get_or_from_slice_get begun c.loop-i.i c.in-Some.tx no_transaction (sym c.in-Some.ensures))
    (sym c.is_below.ensures ∙ c.if-is_below.false) c.loop-i.left c.loop-i.order.numbers c.loop-i.invariant
    (begun_once c.args.self.now.transactions once c.args.begun.now.numbers c.requires c.len-i-end.ensures.distinct)

pub put-requires-clause-whole : goal.put-requires-clause-whole
put-requires-clause-whole c =
    let begun = at_places c.args.self.now.transactions c.args.begun.now.numbers in
    let once : IsDistinct tx_eq c.args.self.now.transactions =
    subst (λ (t : TableParts). IsDistinct tx_eq t.transactions) c.self.view_is c.len.ensures.distinct in
    let table : IsTable c.args.self.now = subst IsTable c.self.view_is c.self.invariant in
    ap length c.begun_slots.ensures
    ∙ table.branches c.in-Some.tx (subst (IsSeen c.args.self.now)
    (get_or_from_slice_get begun c.loop-i.i c.in-Some.tx no_transaction (sym c.in-Some.ensures))
    (seen_at c.args.self.now.transactions once c.args.begun.now.numbers c.loop-i.i c.requires
    (omega (arith, c.loop-i-test.true, c.len-i-end.ensures.value))))

pub returns-in_err-number-clause-err : goal.returns-in_err-number-clause-err
returns-in_err-number-clause-err c =
    let p = err_from_is_err_and c.from_residual.result c.from_residual.ensures.1 in rw p.1 (p.2 ∙ c.in_err-number.ensures.err.0)

pub returns-in_err-add-clause-err : goal.returns-in_err-add-clause-err
returns-in_err-add-clause-err c =
    let p = err_from_is_err_and c.from_residual-in_err-add.result c.from_residual-in_err-add.ensures.1 in
    rw p.1 (p.2 ∙ c.in_err-add.ensures.err.0)

pub loop-i-preserved : goal.loop-i-preserved
loop-i-preserved c =
    let begun = at_places c.args.self.now.transactions c.args.begun.now.numbers in
    let count : length begun ≡ length c.args.begun.now.numbers = length-map c.args.begun.now.numbers _ in
    put_there c.args.floor.now c.args.self.now begun c.loop-i.i c.in-Some.tx
    (omega (arith, c.loop-i-test.true, c.len-i-end.ensures.value, count))
    (get_or_from_slice_get begun c.loop-i.i c.in-Some.tx no_transaction (sym c.in-Some.ensures))
    (sym c.is_below.ensures ∙ c.if-is_below.false) c.loop-i.left c.loop-i.order.numbers c.loop-i.invariant
    c.begun_slots.result.now c.begun_slots.ensures c.in_ok-number.number c.in_ok-number.ensures.ok.0 c.put.new.self
    c.in_ok-number.ensures.ok.1 c.add.new.self.numbers c.in_ok-add.ensures.ok

pub returns-clause-ok : goal.returns-clause-ok
returns-clause-ok c =
    let begun = at_places c.args.self.now.transactions c.args.begun.now.numbers in
    let count : length begun ≡ length c.args.begun.now.numbers = length-map c.args.begun.now.numbers _ in
    is_left c.args.floor.now c.args.self.now begun c.loop-i.left c.loop-i.order.numbers c.loop-i.i
    (omega (arith, c.loop-i-test.false, c.len-i-end.ensures.value, count)) c.loop-i.invariant
