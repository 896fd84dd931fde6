use Rattle.std.proofs.Common.{◌≡◌, ◌∙◌, ◌&&◌, true, Some, sym, ap, arith, get_or, length}
use Rattle.std.proofs.lemmas.List.{length-map}
use Rattle.std.proofs.lemmas.List.Folds.{list_all_at, list_all_more}
use Rattle.std.proofs.lemmas.Option.{get_or_from_slice_get}
use Rattle.xid.specs.Places.{is_below}
use Rattle.transactions.specs.Seen.{at_places, no_transaction}
use Rattle.transactions.proofs.numbers.Transactions.are_below.Goals as goal

pub returns-then-not-is_below : goal.returns-then-not-is_below
returns-then-not-is_below c =
    let txs = at_places c.args.self.now c.args.order.now.numbers in
    let count : length txs ≡ length c.args.order.now.numbers = length-map c.args.order.now.numbers _ in
    sym (list_all_at (is_below (Some c.args.floor.now)) txs c.loop-i.i no_transaction
    (omega (arith, c.loop-i-test.true, c.len-i-end.ensures.value, count))
    (ap (is_below (Some c.args.floor.now)) (get_or_from_slice_get txs c.loop-i.i c.in-Some.tx no_transaction (sym c.in-Some.ensures))
    ∙ sym c.is_below.ensures ∙ c.if-not-is_below.true))

pub loop-i-preserved : goal.loop-i-preserved
loop-i-preserved c =
    let txs = at_places c.args.self.now c.args.order.now.numbers in
    let count : length txs ≡ length c.args.order.now.numbers = length-map c.args.order.now.numbers _ in
    let below : is_below (Some c.args.floor.now) (get_or txs c.loop-i.i no_transaction) ≡ true =
    ap (is_below (Some c.args.floor.now)) (get_or_from_slice_get txs c.loop-i.i c.in-Some.tx no_transaction (sym c.in-Some.ensures))
    ∙ sym c.is_below.ensures ∙ c.if-not-is_below.false in
    list_all_more (is_below (Some c.args.floor.now)) txs c.loop-i.i no_transaction
    (omega (arith, c.loop-i-test.true, c.len-i-end.ensures.value, count))
    ∙ (λ k. c.loop-i.invariant k && below k)
