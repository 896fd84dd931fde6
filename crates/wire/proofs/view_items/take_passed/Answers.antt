use Rattle.std.proofs.Common.{◌≡◌, ◌<◌, ◌≤◌, true, false, sym, ap, ◌∙◌, refl, arith}
use Rattle.xid.specs.Transactions.{is_participant}
use Rattle.wire.proofs.Instances.{branches_below}
use Rattle.wire.specs.SpelledItems.{is_item}
use Rattle.wire.proofs.CountedItems.{next_none, next_fails, next_low, next_goes}
use Rattle.wire.proofs.view_items.take_passed.Goals as goal

pub returns-in_err-item-clause-left : goal.returns-in_err-item-clause-left
returns-in_err-item-clause-left g c = λ n.
    let t = g.T.Item in
    rw c.from_residual.ensures
    (next_none t.at (is_item t.about (t.is_below c.args.ballot) c.args.tx.now) t.about c.args.least n c.args.bytes.now
    c.in_err-item.ensures)

pub returns-then-not-is_participant-clause-left : goal.returns-then-not-is_participant-clause-left
returns-then-not-is_participant-clause-left g c = λ n.
    let t = g.T.Item in
    let named : is_participant c.args.tx.now (t.about c.in_ok-item.item) ≡ false =
    ap (is_participant c.args.tx.now) (sym c.instance-instance.ensures) ∙ sym c.is_participant.ensures.value
    ∙ c.if-not-is_participant.true in
    let fails : is_item t.about (t.is_below c.args.ballot) c.args.tx.now c.in_ok-item.item ≡ false = rw named refl in
    next_fails t.at (is_item t.about (t.is_below c.args.ballot) c.args.tx.now) t.about c.args.least n c.args.bytes.now
    c.in_ok-item.item c.in_ok-item.rest.now c.in_ok-item.ensures fails

pub returns-then-not-is_below-clause-left : goal.returns-then-not-is_below-clause-left
returns-then-not-is_below-clause-left g c = λ n.
    let t = g.T.Item in
    let named : is_participant c.args.tx.now (t.about c.in_ok-item.item) ≡ true =
    ap (is_participant c.args.tx.now) (sym c.instance-instance.ensures) ∙ sym c.is_participant.ensures.value
    ∙ c.if-not-is_participant.false in
    let great : t.is_below c.args.ballot c.in_ok-item.item ≡ false = sym c.is_below.ensures.test ∙ c.if-not-is_below.true in
    let fails : is_item t.about (t.is_below c.args.ballot) c.args.tx.now c.in_ok-item.item ≡ false = rw (named, great) refl in
    next_fails t.at (is_item t.about (t.is_below c.args.ballot) c.args.tx.now) t.about c.args.least n c.args.bytes.now
    c.in_ok-item.item c.in_ok-item.rest.now c.in_ok-item.ensures fails

pub returns-then-instance-least-clause-left : goal.returns-then-instance-least-clause-left
returns-then-instance-least-clause-left g c = λ n.
    let t = g.T.Item in
    let low : t.about c.in_ok-item.item < c.args.least = omega (arith, c.instance-instance.ensures, c.if-instance-least.true) in
    next_low t.at (is_item t.about (t.is_below c.args.ballot) c.args.tx.now) t.about c.args.least n c.args.bytes.now
    c.in_ok-item.item c.in_ok-item.rest.now c.in_ok-item.ensures low

pub returns-clause-left : goal.returns-clause-left
returns-clause-left g c = λ n.
    let t = g.T.Item in
    let named : is_participant c.args.tx.now (t.about c.in_ok-item.item) ≡ true =
    ap (is_participant c.args.tx.now) (sym c.instance-instance.ensures) ∙ sym c.is_participant.ensures.value
    ∙ c.if-not-is_participant.false in
    let low : t.is_below c.args.ballot c.in_ok-item.item ≡ true = sym c.is_below.ensures.test ∙ c.if-not-is_below.false in
    let holds : is_item t.about (t.is_below c.args.ballot) c.args.tx.now c.in_ok-item.item ≡ true = rw (named, low) refl in
    let le : c.args.least ≤ t.about c.in_ok-item.item = omega (arith, c.instance-instance.ensures, c.if-instance-least.false) in
    rw c.instance-instance.ensures
    (next_goes t.at (is_item t.about (t.is_below c.args.ballot) c.args.tx.now) t.about c.args.least n c.args.bytes.now
    c.in_ok-item.item c.in_ok-item.rest.now c.in_ok-item.ensures holds le)

pub returns-clause-below : goal.returns-clause-below
returns-clause-below g c =
    branches_below c.args.tx.now.branches c.instance-instance.result c.is_participant.ensures.valid.branches.each
    (sym c.is_participant.ensures.value
    ∙ c.if-not-is_participant.false)
