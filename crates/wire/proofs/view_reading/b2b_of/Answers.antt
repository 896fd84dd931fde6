use Rattle.std.proofs.Common.{sym, ◌∙◌}
use Rattle.std.proofs.Math.Facts.{Fits-lt-pow}
use Rattle.xid.specs.Names.{IsBytes}
use Rattle.wire.proofs.BundleKinds.{b2b_accepted, b2b_refused}
use Rattle.wire.proofs.view_reading.b2b_of.Goals as goal

pub returns-then-not-are_items : goal.returns-then-not-are_items
returns-then-not-are_items c =
    b2b_refused c.args.tx.now c.args.bytes.now c.in_ok-acceptor.accepts.now c.in_ok-acceptor.acceptor c.in_ok-acceptor.ensures
    (sym c.are_items.ensures ∙ c.if-not-are_items.true)

pub returns : goal.returns
returns c =
    let is : IsBytes c.args.bytes.now = λ i. Fits-lt-pow (c.type_inv.bytes i) in
    b2b_accepted c.args.tx.now c.args.bytes.now c.in_ok-acceptor.accepts.now c.in_ok-acceptor.acceptor c.in_ok-acceptor.ensures is
    c.count.ensures.valid
    c.if-acceptor-ge-MAX_ACCEPTORS.false (sym c.are_items.ensures ∙ c.if-not-are_items.false)
