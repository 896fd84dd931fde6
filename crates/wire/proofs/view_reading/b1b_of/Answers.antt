use Rattle.std.proofs.Common.{sym, ◌∙◌, arith}
use Rattle.std.proofs.Math.Facts.{Fits-lt-pow}
use Rattle.xid.specs.Names.{IsBytes}
use Rattle.wire.specs.Messages.{IsLeaderBallot}
use Rattle.wire.proofs.BundleKinds.{b1b_accepted, b1b_refused, number_fits}
use Rattle.wire.proofs.view_reading.b1b_of.Goals as goal

pub returns-then-not-are_items : goal.returns-then-not-are_items
returns-then-not-are_items c =
    b1b_refused c.args.tx.now c.args.bytes.now c.in_ok-ballot.rest.now c.in_ok-acceptor.reports.now c.in_ok-ballot.ballot
    c.in_ok-acceptor.acceptor
    c.in_ok-ballot.ensures c.in_ok-acceptor.ensures (sym c.are_items.ensures ∙ c.if-not-are_items.true)

pub returns : goal.returns
returns c =
    let is : IsBytes c.args.bytes.now = λ i. Fits-lt-pow (c.type_inv.bytes i) in
    let leader : IsLeaderBallot c.in_ok-ballot.ballot = record {
      some = omega (arith, c.if-ballot-eq0.false);
      fits = number_fits c.args.bytes.now (c.in_ok-ballot.ballot, c.in_ok-ballot.rest.now) is (sym c.in_ok-ballot.ensures);
    } in
    b1b_accepted c.args.tx.now c.args.bytes.now c.in_ok-ballot.rest.now c.in_ok-acceptor.reports.now c.in_ok-ballot.ballot
    c.in_ok-acceptor.acceptor
    c.in_ok-ballot.ensures c.in_ok-acceptor.ensures c.count.ensures.valid leader c.if-acceptor-ge-MAX_ACCEPTORS.false
    (sym c.are_items.ensures ∙ c.if-not-are_items.false)
