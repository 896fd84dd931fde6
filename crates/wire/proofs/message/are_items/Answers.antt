use Rattle.std.proofs.Common.{false, IsTrue, refl, sym, ap, ◌∙◌, arith}
use Rattle.std.proofs.lemmas.Bool.{false≢true}
use Rattle.std.proofs.lemmas.List.Elements.{recursion_from_All}
use Rattle.xid.specs.Transactions.{is_participant}
use Rattle.wire.proofs.Ascending.{ascends_at}
use Rattle.wire.proofs.Bundles.{named_at, instances_are}
use Rattle.wire.proofs.message.are_items.Goals as goal

pub returns-then-not-is_participant : goal.returns-then-not-is_participant
returns-then-not-is_participant g c = (
  λ (t : IsTrue false). absurd (cc (t)),
  λ is.
      let named = named_at g.T.Item.about c.args.items.now is.0 c.loop-i.i c.index-items-i.result c.loop-i-test.true in
      let here = c.instance-instance.ensures ∙ ap g.T.Item.about c.index-items-i.is in
      let one = c.is_participant.ensures.value ∙ ap (is_participant c.args.tx.now) here ∙ named in
      absurd (false≢true (sym c.if-not-is_participant.true ∙ one)),
)

pub returns-then-instance : goal.returns-then-instance
returns-then-instance g c = (
  λ (t : IsTrue false). absurd (cc (t)),
  λ is.
      let about = g.T.Item.about in
      let up = ascends_at about c.args.items.now c.loop-i.i c.index-items-i-then-i-gt0.result c.index-items-i.result is.0.ascending
      c.if-i-gt0.true c.loop-i-test.true in
      let was = c.instance.ensures ∙ ap about c.index-items-i-then-i-gt0.is in
      let here = c.instance-instance.ensures ∙ ap about c.index-items-i.is in
      absurd (omega (arith, up, was, here, c.if-instance.true)),
)

pub returns : goal.returns
returns g c = (
  λ _. (
    instances_are g.T.Item.about c.args.items.now c.requires.valid c.requires.some
        (λ k d lt. c.loop-i.invariant.named k d (omega (arith, c.loop-i-test.false)))
        (λ k d lt. c.loop-i.invariant.ascending k d (omega (arith, c.loop-i-test.false))),
    recursion_from_All (g.T.Item.fits c.args.ballot) c.args.items.now
        (λ k d lt. c.loop-i.invariant.below k d (omega (arith, c.loop-i-test.false))),
  ),
  λ _. refl,
)
