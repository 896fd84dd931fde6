use Rattle.std.proofs.Common.{ℕ, List, Option, ◌∷◌, [], sym, ap, ◌∙◌, arith}
use Rattle.std.proofs.lemmas.List.{length-append}
use Rattle.wire.specs.Reading.{list_at}
use Rattle.wire.proofs.Loop.{with_front, goes_on, ends, is_done}
use Rattle.wire.proofs.reading.more_items.Goals as goal

-- all that is taken after what stands in front
abbrev total : {X : Type 0} → (List ℕ → Option (X × List ℕ)) → List X → ℕ → List ℕ → Option (List X × List ℕ)
total one front count bytes = with_front front (list_at one count bytes)

pub returns-in_err-item : goal.returns-in_err-item
returns-in_err-item g c =
    rw c.from_residual.ensures (sym (ends g.T.Item.at c.loop.all c.args.count c.loop.counter c.loop.rest.now
    (total g.T.Item.at c.one-all.result c.args.count c.args.bytes.now)
    c.loop-test.true (sym c.in_err-item.ensures) c.loop.invariant.same)
    ∙ ap (λ front. total g.T.Item.at front c.args.count c.args.bytes.now) c.one-all.ensures)

pub loop-preserved : goal.loop-preserved
loop-preserved g c =
    rw c.push.ensures (record {
      count = omega (arith, length-append c.loop.all (c.in_ok-item.item ∷ []), c.loop.invariant.count);
      same =
          goes_on g.T.Item.at c.loop.all c.args.count c.loop.counter c.loop.rest.now
          (total g.T.Item.at c.one-all.result c.args.count c.args.bytes.now)
          c.in_ok-item.item c.in_ok-item.after.now c.loop-test.true (sym c.in_ok-item.ensures) c.loop.invariant.same;
    })

pub returns : goal.returns
returns g c =
    sym (is_done g.T.Item.at c.loop.all c.args.count c.loop.counter c.loop.rest.now
    (total g.T.Item.at c.one-all.result c.args.count c.args.bytes.now)
    c.loop-test.false c.loop.invariant.same)
    ∙ ap (λ front. total g.T.Item.at front c.args.count c.args.bytes.now) c.one-all.ensures
