use Rattle.std.proofs.Common.{◌≡◌, ◌∙◌, Some, false, refl, sym, ap, subst}
use Rattle.slab.specs.Slab.{get}
use Rattle.wire.specs.Spelled.{tx_spelled, IsSpelled}
use Rattle.serving.specs.declared.watched.Watch.{Watch}
use Rattle.serving.proofs.WatchLemmas.{some_tx, spelled_after, updates_at, waits_parts}
use Rattle.serving.proofs.waiting.hand_out.Goals as goal

pub returns-in-Some-unspelled-clause-some : goal.returns-in-Some-unspelled-clause-some
returns-in-Some-unspelled-clause-some c =
    let watch : Watch = c.in-Some.watch.now in
    let was : get c.args.watched.now c.args.place.key ≡ Some watch = sym c.in-Some.ensures.value in
    let whole : IsSpelled watch.spelled.items = c.requires c.args.place.key watch was in
    let same : c.deref.result.now ≡ watch.spelled.items = c.deref.ensures.value in
    let got : Some c.in-Some-unspelled.tx ≡ Some (tx_spelled c.deref.result.now) =
    c.in-Some-unspelled.ensures (subst IsSpelled (sym same) whole) in
    let waits = waits_parts c.args.place c.args.watched.now watch was (sym c.waits_for.ensures ∙ c.if-not-waits_for.false) in
    record {
      watch = watch;
      was = was;
      waited = waits.0;
      due = waits.1;
      at_turn = refl;
      spelled = ap tx_spelled (sym same) ∙ sym (some_tx c.in-Some-unspelled.tx (tx_spelled c.deref.result.now) got);
      only = updates_at c.args.watched.now c.args.place.key watch (record watch { waits = false }) was;
    }

pub returns-in-Some-unspelled-clause-spelled : goal.returns-in-Some-unspelled-clause-spelled
returns-in-Some-unspelled-clause-spelled c =
    let watch : Watch = c.in-Some.watch.now in
    let was : get c.args.watched.now c.args.place.key ≡ Some watch = sym c.in-Some.ensures.value in
    spelled_after c.args.watched.now c.args.place.key watch (record watch { waits = false }) was refl c.requires

pub returns-in-None-clause-spelled : goal.returns-in-None-clause-spelled
returns-in-None-clause-spelled c =
    let watch : Watch = c.in-Some.watch.now in
    let was : get c.args.watched.now c.args.place.key ≡ Some watch = sym c.in-Some.ensures.value in
    spelled_after c.args.watched.now c.args.place.key watch (record watch { waits = false }) was refl c.requires
