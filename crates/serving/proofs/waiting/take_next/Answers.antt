use Rattle.std.proofs.Common.{◌∙◌, ◌<◌, ℕ, List, length, get_or, [], sym, ap, subst, arith}
use Rattle.std.proofs.lemmas.List.{get_or-set_other}
use Rattle.slab.specs.Slab.{Slab}
use Rattle.serving.specs.declared.queue.Place.{Place}
use Rattle.serving.specs.declared.watched.Watch.{Watch}
use Rattle.serving.specs.Watching.{AreKept, AreWithin}
use Rattle.serving.proofs.WatchLemmas.{handed_due, kept_handed, kept_popped, within_popped}
use Rattle.serving.proofs.waiting.take_next.Goals as goal

pub returns-in-Some-hand_out-clause-kept : goal.returns-in-Some-hand_out-clause-kept
returns-in-Some-hand_out-clause-kept c =
    let queues : List (List Place) = c.loop-place.queues.items in
    let rest : List Place = get_or c.take_place.new.queues.items c.args.at [] in
    let below : c.args.at < length queues = omega (arith, c.requires.at, c.loop-place.invariant.many, c.loop-place.queues.ok.0) in
    let taken = c.in-Some.ensures.some in
    let hands = c.in-Some-hand_out.ensures.some in
    subst (λ (qs : List (List Place)). AreKept c.hand_out.new.watched qs) (sym taken.2)
    (kept_handed c.loop-place.watched c.hand_out.new.watched queues c.args.at c.in-Some.place rest hands.watch below taken.1 hands.only
    c.loop-place.invariant.kept)

pub returns-in-Some-hand_out-clause-within : goal.returns-in-Some-hand_out-clause-within
returns-in-Some-hand_out-clause-within c = λ (limit : ℕ → ℕ) all.
    let queues : List (List Place) = c.loop-place.queues.items in
    let rest : List Place = get_or c.take_place.new.queues.items c.args.at [] in
    let below : c.args.at < length queues = omega (arith, c.requires.at, c.loop-place.invariant.many, c.loop-place.queues.ok.0) in
    let taken = c.in-Some.ensures.some in
    subst (AreWithin limit) (sym taken.2)
    (within_popped limit queues c.args.at c.in-Some.place rest below taken.1 (c.loop-place.invariant.within limit all))

pub returns-in-Some-hand_out-clause-some : goal.returns-in-Some-hand_out-clause-some
returns-in-Some-hand_out-clause-some c =
    let due = c.in-Some-hand_out.due in
    handed_due c.in-Some.place c.args.watched.now c.loop-place.watched c.hand_out.new.watched c.args.now due.tx due.turn
    c.loop-place.invariant.same c.in-Some.ensures.some.0 c.in-Some-hand_out.ensures.some

pub loop-place-preserved : goal.loop-place-preserved
loop-place-preserved c =
    let queues : List (List Place) = c.loop-place.queues.items in
    let rest : List Place = get_or c.take_place.new.queues.items c.args.at [] in
    let below : c.args.at < length queues = omega (arith, c.requires.at, c.loop-place.invariant.many, c.loop-place.queues.ok.0) in
    let taken = c.in-Some.ensures.some in
    let none = c.in_default-hand_out.ensures.none in
    record {
      kept = subst (λ (w : Slab Watch). AreKept w c.take_place.new.queues.items) (sym none.1)
          (subst (λ (qs : List (List Place)). AreKept c.loop-place.watched qs) (sym taken.2)
          (kept_popped c.loop-place.watched queues c.args.at c.in-Some.place rest below taken.1 none.0 c.loop-place.invariant.kept));
      spelled = c.hand_out.ensures.spelled;
      many = c.take_place.ensures.many ∙ c.loop-place.invariant.many;
      within = λ (limit : ℕ → ℕ) all. subst (AreWithin limit) (sym taken.2)
          (within_popped limit queues c.args.at c.in-Some.place rest below taken.1 (c.loop-place.invariant.within limit all));
      same = none.1 ∙ c.loop-place.invariant.same;
      others = λ (other : ℕ) apart. ap (λ (qs : List (List Place)). get_or qs other []) taken.2
          ∙ (get_or-set_other queues c.args.at other rest [] apart ∙ c.loop-place.invariant.others other apart);
    }
