use Rattle.std.proofs.Common.{◌≡◌, ◌∙◌, ◌<◌, ℕ, List, [], length, get_or, Option, sym, ap, subst, arith}
use Rattle.std.specs.Prelude.{IfSome}
use Rattle.std.proofs.lemmas.List.{get_or_default}
use Rattle.std.specs.declared.time.Duration.{Duration}
use Rattle.serving.specs.declared.queue.Place.{Place}
use Rattle.serving.specs.Queues.{AreSpared, EndsAt}
use Rattle.serving.proofs.QueueLemmas.{spared_none, spared_sooner}
use Rattle.serving.proofs.WaitLemmas.{ends_first, ends_sooner, spared_first, spared_more, wait_none, wait_some}
use Rattle.serving.proofs.watches.Watches.wait.Goals as goal
use Rattle.serving.proofs.watches.Watches.wait.Goals.{in-Some, in_default}

pub loop-queue-preserved : goal.loop-queue-preserved
loop-queue-preserved c =
    let queues : List (List Place) = c.args.self.now.queues.items in
    let index = c.loop-queue.queue-index in
    let now = c.args.now in
    let items : List (List Place) = c.deref-queue-items.result.now in
    let same : c.queue-item.result ≡ get_or queues index [] =
    c.queue-item.is ∙ (get_or_default items index c.queue-item.result [] c.loop-queue-test.true
    ∙ ap (λ (qs : List (List Place)). get_or qs index []) c.deref-queue-items.ensures.value) in
    let before = c.loop-queue.invariant.0 in
    let ends = c.loop-queue.invariant.1 in
    elim c.match-first.branch [
      | in-Some w ↦ (
        spared_more queues index c.loop-queue.least c.match-first.least now before
            (λ (places : List Place) spared. subst (λ (o : Option Duration). AreSpared o now places) (sym w.least-is)
            (spared_sooner c.loop-queue.least w.sooner.result now places w.sooner.ensures.other spared))
            (subst (λ (o : Option Duration). AreSpared o now (get_or queues index [])) (sym w.least-is)
            (spared_first w.sooner.result now w.in-Some.place c.queue-item.result (get_or queues index []) _ w.sooner.ensures.one
            w.saturating_duration_since.ensures w.in-Some.ensures.order same)),
        subst (λ (o : Option Duration). IfSome o (λ least. EndsAt least now queues)) (sym w.least-is)
            (ends_sooner c.loop-queue.least w.saturating_duration_since.result w.sooner.result now queues w.sooner.ensures.which ends
            (ends_first w.saturating_duration_since.result now w.in-Some.place c.queue-item.result w.in-Some.ensures.front.0 queues index
            same w.in-Some.ensures.front.1 w.saturating_duration_since.ensures)),
      )
      | in_default w ↦ (
        spared_more queues index c.loop-queue.least c.match-first.least now before
            (λ (places : List Place) spared. subst (λ (o : Option Duration). AreSpared o now places) (sym w.least-is) spared)
            (spared_none c.match-first.least now (get_or queues index []) (sym same ∙ w.in_default.ensures.order)),
        subst (λ (o : Option Duration). IfSome o (λ least. EndsAt least now queues)) (sym w.least-is) ends,
      )
    ]

pub returns-clause-none : goal.returns-clause-none
returns-clause-none c =
    let old = c.args.self.now in
    let items : List (List Place) = c.deref-queue-items.result.now in
    wait_none old.watched old.keys.entries old.queues.items c.args.now c.loop-queue.least old.kept
    (λ (at : ℕ) below.
    let inside : at < length items = subst (λ (qs : List (List Place)). at < length qs) (sym c.deref-queue-items.ensures.value) below in
    c.loop-queue.invariant.0 at (omega (arith, inside, c.loop-queue-test.false)))

pub returns-clause-some : goal.returns-clause-some
returns-clause-some c =
    let old = c.args.self.now in
    let items : List (List Place) = c.deref-queue-items.result.now in
    wait_some old.watched old.keys.entries old.queues.items c.args.now c.loop-queue.least old.kept
    (λ (at : ℕ) below.
    let inside : at < length items = subst (λ (qs : List (List Place)). at < length qs) (sym c.deref-queue-items.ensures.value) below in
    c.loop-queue.invariant.0 at (omega (arith, inside, c.loop-queue-test.false)))

pub returns-clause-ends : goal.returns-clause-ends
returns-clause-ends c = c.loop-queue.invariant.1
