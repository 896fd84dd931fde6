use Rattle.std.proofs.Common.{◌≡◌, ◌<◌, ℕ, Some, List, length, true, refl, sym, subst, arith}
use Rattle.slab.specs.Slab.{get, with_value}
use Rattle.serving.specs.declared.queue.Place.{Place}
use Rattle.serving.specs.declared.watched.Watch.{Watch}
use Rattle.serving.specs.Watching.{AreKept, AreWithin}
use Rattle.serving.proofs.WatchLemmas.{kept_pushed, kept_put_off, puts_off, spelled_after, updates_at, within_pushed}
use Rattle.serving.proofs.waiting.put_off.Goals as goal

pub returns-in-Some-clause-kept : goal.returns-in-Some-clause-kept
returns-in-Some-clause-kept c =
    let queues : List (List Place) = c.args.queues.now.items in
    let key = c.args.key in
    let at = c.args.at in
    let watch : Watch = c.in-Some.watch.now in
    let later = c.in_ok-later.later in
    let was : get c.args.watched.now key ≡ Some watch = sym c.in-Some.ensures.value in
    let now : Watch = record watch { due = later; turn = c.args.turn; waits = true } in
    let below : at < length queues = omega (arith, c.requires.at, c.args.queues.now.ok.0) in
    let P : List (List Place) → Type 0 = λ qs. AreKept (with_value c.args.watched.now key now) qs in
    subst P (sym c.in_ok-later.ensures.ok)
    (kept_put_off c.args.watched.now (with_value c.args.watched.now key now) queues at key c.args.turn later watch below
    (updates_at c.args.watched.now key watch now was)
    (kept_pushed c.args.watched.now queues at (record { key = key; due = later }) below c.requires.kept))

pub returns-in-Some-clause-ok : goal.returns-in-Some-clause-ok
returns-in-Some-clause-ok c =
    let key = c.args.key in
    let watch : Watch = c.in-Some.watch.now in
    let later = c.in_ok-later.later in
    let was : get c.args.watched.now key ≡ Some watch = sym c.in-Some.ensures.value in
    let now : Watch = record watch { due = later; turn = c.args.turn; waits = true } in
    puts_off key c.args.turn c.args.due _ c.args.watched.now (with_value c.args.watched.now key now) watch was (record {
      later = later;
      after = c.in_ok-later.ensures.after;
      exact = c.in_ok-later.ensures.exact;
      only = updates_at c.args.watched.now key watch now was;
    })

pub returns-in-Some-clause-spelled : goal.returns-in-Some-clause-spelled
returns-in-Some-clause-spelled c =
    let watch : Watch = c.in-Some.watch.now in
    let was : get c.args.watched.now c.args.key ≡ Some watch = sym c.in-Some.ensures.value in
    spelled_after c.args.watched.now c.args.key watch (record watch { due = c.in_ok-later.later; turn = c.args.turn; waits = true }) was
    refl c.requires.spelled

pub returns-in_default-clause-kept : goal.returns-in_default-clause-kept
returns-in_default-clause-kept c =
    let queues : List (List Place) = c.args.queues.now.items in
    let below : c.args.at < length queues = omega (arith, c.requires.at, c.args.queues.now.ok.0) in
    let P : List (List Place) → Type 0 = λ qs. AreKept c.args.watched.now qs in
    subst P (sym c.in_ok-later.ensures.ok)
    (kept_pushed c.args.watched.now queues c.args.at (record { key = c.args.key; due = c.in_ok-later.later }) below c.requires.kept)

pub returns-in-Some-clause-within : goal.returns-in-Some-clause-within
returns-in-Some-clause-within c = λ (limit : ℕ → ℕ) by within.
    let queues : List (List Place) = c.args.queues.now.items in
    let below : c.args.at < length queues = omega (arith, c.requires.at, c.args.queues.now.ok.0) in
    let last = c.in_ok-later.ensures.within (limit c.args.at) by (within c.args.at) in
    subst (AreWithin limit) (sym c.in_ok-later.ensures.ok)
    (within_pushed limit queues c.args.at (record { key = c.args.key; due = c.in_ok-later.later }) below last within)

pub returns-in_default-clause-within : goal.returns-in_default-clause-within
returns-in_default-clause-within c = λ (limit : ℕ → ℕ) by within.
    let queues : List (List Place) = c.args.queues.now.items in
    let below : c.args.at < length queues = omega (arith, c.requires.at, c.args.queues.now.ok.0) in
    let last = c.in_ok-later.ensures.within (limit c.args.at) by (within c.args.at) in
    subst (AreWithin limit) (sym c.in_ok-later.ensures.ok)
    (within_pushed limit queues c.args.at (record { key = c.args.key; due = c.in_ok-later.later }) below last within)
