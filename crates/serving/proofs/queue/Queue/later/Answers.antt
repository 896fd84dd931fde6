use Rattle.std.proofs.Common.{rules, ◌≡◌, ◌≤◌, ℕ, List, true, subst, arith}
use Rattle.std.proofs.lemmas.Bool.Decides.{nat_tests}
use Rattle.std.specs.Time.{instant_nanos}
use Rattle.serving.specs.declared.queue.Place.{Place}
use Rattle.serving.specs.Queues.{are_before}
use Rattle.serving.proofs.QueueLemmas.{before_later, back_is_last}
use Rattle.serving.proofs.queue.Queue.later.Goals as goal

pub returns-in-Some-clause-behind : goal.returns-in-Some-clause-behind
returns-in-Some-clause-behind c =
    let P : List Place → Type 0 = λ places. are_before c.in-Some.last.now places ≡ true in
    let last = back_is_last c.self.inside.places.items c.self.inside.places.len c.in-Some.last.now c.self.inside.places.ok.0
    c.in-Some.ensures.lookup (c.back.ensures.variant.0 (search rules)) c.self.invariant in
    λ (key : ℕ). subst P c.self.view_is last

pub returns-in_default-clause-behind : goal.returns-in_default-clause-behind
returns-in_default-clause-behind c =
    let P : List Place → Type 0 = λ places. are_before c.in-Some.last.now places ≡ true in
    let last = back_is_last c.self.inside.places.items c.self.inside.places.len c.in-Some.last.now c.self.inside.places.ok.0
    c.in-Some.ensures.lookup (c.back.ensures.variant.0 (search rules)) c.self.invariant in
    let by : instant_nanos c.in-Some.last.now.due ≤ instant_nanos c.args.due = grind (arith, nat_tests) in
    λ (key : ℕ). before_later c.in-Some.last.now (record { key = key; due = c.args.due }) c.args.self.now (subst P c.self.view_is last) by
