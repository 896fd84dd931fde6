-- How long nothing is due: no longer than until the first place of each queue.
use Rattle.std.proofs.Common.{◌≡◌, ◌∙◌, ◌⊎◌, inl, inr, ℕ, ◌+◌, ◌-◌, ◌<◌, ◌≤◌, true, false, List, [], ◌∷◌, length, get_or, Option, Some}
use Rattle.std.proofs.Common.{None, sym, subst, arith}
use Rattle.std.specs.Prelude.{IfNone, IfSome}
use Rattle.std.specs.List.{AllByRecursion}
use Rattle.std.specs.Duration.{as_nanos}
use Rattle.std.specs.Time.{instant_nanos}
use Rattle.std.specs.declared.time.Duration.{Duration}
use Rattle.std.specs.declared.time.Instant.{Instant}
use Rattle.std.proofs.lemmas.Bool.{cases_eq, false_from_ne_true}
use Rattle.slab.specs.Slab.{Slab}
use Rattle.serving.specs.declared.queue.Place.{Place}
use Rattle.serving.specs.declared.watched.Watch.{Watch}
use Rattle.serving.specs.Queues.{due_at, AreSpared, EndsAt, IsFirst}
use Rattle.serving.specs.Watching.{watch_of, AreKept, Keys}
use Rattle.serving.proofs.NameLemmas.{stands_at}
use Rattle.serving.proofs.QueueLemmas.{spared_by_first}
use Rattle.serving.proofs.WatchLemmas.{due_anywhere, has_place}

-- one queue more
pub spared_more : (queues : List (List Place)) (index : ℕ) (old new : Option Duration) (now : Instant)
    → ((at : ℕ) → at < index → AreSpared old now (get_or queues at []))
    → ((places : List Place) → AreSpared old now places → AreSpared new now places) → AreSpared new now (get_or queues index [])
    → (at : ℕ) → at < index + 1 → AreSpared new now (get_or queues at [])
spared_more queues index old new now before keeps here at below = by (cases_eq at index)
  where
    by : (at ≡ index) ⊎ (at ≡ index → ⊥) → AreSpared new now (get_or queues at [])
    by (inl e) = subst (λ (n : ℕ). AreSpared new now (get_or queues n [])) (sym e) here
    by (inr apart) = keeps (get_or queues at []) (before at (omega (arith, below, apart)))

-- a queue is spared for no longer than until its first place
pub spared_first : (wait : Duration) (now : Instant) (first : Place) (item places : List Place) (until : ℕ) → as_nanos wait ≤ until
    → until ≡ due_at first - instant_nanos now → IsFirst (Some first) item → item ≡ places → AreSpared (Some wait) now places
spared_first wait now first item places until by is sorted same =
    subst (AreSpared (Some wait) now) same
    (spared_by_first wait now first item (subst (λ (n : ℕ). as_nanos wait ≤ n) is by) sorted)

-- and such a place is due when the wait ends
pub ends_first : (wait : Duration) (now : Instant) (first : Place) (item rest : List Place) (queues : List (List Place)) (at : ℕ)
    → item ≡ get_or queues at [] → item ≡ first ∷ rest → as_nanos wait ≡ due_at first - instant_nanos now → EndsAt wait now queues
ends_first wait now first item rest queues at same is ends =
    record { at = at; place = first; rest = rest; stands = sym same ∙ is; ends = ends }

pub ends_sooner : (least : Option Duration) (wait result : Duration) (now : Instant) (queues : List (List Place))
    → (result ≡ wait) ⊎ (least ≡ Some result) → IfSome least (λ least. EndsAt least now queues) → EndsAt wait now queues
    → EndsAt result now queues
ends_sooner least wait result now queues (inl same) before here = subst (λ (d : Duration). EndsAt d now queues) (sym same) here
ends_sooner least wait result now queues (inr is) before here =
    subst (λ (o : Option Duration). IfSome o (λ least. EndsAt least now queues)) is before

no_place : (places : List Place) → places ≡ [] → AllByRecursion (λ place. ⊥) places
no_place [] none = tt
no_place (p ∷ ps) none = absurd (cc)

module _ (watched : Slab Watch) (keys : Keys) (queues : List (List Place)) (now : Instant) where
  -- where no queue has a place, nothing waits
  pub wait_none : (r : Option Duration) → AreKept watched queues
      → ((at : ℕ) → at < length queues → AreSpared r now (get_or queues at []))
      → IfNone r ((spelled : List ℕ) (watch : Watch) → watch_of watched keys spelled ≡ Some watch → watch.waits ≡ false)
  wait_none (Some wait) kept spared = tt
  wait_none None kept spared = λ (spelled : List ℕ) (watch : Watch) is.
      let stands = stands_at watched keys spelled watch is in
      false_from_ne_true watch.waits
      (λ waits. due_anywhere (λ n. ⊥) stands.0 watch queues (λ (at : ℕ) below. no_place (get_or queues at []) (spared at below))
      (has_place watched queues kept stands.0 watch stands.2 waits))

  -- what waits is due no sooner
  pub wait_some : (r : Option Duration) → AreKept watched queues
      → ((at : ℕ) → at < length queues → AreSpared r now (get_or queues at []))
      → IfSome r (λ wait. (spelled : List ℕ) (watch : Watch) → watch_of watched keys spelled ≡ Some watch → watch.waits ≡ true
      → as_nanos wait ≤ instant_nanos watch.due - instant_nanos now)
  wait_some None kept spared = tt
  wait_some (Some wait) kept spared = λ (spelled : List ℕ) (watch : Watch) is waits.
      let stands = stands_at watched keys spelled watch is in
      due_anywhere (λ n. as_nanos wait ≤ n - instant_nanos now) stands.0 watch queues spared
      (has_place watched queues kept stands.0 watch stands.2 waits)
