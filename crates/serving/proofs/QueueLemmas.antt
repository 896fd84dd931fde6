-- Places in order.
use Rattle.std.proofs.Common.{◌≡◌, ◌+◌, ℕ, zero, suc, length, get_or, ◌<◌, ◌≤◌, List, [], ◌∷◌, ◌++◌, Bool, true, refl, sym, subst, ◌-◌}
use Rattle.std.proofs.Common.{slice_index_or, Option, Some, None, arith}
use Rattle.std.specs.Prelude.{nat_le, IfSome}
use Rattle.std.specs.Duration.{as_nanos}
use Rattle.std.specs.declared.time.Duration.{Duration}
use Rattle.std.specs.List.{list_all, AllByRecursion}
use Rattle.std.specs.Time.{instant_nanos}
use Rattle.std.specs.declared.time.Instant.{Instant}
use Rattle.std.proofs.lemmas.Bool.{and_parts, leb-true}
use Rattle.std.proofs.lemmas.Bool.Decides.{nat_tests}
use Rattle.serving.specs.declared.queue.Place.{Place}
use Rattle.serving.specs.Queues.{due_at, are_before, are_sorted, AreLater, AreSpared, IsFirst}

-- one more that is due last, among those that a place is before
before_push : (place last : Place) (places : List Place) → list_all (λ other. nat_le (due_at place) (due_at other)) places ≡ true
    → nat_le (due_at place) (due_at last) ≡ true
    → list_all (λ other. nat_le (due_at place) (due_at other)) (places ++ last ∷ []) ≡ true
before_push place last [] all here = rw here refl
before_push place last (p ∷ ps) all here =
    let (first, rest) = and_parts (nat_le (due_at place) (due_at p)) (list_all (λ other. nat_le (due_at place) (due_at other)) ps) all in
    rw (first, before_push place last ps rest here) refl

-- places with one behind that none is later than are in order
pub sorted_push : (places : List Place) (last : Place) → are_sorted places ≡ true → are_before last places ≡ true
    → are_sorted (places ++ last ∷ []) ≡ true
sorted_push [] last sorted before = refl
sorted_push (p ∷ ps) last sorted before =
    let (first, rest) = and_parts (list_all (λ other. nat_le (due_at p) (due_at other)) ps) (are_sorted ps) sorted in
    let (here, more) = and_parts (nat_le (due_at p) (due_at last)) (are_before last ps) before in
    rw (before_push p last ps first here, sorted_push ps last rest more) refl

-- places without the first are in order
pub sorted_rest : (place : Place) (places : List Place) → are_sorted (place ∷ places) ≡ true → are_sorted places ≡ true
sorted_rest place places sorted =
    (and_parts (list_all (λ other. nat_le (due_at place) (due_at other)) places) (are_sorted places) sorted).1

later_all : (now : ℕ) (place : Place) (places : List Place) → now < due_at place
    → list_all (λ other. nat_le (due_at place) (due_at other)) places ≡ true → AllByRecursion (λ other. now < due_at other) places
later_all now place [] first all = tt
later_all now place (p ∷ ps) first all =
    let (here, rest) = and_parts (nat_le (due_at place) (due_at p)) (list_all (λ other. nat_le (due_at place) (due_at other)) ps) all in
    (grind (arith, nat_tests), later_all now place ps first rest)

-- where the first isn't due, none is
pub later_sorted : (now : Instant) (place : Place) (places : List Place) → instant_nanos now < due_at place
    → are_sorted (place ∷ places) ≡ true
    → AreLater now (place ∷ places)
later_sorted now place places first sorted = (
  first,
  later_all (instant_nanos now) place places first
      (and_parts (list_all (λ other. nat_le (due_at place) (due_at other)) places) (are_sorted places) sorted).0,
)

-- what is before a place is before a later one
pub before_later : (place last : Place) (places : List Place) → are_before place places ≡ true → due_at place ≤ due_at last
    → are_before last places ≡ true
before_later place last [] all later = refl
before_later place last (p ∷ ps) all later =
    let (here, rest) = and_parts (nat_le (due_at p) (due_at place)) (are_before place ps) all in
    let first : nat_le (due_at p) (due_at last) ≡ true = grind (arith, nat_tests) in
    rw (first, before_later place last ps rest later) refl

all_at : (f : Place → Bool) (places : List Place) (i : ℕ) (d : Place) → i < length places → list_all f places ≡ true
    → f (get_or places i d) ≡ true
all_at f [] i d below all = absurd (omega (arith, below))
all_at f (p ∷ ps) zero d below all = (and_parts (f p) (list_all f ps) all).0
all_at f (p ∷ ps) (suc i) d below all = all_at f ps i d (omega (arith, below)) (and_parts (f p) (list_all f ps) all).1

own_due : (place : Place) → nat_le (due_at place) (due_at place) ≡ true
own_due place = grind (arith, nat_tests)

-- the last of places in order is due last
pub last_is_last : (places : List Place) (i : ℕ) (d : Place) → length places ≡ i + 1 → are_sorted places ≡ true
    → are_before (get_or places i d) places ≡ true
last_is_last [] i d long sorted = absurd (omega (arith, long))
last_is_last (p ∷ []) zero d long sorted = rw (own_due p) refl
last_is_last (p ∷ q ∷ qs) zero d long sorted = absurd (omega (arith, long))
last_is_last (p ∷ ps) (suc i) d long sorted =
    let (first, rest) = and_parts (list_all (λ other. nat_le (due_at p) (due_at other)) ps) (are_sorted ps) sorted in
    rw (
      all_at (λ other. nat_le (due_at p) (due_at other)) ps i d (omega (arith, long)) first,
      last_is_last ps i d (omega (arith, long)) rest,
    ) refl

-- the last of places in order, by how many they are
pub back_is_last : (places : List Place) (len : ℕ) (last : Place) → len ≡ length places → last ≡ slice_index_or places (len - 1) last
    → 0 < len → are_sorted places ≡ true → are_before last places ≡ true
back_is_last places len last long is some sorted =
    let P : Place → Type 0 = λ place. are_before place places ≡ true in
    let count : length places ≡ (len - 1) + 1 = omega (arith, some, long) in
    subst P (sym is) (last_is_last places (len - 1) last count sorted)

-- where the first of places in order isn't due, none is
pub front_is_first : (now : Instant) (places : List Place) (first : Place) → first ≡ slice_index_or places 0 first → 0 < length places
    → instant_nanos now < due_at first → are_sorted places ≡ true → AreLater now places
front_is_first now [] first is some later sorted = absurd (omega (arith, some))
front_is_first now (place ∷ places) first is some later sorted =
    let P : Place → Type 0 = λ p. instant_nanos now < due_at p in later_sorted now place places (subst P is later) sorted

-- ---- how long nothing is due

later_from : (wait : ℕ) (now : Instant) (first : Place) (places : List Place) → wait ≤ due_at first - instant_nanos now
    → list_all (λ place. nat_le (due_at first) (due_at place)) places ≡ true
    → AllByRecursion (λ place. wait ≤ due_at place - instant_nanos now) places
later_from wait now first [] by all = tt
later_from wait now first (p ∷ ps) by all =
    let (here, rest) = and_parts (nat_le (due_at first) (due_at p)) (list_all (λ place. nat_le (due_at first) (due_at place)) ps) all in
    let le : due_at first ≤ due_at p = leb-true (due_at first) (due_at p) here in
    (omega (arith, by, le), later_from wait now first ps by rest)

-- nothing of a queue is due before its first place
pub spared_by_first : (wait : Duration) (now : Instant) (first : Place) (places : List Place)
    → as_nanos wait ≤ due_at first - instant_nanos now → IsFirst (Some first) places → AreSpared (Some wait) now places
spared_by_first wait now first places by is = later_from (as_nanos wait) now first places by is

-- what is spared for some time is spared for less
pub spared_less : (less wait : Duration) (now : Instant) (places : List Place) → as_nanos less ≤ as_nanos wait
    → AreSpared (Some wait) now places → AreSpared (Some less) now places
spared_less less wait now [] by spared = tt
spared_less less wait now (p ∷ ps) by spared =
    let here : as_nanos wait ≤ due_at p - instant_nanos now = spared.0 in
    (omega (arith, by, here), spared_less less wait now ps by spared.1)

-- no place is spared for ever
pub spared_none : (o : Option Duration) (now : Instant) (places : List Place) → places ≡ [] → AreSpared o now places
spared_none None now places none = none
spared_none (Some wait) now places none = subst (AreSpared (Some wait) now) (sym none) tt

-- the same for a shorter time, or where none was known
pub spared_sooner : (least : Option Duration) (wait : Duration) (now : Instant) (places : List Place)
    → IfSome least (λ least. as_nanos wait ≤ as_nanos least) → AreSpared least now places → AreSpared (Some wait) now places
spared_sooner None wait now places by spared = spared_none (Some wait) now places spared
spared_sooner (Some least) wait now places by spared = spared_less wait least now places by spared
