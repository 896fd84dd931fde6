-- Places by when they are due.
use Rattle.std.specs.Prelude.{◌≡◌, get_or, ℕ, ◌-◌, ◌<◌, ◌≤◌, ◌&&◌, nat_le, Bool, true, List, [], ◌∷◌, Option, Some, None}
use Rattle.std.specs.List.{list_all, AllByRecursion}
use Rattle.std.specs.Time.{instant_nanos}
use Rattle.std.specs.Duration.{as_nanos}
use Rattle.std.specs.declared.time.Duration.{Duration}
use Rattle.std.specs.declared.time.Instant.{Instant}
use Rattle.serving.specs.declared.queue.Place.{Place}

-- when a place is due, in nanoseconds
abbrev pub due_at : Place → ℕ
due_at place = instant_nanos place.due

-- each of these is due when the place is, or before
abbrev pub are_before : Place → List Place → Bool
are_before place places = list_all (λ other. nat_le (due_at other) (due_at place)) places

-- each of these is due at a time, or before
abbrev pub are_by : ℕ → List Place → Bool
are_by bound places = list_all (λ place. nat_le (due_at place) bound) places

-- each is due when those before it are, or later
abbrev pub are_sorted : List Place → Bool
are_sorted [] = true
are_sorted (place ∷ places) = list_all (λ other. nat_le (due_at place) (due_at other)) places && are_sorted places

-- none of these is due
abbrev pub AreLater : Instant → List Place → Type 0
AreLater now places = AllByRecursion (λ place. instant_nanos now < due_at place) places

-- the first place, if there is one: none is due before it
abbrev pub IsFirst : Option Place → List Place → Type 0
IsFirst None places = places ≡ []
IsFirst (Some first) places = list_all (λ place. nat_le (due_at first) (due_at place)) places ≡ true

-- a wait ends when a place is due that stands first in one of these queues
pub record EndsAt (wait : Duration) (now : Instant) (queues : List (List Place)) : Type 0 where
  pub at : ℕ
  pub place : Place
  pub rest : List Place
  pub stands : get_or queues at [] ≡ place ∷ rest
  pub ends : as_nanos wait ≡ due_at place - instant_nanos now

-- after now, nothing of these is due for so long; for ever, where there is none
abbrev pub AreSpared : Option Duration → Instant → List Place → Type 0
AreSpared None now places = places ≡ []
AreSpared (Some wait) now places = AllByRecursion (λ place. as_nanos wait ≤ due_at place - instant_nanos now) places
