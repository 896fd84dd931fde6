-- The transactions that are watched, by their spellings, and what becomes of one while all others stay as they were.
use Rattle.std.specs.Prelude.{◌≡◌, ◌≢◌, ℕ, ◌-◌, ◌/◌, ◌^◌, ◌<◌, ◌≤◌, min, true, false, List, Option, Some, None, is_some, slice_get}
use Rattle.std.specs.Prelude.{MatchOption}
use Rattle.std.specs.Time.{instant_nanos, FitsClock}
use Rattle.std.specs.declared.time.Instant.{Instant}
use Rattle.wire.specs.Spelled.{tx_spelled}
use Rattle.xid.specs.Transactions.{TxParts}
use Rattle.serving.specs.declared.queue.Place.{Place}
use Rattle.serving.specs.declared.watched.Watch.{Watch}
use Rattle.serving.specs.declared.watches.Watches.{Watches}
use Rattle.serving.specs.declared.schedule.Schedule.{Schedule}
use Rattle.serving.specs.Watching.{turn_end, watch_of, AreOnTime}

-- what is watched of a spelling
abbrev pub seen : Watches → List ℕ → Option Watch
seen watches spelled = watch_of watches.watched watches.keys.entries spelled

-- since when it is, in whole milliseconds; 0 where it isn't
abbrev pub age_of : Option Watch → Instant → ℕ
age_of None now = 0
age_of (Some watch) now = min ((instant_nanos now - instant_nanos watch.since) / 1000000) (2 ^ 64 - 1)

-- at a place among the keys stands a transaction that is watched, or there is no such place
abbrev pub IsListed : Watches → ℕ → Option TxParts → Type 0
IsListed watches place tx =
    MatchOption (slice_get watches.keys.entries place) (tx ≡ None)
    (λ entry. (tx ≡ Some (tx_spelled entry.0.items)) × (is_some (seen watches entry.0.items) ≡ true))

-- all that is watched is as it was
abbrev pub AreAsBefore : (old new : List ℕ → Option Watch) → Type 0
AreAsBefore old new = (spelled : List ℕ) → new spelled ≡ old spelled

-- this is watched now of a spelling, and of each other what was
pub record SetsOnly (old new : List ℕ → Option Watch) (spelled : List ℕ) (watch : Option Watch) : Type 0 where
  pub changed : new spelled ≡ watch
  pub others : (other : List ℕ) → other ≢ spelled → new other ≡ old other

-- nothing that waits is due
abbrev pub IsNothingDue : (List ℕ → Option Watch) → Instant → Type 0
IsNothingDue watched now =
    (spelled : List ℕ) (watch : Watch) → watched spelled ≡ Some watch → watch.waits ≡ true → instant_nanos now < instant_nanos watch.due

-- a transaction that waited for its turn, and is due, was handed out: it waits no more
pub record IsHandedOut (old new : List ℕ → Option Watch) (now : Instant) (spelled : List ℕ) (turn : ℕ) : Type 0 where
  pub watch : Watch
  pub was : old spelled ≡ Some watch
  pub waited : watch.waits ≡ true
  pub due : instant_nanos watch.due ≤ instant_nanos now
  pub at_turn : watch.turn ≡ turn
  pub only : SetsOnly old new spelled (Some (record watch { waits = false }))

-- a transaction that is watched waits from now on for a turn: not for less than that turn's delay, and for no more where the queues are on
-- time
pub record IsPutOff (old new : List ℕ → Option Watch) (spelled : List ℕ) (watch : Watch) (schedule : Schedule)
    (queues : List (List Place)) (turn : ℕ) (now : Instant) : Type 0 where
  pub due : Instant
  pub after : FitsClock (turn_end schedule now turn) → turn_end schedule now turn ≤ instant_nanos due
  pub exact : FitsClock (turn_end schedule now turn) → AreOnTime schedule queues now → instant_nanos due ≡ turn_end schedule now turn
  pub only : SetsOnly old new spelled (Some (record watch { due = due; turn = turn; waits = true }))

-- a transaction is watched from now on, and waits for a turn
pub record IsAdded (old new : List ℕ → Option Watch) (spelled : List ℕ) (schedule : Schedule)
    (queues : List (List Place)) (turn : ℕ) (now : Instant) : Type 0 where
  pub watch : Watch
  pub its : watch.spelled.items ≡ spelled
  pub since : watch.since ≡ now
  pub put_off : IsPutOff old new spelled watch schedule queues turn now
