-- The transactions that are watched, and the queues in which they wait.
use Rattle.std.specs.Prelude.{◌≡◌, ℕ, ◌+◌, ◌<◌, ◌≤◌, ◌==◌, ◌&&◌, ◌||◌, ◌*◌, ◌^◌, ◌-◌, not, min, MatchOption, Bool, true, false, List, []}
use Rattle.std.specs.Prelude.{Option, Some, None, Vec, get_or}
use Rattle.std.specs.List.{list_any}
use Rattle.std.specs.Map.{lookup}
use Rattle.std.specs.Str.{bytes_eq}
use Rattle.std.specs.Time.{instant_nanos}
use Rattle.std.specs.declared.alloc.Global.{Global}
use Rattle.std.specs.declared.time.Instant.{Instant}
use Rattle.slab.specs.Slab.{Slab, get, Updates}
use Rattle.wire.specs.Spelled.{tx_spelled, IsSpelled}
use Rattle.xid.specs.Transactions.{TxParts}
use Rattle.serving.specs.declared.queue.Place.{Place}
use Rattle.serving.specs.declared.watched.Watch.{Watch}
use Rattle.serving.specs.declared.schedule.Schedule.{Schedule}
use Rattle.serving.specs.declared.schedule.TheConstants.{MOST_DELAY}
use Rattle.serving.specs.Queues.{due_at, are_before, are_by}

-- the keys of watches, by the spellings of their transactions
abbrev pub Keys : Type 0
Keys = List (Vec ℕ Global × ℕ)

-- the key of a spelling, if it has one
abbrev pub key_of : Keys → List ℕ → Option ℕ
key_of keys spelled = lookup (λ key. bytes_eq spelled key.items) keys

-- what stands under a key, if there is one
abbrev pub at_key : Slab Watch → Option ℕ → Option Watch
at_key watched None = None
at_key watched (Some key) = get watched key

-- what is watched of a spelling
abbrev pub watch_of : Slab Watch → Keys → List ℕ → Option Watch
watch_of watched keys spelled = at_key watched (key_of keys spelled)

-- whether a watch is there, and of this spelling
abbrev pub has_spelling : List ℕ → Option Watch → Bool
has_spelling spelled None = false
has_spelling spelled (Some watch) = bytes_eq watch.spelled.items spelled

-- under the key of a spelling stands a watch of that spelling, and what waits is found by its spelling
pub record AreNamed (watched : Slab Watch) (keys : Keys) : Type 0 where
  pub named : (spelled : List ℕ) (key : ℕ) → key_of keys spelled ≡ Some key → has_spelling spelled (get watched key) ≡ true
  pub found : (key : ℕ) (watch : Watch) → get watched key ≡ Some watch → watch.waits ≡ true → key_of keys watch.spelled.items ≡ Some key

-- whether a place is that of the watch of a key: it has its key and its time
abbrev pub is_place_of : ℕ → Watch → Place → Bool
is_place_of key watch place = place.key == key && due_at place == instant_nanos watch.due

-- whether a place of the watch of a key is in a queue
abbrev pub is_in_queue : ℕ → Watch → List Place → Bool
is_in_queue key watch queue = list_any (is_place_of key watch) queue

-- whether it is in one of the queues
abbrev pub is_in_queues : ℕ → Watch → List (List Place) → Bool
is_in_queues key watch queues = list_any (is_in_queue key watch) queues

-- whether what is watched under a key, if it waits, is in a queue
abbrev pub is_kept : ℕ → Option Watch → List (List Place) → Bool
is_kept key None queues = true
is_kept key (Some watch) queues = not watch.waits || is_in_queues key watch queues

-- all that waits is in a queue
abbrev pub AreKept : Slab Watch → List (List Place) → Type 0
AreKept watched queues = (key : ℕ) → is_kept key (get watched key) queues ≡ true

-- each has the spelling of a transaction
abbrev pub AreSpelled : Slab Watch → Type 0
AreSpelled watched = (key : ℕ) (watch : Watch) → get watched key ≡ Some watch → IsSpelled watch.spelled.items

-- nothing that waits is due
abbrev pub AreAllLater : Slab Watch → Instant → Type 0
AreAllLater watched now =
    (key : ℕ) (watch : Watch) → get watched key ≡ Some watch → watch.waits ≡ true → instant_nanos now < instant_nanos watch.due

-- whether what is watched waits for the time of a place
abbrev pub waits_for : Place → Option Watch → Bool
waits_for place None = false
waits_for place (Some watch) = watch.waits && due_at place == instant_nanos watch.due

-- no watch waits for a place
abbrev pub IsNoWatchOf : Place → Slab Watch → Type 0
IsNoWatchOf place watched =
    (watch : Watch) → get watched place.key ≡ Some watch → watch.waits ≡ true → is_place_of place.key watch place ≡ false

-- the watch of a place, which waited for it, was handed out with its transaction and turn: it waits no more, and all else is as it was
pub record HandsOutAt (place : Place) (old new : Slab Watch) (tx : TxParts) (turn : ℕ) : Type 0 where
  pub watch : Watch
  pub was : get old place.key ≡ Some watch
  pub waited : watch.waits ≡ true
  pub due : due_at place ≡ instant_nanos watch.due
  pub at_turn : watch.turn ≡ turn
  pub spelled : tx_spelled watch.spelled.items ≡ tx
  pub only : Updates old new place.key (Some (record watch { waits = false }))

-- of what waited, a transaction that is due was handed out: it waits no more, and all else is as it was
pub record HandsOut (old new : Slab Watch) (now : Instant) (tx : TxParts) (turn : ℕ) : Type 0 where
  pub key : ℕ
  pub watch : Watch
  pub was : get old key ≡ Some watch
  pub waited : watch.waits ≡ true
  pub due : instant_nanos watch.due ≤ instant_nanos now
  pub at_turn : watch.turn ≡ turn
  pub spelled : tx_spelled watch.spelled.items ≡ tx
  pub only : Updates old new key (Some (record watch { waits = false }))

-- what is watched under a key waits from now on for a turn, until a time, or until the last of others, where that is later
pub record PutsOffOne (key turn : ℕ) (due : Instant) (others : List Place) (old new : Slab Watch) (watch : Watch) : Type 0 where
  pub later : Instant
  pub after : instant_nanos due ≤ instant_nanos later
  pub exact : are_before (record { key = key; due = due }) others ≡ true → later ≡ due
  pub only : Updates old new key (Some (record watch { due = later; turn = turn; waits = true }))

-- the same, where something is watched there; all else is as it was
abbrev pub PutsOff : (key turn : ℕ) → Instant → List Place → Slab Watch → Slab Watch → Type 0
PutsOff key turn due others old new = MatchOption (get old key) (new ≡ old) (PutsOffOne key turn due others old new)

-- how long is waited for the turn of a number, in nanoseconds
abbrev pub turn_nanos : Schedule → ℕ → ℕ
turn_nanos schedule turn = min (schedule.first * 2 ^ min (turn - 1) 16) MOST_DELAY * 1000000

-- each place of a queue is due at that queue's limit, or before
abbrev pub AreWithin : (ℕ → ℕ) → List (List Place) → Type 0
AreWithin limit queues = (at : ℕ) → are_by (limit at) (get_or queues at []) ≡ true

-- when the turn of a number is, counted from now, in nanoseconds
abbrev pub turn_end : Schedule → Instant → ℕ → ℕ
turn_end schedule now turn = instant_nanos now + turn_nanos schedule turn

-- in no queue a place is due later than that queue's turn is, counted from now: so it stays while time doesn't go back
abbrev pub AreOnTime : Schedule → List (List Place) → Instant → Type 0
AreOnTime schedule queues now = AreWithin (turn_end schedule now) queues
