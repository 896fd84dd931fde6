-- Names that begin with their times, and to which place a floor rises by itself.
use Rattle.std.specs.Prelude.{◌≡◌, ℕ, ◌+◌, ◌-◌, ◌/◌, ◌*◌, ◌^◌, max, min, Bool, true, false, ◌==◌, ◌&&◌, nat_le, nat_lt, if◌then◌else◌, List}
use Rattle.std.specs.Prelude.{◌∷◌, length, take, drop, Option, Some, None, is_some}
use Rattle.std.specs.Int.{w64, from_be_bytes, to_be_bytes}
use Rattle.std.specs.List.{Any}
use Rattle.std.specs.Option.{option_map}
use Rattle.xid.specs.Names.{XidParts}
use Rattle.xid.specs.Places.{Place, is_lower, tx_place, xid_place}
use Rattle.xid.specs.Transactions.{TxParts}
use Rattle.serving.specs.declared.branches.Branches.{Branches}
use Rattle.serving.specs.declared.times.Times.{Times}
use Rattle.serving.specs.Noted.{known}

-- ---- times and places

-- so many bytes at the front of a gtrid say its time
abbrev pub time_bytes : ℕ
time_bytes = 6

-- the time at the front of a gtrid: the number that its first six bytes spell, the greatest first. None where there are fewer
abbrev pub time_of : List ℕ → Option ℕ
time_of gtrid = if nat_lt (length gtrid) time_bytes then None else Some (from_be_bytes w64 (0 ∷ 0 ∷ take time_bytes gtrid))

-- the place of a time: its format, and the six low bytes of the time, the greatest first
abbrev pub place_of : Times → (time : ℕ) → Place
place_of times time = record { format = times.format; gtrid = drop 2 (to_be_bytes w64 time) }

-- ---- what may be begun

-- whether there is a time, and none after another
abbrev pub is_by : Option ℕ → ℕ → Bool
is_by None last = false
is_by (Some time) last = nat_le time last

-- whether a name may be begun at a time: it has the format, and its own time isn't too far ahead
abbrev pub is_timely : Times → XidParts → (now : ℕ) → Bool
is_timely times x now = x.format == times.format && is_by (time_of x.gtrid) (now + times.ahead)

-- whether a floor is higher than the place of a time
abbrev pub is_ahead : Times → Place → (now : ℕ) → Bool
is_ahead times floor now = is_lower (Some (place_of times now)) (Some floor)

-- the place of the first time that is too far ahead, or of the last that there is
abbrev pub floor_above : Times → (now : ℕ) → Place
floor_above times now = place_of times (min (now + times.ahead + 1) (2 ^ 64 - 1))

-- ---- what is kept

-- a time rounded down to halves of the time for which names are kept
abbrev pub rounded_down : (keep time : ℕ) → ℕ
rounded_down keep time = time / max 1 (keep / 2) * max 1 (keep / 2)

-- to which place a floor is to rise: so long before the clock's time, and before the latest name's, rounded down. None where none rises
abbrev pub floor_of : Times → (now latest : ℕ) → Option Place
floor_of times now latest = option_map (λ keep. place_of times (rounded_down keep (min now latest - keep))) times.keep

-- ---- what holds a floor back

-- the lower of two places
abbrev pub lower : Place → Place → Place
lower one other = if is_lower (Some other) (Some one) then other else one

-- a place is that of a branch which clients have begun
pub record IsOfBranch (branches : Branches) (place : Place) : Type 0 where
  pub name : XidParts
  pub begun : is_some (known branches name) ≡ true
  pub stands : place ≡ xid_place name

-- a place is that of one of these transactions
abbrev pub IsOfTx : List TxParts → Place → Type 0
IsOfTx txs place = Any (λ tx. place ≡ tx_place tx) txs
