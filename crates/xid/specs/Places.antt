-- The order of names, and places in it. A floor is such a place: what stands below it is forgotten.
use Rattle.std.specs.Prelude.{ℕ, ◌<◌, ◌≤◌, ◌^◌, Bool, List, length, Option, Some}
use Rattle.std.specs.Cmp.Lexicographic.{slice_cmp}
use Rattle.std.specs.Option.{option_cmp}
use Rattle.std.specs.Ordering.{nat_cmp, is_lt, on, then_cmp}
use Rattle.std.specs.declared.cmp.Ordering.{Ordering}
use Rattle.xid.specs.Limits.{most_component}
use Rattle.xid.specs.Names.{IsBytes, XidParts}
use Rattle.xid.specs.Transactions.{TxParts}

-- a place in the order of names
pub record Place : Type 0 where
  pub format : ℕ
  pub gtrid : List ℕ

-- a place that a floor may have: its format has 32 bits, and its gtrid at most 64 bytes
pub record IsPlace (place : Place) : Type 0 where
  pub format : place.format < 2 ^ 32
  pub few : length place.gtrid ≤ most_component
  pub bytes : IsBytes place.gtrid

-- by format, then by gtrid, as names are ordered
abbrev pub place_cmp : Place → Place → Ordering
place_cmp = then_cmp (on (λ p. p.format) nat_cmp) (on (λ p. p.gtrid) (slice_cmp nat_cmp))

-- where the name of a transaction stands
abbrev pub tx_place : TxParts → Place
tx_place tx = record { format = tx.format; gtrid = tx.gtrid }

-- where the name of a branch stands: where its transaction's does
abbrev pub xid_place : XidParts → Place
xid_place x = record { format = x.format; gtrid = x.gtrid }

-- whether one floor is lower than another: no floor is the lowest
abbrev pub is_lower : Option Place → Option Place → Bool
is_lower low high = is_lt (option_cmp place_cmp low high)

-- whether a transaction is below a floor
abbrev pub is_below : Option Place → TxParts → Bool
is_below floor tx = is_lower (Some (tx_place tx)) floor

-- whether an XID is below a floor
abbrev pub is_xid_below : Option Place → XidParts → Bool
is_xid_below floor x = is_lower (Some (xid_place x)) floor
