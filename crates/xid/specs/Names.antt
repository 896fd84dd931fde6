-- What an XID is, after X/Open XA (C193), chapter "The xa.h Header": a format and two components.
use Rattle.std.specs.Prelude.{ℕ, ◌<◌, ◌≤◌, Bool, ◌&&◌, ◌==◌, ◌++◌, ◌∷◌, List, [], length, slice_index}
use Rattle.std.specs.Cmp.Lexicographic.{slice_cmp}
use Rattle.std.specs.Hash as fed
use Rattle.std.specs.Ordering.{nat_cmp, on, then_cmp}
use Rattle.std.specs.Str.{bytes_eq}
use Rattle.std.specs.declared.cmp.Ordering.{Ordering}
use Rattle.xid.specs.Limits.{most_component, formats}

-- each element of a list is a byte
abbrev pub IsBytes : List ℕ → Type 0
IsBytes xs = (i : ℕ) → slice_index xs i < 256

-- a gtrid or a bqual: 1 to 64 bytes
pub record IsComponent (xs : List ℕ) : Type 0 where
  pub some : 0 < length xs
  pub few : length xs ≤ most_component
  pub bytes : IsBytes xs

-- what hashing a component feeds: how many bytes it has, then all of them at once
abbrev pub component_fed : List ℕ → fed.HashWrites
component_fed bytes = fed.usize (length bytes) ++ (bytes ∷ [])

-- an XID as its parts; the code sees an `Xid` so
pub record XidParts : Type 0 where
  pub format : ℕ
  pub gtrid : List ℕ
  pub bqual : List ℕ

-- the parts that an XID may have; -1, the null XID, and all else that is no format is left out
pub record IsXid (x : XidParts) : Type 0 where
  pub format : x.format < formats
  pub gtrid : IsComponent x.gtrid
  pub bqual : IsComponent x.bqual

-- whether two XIDs are the same
abbrev pub xid_eq : XidParts → XidParts → Bool
xid_eq x y = (x.format == y.format) && (bytes_eq x.gtrid y.gtrid && bytes_eq x.bqual y.bqual)

-- XIDs are ordered by format, then by gtrid, then by bqual
abbrev pub xid_cmp : XidParts → XidParts → Ordering
xid_cmp =
    then_cmp (on (λ x. x.format) nat_cmp)
    (then_cmp (on (λ x. x.gtrid) (slice_cmp nat_cmp)) (on (λ x. x.bqual) (slice_cmp nat_cmp)))
