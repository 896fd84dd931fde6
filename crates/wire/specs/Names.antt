-- Where a name stands in the order of names, as a transaction's spelling begins.
use Rattle.std.specs.Prelude.{ℕ, List, ◌++◌, Option, Some, None}
use Rattle.std.specs.Borrow.{Bor}
use Rattle.xid.specs.Places.{Place}
use Rattle.wire.specs.Grammar.{number_spelling, component_spelling}
use Rattle.wire.specs.Reading.{◌>>=◌, number_at, component_at}

-- a place: its format and its gtrid, as a name begins
abbrev pub place_spelling : Place → List ℕ
place_spelling place = number_spelling place.format ++ component_spelling place.gtrid

-- the place of the name that is spelled at the front of bytes, and the bytes after its format and gtrid
unfoldable pub name_at : List ℕ → Option (Place × List ℕ)
name_at bytes = do
  format ← number_at bytes
  gtrid ← component_at format.1
  Some (record { format = format.0; gtrid = gtrid.0 }, gtrid.1)

-- the same of a name that was taken by its parts
abbrev pub taken_name : Option (ℕ × Bor (List ℕ) × Bor (List ℕ)) → Option (Place × List ℕ)
taken_name None = None
taken_name (Some x) = Some (record { format = x.0; gtrid = x.1.now }, x.2.now)
