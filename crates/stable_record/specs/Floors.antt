-- The frame of a floor: what a record begins with where its node has one.
use Rattle.std.specs.Prelude.{◌≡◌, ℕ, ◌+◌, ◌==◌, cond, List, [], ◌∷◌, ◌++◌, length, Option, Some, None}
use Rattle.std.specs.Option.{option_map}
use Rattle.xid.specs.Places.{Place, IsPlace}
use Rattle.wire.specs.Grammar.{number_spelling}
use Rattle.wire.specs.Names.{place_spelling, name_at}
use Rattle.wire.specs.Reading.{◌>>=◌, byte_at, number_at}
use Rattle.wire.specs.Versions.{version_2}

-- ---- how it is spelled

-- the number of the kind of entry that a floor is
abbrev pub floor_byte : ℕ
floor_byte = 13

-- the body of its frame: version, kind, and the place
abbrev pub floor_body : Place → List ℕ
floor_body place = version_2.byte ∷ floor_byte ∷ place_spelling place

-- a floor's frame: the body's length in four bytes, and the body
unfoldable pub floor_frame : Place → List ℕ
floor_frame place = number_spelling (length (floor_body place)) ++ floor_body place

-- what a record begins with: the frame of the floor, if there is one
abbrev pub front_of : Option Place → List ℕ
front_of None = []
front_of (Some place) = floor_frame place

-- ---- how it is read

-- the place behind version and kind, where these are a floor's and the length in front of them is its, and the bytes after it
unfoldable pub body_at : (len version kind : ℕ) → List ℕ → Option (Place × List ℕ)
body_at len version kind bytes =
    cond (version == version_2.byte) (cond (kind == floor_byte) (do
      name ← name_at bytes
      cond (len == 7 + length name.0.gtrid) (Some name) None) None) None

-- the floor whose frame is at the front of bytes, and the bytes after it
unfoldable pub floor_at : List ℕ → Option (Place × List ℕ)
floor_at bytes = do
  len ← number_at bytes
  version ← byte_at len.1
  kind ← byte_at version.1
  body_at len.0 version.0 kind.0 kind.1

-- the floor that a record begins with, if it begins with one
abbrev pub floor_of : List ℕ → Option Place
floor_of bytes = option_map (λ x. x.0) (floor_at bytes)

-- bytes begin with a floor's frame, and these follow it
pub record IsFloored (place : Place) (bytes rest : List ℕ) : Type 0 where
  pub valid : IsPlace place
  pub same : bytes ≡ floor_frame place ++ rest
