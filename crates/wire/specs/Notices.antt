-- A notice, by which a resource manager tells its floor. It is no message: it is spelled and read beside them.
use Rattle.std.specs.Prelude.{◌≡◌, ℕ, ◌<◌, ◌^◌, ◌==◌, cond, List, ◌∷◌, ◌++◌, Option, Some, None}
use Rattle.xid.specs.Places.{IsPlace}
use Rattle.wire.specs.declared.notice.Notice.{Notice}
use Rattle.wire.specs.Versions.{version_2}
use Rattle.wire.specs.Grammar.{rm_spelling}
use Rattle.wire.specs.Reading.{◌>>=◌, byte_at, rm_at, end_at}
use Rattle.wire.specs.Names.{place_spelling, name_at}

-- ---- how it is spelled

-- the number of its kind, which no message has
abbrev pub notice_byte : ℕ
notice_byte = 13

-- its ranges hold: the manager's number fits two bytes, and the place is one that a floor may have
pub record IsNotice (notice : Notice) : Type 0 where
  pub manager : notice.manager < 2 ^ 16
  pub floor : IsPlace notice.floor

-- a notice: version, kind, the manager's number, and the place as a name begins
abbrev pub notice_spelling : Notice → List ℕ
notice_spelling notice =
    version_2.byte ∷ notice_byte ∷ (rm_spelling version_2 notice.manager ++ place_spelling notice.floor)

-- bytes spell a notice
pub record SpellsNotice (notice : Notice) (bytes : List ℕ) : Type 0 where
  pub valid : IsNotice notice
  pub spelled : bytes ≡ notice_spelling notice

-- ---- how it is read

-- the notice of the fields behind version and kind, where nothing follows these
unfoldable pub fields_at : List ℕ → Option Notice
fields_at bytes = do
  manager ← rm_at version_2 bytes
  floor ← name_at manager.1
  end ← end_at floor.1
  Some (record { manager = manager.0; floor = floor.0 })

-- the notice that bytes spell, if they spell one
unfoldable pub notice_at : List ℕ → Option Notice
notice_at bytes = do
  version ← byte_at bytes
  kind ← byte_at version.1
  cond (version.0 == version_2.byte) (cond (kind.0 == notice_byte) (fields_at kind.1) None) None
