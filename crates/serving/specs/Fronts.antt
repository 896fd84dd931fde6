-- What stands at the front of the bytes that a client has written.
use Rattle.std.specs.Prelude.{◌≡◌, ◌≤◌, ◌<◌, ◌++◌, ◌∷◌, ◌⊎◌, ℕ, List, length, true}
use Rattle.xid.specs.Text.{lacks}
use Rattle.serving.specs.declared.lines.Front.{Front}
use Rattle.serving.specs.declared.lines.Front.TheVariants.{Line, Begun, TooLong}
use Rattle.serving.specs.declared.lines.TheConstants.{MAX_LINE}

-- bytes begin with a line and the LF at its end
pub record IsCut (bytes line rest : List ℕ) : Type 0 where
  pub whole : bytes ≡ line ++ 10 ∷ rest
  pub first : lacks 10 line ≡ true

-- more bytes than a line may have stand before the first LF
abbrev pub IsLong : List ℕ → Type 0
IsLong bytes =
    ((lacks 10 bytes ≡ true) × (MAX_LINE < length bytes))
    ⊎ ((line : List ℕ) × (rest : List ℕ) × IsCut bytes line rest × (MAX_LINE < length line))

-- no whole line stands at the front: one is begun there at most, or it is too long
abbrev pub IsNoLine : List ℕ → Type 0
IsNoLine bytes = (lacks 10 bytes ≡ true) ⊎ IsLong bytes

-- what stands at the front
abbrev pub IsFront : List ℕ → Front → Type 0
IsFront bytes (Line line rest) = IsCut bytes line.now rest.now × (length line.now ≤ MAX_LINE)
IsFront bytes Begun = (lacks 10 bytes ≡ true) × (length bytes ≤ MAX_LINE)
IsFront bytes TooLong = IsLong bytes
