-- Lines and words of a text, and the one text of each value that a word can have.
use Rattle.std.specs.Prelude.{◌≡◌, ◌≢◌, ℕ, ◌<◌, List, [], ◌∷◌, ◌++◌, length, Bool, true, false, ◌==◌, ◌&&◌, nat_le, if◌then◌else◌}
use Rattle.std.specs.Prelude.{codes, decimal, Result, Ok, Err, Option, Some, None}
use Rattle.std.specs.List.{filter, onto_first}
use Rattle.net_script.specs.Basics.{IsBytes, hex_text, Place, Refusal, NoMemory, NodeId, A, L, R, Row}

-- the pieces that end at each mark; the last may lack its mark
abbrev pub pieces : ℕ → List ℕ → List (List ℕ)
pieces mark [] = []
pieces mark (byte ∷ rest) = if byte == mark then [] ∷ pieces mark rest else onto_first byte (pieces mark rest)

-- lines end with LF
abbrev pub lines : List ℕ → List (List ℕ)
lines bytes = pieces 10 bytes

-- whether a piece of a line is a word: two spaces have none between them
abbrev pub is_word : List ℕ → Bool
is_word [] = false
is_word (byte ∷ rest) = true

-- words are separated by spaces
abbrev pub words : List ℕ → List (List ℕ)
words line = filter is_word (pieces 32 line)

-- what a text begins with, up to its first mark, and the rest
pub record IsFirstPiece (mark : ℕ) (text piece rest : List ℕ) : Type 0 where
  pub cut : pieces mark text ≡ piece ∷ pieces mark rest
  pub shorter : length rest < length text

-- the first word, and a rest with the words after it
pub record IsFirstWord (line word rest : List ℕ) : Type 0 where
  pub cut : words line ≡ word ∷ words rest
  pub shorter : length rest < length line

-- whether a byte is printed ASCII, as the space is
abbrev pub is_plain : ℕ → Bool
is_plain byte = nat_le 32 byte && nat_le byte 126

-- BYTES: `-` for none
abbrev pub bytes_text : List ℕ → List ℕ
bytes_text [] = codes "-"
bytes_text (byte ∷ rest) = hex_text (byte ∷ rest)

-- a node: `a`, `l` or `r` for its kind, and its number
abbrev pub node_text : NodeId → List ℕ
node_text (A number) = 97 ∷ decimal number
node_text (L number) = 108 ∷ decimal number
node_text (R number) = 114 ∷ decimal number

-- KEY=VALUE
abbrev pub row_text : Row → List ℕ
row_text row = hex_text row.key ++ 61 ∷ bytes_text row.value

-- a floor, a place in the order of names: FORMAT:GTRID
abbrev pub floor_text : Place → List ℕ
floor_text place = decimal place.format ++ 58 ∷ bytes_text place.gtrid

-- at least one byte
abbrev pub IsSome : List ℕ → Type 0
IsSome xs = (0 < length xs) × IsBytes xs

-- Reading is exact: what was read is in range, and its text is the one given; where nothing was read, no value in
-- range has this text; and nothing else fails but memory.
abbrev pub Reads : {X W : Type 0} → (X → Type 0) → (X → W) → W → Result (Option X) Refusal → Type 0
Reads IsIn text given (Ok (Some x)) = IsIn x × (given ≡ text x)
Reads IsIn text given (Ok None) = (x : _) → IsIn x → given ≢ text x
Reads IsIn text given (Err e) = e ≡ NoMemory
