-- The texts of keys.
use Rattle.std.specs.Prelude.{◌≡◌, ◌≢◌, ◌<◌, ◌-◌, ℕ, List, [], ◌∷◌, length, take, drop, nat_eq, if◌then◌else◌}
use Rattle.std.specs.Cmp.Lexicographic.{pointwise}
use Rattle.hex.specs.Hex.{encode_lower, IsBytes}
use Rattle.cluster_file.specs.declared.error.KeyError.{KeyError}
use Rattle.cluster_file.specs.declared.error.KeyError.TheVariants.{Short, Long, NoDigit}

-- a text without the LF at its end, if it has one there
abbrev pub without_newline : List ℕ → List ℕ
without_newline text =
    if pointwise nat_eq (drop (length text - 1) text) (10 ∷ []) then take (length text - 1) text else text

-- a key, and its digits
pub record IsKey (key digits : List ℕ) : Type 0 where
  pub long : length key ≡ 32
  pub is : digits ≡ encode_lower key

-- why digits are no key's
abbrev pub IsNoKey : KeyError → List ℕ → Type 0
IsNoKey Short digits = length digits < 64
IsNoKey Long digits = 64 < length digits
IsNoKey NoDigit digits = (length digits ≡ 64) × ((key : List ℕ) → IsBytes key → digits ≢ encode_lower key)
