-- A list in an array of `most_component` bytes: the list, then zeros.
use Rattle.std.specs.Prelude.{◌≡◌, ℕ, ◌-◌, ◌≤◌, List, ◌++◌, length, take, drop, replicate}
use Rattle.std.proofs.Common.{ap, ◌∙◌, arith, sym}
use Rattle.std.proofs.lemmas.List.{take-append-drop, length-take}
use Rattle.xid.specs.Limits.{most_component}

-- the array that a list is kept in
abbrev pub padded : List ℕ → List ℕ
padded xs = xs ++ replicate (most_component - length xs) 0

-- the array has its length, and zeros past the list's length
pub record Padded (len : ℕ) (bytes : List ℕ) : Type 0 where
  pub few : len ≤ most_component
  pub whole : length bytes ≡ most_component
  pub zeros : drop len bytes ≡ replicate (most_component - len) 0

-- the list that is seen is as long as the length says
pub length-shown : (len : ℕ) (bytes : List ℕ) → Padded len bytes → length (take len bytes) ≡ len
length-shown len bytes ok = omega (arith, length-take len bytes, ok.few, ok.whole)

-- the list that is seen gives the array back
pub padded-shown : (len : ℕ) (bytes : List ℕ) → Padded len bytes → padded (take len bytes) ≡ bytes
padded-shown len bytes ok =
    ap (λ (n : ℕ). take len bytes ++ replicate (most_component - n) 0) (length-shown len bytes ok)
    ∙ ap (λ (rest : List ℕ). take len bytes ++ rest) (sym ok.zeros)
    ∙ take-append-drop len bytes
