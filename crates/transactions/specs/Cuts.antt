-- Bytes that stand one after another in one list.
use Rattle.std.specs.Prelude.{◌≡◌, ℕ, ◌≤◌, List, [], ◌∷◌, slice_range}

-- bytes cut at these ends, the first from a start on
abbrev pub cuts : List ℕ → (start : ℕ) → (ends : List ℕ) → List (List ℕ)
cuts bytes start [] = []
cuts bytes start (end ∷ ends) = slice_range bytes start end ∷ cuts bytes end ends

-- ends come in order, and the last is that of all
abbrev pub AreEnds : (start : ℕ) → (ends : List ℕ) → (count : ℕ) → Type 0
AreEnds start [] count = start ≡ count
AreEnds start (end ∷ ends) count = (start ≤ end) × AreEnds end ends count
