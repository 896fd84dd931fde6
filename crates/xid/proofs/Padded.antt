-- What is written over zeros.
use Rattle.std.proofs.Common.{◌≡◌, ℕ, ◌+◌, ◌-◌, ◌≤◌, List, ◌++◌, length, take, drop, replicate, ap, ◌∙◌, arith, zero-add}
use Rattle.std.proofs.Math.Seq.{take-append_seam, drop-append-add}
use Rattle.std.proofs.lemmas.List.{length-append, length-drop, length-replicate, drop-replicate, drop_at}
use Rattle.xid.specs.Limits.{most_component}
use Rattle.xid.specs.Padding.{Padded}

-- a list that is written over zeros is padded
pub padded-made : (xs : List ℕ) → length xs ≤ most_component
    → Padded (length xs) (xs ++ drop (length xs) (replicate most_component 0))
padded-made xs few =
    let left : List ℕ = drop (length xs) (replicate most_component 0) in
    record {
      few = few;
      whole = omega (
        arith,
        length-append xs left,
        length-drop (length xs) (replicate {A = ℕ} most_component 0),
        length-replicate {A = ℕ} most_component 0,
      );
      zeros = drop_at xs left (length xs) (λ _. length xs) ∙ drop-replicate (length xs) most_component 0;
    }

-- zeros, with a list at their front
abbrev over_zeros : List ℕ → List ℕ
over_zeros xs = take 0 (replicate 128 0) ++ xs ++ drop (0 + length xs) (replicate 128 0)

-- and a second list right after the first
pub area-made : (xs ys : List ℕ) → length xs ≤ most_component → length ys ≤ most_component → (n : ℕ) → n ≡ length xs
    → take n (over_zeros xs) ++ ys ++ drop (n + length ys) (over_zeros xs)
    ≡ xs ++ ys ++ replicate (128 - (length xs + length ys)) 0
area-made xs ys few-xs few-ys n is =
    let left : drop (0 + length xs) (replicate {A = ℕ} 128 0) ≡ replicate (128 - length xs) 0 =
    rw zero-add (drop-replicate (length xs) 128 0) in
    rw (left, is, take-append_seam, drop-append-add, drop-replicate)
    (ap (λ (k : ℕ). xs ++ ys ++ replicate k 0) (omega arith))
