-- The items of a bundle in an array: the items, then the first of them again and again.
use Rattle.std.specs.Prelude.{◌≡◌, ℕ, zero, suc, ◌-◌, ◌<◌, ◌≤◌, List, [], ◌∷◌, ◌++◌, length, take, drop, replicate}
use Rattle.std.proofs.Common.{ap, ◌∙◌, arith, sym, refl}
use Rattle.std.proofs.lemmas.List.{take-append-drop, length-take}
use Rattle.xid.specs.Limits.{most_branches}

-- the first of a list, n times
abbrev pub firsts : {X : Type 0} → ℕ → List X → List X
firsts n [] = []
firsts n (x ∷ xs) = replicate n x

-- the array that a list is kept in
abbrev pub filled : {X : Type 0} → List X → List X
filled xs = xs ++ firsts (most_branches - length xs) xs

-- an array of items has its length, and past the count the first of them stands
pub record IsItemArray {X : Type 0} (count : ℕ) (array : List X) : Type 0 where
  pub some : 0 < count
  pub few : count ≤ most_branches
  pub whole : length array ≡ most_branches
  pub after : drop count array ≡ firsts (most_branches - count) array

-- the list that is seen has as many items as the array counts
pub item-count-shown : {X : Type 0} (count : ℕ) (array : List X) → IsItemArray count array → length (take count array) ≡ count
item-count-shown count array ok = omega (arith, length-take count array, ok.few, ok.whole)

-- the first of what is seen is the first of the array
firsts-shown : {X : Type 0} (n count : ℕ) (array : List X) → 0 < count → firsts n (take count array) ≡ firsts n array
firsts-shown n zero array some = absurd (omega arith)
firsts-shown n (suc count) [] some = refl
firsts-shown n (suc count) (x ∷ xs) some = refl

-- the list that is seen gives the array back
pub items-shown : {X : Type 0} (count : ℕ) (array : List X) → IsItemArray count array → filled (take count array) ≡ array
items-shown count array ok =
    ap (λ (n : ℕ). take count array ++ firsts (most_branches - n) (take count array)) (item-count-shown count array ok)
    ∙ ap (λ rest. take count array ++ rest) (firsts-shown (most_branches - count) count array ok.some ∙ sym ok.after)
    ∙ take-append-drop count array
