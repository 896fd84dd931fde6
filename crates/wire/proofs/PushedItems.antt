-- An item stored at the count of an array of items.
-- Needed by `Items::push`.
use Rattle.std.proofs.Common.{◌≡◌, ℕ, zero, suc, ◌+◌, ◌-◌, ◌<◌, List, [], ◌∷◌, drop, slice_set, ap, ◌∙◌, arith, sym, refl}
use Rattle.std.proofs.lemmas.List.{drop-drop, drop-set-lt, drop-replicate, length-set}
use Rattle.xid.specs.Limits.{most_branches}
use Rattle.wire.specs.ItemArray.{IsItemArray, firsts}

-- to store past the first leaves the first
firsts-set : {X : Type 0} (n count : ℕ) (array : List X) (x : X) → 0 < count → firsts n (slice_set array count x) ≡ firsts n array
firsts-set n zero array x some = absurd (omega arith)
firsts-set n (suc count) [] x some = refl
firsts-set n (suc count) (y ∷ ys) x some = refl

-- one time less
firsts-drop : {X : Type 0} (n : ℕ) (array : List X) → drop 1 (firsts n array) ≡ firsts (n - 1) array
firsts-drop n [] = refl
firsts-drop n (x ∷ xs) = drop-replicate 1 n x

-- an array of items with one item more
pub pushed : {X : Type 0} (count : ℕ) (array : List X) (x : X) → IsItemArray count array → count < most_branches
    → IsItemArray (count + 1) (slice_set array count x)
pushed count array x ok lt = record {
  some = omega arith;
  few = omega (arith, lt);
  whole = length-set array count x ∙ ok.whole;
  after =
      drop-set-lt (count + 1) array count x (omega arith) ∙ sym (drop-drop 1 count array) ∙ ap (drop 1) ok.after
      ∙ firsts-drop (most_branches - count) array
      ∙ ap (λ (n : ℕ). firsts n array) (omega arith)
      ∙ sym (firsts-set (most_branches - (count + 1)) count array x ok.some);
}
