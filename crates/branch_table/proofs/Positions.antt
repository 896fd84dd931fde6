-- Where a search of a list finds nothing.
-- Needed by `act_on` and `touch_key`; Found.
use Rattle.std.proofs.Common.{◌≡◌, ℕ, ◌≤◌, ◌<◌, Bool, true, false, not, ltb, cond, List, length, get_or, Some, None, refl, arith}
use Rattle.std.specs.List.{position, prefix_len}
use Rattle.std.proofs.lemmas.Bool.{ltb-false, not-true}
use Rattle.std.proofs.lemmas.List.Sums.{prefix_len_passes}

cond_none : (b : Bool) (n : ℕ) → cond b (Some n) None ≡ None → b ≡ false
cond_none true n e = absurd (cc)
cond_none false n e = refl

-- no element passes
pub none_passes : {X : Type 0} (p : X → Bool) (xs : List X) → position p xs ≡ None
    → (k : ℕ) (d : X) → k < length xs → p (get_or xs k d) ≡ false
none_passes p xs none k d lt =
    let n = prefix_len (λ x. not (p x)) xs in
    let past : length xs ≤ n = ltb-false _ _ (cond_none (ltb n (length xs)) n none) in
    not-true (p (get_or xs k d)) (prefix_len_passes (λ x. not (p x)) xs k d (omega arith))
