-- Lists that are put together piece by piece, each piece that of one of some things.
-- Needed by crates acceptor and leader.
use Rattle.std.proofs.Common.{◌≡◌, ◌∙◌, ℕ, suc, ◌+◌, ◌<◌, List, ◌++◌, length, get_or, drop, sym, ap, append_assoc, arith}
use Rattle.std.specs.List.{flat_map}
use Rattle.std.proofs.Math.Seq.{drop-cons}

-- what is put so far and what is left come to the whole, after one more
pub next_put : {X Y : Type 0} (h : X → List Y) (xs : List X) (n : ℕ) (x : X) (old new all : List Y) → n < length xs → get_or xs n x ≡ x
    → new ≡ old ++ h x → old ++ flat_map h (drop n xs) ≡ all → new ++ flat_map h (drop (n + 1) xs) ≡ all
next_put h xs n x old new all lt here put so_far =
    let next : suc n ≡ n + 1 = omega arith in
    ap (λ ys. ys ++ flat_map h (drop (n + 1) xs)) put
    ∙ append_assoc old (h x) (flat_map h (drop (n + 1) xs))
    ∙ (λ k. old ++ (h (sym here k) ++ flat_map h (drop (sym next k) xs)))
    ∙ ap (λ ys. old ++ flat_map h ys) (sym (drop-cons xs n x lt))
    ∙ so_far
