-- A buffer whose front was filled.
-- Needed by `copy`; crate signed_port.
use Rattle.std.proofs.Common.{◌≡◌, ◌∙◌, ℕ, ◌≤◌, List, ◌++◌, length, take, ap, min, arith}
use Rattle.std.proofs.lemmas.List.{take-append-le, take_all, take_min, length-take-le}

-- as many bytes as there are, or as are wanted
pub copied_front : (n wanted : ℕ) (bytes front rest : List ℕ) → n ≡ min wanted (length bytes) → front ≡ take n bytes
    → take n (front ++ rest) ≡ take wanted bytes
copied_front n wanted bytes front rest few is =
    let within : n ≤ length bytes = omega (arith, few) in
    let long : length front ≡ n = ap length is ∙ length-take-le n bytes within in
    take-append-le n front rest (omega (arith, long))
    ∙ take_all n front (omega (arith, long))
    ∙ is
    ∙ ap (λ (k : ℕ). take k bytes) few
    ∙ take_min wanted bytes
