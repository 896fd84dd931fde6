-- What a checked sum answers is the next ballot.
use Rattle.std.specs.Prelude.{◌≡◌, ℕ, ◌<◌, ◌≤◌, ◌^◌, IfOk, IfErr, SomeIff, Option, Some, None, Result, ok_or, refl}
use Rattle.std.proofs.Common.{arith, sym, subst}
use Rattle.xid.specs.declared.refusals.Refusal.{Refusal}
use Rattle.xid.specs.declared.refusals.Refusal.TheVariants.{NoBallot}
use Rattle.ballot.specs.Ballots.{IsOwned, IsNextOwned, next_of}
use Rattle.ballot.proofs.Turns.{next_is}

abbrev pub IsNext : (n l last : ℕ) → Result ℕ Refusal → Type 0
IsNext n l last r = IfOk r (λ b. IsNextOwned n l last b × (b ≡ next_of n l last))

abbrev pub IsLast : (n l last : ℕ) → Result ℕ Refusal → Type 0
IsLast n l last r = IfErr r (λ e. (e ≡ NoBallot) × (2 ^ 32 ≤ next_of n l last) × ((b : ℕ) → IsOwned n l b → last < b → 2 ^ 32 ≤ b))

pub next_answers : (n l last : ℕ) (r : Option ℕ) → l < n → SomeIff r (next_of n l last < 2 ^ 32) (next_of n l last)
    → IsNext n l last (ok_or r NoBallot)
next_answers n l last (Some b) few h = (subst (λ (x : ℕ). IsNextOwned n l last x) (sym h.1) (next_is n l last few), h.1)
next_answers n l last None few h = tt

pub last_answers : (n l last : ℕ) (r : Option ℕ) → l < n → SomeIff r (next_of n l last < 2 ^ 32) (next_of n l last)
    → IsLast n l last (ok_or r NoBallot)
last_answers n l last (Some b) few h = tt
last_answers n l last None few h =
    let beyond : 2 ^ 32 ≤ next_of n l last = omega (arith, h) in
    (refl, beyond, λ b own above. omega (arith, beyond, (next_is n l last few).least b own above))
