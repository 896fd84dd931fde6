-- Notices by their numbers, as an auditor finds them.
use Rattle.std.proofs.Common.{◌≡◌, ◌∙◌, ℕ, zero, suc, ◌+◌, ◌<◌, Bool, if◌then◌else◌, List, [], ◌∷◌, ◌++◌, length, Option, Some, refl, ap}
use Rattle.std.proofs.Common.{arith}
use Rattle.std.specs.Prelude.{fold, slice_get}
use Rattle.std.specs.Option.{option_map_or}
use Rattle.std.proofs.lemmas.Bool.{eq-eqb, ne_eqb}
use Rattle.protocol.specs.declared.events.Told.{Told}
use Rattle.floors.specs.Worlds.{Notice, told_from}
use Rattle.audit.specs.Floors.{or_newer}
use Rattle.run_traces.proofs.AtMost.{as_told}

-- none of notices with later numbers
unheard : (number first : ℕ) (notices : List Notice) (found : Option Told) → number < first
    → fold (or_newer number) found (told_from first notices) ≡ found
unheard number first [] found before = refl
unheard number first (notice ∷ rest) found before =
    ap (λ (b : Bool). fold (or_newer number) (if b then Some (as_told first notice) else found) (told_from (suc first) rest))
    (ne_eqb first number (λ same. let e : first ≡ number = same in omega (arith, e, before)))
    ∙ unheard number (suc first) rest found (omega (arith, before))

-- the one that stands there
pub heard_at : (number first at : ℕ) (notices : List Notice) (found : Option Told) → number ≡ first + at
    → fold (or_newer number) found (told_from first notices)
    ≡ option_map_or (λ notice. Some (as_told number notice)) (slice_get notices at) found
heard_at number first at [] found is = refl
heard_at number first zero (notice ∷ rest) found is =
    let same : first ≡ number = omega (arith, is) in
    ap (λ (b : Bool). fold (or_newer number) (if b then Some (as_told first notice) else found) (told_from (suc first) rest))
    (eq-eqb first number same)
    ∙ unheard number (suc first) rest (Some (as_told first notice)) (omega (arith, is))
    ∙ ap (λ (n : ℕ). Some (as_told n notice)) same
heard_at number first (suc at) (notice ∷ rest) found is =
    ap (λ (b : Bool). fold (or_newer number) (if b then Some (as_told first notice) else found) (told_from (suc first) rest))
    (ne_eqb first number (λ same. let e : first ≡ number = same in omega (arith, e, is)))
    ∙ heard_at number (suc first) at rest found (omega (arith, is))

pub told_from_both : (first next : ℕ) (before more : List Notice) → next ≡ first + length before
    → told_from first (before ++ more) ≡ told_from first before ++ told_from next more
told_from_both first next [] more is =
    let same : first ≡ next = omega (arith, is) in ap (λ (n : ℕ). told_from n more) same
told_from_both first next (notice ∷ rest) more is =
    ap (λ (all : List Told). as_told first notice ∷ all) (told_from_both (suc first) next rest more (omega (arith, is)))
