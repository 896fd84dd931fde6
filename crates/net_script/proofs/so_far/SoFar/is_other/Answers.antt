use Rattle.std.proofs.Common.{◌≡◌, ◌∙◌, ℕ, eqb, not, ap, List, [], ◌∷◌, refl, arith}
use Rattle.std.specs.List.{list_all, list_any}
use Rattle.net_script.proofs.so_far.SoFar.is_other.Goals as goal

none_all : (rm : ℕ) (xs : List ℕ) → not (list_any (λ x. eqb x rm) xs) ≡ list_all (λ x. not (eqb x rm)) xs
none_all rm [] = refl
none_all rm (x ∷ xs) = grind (arith, none_all rm xs)

pub returns : goal.returns
returns c =
    ap not c.contains.ensures.value ∙ none_all c.args.rm c.as_slice.result.now
    ∙ ap (list_all (λ x. not (eqb x c.args.rm))) c.as_slice.ensures
