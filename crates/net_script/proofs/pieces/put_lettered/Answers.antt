use Rattle.std.proofs.Common.{◌≡◌, ◌∙◌, ◌+◌, ◌++◌, ◌∷◌, List, [], ℕ, ap, decimal, sym}
use Rattle.std.proofs.lemmas.Fmt.{decimal_digit}
use Rattle.net_script.proofs.pieces.put_lettered.Goals as goal

pub returns-then-number-lt10-clause-puts : goal.returns-then-number-lt10-clause-puts
returns-then-number-lt10-clause-puts c =
    let digit : decimal c.args.number ≡ (48 + c.args.number) ∷ [] = decimal_digit c.args.number c.if-number-lt10.true in
    c.in_ok-extend_from_slice.ensures.items
    ∙ ap (λ (digits : List ℕ). c.args.out.now.items ++ 32 ∷ c.args.letter ∷ digits) (sym digit)
