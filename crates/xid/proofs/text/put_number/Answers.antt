use Rattle.std.proofs.Common.{◌≡◌, ℕ, ◌+◌, List, [], ◌∷◌, ◌++◌, decimal, sym, ap, ◌∙◌}
use Rattle.std.proofs.lemmas.Fmt.{decimal_digit}
use Rattle.xid.proofs.text.put_number.Goals as goal

pub returns-then-number-lt10-clause-ok : goal.returns-then-number-lt10-clause-ok
returns-then-number-lt10-clause-ok c =
    let digit : decimal c.args.number ≡ (48 + c.args.number) ∷ [] = decimal_digit c.args.number c.if-number-lt10.true in
    c.in_ok-push.ensures.items ∙ ap (λ (t : List ℕ). c.args.out.now.items ++ t) (sym digit)
