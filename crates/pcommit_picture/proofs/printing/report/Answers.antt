use Rattle.std.proofs.Common.{Option, rules, ℕ, List, [], ◌∷◌, ◌++◌, ◌≡◌, refl, sym, ap, ◌∙◌, subst, codes, decimal}
use Rattle.xid.specs.Refusals.{number_of}
use Rattle.xid.specs.declared.refusals.Refusal.{Refusal}
use Rattle.xid.specs.declared.refusals.Refusal.TheVariants.{BadScript}
use Rattle.net_script.specs.Writing.{WritesText}
use Rattle.pcommit_picture.specs.Printing.{refusal_line}
use Rattle.pcommit_picture.proofs.printing.report.Goals as goal

-- any other refusal has its number in its line, and no more
line_of : (r : Refusal) → ((line : ℕ) → r ≡ BadScript line → ⊥)
    → refusal_line r ≡ codes "pcommit_picture: refused " ++ decimal (number_of r) ++ 10 ∷ []
line_of (BadScript line) other = absurd (other line refl)
line_of r other = refl

pub returns-in_default : goal.returns-in_default
returns-in_default g c =
    let number_is : c.from.result ≡ number_of c.args.refusal = search rules in
    let line_is : codes "pcommit_picture: refused " ++ decimal c.from.result ++ 10 ∷ [] ≡ refusal_line c.args.refusal =
    ap (λ (n : ℕ). codes "pcommit_picture: refused " ++ decimal n ++ 10 ∷ []) number_is
    ∙ sym (line_of c.args.refusal c.in_default.not-BadScript) in
    let old : Option (List ℕ) = g.E.Write.contents c.args.err.now in
    let new : Option (List ℕ) = g.E.Write.contents c.write_number-in_default.new.out in
    subst (λ (line : List ℕ). WritesText old new c.write_number-in_default.result line) line_is c.write_number-in_default.ensures
