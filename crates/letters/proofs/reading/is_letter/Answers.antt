use Rattle.std.proofs.Common.{◌≡◌, ◌∙◌, ◌∷◌, sym, ap, eqb-true}
use Rattle.letters.specs.Letters.{letter_version}
use Rattle.letters.proofs.Whole.{begun, empty_is_none, nothing_is_none, version_is}
use Rattle.letters.proofs.reading.is_letter.Goals as goal

pub returns-in_default : goal.returns-in_default
returns-in_default c = (λ e. absurd (cc), λ letter. absurd (nothing_is_none letter.0 c.args.bytes.now c.in_default.ensures letter.1))

pub returns-then-is_empty : goal.returns-then-is_empty
returns-then-is_empty c = (
  λ e. absurd (cc),
  λ letter.
      let version : c.in-Some.version ≡ letter_version =
      version_is letter.0 c.args.bytes.now c.in-Some.rest.now c.in-Some.version c.in-Some.ensures letter.1 in
      let begins : c.args.bytes.now ≡ letter_version ∷ c.in-Some.rest.now =
      begun c.args.bytes.now c.in-Some.rest.now c.in-Some.version c.in-Some.ensures ∙ ap (λ v. v ∷ c.in-Some.rest.now) version in
      absurd (empty_is_none letter.0 c.args.bytes.now c.in-Some.rest.now begins
      (eqb-true _ 0 (sym c.is_empty.ensures ∙ c.if-is_empty.true)) letter.1),
)
