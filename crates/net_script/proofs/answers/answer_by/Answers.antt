use Rattle.std.proofs.Common.{◌≡◌, ◌∷◌, ◌∙◌, refl, sym, ap, List, ℕ, arith, rules}
use Rattle.std.specs.Fmt.{signed_decimal}
use Rattle.std.proofs.lemmas.Fmt.{decimal_injective}
use Rattle.net_script.specs.Basics.{XaCode, code_number, number_of}
use Rattle.net_script.specs.Lines.{words}
use Rattle.net_script.proofs.Arms.{arm_fails, stops, passes}
use Rattle.net_script.proofs.EventLemmas.{code_digits, refusal_small, ok_arm, code_arm, value_arm, none_arm, xids_arm, standing_arm}
use Rattle.net_script.proofs.EventLemmas.{refused_arm}
use Rattle.net_script.proofs.answers.answer_by.Goals as goal

pub returns-in_err-read : goal.returns-in_err-read
returns-in_err-read c = stops ok_arm _ _ _ _ c.if-is_word.ensures c.from_residual.ensures c.in_err-read.ensures

pub returns-in_err-read-2 : goal.returns-in_err-read-2
returns-in_err-read-2 c =
    arm_fails (λ e. refl) (code_arm c.in-Some.code) _ _ _ _ (c.in-Some.ensures ∙ sym (code_digits c.in-Some.code))
    c.from_residual-in_err-read-2.ensures.1 c.in_err-read-2.ensures

pub returns-in_err-bytes : goal.returns-in_err-bytes
returns-in_err-bytes c = stops value_arm _ _ _ _ c.if-is_word-2.ensures c.from_residual-in_err-bytes.ensures c.in_err-bytes.ensures

pub returns-in_err-read-3 : goal.returns-in_err-read-3
returns-in_err-read-3 c = stops none_arm _ _ _ _ c.if-is_word-3.ensures c.from_residual-in_err-read-3.ensures c.in_err-read-3.ensures

pub returns-in_err-xids : goal.returns-in_err-xids
returns-in_err-xids c = stops xids_arm _ _ _ _ c.if-is_word-4.ensures c.from_residual-in_err-xids.ensures c.in_err-xids.ensures

pub returns-in_err-read-4 : goal.returns-in_err-read-4
returns-in_err-read-4 c =
    arm_fails (λ e. refl) (standing_arm c.in-Some-standing_named.standing) _ _ _ _ c.in-Some-standing_named.ensures
    c.from_residual-in_err-read-4.ensures.1 c.in_err-read-4.ensures

pub returns-in_err-number : goal.returns-in_err-number
returns-in_err-number c =
    let named = c.is_word-5.ensures.0 c.if-is_word-5.true in
    passes (λ e. refl)
    (λ none a is e.
    let found = refused_arm a is (words c.args.args.now) (ap (λ (word : List ℕ). word ∷ words c.args.args.now) (sym named) ∙ e) in
    none (number_of found.value.0, tt) (refusal_small found.value.0 found.fits.0, tt) found.says)
    c.in_err-number.field-0.0 c.from_residual-in_err-number.result c.from_residual-in_err-number.ensures.1 c.in_err-number.ensures

pub returns-in_default-refusal_numbered : goal.returns-in_default-refusal_numbered
returns-in_default-refusal_numbered c = λ a is e.
    let named = c.is_word-5.ensures.0 c.if-is_word-5.true in
    let found = refused_arm a is (words c.args.args.now) (ap (λ (word : List ℕ). word ∷ words c.args.args.now) (sym named) ∙ e) in
    let small = refusal_small found.value.0 found.fits.0 in
    let read = c.in_ok-number.ensures in
    c.in_default-refusal_numbered.ensures found.value.0 found.fits.0
    (decimal_injective c.in_ok-number.number (number_of found.value.0) (omega (arith, read.0.0)) (omega arith) (cc))

pub returns-in-Some : goal.returns-in-Some
returns-in-Some c = (tt, let text = c.in-Some.ensures in let none = c.in_ok-read-2.ensures.1 in let same = code_digits c.in-Some.code in cc)

pub returns : goal.returns
returns c =
    let none : (x : XaCode) → c.args.name.now ≡ signed_decimal (code_number x) → ⊥ = λ x e. c.in_default.ensures x (e ∙ code_digits x) in
    search rules
