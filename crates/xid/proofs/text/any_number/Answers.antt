use Rattle.std.proofs.Common.{◌≡◌, ◌∙◌, Ok, sym, ap, decimal}
use Rattle.std.proofs.lemmas.Slice.Eq.{bytes_eq-Decides}
use Rattle.xid.proofs.Texts.{decimal_is_text, parsed}
use Rattle.xid.proofs.text.any_number.Goals as goal

pub returns-in_default : goal.returns-in_default
returns-in_default c = λ n lt e. c.in_default.ensures.cases.0 (decimal_is_text n c.args.text.now lt e)

pub returns-in_default-parse : goal.returns-in_default-parse
returns-in_default-parse c = λ n lt e.
    let read : c.parse.result ≡ Ok n = parsed n c.in-Ok.digits.now c.parse.result lt
    (c.in-Ok.ensures.cases.0 ∙ e) c.parse.ensures.value.0 in
    absurd (cc)

pub returns-else-eq : goal.returns-else-eq
returns-else-eq c = λ n lt e.
    let read : c.parse.result ≡ Ok n = parsed n c.in-Ok.digits.now c.parse.result lt
    (c.in-Ok.ensures.cases.0 ∙ e) c.parse.ensures.value.0 in
    let number-is : c.in-Ok-parse.number ≡ n = cc in
    let text-is : c.as_bytes.result.now ≡ c.args.text.now = c.as_bytes.ensures.value
    ∙ (c.format.ensures.text ∙ (ap decimal number-is ∙ sym e)) in
    let same = (bytes_eq-Decides c.as_bytes.result.now c.args.text.now).1 text-is in
    absurd (cc)
