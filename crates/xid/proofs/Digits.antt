-- Digits with no zero in front are the one text of the number that they write: for `short_number`.
use Rattle.std.proofs.Common.{◌≡◌, ℕ, ◌+◌, ◌-◌, ◌*◌, ◌<◌, ◌≤◌, ◌^◌, List, []}
use Rattle.std.proofs.Common.{◌∷◌, length, take, get_or, decimal, sym, ap, subst, ◌∙◌, arith}
use Rattle.std.specs.Char.{digit_value}
use Rattle.std.specs.Int.{IsInRange}
use Rattle.std.specs.Str.Parse.{AllDigits, digits_value}
use Rattle.std.proofs.lemmas.Fmt.{decimal-digits_value, decimal_digit}
use Rattle.std.proofs.lemmas.Int.Digits.{digits_value_more, digits_more}
use Rattle.std.proofs.lemmas.Str.{digit_value_digit}
use Rattle.std.proofs.lemmas.List.{length-take}
use Rattle.std.proofs.lemmas.Str.Parse.{numerals_by_value, tells_digits, digits_value_short}

-- digits, and the number that they write
pub record AreDigits (text : List ℕ) (n : ℕ) : Type 0 where
  pub digits : AllDigits 10 text
  pub value : n ≡ digits_value 10 text

pub one_digit_more : (text : List ℕ) (i n b : ℕ) → i < length text → b ≡ get_or text i 0 → 48 ≤ b → b ≤ 57 → AreDigits (take i text) n
    → AreDigits (take (i + 1) text) (n * 10 + (b - 48))
one_digit_more text i n b at is low high are =
    let range : IsInRange 48 57 b = (low, high) in
    let value : digit_value b + 48 ≡ b = digit_value_digit b range in
    let small : digit_value b < 10 = omega arith in
    let more = digits_value_more 10 text i at in
    let same : digit_value (get_or text i 0) ≡ digit_value b = ap digit_value (sym is) in
    record {
      digits = digits_more 10 text i at are.digits (subst (λ (x : ℕ). digit_value x < 10) is small);
      value = omega (arith, are.value, more, value, same);
    }

-- one digit is its number's text
pub one_digit : (text : List ℕ) → length text ≡ 1 → 48 ≤ get_or text 0 0 → get_or text 0 0 ≤ 57 → text ≡ decimal (get_or text 0 0 - 48)
one_digit [] len low high = absurd (omega arith)
one_digit (b ∷ c ∷ text) len low high = absurd (omega arith)
one_digit (b ∷ []) len low high =
    let digit : 48 + (b - 48) ≡ b = omega arith in
    sym (decimal_digit (b - 48) (omega arith) ∙ ap (λ (d : ℕ). d ∷ []) digit)

-- ten digits write a number below 10^10
pub ten_digits : (text : List ℕ) (i n : ℕ) → AreDigits (take i text) n → length text ≤ 10 → n < 10 ^ 10
ten_digits text i n are few =
    let short = digits_value_short (numerals_by_value _ tells_digits) (take i text) 10 are.digits (omega (arith, length-take i text)) in
    omega (arith, are.value, short)

-- digits with no zero in front are the one text of their number
pub digits_are_text : (text : List ℕ) (n : ℕ) → AreDigits text n → 0 < length text → (get_or text 0 0 ≡ 48 → length text ≡ 1) → n < 2 ^ 32
    → text ≡ decimal n
digits_are_text text n are some lead small =
    let spelled = decimal-digits_value (numerals_by_value _ tells_digits) text are.digits some lead (omega (arith, are.value)) in
    sym (ap decimal are.value ∙ spelled)
