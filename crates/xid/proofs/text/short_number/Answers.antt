use Rattle.std.proofs.Common.{List, ℕ, ◌<◌, ◌+◌, ◌*◌, ◌^◌, get_or, take, decimal, sym, ap, subst, ◌∙◌, refl, arith}
use Rattle.std.proofs.lemmas.List.{take_all}
use Rattle.xid.proofs.Digits.{AreDigits, one_digit, one_digit_more, ten_digits, digits_are_text}
use Rattle.xid.proofs.text.short_number.Goals as goal

pub overflow_mul-number : goal.overflow_mul-number
overflow_mul-number c =
    let few = ten_digits c.args.text.now c.loop-byte.byte-index c.loop-byte.number c.loop-byte.invariant c.if-text-gt-MOST_DIGITS.false in
    omega arith

pub overflow_add-number : goal.overflow_add-number
overflow_add-number c =
    let few = ten_digits c.args.text.now c.loop-byte.byte-index c.loop-byte.number c.loop-byte.invariant c.if-text-gt-MOST_DIGITS.false in
    omega (arith, c.from-in-loop-byte.ensures)

pub loop-byte-preserved : goal.loop-byte-preserved
loop-byte-preserved c =
    let text = c.args.text.now in
    let i = c.loop-byte.byte-index in
    subst (λ (m : ℕ). AreDigits (take (i + 1) text) (c.loop-byte.number * 10 + m)) (sym c.from-in-loop-byte.ensures)
    (one_digit_more text i c.loop-byte.number (get_or text i 0) c.loop-byte-test.true refl c.if-byte-lt48.false c.if-byte-gt57.false
    c.loop-byte.invariant)

pub returns : goal.returns
returns c =
    let text = c.args.text.now in
    let all = take_all c.loop-byte.byte-index text c.loop-byte-test.false in
    let some = c.in-len1-up.len_at_least in
    let fits : c.loop-byte.number < 2 ^ 32 = omega arith in
    digits_are_text text c.loop-byte.number (subst (λ (t : List ℕ). AreDigits t c.loop-byte.number) all c.loop-byte.invariant) some
    (λ zero. absurd (c.if-first-eq48.false zero)) fits

pub returns-then-first-le57 : goal.returns-then-first-le57
returns-then-first-le57 c =
    one_digit c.args.text.now c.if-text-eq1.true c.if-first-ge48.true c.if-first-le57.true
    ∙ ap decimal (sym c.from.ensures)
