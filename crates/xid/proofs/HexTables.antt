-- Tables of hex digits, and loops over bytes and their two digits each.
use Rattle.std.proofs.Common.{◌≡◌, ℕ, zero, suc, ◌+◌, ◌*◌, ◌/◌, ◌%◌, ◌<◌, ◌≤◌}
use Rattle.std.proofs.Common.{◌^◌, Bool, true, ◌&&◌, ◌||◌, eqb, nat_le, List, [], ◌∷◌, ◌++◌}
use Rattle.std.proofs.Common.{length, take, get_or, set, refl, sym, ap, subst, ◌∙◌, inl, inr, arith}
use Rattle.std.specs.Int.Bits.{bit_or}
use Rattle.std.proofs.lemmas.Nat.{or_lt, le_or_l, le_or_r}
use Rattle.std.proofs.lemmas.Bool.{and_parts, or_cases, cases_lt, eqb-true}
use Rattle.std.proofs.lemmas.Bool.Decides.{nat_tests}
use Rattle.std.proofs.lemmas.List.{append_assoc, take_more, take_more_set, take_all}
use Rattle.hex.specs.Hex.{lower_digits, encode_with}
use Rattle.xid.specs.Names.{IsBytes}
use Rattle.xid.specs.Text.{hex_text}
use Rattle.xid.specs.declared.hex_digits.TheConstants.{VALUES, PAIRS}
use Rattle.xid.proofs.Texts.{hex_append, length-hex_text}

-- a test of each number below a limit
abbrev all_below : (ℕ → Bool) → ℕ → Bool
all_below p zero = true
all_below p (suc n) = p n && all_below p n

pub at_below : (p : ℕ → Bool) (n k : ℕ) → all_below p n ≡ true → k < n → p k ≡ true
at_below p zero k h lt = absurd (omega arith)
at_below p (suc n) k h lt =
    let parts = and_parts (p n) (all_below p n) h in
    elim (cases_lt k n) [
      | inl below ↦ at_below p n k parts.1 below
      | inr top ↦
          let e : k ≡ n = omega arith in
          subst (λ (m : ℕ). p m ≡ true) (sym e) parts.0
    ]

-- ---- the values of bytes

-- a byte has a value that is no digit's, or is the digit of its value
abbrev is_none_or_digit : ℕ → Bool
is_none_or_digit b = nat_le 16 (get_or VALUES b 0) || eqb (get_or lower_digits (get_or VALUES b 0) 0) b

digit_read : (b : ℕ) → b < 256 → get_or VALUES b 0 < 16 → get_or lower_digits (get_or VALUES b 0) 0 ≡ b
digit_read b byte small =
    let test : is_none_or_digit b ≡ true = at_below is_none_or_digit 256 b refl byte in
    elim (or_cases (nat_le 16 (get_or VALUES b 0)) (eqb (get_or lower_digits (get_or VALUES b 0) 0) b) test) [
      | inl none ↦ absurd (grind (arith, nat_tests, none, small))
      | inr digit ↦ grind (arith, nat_tests, digit)
    ]

-- the value of a digit
value_of_digit : (v : ℕ) → v < 16 → get_or VALUES (get_or lower_digits v 0) 0 ≡ v
value_of_digit v small =
    let test = at_below (λ d. eqb (get_or VALUES (get_or lower_digits d 0) 0) d) 16 v refl small in
    grind (arith, nat_tests, test)

-- the two digits of a byte
abbrev is_pair : ℕ → Bool
is_pair b =
    eqb (get_or (get_or PAIRS b []) 0 0) (get_or lower_digits (b / 16) 0)
    && eqb (get_or (get_or PAIRS b []) 1 0) (get_or lower_digits (b % 16) 0)

pub pair_of : (b : ℕ) → b < 256
    → (get_or (get_or PAIRS b []) 0 0 ≡ get_or lower_digits (b / 16) 0) × (get_or (get_or PAIRS b []) 1 0 ≡ get_or lower_digits (b % 16) 0)
pair_of b byte =
    let tests = and_parts (eqb (get_or (get_or PAIRS b []) 0 0) (get_or lower_digits (b / 16) 0))
    (eqb (get_or (get_or PAIRS b []) 1 0) (get_or lower_digits (b % 16) 0)) (at_below is_pair 256 b refl byte) in
    (eqb-true _ _ tests.0, eqb-true _ _ tests.1)

-- ---- bytes that are read

-- the two digits of a byte of a hex text
digits_at : (xs : List ℕ) (i : ℕ) → i < length xs
    → (get_or (hex_text xs) (2 * i) 0 ≡ get_or lower_digits (get_or xs i 0 / 16) 0)
    × (get_or (hex_text xs) (2 * i + 1) 0 ≡ get_or lower_digits (get_or xs i 0 % 16) 0)
unfolding encode_with
digits_at [] i h = absurd (omega arith)
digits_at (x ∷ xs) zero h = (refl, refl)
digits_at (x ∷ xs) (suc i) h =
    let first : 2 * suc i ≡ suc (suc (2 * i)) = omega arith in
    let second : 2 * suc i + 1 ≡ suc (suc (2 * i + 1)) = omega arith in
    let rest = digits_at xs i (omega arith) in (
      ap (λ (k : ℕ). get_or (hex_text (x ∷ xs)) k 0) first ∙ rest.0,
      ap (λ (k : ℕ). get_or (hex_text (x ∷ xs)) k 0) second ∙ rest.1,
    )

-- and their values
small_values : (xs : List ℕ) (i : ℕ) → IsBytes xs → i < length xs
    → (get_or VALUES (get_or (hex_text xs) (2 * i) 0) 0 < 16) × (get_or VALUES (get_or (hex_text xs) (2 * i + 1) 0) 0 < 16)
small_values xs i bytes at =
    let digits = digits_at xs i at in
    let byte : get_or xs i 0 < 256 = bytes i in
    let high = ap (λ (d : ℕ). get_or VALUES d 0) digits.0 ∙ value_of_digit (get_or xs i 0 / 16) (omega arith) in
    let low = ap (λ (d : ℕ). get_or VALUES d 0) digits.1 ∙ value_of_digit (get_or xs i 0 % 16) (omega arith) in
    (omega (arith, high), omega (arith, low))

one_byte : (b high low : ℕ) → high < 16 → low < 16 → b ≡ high * 16 + low
    → hex_text (b ∷ []) ≡ get_or lower_digits high 0 ∷ get_or lower_digits low 0 ∷ []
unfolding encode_with
one_byte b high low h l e =
    let first : b / 16 ≡ high = omega arith in
    let second : b % 16 ≡ low = omega arith in
    rw (first, second) refl

-- bytes that are read so far, where all digits were digits: the least number above none of their values is below 16
pub record Reads (text bytes : List ℕ) (i all : ℕ) : Type 0 where
  pub same : all < 16 → take (2 * i) text ≡ hex_text (take i bytes)
  pub written : IsBytes bytes
  pub other : 16 ≤ all → (xs : List ℕ) → IsBytes xs → text ≡ hex_text xs → ⊥

set_byte : (bytes : List ℕ) (i b : ℕ) → IsBytes bytes → b < 256 → IsBytes (set bytes i b)
set_byte [] i b is small k = is k
set_byte (x ∷ xs) zero b is small zero = small
set_byte (x ∷ xs) zero b is small (suc k) = is (suc k)
set_byte (x ∷ xs) (suc i) b is small zero = is 0
set_byte (x ∷ xs) (suc i) b is small (suc k) = set_byte xs i b (λ j. is (suc j)) small k

pub read_start : (text bytes : List ℕ) → IsBytes bytes → Reads text bytes 0 0
unfolding encode_with
read_start text bytes is = record { same = λ _. refl; written = is; other = λ h. absurd (omega arith) }

pub read_more : (text bytes : List ℕ) (i all high low b : ℕ) → length text ≡ 2 * length bytes → i < length bytes → IsBytes text
    → high ≡ get_or VALUES (get_or text (2 * i) 0) 0 → low ≡ get_or VALUES (get_or text (2 * i + 1) 0) 0
    → (high < 16 → low < 16 → b ≡ high * 16 + low) → b < 256 → Reads text bytes i all
    → Reads text (set bytes i b) (i + 1) (bit_or (bit_or all high) low)
read_more text bytes i all high low b len at is h l byte small reads =
    record { same = same; written = set_byte bytes i b reads.written small; other = other }
  where
    first : ℕ
    first = get_or text (2 * i) 0

    second : ℕ
    second = get_or text (2 * i + 1) 0

    same : bit_or (bit_or all high) low < 16 → take (2 * (i + 1)) text ≡ hex_text (take (i + 1) (set bytes i b))
    same few =
        let a : all < 16 = omega (arith, le_or_l all high, le_or_l (bit_or all high) low) in
        let hi : high < 16 = omega (arith, le_or_r all high, le_or_l (bit_or all high) low) in
        let lo : low < 16 = omega (arith, le_or_r (bit_or all high) low) in
        let digit : get_or lower_digits high 0 ≡ first = ap (λ (v : ℕ). get_or lower_digits v 0) h
        ∙ digit_read first (is (2 * i)) (omega (arith, h)) in
        let digit' : get_or lower_digits low 0 ≡ second = ap (λ (v : ℕ). get_or lower_digits v 0) l
        ∙ digit_read second (is (2 * i + 1)) (omega (arith, l)) in
        let two : 2 * (i + 1) ≡ 2 * i + 1 + 1 = omega arith in
        let pair : hex_text (b ∷ []) ≡ first ∷ second ∷ [] = one_byte b high low hi lo (byte hi lo)
        ∙ ap (λ (v : ℕ). v ∷ get_or lower_digits low 0 ∷ []) digit ∙ ap (λ (v : ℕ). first ∷ v ∷ []) digit' in
        ap (λ (n : ℕ). take n text) two ∙ take_more text (2 * i + 1) 0 (omega arith)
        ∙ ap (λ (front : List ℕ). front ++ second ∷ []) (take_more text (2 * i) 0 (omega arith))
        ∙ append_assoc (take (2 * i) text) (first ∷ []) (second ∷ [])
        ∙ ap (λ (front : List ℕ). front ++ first ∷ second ∷ []) (reads.same a)
        ∙ ap (λ (back : List ℕ). hex_text (take i bytes) ++ back) (sym pair)
        ∙ sym (hex_append (take i bytes) (b ∷ []))
        ∙ sym (ap hex_text (take_more_set bytes i b at))

    other : 16 ≤ bit_or (bit_or all high) low → (xs : List ℕ) → IsBytes xs → text ≡ hex_text xs → ⊥
    other many xs bytes-of e =
        let values = small_values xs i bytes-of (omega (arith, ap length e, length-hex_text xs)) in
        let hi : high < 16 = subst (λ (v : ℕ). v < 16)
        (sym (h ∙ ap (λ (t : List ℕ). get_or VALUES (get_or t (2 * i) 0) 0) e)) values.0 in
        let lo : low < 16 = subst (λ (v : ℕ). v < 16)
        (sym (l ∙ ap (λ (t : List ℕ). get_or VALUES (get_or t (2 * i + 1) 0) 0) e)) values.1 in
        elim (cases_lt all 16) [
          | inl few ↦
              let one : bit_or all high < 2 ^ 4 = or_lt 4 all high few hi in
              let both : bit_or (bit_or all high) low < 2 ^ 4 = or_lt 4 (bit_or all high) low one lo in
              omega arith
          | inr before ↦ reads.other before xs bytes-of e
        ]

pub read_all : (text bytes : List ℕ) (i all : ℕ) → length text ≡ 2 * length bytes → length bytes ≤ i → Reads text bytes i all → all < 16
    → text ≡ hex_text bytes
read_all text bytes i all len past reads few =
    sym (take_all (2 * i) text (omega arith)) ∙ reads.same few ∙ ap hex_text (take_all i bytes past)
