-- Hex without capital letters is the one hex text of what it decodes to: for the readers of names, and of `Hex` in net_script.
use Rattle.std.proofs.Common.{◌≡◌, ℕ, ◌+◌, ◌*◌, ◌<◌, true, List, [], ◌∷◌, Option, Some, None, Result, Ok, Err}
use Rattle.std.proofs.Common.{refl, sym, ap, ◌∙◌, arith}
use Rattle.std.specs.List.{list_all}
use Rattle.std.proofs.lemmas.Bool.{and_parts}
use Rattle.std.proofs.lemmas.Bool.Decides.{nat_tests}
use Rattle.hex.specs.Hex.{hex_digit_value, digit_or_error, value_at, pair_value, decode_pairs, decode_of, ◌>>=◌}
use Rattle.hex.specs.declared.error.FromHexError.{FromHexError}
use Rattle.hex.proofs.HexLemmas.{decode_of-even, decode_of-ok, decode_of-encode_lower}
use Rattle.xid.proofs.Texts.{list_all-hex_text}
use Rattle.xid.specs.Names.{IsBytes}
use Rattle.xid.specs.Text.{hex_text, is_no_capital}

-- hex has no capital letter
pub hex_lacks : (xs : List ℕ) → IsBytes xs → list_all is_no_capital (hex_text xs) ≡ true
hex_lacks xs bytes = list_all-hex_text is_no_capital xs refl bytes

bind_ok : {A B : Type 0} (r : Result A FromHexError) (f : A → Result B FromHexError) (y : B) → (r >>= f) ≡ Ok y
    → (x : A) × (r ≡ Ok x) × (f x ≡ Ok y)
bind_ok (Ok x) f y e = (x, refl, e)
bind_ok (Err x) f y e = absurd (cc (e))

digit_read : (c i : ℕ) (o : Option ℕ) (v : ℕ) → digit_or_error c i o ≡ Ok v → o ≡ Some v
digit_read c i (Some w) v e = cc
digit_read c i None v e = absurd (cc (e))

-- a digit's value is below 16, and is that of one digit but for capital letters
digit_small : (c v : ℕ) → hex_digit_value c ≡ Some v → v < 16
digit_small c v h = grind (arith)

digit_same : (c d v : ℕ) → hex_digit_value c ≡ Some v → hex_digit_value d ≡ Some v → is_no_capital c ≡ true → is_no_capital d ≡ true → c ≡ d
digit_same c d v p q a b = grind (arith, nat_tests)

-- two digits, and what is behind them
record Pair (a b : ℕ) (rest bytes : List ℕ) : Type 0 where
  high : ℕ
  low : ℕ
  later : List ℕ
  next : ℕ
  high_is : hex_digit_value a ≡ Some high
  low_is : hex_digit_value b ≡ Some low
  later_is : decode_pairs next rest ≡ Ok later
  bytes_are : bytes ≡ (high * 16 + low) ∷ later

pair : (i a b : ℕ) (rest bytes : List ℕ) → decode_pairs i (a ∷ b ∷ rest) ≡ Ok bytes → Pair a b rest bytes
unfolding decode_pairs
pair i a b rest bytes h =
    let p0 = bind_ok (pair_value a b i) _ bytes h in
    let p1 = bind_ok (value_at a i) _ p0.0 p0.1 in
    let p2 = bind_ok (value_at b (i + 1)) _ p0.0 p1.2 in
    let p3 = bind_ok (decode_pairs (i + 2) rest) _ bytes p0.2 in
    let byte : p1.0 * 16 + p2.0 ≡ p0.0 = cc (p2.2) in
    let all : p0.0 ∷ p3.0 ≡ bytes = cc (p3.2) in
    record {
      high = p1.0;
      low = p2.0;
      later = p3.0;
      next = i + 2;
      high_is = digit_read a i (hex_digit_value a) p1.0 p1.1;
      low_is = digit_read b (i + 1) (hex_digit_value b) p2.0 p2.1;
      later_is = p3.1;
      bytes_are = sym all ∙ ap (λ (x : ℕ). x ∷ p3.0) (sym byte);
    }

some_byte : (i : ℕ) (a b : ℕ) (rest : List ℕ) → decode_pairs i (a ∷ b ∷ rest) ≡ Ok [] → ⊥
some_byte i a b rest h = let got = pair i a b rest [] h in absurd (cc (got.bytes_are))

one_digit : (i a : ℕ) (bytes : List ℕ) → decode_pairs i (a ∷ []) ≡ Ok bytes → ⊥
unfolding decode_pairs
one_digit i a bytes h = absurd (cc (h))

no_digit : (i : ℕ) (bytes : List ℕ) → decode_pairs i [] ≡ Ok bytes → bytes ≡ []
unfolding decode_pairs
no_digit i bytes h = cc

-- bytes are decoded of one text without capital letters
pairs_same : (i j : ℕ) (s t bytes : List ℕ) → decode_pairs i s ≡ Ok bytes → decode_pairs j t ≡ Ok bytes
    → list_all is_no_capital s ≡ true → list_all is_no_capital t ≡ true → s ≡ t
pairs_same i j [] [] bytes p q a b = refl
pairs_same i j [] (d ∷ []) bytes p q a b = absurd (one_digit j d bytes q)
pairs_same i j [] (d ∷ e ∷ t) bytes p q a b =
    absurd (some_byte j d e t (q ∙ ap (λ (l : List ℕ). Ok l) (no_digit i bytes p)))
pairs_same i j (c ∷ []) t bytes p q a b = absurd (one_digit i c bytes p)
pairs_same i j (c ∷ d ∷ s) [] bytes p q a b =
    absurd (some_byte i c d s (p ∙ ap (λ (l : List ℕ). Ok l) (no_digit j bytes q)))
pairs_same i j (c ∷ d ∷ s) (e ∷ []) bytes p q a b = absurd (one_digit j e bytes q)
pairs_same i j (c ∷ d ∷ s) (e ∷ f ∷ t) bytes p q a b =
    let one = pair i c d s bytes p in
    let other = pair j e f t bytes q in
    let both : (one.high * 16 + one.low) ∷ one.later ≡ (other.high * 16 + other.low) ∷ other.later =
    sym one.bytes_are ∙ other.bytes_are in
    let byte : one.high * 16 + one.low ≡ other.high * 16 + other.low = cc (both) in
    let later : other.later ≡ one.later = cc (both) in
    let small-a = digit_small d one.low one.low_is in
    let small-b = digit_small f other.low other.low_is in
    let low : other.low ≡ one.low = omega (arith, byte, small-a, small-b) in
    let high : other.high ≡ one.high = omega (arith, byte, small-a, small-b) in
    let of-s = and_parts (is_no_capital c) (list_all is_no_capital (d ∷ s)) a in
    let of-s' = and_parts (is_no_capital d) (list_all is_no_capital s) of-s.1 in
    let of-t = and_parts (is_no_capital e) (list_all is_no_capital (f ∷ t)) b in
    let of-t' = and_parts (is_no_capital f) (list_all is_no_capital t) of-t.1 in
    let first : c ≡ e = digit_same c e one.high one.high_is (other.high_is ∙ ap (λ (v : ℕ). Some v) high) of-s.0 of-t.0 in
    let second : d ≡ f = digit_same d f one.low one.low_is (other.low_is ∙ ap (λ (v : ℕ). Some v) low) of-s'.0 of-t'.0 in
    let rest : s ≡ t =
    pairs_same one.next other.next s t one.later one.later_is (other.later_is ∙ ap (λ (l : List ℕ). Ok l) later) of-s'.1 of-t'.1 in
    cc

-- what decodes, without capital letters, is the hex of what it decodes to
pub lower_again : (text bytes : List ℕ) → decode_of text ≡ Ok bytes → list_all is_no_capital text ≡ true → text ≡ hex_text bytes
lower_again text bytes h lower =
    let ok = decode_of-ok text bytes h in
    let again = decode_of-encode_lower bytes ok.3 in
    let its = decode_of-ok (hex_text bytes) bytes again in
    pairs_same 0 0 text (hex_text bytes) bytes (sym (decode_of-even text ok.0) ∙ h) (sym (decode_of-even (hex_text bytes) its.0) ∙ again)
    lower
    (hex_lacks bytes ok.3)
