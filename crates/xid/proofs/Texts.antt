-- Texts that are read: a number's, a component's, and a text cut at a mark.
use Rattle.std.proofs.Common.{zero, suc, eq-eqb, ◌≡◌, ℕ, ◌*◌, ◌/◌, ◌%◌, ◌<◌, ◌≤◌, ◌^◌, Bool, true, false, not, ◌&&◌, eqb, List}
use Rattle.std.proofs.Common.{[], ◌∷◌, ◌++◌, length, get_or, Result, Ok}
use Rattle.std.proofs.Common.{refl, sym, ap, subst, ◌∙◌, arith}
use Rattle.std.specs.Fmt.{decimal}
use Rattle.std.specs.List.{list_all}
use Rattle.std.specs.Int.{IsInRange}
use Rattle.std.specs.Str.{IsUtf8}
use Rattle.std.specs.Str.Parse.{ParsesUnsigned}
use Rattle.std.proofs.lemmas.Str.{IsUtf8-from_ascii}
use Rattle.std.proofs.lemmas.Str.Parse.{numerals_by_value, tells_by_index}
use Rattle.std.proofs.lemmas.Fmt.{IsAscii-decimal, parse-decimal, digits_decimal}
use Rattle.std.proofs.lemmas.List.{append_assoc}
use Rattle.std.proofs.lemmas.List.Folds.{list_all-append}
use Rattle.std.proofs.lemmas.Bool.Decides.{nat_tests}
use Rattle.hex.proofs.HexLemmas.{length-encode_with}
use Rattle.hex.specs.Hex.{lower_digits, encode_with}
use Rattle.xid.specs.Names.{IsBytes, XidParts, IsXid}
use Rattle.xid.specs.Text.{hex_text, lacks, xid_text, Extends}

-- ---- tests of each byte

pub both_true : (a b : Bool) → a ≡ true → b ≡ true → (a && b) ≡ true
both_true true b p q = q
both_true false b p q = absurd (cc)

pub first_true : (a b : Bool) → (a && b) ≡ true → a ≡ true
first_true true b p = refl
first_true false b p = absurd (cc)

pub second_true : (a b : Bool) → (a && b) ≡ true → b ≡ true
second_true true b p = p
second_true false b p = absurd (cc)

pub list_all_join : (p : ℕ → Bool) (xs ys : List ℕ) → list_all p xs ≡ true → list_all p ys ≡ true → list_all p (xs ++ ys) ≡ true
list_all_join p xs ys l r = list_all-append p xs ys ∙ both_true (list_all p xs) (list_all p ys) l r

pub list_all_get : (p : ℕ → Bool) (xs : List ℕ) (i d : ℕ) → i < length xs → list_all p xs ≡ true → p (get_or xs i d) ≡ true
list_all_get p [] i d lt h = absurd (omega arith)
list_all_get p (x ∷ xs) zero d lt h = first_true (p x) (list_all p xs) h
list_all_get p (x ∷ xs) (suc i) d lt h = list_all_get p xs i d (omega arith) (second_true (p x) (list_all p xs) h)

pub list_all_index : (p : ℕ → Bool) (xs : List ℕ) → ((i : ℕ) → i < length xs → p (get_or xs i 0) ≡ true) → list_all p xs ≡ true
list_all_index p [] h = refl
list_all_index p (x ∷ xs) h = both_true (p x) (list_all p xs) (h 0 (omega arith)) (list_all_index p xs (λ i lt. h (suc i) (omega arith)))

IsBytes-tail : (x : ℕ) (xs : List ℕ) → IsBytes (x ∷ xs) → IsBytes xs
IsBytes-tail x xs h i = h (suc i)

-- bytes are written one after another
pub hex_append : (xs ys : List ℕ) → hex_text (xs ++ ys) ≡ hex_text xs ++ hex_text ys
unfolding encode_with
hex_append [] ys = refl
hex_append (x ∷ xs) ys =
    ap (λ (l : List ℕ). get_or lower_digits (x / 16) 0 ∷ get_or lower_digits (x % 16) 0 ∷ l) (hex_append xs ys)

-- a text that begins with another begins with what that begins with
pub extends_on : (a b d : List ℕ) → Extends a b → Extends b d → Extends a d
extends_on a b d p q = record {
  more = p.more ++ q.more;
  is = q.is ∙ ap (λ (l : List ℕ). l ++ q.more) p.is ∙ append_assoc a p.more q.more;
}

-- what holds of each hex digit holds of each byte of a hex text
pub list_all-hex_text : (p : ℕ → Bool) (xs : List ℕ) → list_all p lower_digits ≡ true → IsBytes xs → list_all p (hex_text xs) ≡ true
unfolding encode_with
list_all-hex_text p [] digits bytes = refl
list_all-hex_text p (x ∷ xs) digits bytes =
    let small : x < 256 = bytes 0 in
    both_true (p (get_or lower_digits (x / 16) 0)) (p (get_or lower_digits (x % 16) 0) && list_all p (hex_text xs))
    (list_all_get p lower_digits (x / 16) 0 (omega arith) digits)
    (both_true (p (get_or lower_digits (x % 16) 0)) (list_all p (hex_text xs))
    (list_all_get p lower_digits (x % 16) 0 (omega arith) digits) (list_all-hex_text p xs digits (IsBytes-tail x xs bytes)))

-- what holds of each digit holds of each byte of a number's text
pub list_all-decimal : (p : ℕ → Bool) (n : ℕ) → ((c : ℕ) → 48 ≤ c → c ≤ 57 → p c ≡ true) → n < 2 ^ 32 → list_all p (decimal n) ≡ true
list_all-decimal p n digit lt =
    let own = numerals_by_value (λ ds. (i : ℕ) → i < length ds → IsInRange 48 57 (get_or ds i 0)) tells_by_index in
    list_all_index p (decimal n) (λ i within. let in_range = digits_decimal own n (omega arith) i within in
    digit (get_or (decimal n) i 0) (in_range.0) (in_range.1))

-- ---- a text cut at a mark

not_itself : (mark : ℕ) → not (eqb mark mark) ≡ true → ⊥
not_itself mark h = let same : eqb mark mark ≡ true = eq-eqb mark mark refl in cc

pub cut_same : (mark : ℕ) (a b c d : List ℕ) → lacks mark a ≡ true → lacks mark c ≡ true → a ++ mark ∷ b ≡ c ++ mark ∷ d → (a ≡ c) × (b ≡ d)
cut_same mark [] b [] d p q e = (refl, cc)
cut_same mark [] b (y ∷ c) d p q e =
    let y-is : mark ≡ y = cc in
    absurd (not_itself mark (subst (λ (x : ℕ). not (eqb x mark) ≡ true) (sym y-is) (first_true (not (eqb y mark)) (lacks mark c) q)))
cut_same mark (x ∷ a) b [] d p q e =
    let x-is : x ≡ mark = cc in
    absurd (not_itself mark (subst (λ (y : ℕ). not (eqb y mark) ≡ true) x-is (first_true (not (eqb x mark)) (lacks mark a) p)))
cut_same mark (x ∷ a) b (y ∷ c) d p q e =
    let heads : x ≡ y = cc in
    let rest = cut_same mark a b c d (second_true (not (eqb x mark)) (lacks mark a) p)
    (second_true (not (eqb y mark)) (lacks mark c) q) (cc) in
    (ap (λ (t : List ℕ). x ∷ t) rest.0 ∙ ap (λ (z : ℕ). z ∷ c) heads, rest.1)

pub lacks_not : (mark : ℕ) (a b : List ℕ) → lacks mark (a ++ mark ∷ b) ≡ true → ⊥
lacks_not mark [] b h = not_itself mark (first_true (not (eqb mark mark)) (lacks mark b) h)
lacks_not mark (x ∷ a) b h = lacks_not mark a b (second_true (not (eqb x mark)) (lacks mark (a ++ mark ∷ b)) h)

-- ---- a number

-- a number's text is UTF-8
pub decimal_is_text : (n : ℕ) (text : List ℕ) → n < 2 ^ 32 → text ≡ decimal n → IsUtf8 text
decimal_is_text n text lt e = rw e (IsUtf8-from_ascii (decimal n) (IsAscii-decimal n (omega arith)))

-- a number's text is parsed to the number
pub parsed : {E : Type 0} (n : ℕ) (text : List ℕ) (r : Result ℕ E) → n < 2 ^ 32 → text ≡ decimal n → ParsesUnsigned 32 10 text r → r ≡ Ok n
parsed n text r lt e h = parse-decimal 32 n text r lt (omega arith) e h

-- ---- a component

-- the length of a hex text
pub length-hex_text : (xs : List ℕ) → length (hex_text xs) ≡ 2 * length xs
length-hex_text xs = length-encode_with lower_digits xs

-- ---- an XID

-- a hex text has no colon, and neither has a number's text
pub hex_lacks_colon : (xs : List ℕ) → IsBytes xs → lacks 58 (hex_text xs) ≡ true
hex_lacks_colon xs bytes = list_all-hex_text (λ byte. not (eqb byte 58)) xs refl bytes

pub decimal_lacks_colon : (n : ℕ) → n < 2 ^ 32 → lacks 58 (decimal n) ≡ true
decimal_lacks_colon n lt = list_all-decimal (λ byte. not (eqb byte 58)) n (λ c low high. digit c low high) lt
  where
    digit : (c : ℕ) → 48 ≤ c → c ≤ 57 → not (eqb c 58) ≡ true
    digit c low high = grind (arith, nat_tests)

-- an XID's text is cut at its first colon, and the rest at its first, in one way
pub cut_format : (x : XidParts) (text front rest : List ℕ) → IsXid x → text ≡ xid_text x
    → (text ≡ front ++ 58 ∷ rest) × (lacks 58 front ≡ true)
    → (front ≡ decimal x.format) × (rest ≡ hex_text x.gtrid ++ 58 ∷ hex_text x.bqual)
cut_format x text front rest is e cut =
    cut_same 58 front rest (decimal x.format) (hex_text x.gtrid ++ 58 ∷ hex_text x.bqual) cut.1
    (decimal_lacks_colon x.format (omega (arith, is.format))) (sym cut.0 ∙ e)

pub cut_names : (x : XidParts) (names gtrid bqual : List ℕ) → IsXid x → names ≡ hex_text x.gtrid ++ 58 ∷ hex_text x.bqual
    → (names ≡ gtrid ++ 58 ∷ bqual) × (lacks 58 gtrid ≡ true)
    → (gtrid ≡ hex_text x.gtrid) × (bqual ≡ hex_text x.bqual)
cut_names x names gtrid bqual is e cut =
    cut_same 58 gtrid bqual (hex_text x.gtrid) (hex_text x.bqual) cut.1 (hex_lacks_colon x.gtrid is.gtrid.bytes) (sym cut.0 ∙ e)
