-- Which digits are no key's.
use Rattle.std.proofs.Common.{◌≡◌, ◌≢◌, ◌*◌, ℕ, List, length, Result, Ok, Err, true, false, is_err, MatchResult, ap, sym, ◌∙◌, subst, refl}
use Rattle.std.proofs.Common.{arith}
use Rattle.hex.proofs.HexLemmas.{length-encode_with, decode_sized-encode_lower}
use Rattle.hex.specs.Hex.{IsBytes, decode_sized, encode_lower, lower_digits}
use Rattle.hex.specs.declared.error.FromHexError.{FromHexError}
use Rattle.cluster_file.specs.declared.error.KeyError.TheVariants.{NoDigit}
use Rattle.cluster_file.specs.Keys.{IsNoKey}

-- the digits of a key are decoded to it
pub decodes : (key digits : List ℕ) → length digits ≡ 64 → IsBytes key → digits ≡ encode_lower key → decode_sized digits 32 ≡ Ok key
decodes key digits long bytes same =
    let twice : length (encode_lower key) ≡ 2 * length key = length-encode_with lower_digits key in
    let as_long : length digits ≡ length (encode_lower key) = ap length same in
    let many : length key ≡ 32 = omega (arith, twice, as_long, long) in
    ap (λ (d : List ℕ). decode_sized d 32) same ∙ decode_sized-encode_lower key 32 many bytes

-- digits that aren't decoded
pub undecoded : (digits key : List ℕ) (e : FromHexError) → length digits ≡ 64 → decode_sized digits 32 ≡ Err e → IsBytes key
    → digits ≢ encode_lower key
undecoded digits key e long refused bytes same =
    let gives : decode_sized digits 32 ≡ Ok key = decodes key digits long bytes same in cc

-- digits that are those of what they are decoded to only but for capitals
pub capital : (digits key found : List ℕ) → length digits ≡ 64 → decode_sized digits 32 ≡ Ok found
    → encode_lower found ≢ digits → IsBytes key → digits ≢ encode_lower key
capital digits key found long decoded differs bytes same =
    let gives : decode_sized digits 32 ≡ Ok key = decodes key digits long bytes same in
    let one : found ≡ key = cc in
    differs (ap encode_lower one ∙ sym same)

-- what decoding into room says
abbrev pub Decodes : (said : Result (List ℕ) FromHexError) → Result (Unit {0}) FromHexError → List ℕ → Type 0
Decodes said result out = MatchResult said (λ bytes. (result ≡ Ok tt) × (out ≡ bytes)) (λ e. result ≡ Err e)

-- where it failed
pub no_key_undecoded : (digits text out : List ℕ) (result : Result (Unit {0}) FromHexError) → digits ≡ text → length digits ≡ 64
    → Decodes (decode_sized digits 32) result out → is_err result ≡ true → IsNoKey NoDigit text
no_key_undecoded digits text out result same long says failed =
    let P : List ℕ → Type 0 = λ t. IsNoKey NoDigit t in
    subst P same (long, by (decode_sized digits 32) refl says)
  where
    by : (said : Result (List ℕ) FromHexError) → decode_sized digits 32 ≡ said → Decodes said result out
        → (key : List ℕ) → IsBytes key → digits ≢ encode_lower key
    by (Err e) is given = λ key bytes. undecoded digits key e long is bytes
    by (Ok found) is given =
        let both : false ≡ true = sym (ap is_err given.0) ∙ failed in absurd (cc)

-- where it gave a key with other digits
pub no_key_capital : (digits text out : List ℕ) (result : Result (Unit {0}) FromHexError) → digits ≡ text → length digits ≡ 64
    → Decodes (decode_sized digits 32) result out → is_err result ≡ false → digits ≢ encode_lower out → IsNoKey NoDigit text
no_key_capital digits text out result same long says well differs =
    let P : List ℕ → Type 0 = λ t. IsNoKey NoDigit t in
    subst P same (long, by (decode_sized digits 32) refl says)
  where
    by : (said : Result (List ℕ) FromHexError) → decode_sized digits 32 ≡ said → Decodes said result out
        → (key : List ℕ) → IsBytes key → digits ≢ encode_lower key
    by (Err e) is given = let both : true ≡ false = sym (ap is_err given) ∙ well in absurd (cc)
    by (Ok found) is given =
        λ key bytes. capital digits key found long is (λ e. differs (sym e ∙ ap encode_lower (sym given.1))) bytes
