use Rattle.std.proofs.Common.{◌≡◌, ◌≢◌, length, true, false, is_err, arith}
use Rattle.hex.specs.Hex.{encode_lower}
use Rattle.cluster_file.specs.Keys.{without_newline}
use Rattle.cluster_file.proofs.KeyLemmas.{no_key_undecoded, no_key_capital}
use Rattle.cluster_file.proofs.keys.key_of.Goals as goal

pub returns-then-is_err : goal.returns-then-is_err
returns-then-is_err c =
    let long : length c.without_newline-digits.result.now ≡ 64 = omega arith in
    let failed : is_err c.decode_to_slice-decoded.result ≡ true = cc (c.if-is_err.ensures.value) in
    no_key_undecoded c.without_newline-digits.result.now (without_newline c.args.text.now) c.decode_to_slice-decoded.new.out
    c.decode_to_slice-decoded.result c.without_newline-digits.ensures long c.decode_to_slice-decoded.ensures.value failed

pub returns-then-not-are_digits_of : goal.returns-then-not-are_digits_of
returns-then-not-are_digits_of c =
    let long : length c.without_newline-digits.result.now ≡ 64 = omega arith in
    let well : is_err c.decode_to_slice-decoded.result ≡ false = cc (c.if-is_err.ensures.value) in
    let differs : c.without_newline-digits.result.now ≢ encode_lower c.decode_to_slice-decoded.new.out =
    λ same. let both : false ≡ true = c.if-not-are_digits_of.ensures.1 same in cc in
    no_key_capital c.without_newline-digits.result.now (without_newline c.args.text.now) c.decode_to_slice-decoded.new.out
    c.decode_to_slice-decoded.result c.without_newline-digits.ensures long c.decode_to_slice-decoded.ensures.value well differs
