use Rattle.std.proofs.Common.{length, refl, ap, arith}
use Rattle.net_script.specs.Laws.{hex_of}
use Rattle.net_script.proofs.Arms.{passes}
use Rattle.net_script.proofs.WordLemmas.{cut_row, long_key, long_value}
use Rattle.net_script.proofs.items.RowWord.read.Goals as goal

pub returns-in_err-key : goal.returns-in_err-key
returns-in_err-key c =
    passes (λ e. refl) (λ none y is e. none (hex_of y.key) (is.key.some, is.key.bytes) (cut_row y _ _ _ is e c.in-Some.ensures).0)
    _ _ c.from_residual.ensures.1 c.in_err-key.ensures

pub returns-in_err-value : goal.returns-in_err-value
returns-in_err-value c =
    passes (λ e. refl) (λ none y is e. none y.value is.value.bytes (cut_row y _ _ _ is e c.in-Some.ensures).1)
    _ _ c.from_residual-in_err-value.ensures.1 c.in_err-value.ensures

pub returns-then-as_slice-gt-MAX_KEY : goal.returns-then-as_slice-gt-MAX_KEY
returns-then-as_slice-gt-MAX_KEY c = λ y is e.
    let cut = cut_row y _ _ _ is e c.in-Some.ensures in
    long_key y _ _ is cut.0 c.in_ok-key.ensures (omega (arith, ap length c.as_slice.ensures))

pub returns-then-as_slice-gt-MAX_VALUE : goal.returns-then-as_slice-gt-MAX_VALUE
returns-then-as_slice-gt-MAX_VALUE c = λ y is e.
    let cut = cut_row y _ _ _ is e c.in-Some.ensures in
    long_value y _ _ is cut.1 c.in_ok-value.ensures (omega (arith, ap length c.as_slice-2.ensures))
