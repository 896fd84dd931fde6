use Rattle.std.proofs.Common.{◌∙◌, length, refl, sym, ap, arith}
use Rattle.net_script.specs.Laws.{cut_floor}
use Rattle.net_script.proofs.Arms.{passes}
use Rattle.net_script.proofs.WordLemmas.{large_format, long_gtrid}
use Rattle.net_script.proofs.byte_words.FloorWord.read.Goals as goal

pub returns-in_err-format : goal.returns-in_err-format
returns-in_err-format c =
    passes (λ e. refl) (λ none y is e. none y.format (omega (arith, is.format)) (cut_floor y _ _ _ is e c.in-Some.ensures).0)
    _ _ c.from_residual.ensures.1 c.in_err-format.ensures

pub returns-then-format-ge-FORMATS : goal.returns-then-format-ge-FORMATS
returns-then-format-ge-FORMATS c = λ y is e.
    let read = c.in_ok-format.ensures in
    large_format c.in_ok-format.format y.format read.0 (omega (arith, c.if-format-ge-FORMATS.true)) is.format
    (sym read.1 ∙ (cut_floor y _ _ _ is e c.in-Some.ensures).0)

pub returns-in_err-gtrid : goal.returns-in_err-gtrid
returns-in_err-gtrid c =
    passes (λ e. refl) (λ none y is e. none y.gtrid is.bytes (cut_floor y _ _ _ is e c.in-Some.ensures).1)
    _ _ c.from_residual-in_err-gtrid.ensures.1 c.in_err-gtrid.ensures

pub returns-then-as_slice-gt-MAX_COMPONENT : goal.returns-then-as_slice-gt-MAX_COMPONENT
returns-then-as_slice-gt-MAX_COMPONENT c = λ y is e.
    let cut = cut_floor y _ _ _ is e c.in-Some.ensures in
    long_gtrid y _ _ is cut.1 c.in_ok-gtrid.ensures (omega (arith, ap length c.as_slice.ensures))
