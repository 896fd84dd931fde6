use Rattle.std.proofs.lemmas.Bool.{iff_false}
use Rattle.std.proofs.Common.{refl}
use Rattle.net_script.specs.Laws.{hex_of}
use Rattle.net_script.proofs.Arms.{passes}
use Rattle.net_script.proofs.WordLemmas.{bytes_are_hex}
use Rattle.net_script.proofs.byte_words.SequenceU8Word.read.Goals as goal

pub returns-in_err-bytes : goal.returns-in_err-bytes
returns-in_err-bytes c =
    passes (λ e. refl)
    (λ none y q e.
    let hex = bytes_are_hex y _ q (iff_false c.is_word.ensures c.if-is_word.false) e in none (hex_of y) hex.0 hex.1)
    _ _ c.from_residual.ensures.1 c.in_err-bytes.ensures
