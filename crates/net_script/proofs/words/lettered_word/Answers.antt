use Rattle.std.proofs.Common.{◌∙◌, drop, ap, sym, arith}
use Rattle.std.proofs.lemmas.List.{take_rest}
use Rattle.net_script.proofs.WordLemmas.{large_number}
use Rattle.net_script.proofs.words.lettered_word.Goals as goal

pub returns-then-number-gt255 : goal.returns-then-number-gt255
returns-then-number-gt255 c = λ n lt e.
    large_number c.in_ok-number.number n (omega arith) (omega arith) lt
    (sym c.in_ok-number.ensures ∙ take_rest c.args.word.now 1 ∙ ap (drop 1) e)
