use Rattle.std.proofs.Common.{◌≡◌, [], replicate}
use Rattle.letters.specs.Letters.{letter_spelling}
use Rattle.letter_port.proofs.outbox.empty_letters.Given as goal

-- so many letters with nothing in them
abbrev pub invariant-loop : goal.invariant-loop
invariant-loop l = l.letters.items ≡ replicate l.counter (letter_spelling [])
