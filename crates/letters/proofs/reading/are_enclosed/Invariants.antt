use Rattle.std.proofs.Common.{◌↔◌, ℕ, List, length}
use Rattle.letters.specs.Letters.{AreEnclosed}
use Rattle.letters.proofs.reading.are_enclosed.Given as goal

-- all bytes are messages exactly where those that are left are
abbrev pub invariant-loop-rest : goal.invariant-loop-rest
invariant-loop-rest l =
    ((messages : List (List ℕ)) × AreEnclosed messages l.fn.bytes) ↔ ((messages : List (List ℕ)) × AreEnclosed messages l.rest)

abbrev pub decreases-loop-rest : goal.decreases-loop-rest
decreases-loop-rest l = length l.rest
