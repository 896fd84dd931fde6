use Rattle.std.proofs.Common.{◌≡◌}
use Rattle.std.specs.Cmp.Lexicographic.{pointwise}
use Rattle.protocol.specs.Rows.{row_eq}
use Rattle.audit.specs.Books.{rows_in}
use Rattle.audit.proofs.rows.Rows.are.Given as goal

abbrev pub invariant-loop-key : goal.invariant-loop-key
invariant-loop-key l = pointwise row_eq l.rows l.self ≡ pointwise row_eq l.rest (rows_in (λ k. k.items) l.key-iterator)
