-- The order of rows.
use Rattle.std.specs.Prelude.{Bool, ◌==◌}
use Rattle.std.specs.Ordering.{nat_cmp, on, then_cmp, eq_of_both}
use Rattle.std.specs.Cmp.Lexicographic.{slice_cmp, pointwise}
use Rattle.std.specs.declared.cmp.Ordering.{Ordering}
use Rattle.protocol.specs.Vocabulary.{Row}

-- whether two rows are the same
abbrev pub row_eq : Row → Row → Bool
row_eq = eq_of_both (on (λ r. r.key) (pointwise ◌==◌)) (on (λ r. r.value) (pointwise ◌==◌))

-- rows are in the order of their keys, byte by byte, and then of their values
abbrev pub row_cmp : Row → Row → Ordering
row_cmp = then_cmp (on (λ r. r.key) (slice_cmp nat_cmp)) (on (λ r. r.value) (slice_cmp nat_cmp))
