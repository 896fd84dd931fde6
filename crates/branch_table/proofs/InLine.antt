-- Rows whose keys ascend or descend as they stand.
-- Needed by `keys_ascend` and `keys_descend`.
use Rattle.std.proofs.Common.{◌≡◌, ◌∙◌, ℕ, ◌+◌, ◌-◌, ◌<◌, Bool, true, false, List, length, get_or, reverse, refl, ap, arith}
use Rattle.std.specs.declared.cmp.Ordering.{Ordering}
use Rattle.std.specs.declared.cmp.Ordering.TheVariants.{Less, Equal, Greater}
use Rattle.std.specs.Ordering.{nat_cmp, is_lt, is_ge}
use Rattle.std.specs.Cmp.Lexicographic.{slice_cmp}
use Rattle.std.specs.List.{IsAllAdjacentAnswer}
use Rattle.std.specs.List.Sorted.{IsSortedByKey}
use Rattle.std.proofs.lemmas.List.{get_or-reverse, length-reverse}
use Rattle.protocol.specs.declared.rows.Row.{Row}

not_less : (o : Ordering) → true ≡ is_ge o → is_lt o ≡ false
not_less Less e = absurd (cc (e))
not_less Equal e = refl
not_less Greater e = refl

-- rows whose neighbours ascend are sorted
pub up_sorted : (rows : List Row) (answer : Bool)
    → IsAllAdjacentAnswer (λ (one other : Row) (b : Bool). b ≡ is_ge (slice_cmp nat_cmp other.key one.key)) rows answer
    → answer ≡ true → IsSortedByKey (λ (row : Row). row.key) (slice_cmp nat_cmp) rows
up_sorted rows false up e = absurd (cc (e))
up_sorted rows true up e =
    λ k d le lt. not_less (slice_cmp nat_cmp (get_or rows (k + 1) d).key (get_or rows k d).key) (up k d lt)

-- where they descend, the rows read backwards are
pub down_sorted : (rows : List Row) (answer : Bool)
    → IsAllAdjacentAnswer (λ (one other : Row) (b : Bool). b ≡ is_ge (slice_cmp nat_cmp one.key other.key)) rows answer
    → answer ≡ true → IsSortedByKey (λ (row : Row). row.key) (slice_cmp nat_cmp) (reverse rows)
down_sorted rows false down e = absurd (cc (e))
down_sorted rows true down e =
    λ k d le lt.
    let many = length-reverse rows in
    let small : k + 1 < length rows = omega (arith, lt, many) in
    let last = get_or-reverse rows k d (omega (arith, small)) in
    let before = get_or-reverse rows (k + 1) d small in
    let j = length rows - 1 - (k + 1) in
    let next : length rows - 1 - k ≡ j + 1 = omega (arith, small) in
    ap (λ (one : Row). is_lt (slice_cmp nat_cmp one.key (get_or (reverse rows) k d).key)) before
    ∙ ap (λ (other : Row). is_lt (slice_cmp nat_cmp (get_or rows j d).key other.key)) (last ∙ ap (λ (i : ℕ). get_or rows i d) next)
    ∙ not_less (slice_cmp nat_cmp (get_or rows j d).key (get_or rows (j + 1) d).key) (down j d (omega (arith, small)))
