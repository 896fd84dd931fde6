use Rattle.std.proofs.Common.{◌≡◌, ◌∙◌, sym, ap, subst, arith}
use Rattle.std.specs.List.Sorted.{IsPermutation}
use Rattle.std.proofs.lemmas.Grind.{common_steps}
use Rattle.branch_table.specs.Parts.{rows_in, table_of}
use Rattle.branch_table.proofs.PlaceTable.{distinct_known, known}
use Rattle.branch_table.proofs.SortedRows.{sorted_table}
use Rattle.branch_table.proofs.places.Places.rows.Goals as goal

pub returns-clause-ok : goal.returns-clause-ok
returns-clause-ok c =
    let places = known (λ k. k.items) c.self.inside.known.entries in
    let same : c.loop-key.rows.items ≡ rows_in c.args.self.now =
    grind (arith, common_steps, c.loop-key.invariant, c.in-None.ensures.steps) in
    let moved = subst (λ rows. IsPermutation rows c.sorted_by_keys.result.items) (same ∙ ap rows_in (sym c.self.view_is))
    c.sorted_by_keys.ensures.permutation in
    sorted_table places c.sorted_by_keys.result.items (distinct_known (λ k. k.items) c.self.inside.known.entries c.len.ensures.unique)
    moved
    c.sorted_by_keys.ensures.sorted ∙ ap table_of c.self.view_is
