use Rattle.std.proofs.Common.{◌≡◌, ◌∙◌, Some, ℕ, List, refl, sym, ap, subst}
use Rattle.stable_record.specs.declared.fact.Act.{Act}
use Rattle.protocol.specs.declared.rows.Row.{Row}
use Rattle.protocol.specs.Tables.{put_row}
use Rattle.branch_table.specs.Parts.{free, hold_at, table_of}
use Rattle.branch_table.specs.TableStates.{are_rows, is_row}
use Rattle.branch_table.specs.declared.places.Place.{Place}
use Rattle.branch_table.proofs.PlaceTable.{free_set, known, rows_set, sets}
use Rattle.branch_table.proofs.TableRows.{Known}
use Rattle.branch_table.proofs.RowLimits.{put_fits}
use Rattle.branch_table.proofs.places.Places.put.Goals as goal

pub returns-clause-rows : goal.returns-clause-rows
returns-clause-rows c =
    let old = c.self.inside.known.entries in
    let new = c.insert.new.self.entries in
    let updates = c.in_ok-insert.ensures.updates in
    let key = c.into_vec.result.items in
    let place : Place = record { value = Some c.args.row.value; hold = c.free.result } in
    rows_set (known (λ k. k.items) old) (known (λ k. k.items) new) key (Act.Put c.args.row.value) place
    (sets (λ k. k.items) old new key (Some place) updates.3 updates.1) refl
    ∙ (λ j. put_row (table_of (c.self.view_is j)) (record { key = c.into_vec.ensures j; value = c.args.row.value }))

pub returns-clause-free : goal.returns-clause-free
returns-clause-free c =
    let old = c.self.inside.known.entries in
    let new = c.insert.new.self.entries in
    let updates = c.in_ok-insert.ensures.updates in
    let key = c.into_vec.result.items in
    let place : Place = record { value = Some c.args.row.value; hold = c.free.result } in
    free_set (known (λ k. k.items) old) (known (λ k. k.items) new) key place
    (sets (λ k. k.items) old new key (Some place) updates.3 updates.1)
    c.free.ensures (subst (λ (places : Known). (q : List ℕ) → hold_at places q ≡ free) (sym c.self.view_is) c.requires.free)

pub invariant_of-self-2 : goal.invariant_of-self-2
invariant_of-self-2 c =
    let old = c.self.inside.known.entries in
    let new = c.insert.new.self.entries in
    let updates = c.in_ok-insert.ensures.updates in
    let key = c.into_vec.result.items in
    let place : Place = record { value = Some c.args.row.value; hold = c.free.result } in
    let row_of : List ℕ → Row = λ k. record { key = k; value = c.args.row.value } in
    ap are_rows (rows_set (known (λ k. k.items) old) (known (λ k. k.items) new) key (Act.Put c.args.row.value) place
    (sets (λ k. k.items) old new key (Some place) updates.3 updates.1) refl)
    ∙ put_fits (table_of (known (λ k. k.items) old)) (row_of key) c.self.invariant
    (ap (λ k. is_row (row_of k)) c.into_vec.ensures ∙ c.requires.row)
