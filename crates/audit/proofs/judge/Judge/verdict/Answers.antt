use Rattle.std.proofs.Common.{◌≤◌, length, Some, sym, ap, subst, arith}
use Rattle.audit.specs.ToldTables.{are_tables}
use Rattle.audit.specs.Books.{rows_of, Reaches}
use Rattle.audit.specs.Faults.{IsFound}
use Rattle.audit.proofs.EndLemmas.{found_noted, found_in_tables, found_in_order, found_none}
use Rattle.audit.proofs.judge.Judge.verdict.Goals.{else-told-rows-via-then-told-rows+else-told-explained, else-told-rows-via-else-told-rows}
use Rattle.audit.proofs.judge.Judge.verdict.Goals as goal

pub returns-in-Some-clause-ok : goal.returns-in-Some-clause-ok
returns-in-Some-clause-ok c = λ bytes t noted tells some.
    found_noted bytes c.args.self.now c.args.lines t c.in-Some.fault noted c.in-Some.is

pub returns-then-told-explained-clause-ok : goal.returns-then-told-explained-clause-ok
returns-then-told-explained-clause-ok c = λ bytes t noted tells some.
    let judge = c.args.self.now in
    let told = c.count_right-told.result in
    let explained = c.in_ok-explained.explained in
    let rows = length c.as_slice-finals.result.now in
    let tables : Reaches (are_tables (rows_of judge.auditor.ledger.tables) 0) judge.auditor.finals.items told =
    subst (λ fs. Reaches (are_tables (rows_of judge.auditor.ledger.tables) 0) fs told) c.as_slice-finals.ensures.value
    c.count_right-told.ensures in
    subst (λ fault. IsFound bytes t (Some fault)) (sym c.fault_in_row.ensures)
    (found_in_tables bytes judge c.args.lines t noted tells some c.in_default.is told explained rows
    (ap length c.as_slice-finals.ensures.value) tables c.in_ok-explained.ensures.ok c.if-told-rows.true c.if-told-explained.true)

pub returns-then-explained-rows-clause-ok : goal.returns-then-explained-rows-clause-ok
returns-then-explained-rows-clause-ok c = λ bytes t noted tells some.
    let judge = c.args.self.now in
    let told = c.count_right-told.result in
    let explained = c.in_ok-explained.explained in
    let rows = length c.as_slice-finals.result.now in
    let tables : Reaches (are_tables (rows_of judge.auditor.ledger.tables) 0) judge.auditor.finals.items told =
    subst (λ fs. Reaches (are_tables (rows_of judge.auditor.ledger.tables) 0) fs told) c.as_slice-finals.ensures.value
    c.count_right-told.ensures in
    subst (λ fault. IsFound bytes t (Some fault)) (sym c.fault_in_row-then-explained-rows.ensures)
    (found_in_order bytes judge c.args.lines t noted tells some c.in_default.is told explained rows
    (ap length c.as_slice-finals.ensures.value) tables c.in_ok-explained.ensures.ok c.if-explained-rows.true
    (λ less. elim c.else-told-rows.branch [
      | else-told-rows-via-then-told-rows+else-told-explained w ↦ omega (arith, w.if-told-explained.false)
      | else-told-rows-via-else-told-rows w ↦ absurd (omega (arith, w.if-told-rows.false, less))
    ]))

pub returns-clause-ok : goal.returns-clause-ok
returns-clause-ok c = λ bytes t noted tells some.
    let judge = c.args.self.now in
    let told = c.count_right-told.result in
    let explained = c.in_ok-explained.explained in
    let rows = length c.as_slice-finals.result.now in
    let tables : Reaches (are_tables (rows_of judge.auditor.ledger.tables) 0) judge.auditor.finals.items told =
    subst (λ fs. Reaches (are_tables (rows_of judge.auditor.ledger.tables) 0) fs told) c.as_slice-finals.ensures.value
    c.count_right-told.ensures in
    let all : rows ≤ explained = omega (arith, c.if-explained-rows.false) in
    found_none bytes judge c.args.lines t noted tells some c.in_default.is told explained rows
    (ap length c.as_slice-finals.ensures.value) tables c.in_ok-explained.ensures.ok
    (elim c.else-told-rows.branch [
      | else-told-rows-via-then-told-rows+else-told-explained w ↦ omega (arith, all, w.if-told-explained.false)
      | else-told-rows-via-else-told-rows w ↦ omega (arith, w.if-told-rows.false)
    ]) all
