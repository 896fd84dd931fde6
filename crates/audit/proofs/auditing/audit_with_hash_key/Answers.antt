use Rattle.std.proofs.Common.{◌≡◌, ◌∙◌, ◌<◌, ◌≤◌, length, get_or, take, true, sym, ap, subst, arith}
use Rattle.std.proofs.lemmas.List.{take_all}
use Rattle.audit.specs.Books.{rows_of}
use Rattle.audit.specs.Following.{Follows}
use Rattle.audit.specs.ToldTables.{are_tables, first_tables}
use Rattle.audit.specs.Told.{history_of, each_step}
use Rattle.audit.proofs.AuditLemmas.{is_right, wrong_step, next_follows, next_right, wrong_floors, wrong_tables, by_result}
use Rattle.audit.proofs.auditing.audit_with_hash_key.Goals as goal

pub returns-then-not-branch-clause-ok : goal.returns-then-not-branch-clause-ok
returns-then-not-branch-clause-ok c =
    let t = c.args.trace.now in
    let i = c.loop-entry.entry-index in
    let entry = c.entry-item.result in
    let test : i < length c.as_slice-entry-items.result.now = c.loop-entry-test.true in
    let lt : i < length t.entries = subst (λ es. i < length es) c.as_slice-entry-items.ensures test in
    let is : entry ≡ get_or t.entries i entry = c.entry-item.is ∙ ap (λ es. get_or es i entry) c.as_slice-entry-items.ensures in
    let takes = c.in_ok-take.ensures.ok (first_tables t.tables) (history_of (take i t.entries)) c.loop-entry.invariant.follows in
    wrong_step t i entry lt is c.take.new.self c.in_ok-take.field-0 takes c.if-not-branch.true

pub loop-entry-preserved : goal.loop-entry-preserved
loop-entry-preserved c =
    let t = c.args.trace.now in
    let i = c.loop-entry.entry-index in
    let entry = c.entry-item.result in
    let test : i < length c.as_slice-entry-items.result.now = c.loop-entry-test.true in
    let lt : i < length t.entries = subst (λ es. i < length es) c.as_slice-entry-items.ensures test in
    let is : entry ≡ get_or t.entries i entry = c.entry-item.is ∙ ap (λ es. get_or es i entry) c.as_slice-entry-items.ensures in
    let takes = c.in_ok-take.ensures.ok (first_tables t.tables) (history_of (take i t.entries)) c.loop-entry.invariant.follows in
    record {
      follows = next_follows t i entry lt is c.take.new.self c.in_ok-take.field-0 takes c.if-not-branch.false;
      right = next_right t i entry lt is c.take.new.self c.in_ok-take.field-0 takes c.if-not-branch.false c.loop-entry.invariant.right;
    }

pub returns-then-not-are-clause-ok : goal.returns-then-not-are-clause-ok
returns-then-not-are-clause-ok c =
    let t = c.args.trace.now in
    let i = c.loop-entry.entry-index in
    let many = ap length c.as_slice-entry-items.ensures in
    let le : length t.entries ≤ i = omega (arith, many, c.loop-entry-test.false) in
    let whole = take_all i t.entries le in
    wrong_tables t c.loop-entry.ledger
    (subst (λ es. Follows (first_tables t.tables) (history_of es) c.loop-entry.ledger) whole c.loop-entry.invariant.follows)
    (c.if-not-are.ensures ∙ ap (are_tables (rows_of c.loop-entry.ledger.tables) 0) c.as_slice-finals.ensures)

pub returns-then-not-branch-2-clause-ok : goal.returns-then-not-branch-2-clause-ok
returns-then-not-branch-2-clause-ok c = wrong_floors c.args.trace.now (sym c.if-not-branch-2.true ∙ c.in_ok-are_above.ensures.ok)

pub returns-clause-ok : goal.returns-clause-ok
returns-clause-ok c =
    let t = c.args.trace.now in
    let i = c.loop-entry.entry-index in
    let many = ap length c.as_slice-entry-items.ensures in
    let le : length t.entries ≤ i = omega (arith, many, c.loop-entry-test.false) in
    let whole = take_all i t.entries le in
    by_result t c.loop-entry.ledger
    (subst (λ es. Follows (first_tables t.tables) (history_of es) c.loop-entry.ledger) whole c.loop-entry.invariant.follows)
    (subst (λ es. each_step (is_right (first_tables t.tables)) (history_of es) ≡ true) whole c.loop-entry.invariant.right)
    (c.if-not-are.ensures ∙ ap (are_tables (rows_of c.loop-entry.ledger.tables) 0) c.as_slice-finals.ensures)
    (sym c.if-not-branch-2.false ∙ c.in_ok-are_above.ensures.ok)
    c.as_slice-tables.result.now c.as_slice-tables.ensures c.as_slice-finals.result.now c.as_slice-finals.ensures c.is_serial.result
    c.is_serial.ensures.ok
