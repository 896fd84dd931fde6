use Rattle.std.proofs.Common.{◌≡◌, ℕ, true, false, List, subst, sym, Option}
use Rattle.std.specs.Prelude.{MatchOption}
use Rattle.std.specs.Borrow.{Bor}
use Rattle.stable_record.specs.declared.entry.EntryKind.{EntryKind as Entry}
use Rattle.stable_record.specs.Grammar.{IsTail, IsFramed}
use Rattle.node_core.specs.Opening.{may_follow, AreRowsTo}
use Rattle.node_core.proofs.Rows.{rows_on, rows_break, rows_none}
use Rattle.node_core.proofs.snapshots.take_rows.Goals as goal

-- what was taken of bytes
abbrev found : List ℕ → Option (Entry × Bor (List ℕ)) → Type 0
found bytes x = MatchOption x (IsTail bytes) (λ y. IsFramed y.0 bytes y.1.now)

pub returns-then-not-may_follow-clause-ok : goal.returns-then-not-may_follow-clause-ok
returns-then-not-may_follow-clause-ok c =
    let rest = c.loop-entry.rest.now in
    let framed = subst (found rest) c.in-Ok-Some.field-0-is c.in-Ok-Some.ensures.ok in
    let stops = subst (λ rows. may_follow rows c.in-Some.row ≡ false) c.deref.ensures.value (sym c.if-not-may_follow.ensures) in
    rows_break c.args.bytes.now rest c.in-Ok-Some.after.now c.loop-entry.rows.items c.in-Ok-Some.entry c.loop-entry.invariant framed
    c.in-Some.row (sym c.in-Some.ensures.row) stops

pub loop-entry-preserved : goal.loop-entry-preserved
loop-entry-preserved c =
    let rest = c.loop-entry.rest.now in
    let framed = subst (found rest) c.in-Ok-Some.field-0-is c.in-Ok-Some.ensures.ok in
    let follows = subst (λ rows. may_follow rows c.in-Some.row ≡ true) c.deref.ensures.value (sym c.if-not-may_follow.ensures) in
    subst (AreRowsTo c.args.bytes.now c.in-Ok-Some.after.now) (sym c.in_ok-push-in-Some.ensures.items)
    (rows_on c.args.bytes.now rest c.in-Ok-Some.after.now c.loop-entry.rows.items c.in-Ok-Some.entry c.loop-entry.invariant framed
    c.in-Some.row (sym c.in-Some.ensures.row) follows c.in-Some.ensures.short)

pub returns-in-Err-clause-err : goal.returns-in-Err-clause-err
returns-in-Err-clause-err c =
    rows_none c.args.bytes.now c.loop-entry.rest.now c.loop-entry.rows.items c.in-Err.refusal c.loop-entry.invariant c.in-Err.ensures.err
