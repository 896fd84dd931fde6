use Rattle.std.proofs.Common.{ℕ, List, subst, sym, Option}
use Rattle.std.specs.Prelude.{MatchOption}
use Rattle.std.specs.Borrow.{Bor}
use Rattle.stable_record.specs.declared.entry.EntryKind.{EntryKind as Entry}
use Rattle.stable_record.specs.Grammar.{IsTail, IsFramed}
use Rattle.node_core.proofs.Rows.{taken_snapshot, snapshot_damaged, nothing_taken}
use Rattle.node_core.proofs.snapshots.take_snapshot.Goals as goal

-- what was taken of bytes
abbrev found : List ℕ → Option (Entry × Bor (List ℕ)) → Type 0
found bytes x = MatchOption x (IsTail bytes) (λ y. IsFramed y.0 bytes y.1.now)

pub returns-in-Ok-clause-ok : goal.returns-in-Ok-clause-ok
returns-in-Ok-clause-ok c =
    let framed = subst (found c.args.bytes.now) c.in-Ok-Some.field-0-is c.in-Ok-Some.ensures.ok in
    taken_snapshot c.args.bytes.now c.in-Ok-Some.after.now c.in-Ok-Some.entry framed (sym c.if-not-is_snapshot.ensures) _ _
    c.in-Ok.ensures.ok

pub returns-in-Ok-Some-clause-err : goal.returns-in-Ok-Some-clause-err
returns-in-Ok-Some-clause-err c =
    let framed = subst (found c.args.bytes.now) c.in-Ok-Some.field-0-is c.in-Ok-Some.ensures.ok in
    snapshot_damaged c.args.bytes.now c.in-Ok-Some.after.now c.in-Ok-Some.entry framed c.in-Err-take_rows.refusal
    c.in-Err-take_rows.ensures.err

pub returns-clause-err : goal.returns-clause-err
returns-clause-err c = nothing_taken c.args.bytes.now c.in-Err.refusal c.in-Err.ensures.err
