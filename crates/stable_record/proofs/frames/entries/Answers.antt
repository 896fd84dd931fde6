use Rattle.std.proofs.Common.{ℕ, List, subst, Option}
use Rattle.std.specs.Prelude.{MatchOption}
use Rattle.std.specs.Borrow.{Bor}
use Rattle.stable_record.specs.declared.entry.EntryKind.{EntryKind as Entry}
use Rattle.stable_record.specs.Grammar.{IsTail, IsFramed}
use Rattle.stable_record.proofs.Framed.{goes_on, came_on, place_on, all_read, nothing_stored, with_no_frame}
use Rattle.stable_record.proofs.frames.entries.Goals as goal

-- what was taken of bytes
abbrev found : List ℕ → Option (Entry × Bor (List ℕ)) → Type 0
found bytes x = MatchOption x (IsTail bytes) (λ y. IsFramed y.0 bytes y.1.now)

pub loop-entry-preserved : goal.loop-entry-preserved
loop-entry-preserved c =
    let framed = subst (found c.loop-entry.rest.now) c.in-Ok-Some.field-0-is c.in-Ok-Some.ensures.ok in
    rw c.in_ok-push-in-Ok-Some.ensures.items (record {
      goes = goes_on c.args.bytes.now c.loop-entry.rest.now c.in-Ok-Some.after.now c.loop-entry.all.items c.in-Ok-Some.entry framed
          c.loop-entry.invariant.goes;
      came = λ all tail stored.
          let before = c.loop-entry.invariant.came all tail stored in
          came_on c.loop-entry.rest.now c.in-Ok-Some.after.now c.in-Ok-Some.entry framed before.0 tail before.1;
      place = place_on c.args.bytes.now c.loop-entry.rest.now c.in-Ok-Some.after.now c.in-Ok-Some.entry framed c.loop-entry.invariant.place;
    })

pub returns-in-Ok-None-clause-ok : goal.returns-in-Ok-None-clause-ok
returns-in-Ok-None-clause-ok c =
    let tail = subst (found c.loop-entry.rest.now) c.in-Ok-None.field-0-is c.in-Ok-None.ensures.ok in
    all_read c.args.bytes.now c.loop-entry.rest.now c.loop-entry.all.items c.loop-entry.invariant.place tail c.loop-entry.invariant.goes

pub returns-in-Err-clause-err : goal.returns-in-Err-clause-err
returns-in-Err-clause-err c =
    with_no_frame (λ none entries tail stored.
    let left = c.loop-entry.invariant.came entries tail stored in
    nothing_stored c.loop-entry.rest.now none left.0 tail left.1) c.in-Err.ensures.err
