use Rattle.std.proofs.Common.{◌≡◌, ◌∙◌, ◌<◌, ◌≤◌, length, get_or, take, true, sym, ap, subst, arith}
use Rattle.std.proofs.lemmas.List.{take_all}
use Rattle.audit.specs.Told.{history_of, each_step}
use Rattle.audit.specs.Floors.{stays_above}
use Rattle.audit.proofs.FloorLines.{below_step, next_floors, next_above}
use Rattle.audit.proofs.auditing.are_above.Goals as goal

pub returns-then-not-branch-clause-ok : goal.returns-then-not-branch-clause-ok
returns-then-not-branch-clause-ok c =
    let t = c.args.trace.now in
    let i = c.loop-entry.entry-index in
    let entry = c.entry-item.result in
    let test : i < length c.as_slice-entry-items.result.now = c.loop-entry-test.true in
    let lt : i < length t.entries = subst (λ es. i < length es) c.as_slice-entry-items.ensures test in
    let is : entry ≡ get_or t.entries i entry = c.entry-item.is ∙ ap (λ es. get_or es i entry) c.as_slice-entry-items.ensures in
    let takes = c.in_ok-take_entry.ensures.ok t.sizes.rms (history_of (take i t.entries)) c.loop-entry.invariant.follows in
    below_step t i entry lt is c.in_ok-take_entry.field-0 takes.0 c.if-not-branch.true

pub loop-entry-preserved : goal.loop-entry-preserved
loop-entry-preserved c =
    let t = c.args.trace.now in
    let i = c.loop-entry.entry-index in
    let entry = c.entry-item.result in
    let test : i < length c.as_slice-entry-items.result.now = c.loop-entry-test.true in
    let lt : i < length t.entries = subst (λ es. i < length es) c.as_slice-entry-items.ensures test in
    let is : entry ≡ get_or t.entries i entry = c.entry-item.is ∙ ap (λ es. get_or es i entry) c.as_slice-entry-items.ensures in
    let takes = c.in_ok-take_entry.ensures.ok t.sizes.rms (history_of (take i t.entries)) c.loop-entry.invariant.follows in
    record {
      follows = next_floors t i entry lt is c.take_entry.new.self (takes.1 c.if-not-branch.false);
      above = next_above t i entry lt is c.in_ok-take_entry.field-0 takes.0 c.if-not-branch.false c.loop-entry.invariant.above;
    }

pub returns-clause-ok : goal.returns-clause-ok
returns-clause-ok c =
    let t = c.args.trace.now in
    let i = c.loop-entry.entry-index in
    let many = ap length c.as_slice-entry-items.ensures in
    let le : length t.entries ≤ i = omega (arith, many, c.loop-entry-test.false) in
    sym (subst (λ es. each_step (stays_above t.sizes.rms) (history_of es) ≡ true) (take_all i t.entries le) c.loop-entry.invariant.above)
