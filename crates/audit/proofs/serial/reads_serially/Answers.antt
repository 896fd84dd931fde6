use Rattle.std.proofs.Common.{◌∙◌, ℕ, ◌<◌, length, sym, ap, arith}
use Rattle.xid.specs.Transactions.{participants}
use Rattle.audit.specs.Stretches.{branch_at, gets_in}
use Rattle.audit.specs.Books.{rows_of, stretch_of}
use Rattle.audit.specs.Consistent.{are_shown}
use Rattle.audit.proofs.ListLemmas.{all_next, all_fails, participant_at, participants_many}
use Rattle.audit.proofs.serial.reads_serially.Goals as goal

pub returns-then-not-reads_serially_at : goal.returns-then-not-reads_serially_at
returns-then-not-reads_serially_at c =
    let i = c.loop-place.place in
    let tx = c.args.tx.now in
    let many = participants_many tx in
    let lt : i < length tx.branches = omega (arith, c.loop-place-test.true, c.count-place-end.ensures.value) in
    let under : i < length (participants tx) = omega (arith, many, lt) in
    let test = λ (rm : ℕ). are_shown (rows_of c.args.tables.now rm) (gets_in (branch_at (stretch_of c.args.branches.now) rm tx)) in
    sym (all_fails test (participants tx) i 0 under (ap test (participant_at tx i lt) ∙ sym c.if-not-reads_serially_at.ensures))

pub loop-place-preserved : goal.loop-place-preserved
loop-place-preserved c =
    let i = c.loop-place.place in
    let tx = c.args.tx.now in
    let many = participants_many tx in
    let lt : i < length tx.branches = omega (arith, c.loop-place-test.true, c.count-place-end.ensures.value) in
    let under : i < length (participants tx) = omega (arith, many, lt) in
    let test = λ (rm : ℕ). are_shown (rows_of c.args.tables.now rm) (gets_in (branch_at (stretch_of c.args.branches.now) rm tx)) in
    all_next test (participants tx) i 0 under c.loop-place.invariant
    (ap test (participant_at tx i lt) ∙ sym c.if-not-reads_serially_at.ensures)
