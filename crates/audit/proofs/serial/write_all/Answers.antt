use Rattle.std.proofs.Common.{ℕ, ◌<◌, ◌≤◌, length, arith}
use Rattle.audit.specs.Stretches.{writes_at}
use Rattle.audit.specs.Books.{rows_of, stretch_of}
use Rattle.audit.proofs.ReplayLemmas.{add_all, end_all}
use Rattle.audit.proofs.serial.write_all.Goals as goal

pub loop-place-preserved : goal.loop-place-preserved
loop-place-preserved c =
    let i = c.loop-place.place in
    let tx = c.args.tx.now in
    let lt : i < length tx.branches = omega (arith, c.loop-place-test.true, c.count-place-end.ensures.value) in
    let writes = λ (rm : ℕ). writes_at (stretch_of c.args.branches.now) rm tx in
    add_all tx c.count-place-end.ensures.valid i lt writes (rows_of c.args.tables.now) (rows_of c.loop-place.tables)
    (rows_of c.write_at.new.tables) c.loop-place.invariant c.in_ok-write_at.ensures.ok

pub returns-clause-ok : goal.returns-clause-ok
returns-clause-ok c = λ rm.
    let le : length c.args.tx.now.branches ≤ c.loop-place.place = omega (arith, c.loop-place-test.false, c.count-place-end.ensures.value) in
    end_all (stretch_of c.args.branches.now) c.args.tx.now rm c.loop-place.place le (rows_of c.args.tables.now rm)
    (rows_of c.loop-place.tables rm) (c.loop-place.invariant rm)
