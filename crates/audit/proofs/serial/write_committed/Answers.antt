use Rattle.std.proofs.Common.{ℕ, ◌<◌, ◌≤◌, length, sym, ap, arith}
use Rattle.history.specs.Writes.{is_committed_view}
use Rattle.audit.specs.Stretches.{writes_at}
use Rattle.audit.specs.Books.{rows_of, stretch_of, has_committed, view_in}
use Rattle.audit.proofs.ReplayLemmas.{add_committed, end_committed, own_place}
use Rattle.audit.proofs.serial.write_committed.Goals as goal

pub loop-place-preserved : goal.loop-place-preserved
loop-place-preserved c =
    let i = c.loop-place.place in
    let tx = c.args.tx.now in
    let views = c.args.ledger.now.views in
    let valid = c.count-place-end.ensures.valid in
    let lt : i < length tx.branches = omega (arith, c.loop-place-test.true, c.count-place-end.ensures.value) in
    let writes = λ (rm : ℕ). writes_at (stretch_of c.args.ledger.now.branches) rm tx in
    add_committed tx valid i lt writes (rows_of c.args.tables.now) (rows_of c.loop-place.tables)
    (rows_of c.write_committed_at.new.tables) (λ rm. has_committed views rm tx) (is_committed_view (view_in views tx i))
    (ap (λ n. is_committed_view (view_in views tx n)) (sym (own_place tx valid i lt)))
    c.loop-place.invariant c.in_ok-write_committed_at.ensures.ok

pub returns-clause-ok : goal.returns-clause-ok
returns-clause-ok c = λ rm.
    let le : length c.args.tx.now.branches ≤ c.loop-place.place = omega (arith, c.loop-place-test.false, c.count-place-end.ensures.value) in
    end_committed (stretch_of c.args.ledger.now.branches) c.args.tx.now rm c.loop-place.place le (rows_of c.args.tables.now rm)
    (rows_of c.loop-place.tables rm) (has_committed c.args.ledger.now.views rm c.args.tx.now) (c.loop-place.invariant rm)
