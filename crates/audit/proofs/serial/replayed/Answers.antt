use Rattle.std.proofs.Common.{◌≡◌, ℕ, true, false, subst}
use Rattle.std.specs.Option.{MatchOption}
use Rattle.audit.specs.Books.{rows_of, stretch_of}
use Rattle.audit.specs.Consistent.{reads_are_serial, serial_table}
use Rattle.audit.specs.ToldTables.{first_tables}
use Rattle.audit.proofs.SerialLemmas.{all_replayed}
use Rattle.audit.proofs.serial.replayed.Goals as goal

pub returns-then-are_all_committed-clause-ok : goal.returns-then-are_all_committed-clause-ok
returns-then-are_all_committed-clause-ok c =
    let first = first_tables c.args.tables.now in
    let done = stretch_of c.args.ledger.now.branches in
    let order = c.args.ledger.now.firsts in
    let last =
    subst (λ o. MatchOption o (reads_are_serial first done order ≡ false)
    (λ all. (reads_are_serial first done order ≡ true) × ((rm : ℕ) → rows_of all rm ≡ serial_table first done rm order)))
    c.in-Some.is c.in_ok-all.ensures.ok in (
      last.0,
      all_replayed done c.args.ledger.now.views first order (c.if-are_all_committed.ensures (search)) c.in-Some.all last.1,
    )
