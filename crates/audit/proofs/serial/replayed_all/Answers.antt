use Rattle.std.proofs.Common.{◌∙◌, sym}
use Rattle.audit.specs.Books.{rows_of, stretch_of}
use Rattle.audit.specs.ToldTables.{first_tables}
use Rattle.audit.proofs.SerialLemmas.{all_more, read_so, read_more, read_fails}
use Rattle.audit.proofs.serial.replayed_all.Goals as goal

pub returns-then-not-reads_serially-clause-ok : goal.returns-then-not-reads_serially-clause-ok
returns-then-not-reads_serially-clause-ok c =
    let first = first_tables c.args.tables.now in
    let done = stretch_of c.args.ledger.now.branches in
    let order = c.args.ledger.now.firsts in
    let n = c.loop-number.number in
    let tx = c.in-Some.tx in
    let found = c.in-Some.ensures in
    read_fails first done order n tx found
    (sym (read_so first done order n tx found c.len-number-end.ensures.distinct (rows_of c.loop-number.all)
    c.loop-number.invariant.all)
    ∙ sym c.if-not-reads_serially.ensures)

pub loop-number-preserved : goal.loop-number-preserved
loop-number-preserved c =
    let first = first_tables c.args.tables.now in
    let done = stretch_of c.args.ledger.now.branches in
    let order = c.args.ledger.now.firsts in
    let n = c.loop-number.number in
    let tx = c.in-Some.tx in
    let found = c.in-Some.ensures in
    record {
      all = λ rm. all_more first done order n tx found rm (rows_of c.loop-number.all rm) (rows_of c.write_all.new.tables rm)
          (c.loop-number.invariant.all rm) (c.in_ok-write_all.ensures.ok rm);
      read = read_more first done order n tx found c.loop-number.invariant.read
          (sym (read_so first done order n tx found c.len-number-end.ensures.distinct (rows_of c.loop-number.all)
          c.loop-number.invariant.all)
          ∙ sym c.if-not-reads_serially.ensures);
    }
