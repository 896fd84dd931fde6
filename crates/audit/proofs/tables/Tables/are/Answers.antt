use Rattle.audit.specs.Books.{rows_of}
use Rattle.audit.proofs.RowTests.{reaches_all}
use Rattle.audit.proofs.tables.Tables.are.Goals as goal

pub returns : goal.returns
returns c = reaches_all (rows_of c.args.self.now) c.args.finals.now c.count_right.result c.count_right.ensures
