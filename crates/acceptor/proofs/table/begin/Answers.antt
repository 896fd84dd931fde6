use Rattle.transactions.proofs.Places.{begun_added, begun_inside}
use Rattle.acceptor.proofs.table.begin.Goals as goal

pub returns-clause-inside : goal.returns-clause-inside
returns-clause-inside c =
    begun_inside c.args.table.now.transactions c.args.tx.now c.args.number c.args.begun.now.numbers c.add.new.self.numbers
    c.requires.number c.requires.seen c.requires.inside c.add.result c.add.ensures.ok c.add.ensures.kept

pub returns-clause-ok : goal.returns-clause-ok
returns-clause-ok c =
    begun_added c.args.table.now.transactions c.args.tx.now c.args.number c.args.begun.now.numbers c.add.new.self.numbers
    c.requires.number c.requires.seen c.requires.inside c.add.result c.len.ensures.distinct c.add.ensures.ok
