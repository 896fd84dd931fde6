use Rattle.cluster.proofs.Bounds.{heard_acceptor, heard_leader, heard_manager}
use Rattle.cluster.proofs.room.most_heard.Goals as goal

pub returns-in-A-clause-bound : goal.returns-in-A-clause-bound
returns-in-A-clause-bound c = λ config are facts memory bytes.
    heard_acceptor config c.args.sizes are facts memory bytes c.args.who c.in-A.field-0 c.in-A.is c.from.result c.from.ensures

pub returns-in-L-clause-bound : goal.returns-in-L-clause-bound
returns-in-L-clause-bound c = λ config are facts memory bytes.
    heard_leader config c.args.sizes are facts memory bytes c.args.who c.in-L.field-0 c.in-L.is c.from-acceptors.result
    c.from-acceptors.ensures

pub returns-in-R-clause-bound : goal.returns-in-R-clause-bound
returns-in-R-clause-bound c = λ config are facts memory bytes.
    heard_manager config c.args.sizes are facts memory bytes c.args.who c.in-R.field-0 c.in-R.is c.from-acceptors.result
    c.from-acceptors.ensures
