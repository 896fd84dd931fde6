use Rattle.leader.specs.contracts.leader.Leader.{the_view}
use Rattle.leader.proofs.Leading.{begin_stands}
use Rattle.leader.proofs.leader.Leader.begin.Goals as goal

pub returns : goal.returns
returns c = λ config number stored memory stands some.
    begin_stands config number (the_view c.self.inside) c.args.self.now c.begin.new.self c.args.tx.now c.args.ballot stored memory
    c.self.view_is
    c.begin.ensures stands some
