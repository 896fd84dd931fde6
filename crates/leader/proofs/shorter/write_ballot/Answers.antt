use Rattle.leader.proofs.Frames.{ballot_written}
use Rattle.leader.proofs.shorter.write_ballot.Goals as goal

pub returns-then-ballot-gt0-clause-ok : goal.returns-then-ballot-gt0-clause-ok
returns-then-ballot-gt0-clause-ok c =
    ballot_written c.write-then-ballot-gt0.result c.args.frames.now.items c.write-then-ballot-gt0.new.out.items c.args.tx c.args.ballot _
    c.if-ballot-gt0.true c.new.ensures c.write-then-ballot-gt0.ensures.valid c.write-then-ballot-gt0.ensures.ok
