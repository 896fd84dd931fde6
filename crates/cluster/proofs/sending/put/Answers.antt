use Rattle.cluster.proofs.Sent.{put_again}
use Rattle.cluster.proofs.sending.put.Goals as goal

pub returns-then-again-clause-stands : goal.returns-then-again-clause-stands
returns-then-again-clause-stands c = λ message spells.
    put_again c.args.network.now c.push_again.new.self c.args.sender message c.args.receiver c.args.again c.if-again.true
    c.push_again.ensures.stands
