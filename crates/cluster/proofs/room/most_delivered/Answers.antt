use Rattle.network.specs.Networks.{shown}
use Rattle.cluster.proofs.Reaching.{delivered_few}
use Rattle.cluster.proofs.room.most_delivered.Goals as goal

pub returns-in-Some : goal.returns-in-Some
returns-in-Some c = λ nodes notices config world s fault.
    delivered_few config world c.args.number (shown c.in-Some.kept) fault c.most_heard.result (c.in-Some.ensures world.machine.net s.net_is)
    (λ facts memory. c.most_heard.ensures.bound config s.sizes_are facts memory c.in-Some.kept.bytes.now)
