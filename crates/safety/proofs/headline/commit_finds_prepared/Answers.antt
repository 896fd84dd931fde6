use Rattle.xid.specs.Transactions.{is_participant}
use Rattle.safety.specs.Runs.{views_in}
use Rattle.protocol.specs.Worlds.{world_step}
use Rattle.safety.proofs.World.Reachable.{committed_finds, sent_finds, ready, steps, moves_find_ready}
use Rattle.safety.proofs.headline.commit_finds_prepared.Goals as goal

pub returns-clause-stored : goal.returns-clause-stored
returns-clause-stored c = committed_finds

pub returns-clause-sent : goal.returns-clause-sent
returns-clause-sent c = sent_finds

pub returns-clause-ready : goal.returns-clause-ready
returns-clause-ready c = ready

pub returns-clause-moved : goal.returns-clause-moved
returns-clause-moved c config world reachable event fault tx r q named_r named_q before after =
    moves_find_ready (is_participant tx) (views_in config world tx) (views_in config (world_step config world event fault).world tx)
    q named_q r named_r before after (steps config world reachable event fault tx)
