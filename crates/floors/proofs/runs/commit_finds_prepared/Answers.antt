use Rattle.xid.specs.Transactions.{is_participant}
use Rattle.safety.specs.Runs.{views_in}
use Rattle.safety.proofs.World.Reachable.{committed_finds, sent_finds, ready, moves_find_ready}
use Rattle.floors.specs.Worlds.{floored_step}
use Rattle.floors.proofs.Following.{are_runs, steps}
use Rattle.floors.proofs.runs.commit_finds_prepared.Goals as goal

pub returns-clause-stored : goal.returns-clause-stored
returns-clause-stored c config world reach = committed_finds config world.machine (are_runs config world reach)

pub returns-clause-sent : goal.returns-clause-sent
returns-clause-sent c config world reach = sent_finds config world.machine (are_runs config world reach)

pub returns-clause-ready : goal.returns-clause-ready
returns-clause-ready c config world reach = ready config world.machine (are_runs config world reach)

pub returns-clause-moved : goal.returns-clause-moved
returns-clause-moved c config world reach event fault tx r q named_r named_q before after =
    moves_find_ready (is_participant tx) (views_in config world.machine tx)
    (views_in config (floored_step config world event fault).world.machine tx) q named_q r named_r before after
    (steps config world reach event fault tx)
