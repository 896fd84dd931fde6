use Rattle.cluster.proofs.Occurring.{sound_after}
use Rattle.cluster.proofs.Safe.{safe_move}
use Rattle.cluster.proofs.laws.events_are_safe.Goals as goal

pub returns-clause-moves : goal.returns-clause-moves
returns-clause-moves c = λ event old new step happens config world reachable stands.
    safe_move event old new step config world reachable stands (happens config world stands)

pub returns-clause-stays : goal.returns-clause-stays
returns-clause-stays c = λ event old new step happens sound. sound_after event old new step sound happens
