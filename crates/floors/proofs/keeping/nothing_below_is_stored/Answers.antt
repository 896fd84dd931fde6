use Rattle.floors.proofs.Storing.{stores_above}
use Rattle.floors.proofs.keeping.nothing_below_is_stored.Goals as goal

pub returns : goal.returns
returns c config world event fault who = stores_above config world who event fault
