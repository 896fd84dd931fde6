use Rattle.floors.proofs.Storing.{nothing_lacks}
use Rattle.floors.proofs.keeping.blank_nodes_lack_nothing.Goals as goal

pub returns : goal.returns
returns c = nothing_lacks
