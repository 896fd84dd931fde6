use Rattle.floors.proofs.Snapshots.{commit_writes}
use Rattle.floors.proofs.keeping.tables_go_on.Goals as goal

pub returns : goal.returns
returns c = commit_writes
