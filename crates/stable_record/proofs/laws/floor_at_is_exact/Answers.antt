use Rattle.stable_record.proofs.Floors.{found, framed}
use Rattle.stable_record.proofs.laws.floor_at_is_exact.Goals as goal

pub returns-clause-found : goal.returns-clause-found
returns-clause-found c = found

pub returns-clause-framed : goal.returns-clause-framed
returns-clause-framed c = framed
