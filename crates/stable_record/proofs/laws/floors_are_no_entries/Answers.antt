use Rattle.stable_record.proofs.Floors.{no_frame}
use Rattle.stable_record.proofs.laws.floors_are_no_entries.Goals as goal

pub returns : goal.returns
returns c = no_frame
