use Rattle.safety.proofs.WellFormed.Runs.{well_ever}
use Rattle.safety.proofs.forms.facts_are_storable.Goals as goal

pub returns : goal.returns
returns c config sized world reached who node is = ((well_ever config sized world reached).nodes who node is).stored
