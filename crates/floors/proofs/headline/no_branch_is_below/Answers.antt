use Rattle.floors.proofs.Above.{own_is_above, above_ever}
use Rattle.floors.proofs.headline.no_branch_is_below.Goals as goal

pub returns-clause-prepared : goal.returns-clause-prepared
returns-clause-prepared c = own_is_above

pub returns-clause-branches : goal.returns-clause-branches
returns-clause-branches c config world reach r node is = ((above_ever config world reach).nodes r node is).branches
