use Rattle.groups.proofs.Opened.{goes_on, stays_down}
use Rattle.groups.proofs.headline.processes_go_on.Goals as goal

pub returns-clause-opened : goal.returns-clause-opened
returns-clause-opened c = goes_on

pub returns-clause-refused : goal.returns-clause-refused
returns-clause-refused c = stays_down
