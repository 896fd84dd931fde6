use Rattle.floors.proofs.Steps.{same_event, lost_event, unasked_event, unfloored}
use Rattle.floors.proofs.runs.events_are_the_machines.Goals as goal

pub returns-clause-same : goal.returns-clause-same
returns-clause-same c = same_event

pub returns-clause-lost : goal.returns-clause-lost
returns-clause-lost c = lost_event

pub returns-clause-unasked : goal.returns-clause-unasked
returns-clause-unasked c = unasked_event

pub returns-clause-unfloored : goal.returns-clause-unfloored
returns-clause-unfloored c config world event none = unfloored config world none event
