use Rattle.floors.proofs.Rising.{never_sinks, rises, tells, hears}
use Rattle.floors.proofs.headline.floors_rise.Goals as goal

pub returns-clause-never_sink : goal.returns-clause-never_sink
returns-clause-never_sink c = never_sinks

pub returns-clause-raised : goal.returns-clause-raised
returns-clause-raised c = rises

pub returns-clause-told : goal.returns-clause-told
returns-clause-told c = tells

pub returns-clause-heard : goal.returns-clause-heard
returns-clause-heard c = hears
