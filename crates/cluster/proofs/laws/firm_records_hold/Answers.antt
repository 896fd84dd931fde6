use Rattle.cluster.proofs.Following.{made_firm, still_firm, no_failure}
use Rattle.cluster.proofs.laws.firm_records_hold.Goals as goal

pub returns-clause-made : goal.returns-clause-made
returns-clause-made c = made_firm

pub returns-clause-stays : goal.returns-clause-stays
returns-clause-stays c = still_firm

pub returns-clause-faults : goal.returns-clause-faults
returns-clause-faults c = λ config world event old new whole stands firm. no_failure config world old new stands firm whole event
