use Rattle.serving.proofs.BranchLemmas.{none_twice}
use Rattle.serving.proofs.by_number.ByNumber.under.Goals as goal

pub returns-in-None-clause-unique : goal.returns-in-None-clause-unique
returns-in-None-clause-unique c = none_twice
