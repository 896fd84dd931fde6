use Rattle.cluster_answers.proofs.InGroups.{one_outcome}
use Rattle.cluster_answers.proofs.grouped.groups_tell_one_outcome.Goals as goal

pub returns : goal.returns
returns c config world reach tx l other one two h commits k aborts =
    one_outcome config world reach tx l other one two h commits k aborts
