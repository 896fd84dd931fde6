use Rattle.cluster_answers.proofs.Clusters.{one_outcome}
use Rattle.cluster_answers.proofs.headline.clusters_tell_one_outcome.Goals as goal

pub returns : goal.returns
returns c first last steps sound occurred tx l other one two h commits k aborts =
    one_outcome first last steps occurred tx sound l other one two h commits k aborts
