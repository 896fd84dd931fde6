use Rattle.answers.proofs.Runs.{never_both}
use Rattle.answers.proofs.headline.runs_tell_one_outcome.Goals as goal

pub returns : goal.returns
returns c config world reach events tx l other one two h commits k aborts =
    never_both config tx l other one two commits aborts world reach events h k
