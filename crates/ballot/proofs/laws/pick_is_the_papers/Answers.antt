use Rattle.ballot.proofs.Picks.{pick_is}
use Rattle.ballot.proofs.laws.pick_is_the_papers.Goals as goal

pub returns : goal.returns
returns c = pick_is
