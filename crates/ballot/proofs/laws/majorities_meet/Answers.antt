use Rattle.ballot.proofs.Majorities.{majorities_meet}
use Rattle.ballot.proofs.laws.majorities_meet.Goals as goal

pub returns : goal.returns
returns c = majorities_meet
