use Rattle.serving.proofs.LifeRuns.{each_is_answered}
use Rattle.serving.proofs.laws.each_is_answered.Goals as goal

pub returns : goal.returns
returns c = each_is_answered
