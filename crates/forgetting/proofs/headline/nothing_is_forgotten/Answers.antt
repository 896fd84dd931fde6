use Rattle.forgetting.proofs.Left.{stands_whole}
use Rattle.forgetting.proofs.headline.nothing_is_forgotten.Goals as goal

pub returns : goal.returns
returns c = stands_whole
