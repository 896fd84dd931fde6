use Rattle.floored_groups.proofs.Views.{views_agree}
use Rattle.floored_groups.proofs.cluster.views_agree.Goals as goal

pub returns : goal.returns
returns c = views_agree
