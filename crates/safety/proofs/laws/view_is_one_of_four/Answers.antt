use Rattle.protocol.proofs.Manager.Views.{view_is}
use Rattle.safety.proofs.laws.view_is_one_of_four.Goals as goal

pub returns : goal.returns
returns c = view_is
