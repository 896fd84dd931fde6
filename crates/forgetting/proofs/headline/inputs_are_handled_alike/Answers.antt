use Rattle.floors.specs.Nodes.{floored_node_step}
use Rattle.forgetting.proofs.Coming.{came, handled}
use Rattle.forgetting.proofs.headline.inputs_are_handled_alike.Goals as goal

pub returns : goal.returns
returns c from config who floor few all stands input fault play =
    came from config who floor few all stands (floored_node_step from who floor few input fault)
    (floored_node_step config who floor all input fault) (handled from config who floor few all stands input fault) play
