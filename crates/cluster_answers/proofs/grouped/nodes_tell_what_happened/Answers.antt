use Rattle.cluster_answers.proofs.InGroups.{node_tells}
use Rattle.cluster_answers.proofs.grouped.nodes_tell_what_happened.Goals as goal

pub returns : goal.returns
returns c config world reach m inputs old new outs is all group l who_is tx standing told =
    node_tells config world reach m inputs old new outs is all group l who_is tx standing told
