use Rattle.std.proofs.Common.{refl}
use Rattle.cluster.proofs.Asked.{no_view, view_said}
use Rattle.cluster.proofs.asking.view.Goals as goal

pub returns-in_default : goal.returns-in_default
returns-in_default g c = λ network notices config world s.
    no_view config world c.args.sizes c.args.nodes.now.items network notices s c.args.rm c.in_default.ensures c.args.tx.now _ refl

pub returns : goal.returns
returns g c = λ network notices config world s.
    view_said config world c.args.sizes c.args.nodes.now.items network notices s c.args.rm c.in-Some.at c.in-Some.ensures
    c.index_mut-node.result.now c.view.new.self c.index_mut-node.ensures.value c.args.tx.now c.view.result c.view.ensures
