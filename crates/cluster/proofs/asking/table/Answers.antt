use Rattle.std.proofs.Common.{refl}
use Rattle.cluster.proofs.Asked.{no_table, table_said}
use Rattle.cluster.proofs.asking.table.Goals as goal

pub returns-in_default : goal.returns-in_default
returns-in_default g c = λ network notices config world s.
    no_table config world c.args.sizes c.args.nodes.now.items network notices s c.args.rm c.in_default.ensures _ refl

pub returns : goal.returns
returns g c = λ network notices config world s.
    table_said config world c.args.sizes c.args.nodes.now.items network notices s c.args.rm c.in-Some.at c.in-Some.ensures
    c.index_mut-node.result.now c.table.new.self c.index_mut-node.ensures.value c.table.result c.table.ensures
