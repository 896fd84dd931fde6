use Rattle.std.proofs.Common.{Bool, Some, refl}
use Rattle.toml.specs.View.{view}
use Rattle.cluster_file.specs.declared.error.Fault.TheVariants.{NoTable}
use Rattle.cluster_file.specs.Nodes.{node_path}
use Rattle.cluster_file.proofs.NodeLemmas.{no_node}
use Rattle.cluster_file.proofs.Refusals.{refused_says}
use Rattle.cluster_file.proofs.nodes.table_of.Goals as goal

pub returns-in_ok-path-in-None-clause-err : goal.returns-in_ok-path-in-None-clause-err
returns-in_ok-path-in-None-clause-err c = λ (nodes clients : Bool).
    refused_says _ (record { at = Some (node_path c.args.kind c.args.index); fault = NoTable }) _
    (no_node c.args.kind nodes clients c.args.index (view c.args.value.now) c.in-None.ensures) (c.in_ok-path-in-None.ensures, refl)
