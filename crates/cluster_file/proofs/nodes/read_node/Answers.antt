use Rattle.std.proofs.Common.{◌≡◌, ◌∙◌, Ok, Result, sym, rules, subst}
use Rattle.std.specs.Prelude.{IfOk, IfErr}
use Rattle.toml.specs.View.{table_view, view}
use Rattle.cluster_file.specs.Mistakes.{Mistake, IsRefused}
use Rattle.cluster_file.specs.Nodes.{Node}
use Rattle.cluster_file.proofs.NodeLemmas.{node_of_table}
use Rattle.cluster_file.proofs.Refusals.{handed_on}
use Rattle.cluster_file.proofs.nodes.read_node.Goals as goal

pub returns-in_err-table-clause-err : goal.returns-in_err-table-clause-err
returns-in_err-table-clause-err c =
    handed_on _ c.from_residual.result c.in_err-table.field-0.0 (search rules)
    (c.in_err-table.ensures.err c.args.keyed.nodes c.args.keyed.clients)

pub returns-clause-ok : goal.returns-clause-ok
returns-clause-ok c =
    let same =
    node_of_table c.args.kind c.args.keyed.nodes c.args.keyed.clients c.args.index (view c.args.value.now)
    (table_view c.in_ok-table.table.now) c.as_str.result.now c.in_ok-table.ensures.ok (c.as_str.ensures.value ∙ c.in_ok-path.ensures) in
    subst (λ (said : Result Node Mistake). IfOk c.node_in.result (λ found. said ≡ Ok found)) (sym same) c.node_in.ensures.ok

pub returns-clause-err : goal.returns-clause-err
returns-clause-err c =
    let same =
    node_of_table c.args.kind c.args.keyed.nodes c.args.keyed.clients c.args.index (view c.args.value.now)
    (table_view c.in_ok-table.table.now) c.as_str.result.now c.in_ok-table.ensures.ok (c.as_str.ensures.value ∙ c.in_ok-path.ensures) in
    subst (λ (said : Result Node Mistake). IfErr c.node_in.result (IsRefused said)) (sym same) c.node_in.ensures.err
