use Rattle.std.proofs.Common.{◌≡◌, ◌∙◌, ℕ, List, None, Some, Ok, ap, sym, subst, rules, length, arith}
use Rattle.toml.specs.Data.{get_member}
use Rattle.toml.specs.View.{array_view, table_view}
use Rattle.cluster_file.specs.Mistakes.{mistake_at, reads_at, IsRefused, Says}
use Rattle.cluster_file.specs.Nodes.{size_fault}
use Rattle.cluster_file.specs.Reads.{list_of}
use Rattle.cluster_file.proofs.NodeLemmas.{listed_few, listed_many, unlisted}
use Rattle.cluster_file.proofs.Refusals.{handed_on}
use Rattle.cluster_file.proofs.nodes.nodes_of.Goals as goal

pub returns-in_err-nodes-clause-err : goal.returns-in_err-nodes-clause-err
returns-in_err-nodes-clause-err c =
    let path : List ℕ = c.args.root.now.path.now in
    let members = table_view c.args.root.now.table.now in
    let error = c.in_err-nodes.field-0.0 in
    handed_on _ c.from_residual.result error (search rules)
    (unlisted path c.args.kind members error
    (subst (λ (key : List ℕ). IsRefused (reads_at path key (list_of (get_member key members))) error) c.name.ensures
    c.in_err-nodes.ensures.err))

pub returns-in-None-clause-ok : goal.returns-in-None-clause-ok
returns-in-None-clause-ok c =
    let members = table_view c.args.root.now.table.now in
    let values = c.in_ok-nodes.nodes.now.items in
    let is =
    subst (λ (key : List ℕ). list_of (get_member key members) ≡ Ok (array_view c.in_ok-nodes.nodes.now)) c.name.ensures
    c.in_ok-nodes.ensures.ok in
    let long : c.len.result ≡ length values = omega arith in
    let few : size_fault c.args.kind (length values) ≡ None =
    ap (size_fault c.args.kind) (sym long) ∙ sym c.in-None.ensures.fault in
    listed_few c.args.root.now.path.now c.args.kind members values is few

pub returns-in-Some-clause-err : goal.returns-in-Some-clause-err
returns-in-Some-clause-err c =
    let path : List ℕ = c.args.root.now.path.now in
    let members = table_view c.args.root.now.table.now in
    let values = c.in_ok-nodes.nodes.now.items in
    let is =
    subst (λ (key : List ℕ). list_of (get_member key members) ≡ Ok (array_view c.in_ok-nodes.nodes.now)) c.name.ensures
    c.in_ok-nodes.ensures.ok in
    let long : c.len.result ≡ length values = omega arith in
    let many : size_fault c.args.kind (length values) ≡ Some c.in-Some.fault =
    ap (size_fault c.args.kind) (sym long) ∙ sym c.in-Some.ensures.fault in
    listed_many path c.args.kind members values is c.in-Some.fault c.fault.result many
    (subst (λ (key : List ℕ). Says (mistake_at path key c.in-Some.fault) c.fault.result) c.name-in-Some.ensures c.fault.ensures)
