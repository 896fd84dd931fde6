use Rattle.std.proofs.Common.{◌≡◌, ◌∙◌, ◌++◌, [], Ok, Result, List, ℕ, None, Some, sym, ap, rules, codes, subst}
use Rattle.std.specs.Prelude.{IfOk, IfErr}
use Rattle.protocol.specs.declared.rows.Row.{Row}
use Rattle.toml.specs.Data.{get_member}
use Rattle.toml.specs.View.{table_view}
use Rattle.cluster_file.specs.Mistakes.{Mistake, IsRefused}
use Rattle.cluster_file.specs.Reads.{table_of}
use Rattle.cluster_file.specs.Rows.{rows_at, rows_from}
use Rattle.cluster_file.proofs.RowLemmas.{rows_none, rows_there, rows_untabled}
use Rattle.cluster_file.proofs.Refusals.{handed_on}
use Rattle.cluster_file.proofs.nodes.first_rows.Goals as goal

pub returns-in_err-table-clause-err : goal.returns-in_err-table-clause-err
returns-in_err-table-clause-err c =
    let path : List ℕ = c.args.node.now.path.now in
    let members = table_view c.args.node.now.table.now in
    handed_on _ c.from_residual.result c.in_err-table.field-0.0 (search rules)
    (rows_untabled path members c.in_err-table.field-0.0 c.in_err-table.ensures.err)

pub returns-in_default-clause-ok : goal.returns-in_default-clause-ok
returns-in_default-clause-ok c =
    let path : List ℕ = c.args.node.now.path.now in
    let members = table_view c.args.node.now.table.now in
    let is : table_of (get_member (codes "table") members) ≡ Ok None = search rules in
    let none : rows_at path members ≡ Ok [] = rows_none path members is in
    let same : [] ≡ c.new-in_default.result = search rules in none ∙ ap (λ (rows : List Row). Ok rows) same

pub returns-clause-ok : goal.returns-clause-ok
returns-clause-ok c =
    let path : List ℕ = c.args.node.now.path.now in
    let members = table_view c.args.node.now.table.now in
    let inner = table_view c.in-Some.table.now in
    let is : table_of (get_member (codes "table") members) ≡ Ok (Some inner) = search rules in
    let at : c.as_str.result.now ≡ path ++ codes "table." = c.as_str.ensures.value ∙ c.in_ok-path.ensures.ok in
    let same : rows_from c.as_str.result.now inner ≡ rows_at path members =
    ap (λ (p : List ℕ). rows_from p inner) at ∙ sym (rows_there path members inner is) in
    subst (λ (said : Result (List Row) Mistake). IfOk c.rows_of.result (λ rows. said ≡ Ok rows)) same c.rows_of.ensures.ok

pub returns-clause-err : goal.returns-clause-err
returns-clause-err c =
    let path : List ℕ = c.args.node.now.path.now in
    let members = table_view c.args.node.now.table.now in
    let inner = table_view c.in-Some.table.now in
    let is : table_of (get_member (codes "table") members) ≡ Ok (Some inner) = search rules in
    let at : c.as_str.result.now ≡ path ++ codes "table." = c.as_str.ensures.value ∙ c.in_ok-path.ensures.ok in
    let same : rows_from c.as_str.result.now inner ≡ rows_at path members =
    ap (λ (p : List ℕ). rows_from p inner) at ∙ sym (rows_there path members inner is) in
    subst (λ (said : Result (List Row) Mistake). IfErr c.rows_of.result (IsRefused said)) same c.rows_of.ensures.err
