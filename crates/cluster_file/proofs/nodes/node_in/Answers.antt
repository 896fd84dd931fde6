use Rattle.std.proofs.Common.{◌≡◌, Ok, List, ℕ, refl, rules, subst}
use Rattle.cluster_file.specs.Mistakes.{IsRefused}
use Rattle.cluster_file.specs.Nodes.{keys_at, node_in}
use Rattle.toml.specs.View.{table_view}
use Rattle.cluster_file.proofs.Refusals.{handed_on, ok_after, refused_after, refused_bind}
use Rattle.cluster_file.proofs.nodes.node_in.Goals as goal

pub returns-in_err-check_keys-clause-err : goal.returns-in_err-check_keys-clause-err
unfolding node_in
returns-in_err-check_keys-clause-err c =
    let path : List ℕ = c.args.node.now.path.now in
    let members = table_view c.args.node.now.table.now in
    let P : List (List ℕ) → Type 0 = λ known. IsRefused (keys_at path known members) c.in_err-check_keys.field-0.0 in
    handed_on _ c.from_residual.result c.in_err-check_keys.field-0.0 (search rules)
    (refused_bind _ (subst P c.keys_of.ensures c.in_err-check_keys.ensures.err))

pub returns-in_err-place-clause-err : goal.returns-in_err-place-clause-err
unfolding node_in
returns-in_err-place-clause-err c =
    let path : List ℕ = c.args.node.now.path.now in
    let members = table_view c.args.node.now.table.now in
    let P : List (List ℕ) → Type 0 = λ known. keys_at path known members ≡ Ok tt in
    handed_on _ c.from_residual-in_err-place.result c.in_err-place.field-0.0 (search rules)
    (refused_after _ (subst P c.keys_of.ensures c.in_ok-check_keys.ensures.ok) (refused_bind _ c.in_err-place.ensures.err))

pub returns-in_err-rows-clause-err : goal.returns-in_err-rows-clause-err
unfolding node_in
returns-in_err-rows-clause-err c =
    let path : List ℕ = c.args.node.now.path.now in
    let members = table_view c.args.node.now.table.now in
    let P : List (List ℕ) → Type 0 = λ known. keys_at path known members ≡ Ok tt in
    handed_on _ c.from_residual-in_err-rows.result c.in_err-rows.field-0.0 (search rules)
    (refused_after _ (subst P c.keys_of.ensures c.in_ok-check_keys.ensures.ok)
    (refused_after _ c.in_ok-place.ensures.ok (refused_bind _ c.in_err-rows.ensures.err)))

pub returns-clause-ok : goal.returns-clause-ok
unfolding node_in
returns-clause-ok c =
    let path : List ℕ = c.args.node.now.path.now in
    let members = table_view c.args.node.now.table.now in
    let P : List (List ℕ) → Type 0 = λ known. keys_at path known members ≡ Ok tt in
    ok_after _ (subst P c.keys_of.ensures c.in_ok-check_keys.ensures.ok)
    (ok_after _ c.in_ok-place.ensures.ok (ok_after _ c.in_ok-rows.ensures.ok refl))
