use Rattle.std.proofs.Common.{List, codes, refl, rules, ℕ}
use Rattle.cluster_file.specs.Nodes.{place_at}
use Rattle.cluster_file.proofs.Refusals.{handed_on, ok_after, ok_at, refused_after, refused_bind}
use Rattle.cluster_file.proofs.nodes.place_of.Goals as goal

pub returns-in_err-at-clause-err : goal.returns-in_err-at-clause-err
unfolding place_at
returns-in_err-at-clause-err c =
    handed_on _ c.from_residual.result c.in_err-at.field-0.0 (search rules) (refused_bind _ c.in_err-at.ensures.err)

pub returns-in_err-client-clause-err : goal.returns-in_err-client-clause-err
unfolding place_at
returns-in_err-client-clause-err c =
    handed_on _ c.from_residual-in_err-client.result c.in_err-client.field-0.0 (search rules)
    (refused_after _ c.in_ok-at.ensures.ok (refused_bind _ c.in_err-client.ensures.err))

pub returns-in_err-beside-clause-err : goal.returns-in_err-beside-clause-err
unfolding place_at
returns-in_err-beside-clause-err c =
    handed_on _ c.from_residual-in_err-beside.result c.in_err-beside.field-0.0 (search rules)
    (refused_after _ c.in_ok-at.ensures.ok (refused_after _ c.in_ok-client.ensures.ok (refused_bind _ c.in_err-beside.ensures.err)))

pub returns-clause-ok : goal.returns-clause-ok
unfolding place_at
returns-clause-ok c =
    let path : List ℕ = c.args.node.now.path.now in
    ok_after _ c.in_ok-at.ensures.ok
    (ok_after _ c.in_ok-client.ensures.ok
    (ok_after _ (ok_at path (codes "beside") _ c.in_ok-beside.beside c.in_ok-beside.ensures.ok) refl))
