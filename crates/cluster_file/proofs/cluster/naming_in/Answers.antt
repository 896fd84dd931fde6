use Rattle.std.proofs.Common.{ℕ, List, codes, refl, rules}
use Rattle.cluster_file.specs.ClusterAt.{naming_in}
use Rattle.cluster_file.proofs.Refusals.{handed_on, ok_after, ok_at, refused_after, refused_bind}
use Rattle.cluster_file.proofs.cluster.naming_in.Goals as goal

pub returns-in_err-check_keys-clause-err : goal.returns-in_err-check_keys-clause-err
unfolding naming_in
returns-in_err-check_keys-clause-err c =
    handed_on _ c.from_residual.result c.in_err-check_keys.field-0.0 (search rules) (refused_bind _ c.in_err-check_keys.ensures.err)

pub returns-in_err-timed-clause-err : goal.returns-in_err-timed-clause-err
unfolding naming_in
returns-in_err-timed-clause-err c =
    handed_on _ c.from_residual-in_err-timed.result c.in_err-timed.field-0.0 (search rules)
    (refused_after _ c.in_ok-check_keys.ensures.ok (refused_bind _ c.in_err-timed.ensures.err))

pub returns-in_err-format-clause-err : goal.returns-in_err-format-clause-err
unfolding naming_in
returns-in_err-format-clause-err c =
    let path : List ℕ = codes "names." in
    handed_on _ c.from_residual-in_err-format.result c.in_err-format.field-0.0 (search rules)
    (refused_after _ c.in_ok-check_keys.ensures.ok
    (refused_after _ (ok_at path (codes "timed") _ c.in_ok-timed.timed c.in_ok-timed.ensures.ok)
    (refused_bind _ c.in_err-format.ensures.err)))

pub returns-in_err-keep-clause-err : goal.returns-in_err-keep-clause-err
unfolding naming_in
returns-in_err-keep-clause-err c =
    let path : List ℕ = codes "names." in
    handed_on _ c.from_residual-in_err-keep.result c.in_err-keep.field-0.0 (search rules)
    (refused_after _ c.in_ok-check_keys.ensures.ok
    (refused_after _ (ok_at path (codes "timed") _ c.in_ok-timed.timed c.in_ok-timed.ensures.ok)
    (refused_after _ (ok_at path (codes "format") _ c.in_ok-format.format c.in_ok-format.ensures.ok)
    (refused_bind _ c.in_err-keep.ensures.err))))

pub returns-in_err-ahead-clause-err : goal.returns-in_err-ahead-clause-err
unfolding naming_in
returns-in_err-ahead-clause-err c =
    let path : List ℕ = codes "names." in
    handed_on _ c.from_residual-in_err-ahead.result c.in_err-ahead.field-0.0 (search rules)
    (refused_after _ c.in_ok-check_keys.ensures.ok
    (refused_after _ (ok_at path (codes "timed") _ c.in_ok-timed.timed c.in_ok-timed.ensures.ok)
    (refused_after _ (ok_at path (codes "format") _ c.in_ok-format.format c.in_ok-format.ensures.ok)
    (refused_after _ (ok_at path (codes "keep") _ c.in_ok-keep.keep c.in_ok-keep.ensures.ok) (refused_bind _ c.in_err-ahead.ensures.err)))))

pub returns-clause-ok : goal.returns-clause-ok
unfolding naming_in
returns-clause-ok c =
    let path : List ℕ = codes "names." in
    ok_after _ c.in_ok-check_keys.ensures.ok
    (ok_after _ (ok_at path (codes "timed") _ c.in_ok-timed.timed c.in_ok-timed.ensures.ok)
    (ok_after _ (ok_at path (codes "format") _ c.in_ok-format.format c.in_ok-format.ensures.ok)
    (ok_after _ (ok_at path (codes "keep") _ c.in_ok-keep.keep c.in_ok-keep.ensures.ok)
    (ok_after _ (ok_at path (codes "ahead") _ c.in_ok-ahead.ahead c.in_ok-ahead.ensures.ok) refl))))
