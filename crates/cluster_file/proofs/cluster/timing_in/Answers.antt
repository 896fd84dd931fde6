use Rattle.std.proofs.Common.{ℕ, List, codes, refl, rules}
use Rattle.cluster_file.specs.ClusterAt.{timing_in}
use Rattle.cluster_file.proofs.Refusals.{handed_on, ok_after, ok_at, refused_after, refused_bind}
use Rattle.cluster_file.proofs.cluster.timing_in.Goals as goal

pub returns-in_err-check_keys-clause-err : goal.returns-in_err-check_keys-clause-err
unfolding timing_in
returns-in_err-check_keys-clause-err c =
    handed_on _ c.from_residual.result c.in_err-check_keys.field-0.0 (search rules) (refused_bind _ c.in_err-check_keys.ensures.err)

pub returns-in_err-ask-clause-err : goal.returns-in_err-ask-clause-err
unfolding timing_in
returns-in_err-ask-clause-err c =
    handed_on _ c.from_residual-in_err-ask.result c.in_err-ask.field-0.0 (search rules)
    (refused_after _ c.in_ok-check_keys.ensures.ok (refused_bind _ c.in_err-ask.ensures.err))

pub returns-in_err-idle-clause-err : goal.returns-in_err-idle-clause-err
unfolding timing_in
returns-in_err-idle-clause-err c =
    let path : List ℕ = codes "time." in
    handed_on _ c.from_residual-in_err-idle.result c.in_err-idle.field-0.0 (search rules)
    (refused_after _ c.in_ok-check_keys.ensures.ok
    (refused_after _ (ok_at path (codes "ask") _ c.in_ok-ask.ask c.in_ok-ask.ensures.ok) (refused_bind _ c.in_err-idle.ensures.err)))

pub returns-clause-ok : goal.returns-clause-ok
unfolding timing_in
returns-clause-ok c =
    let path : List ℕ = codes "time." in
    ok_after _ c.in_ok-check_keys.ensures.ok
    (ok_after _ (ok_at path (codes "ask") _ c.in_ok-ask.ask c.in_ok-ask.ensures.ok)
    (ok_after _ (ok_at path (codes "idle") _ c.in_ok-idle.idle c.in_ok-idle.ensures.ok) refl))
