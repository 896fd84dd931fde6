use Rattle.std.proofs.Common.{◌∙◌, ◌<◌, [], ◌∷◌, ◌++◌, length, ap, arith}
use Rattle.xid.specs.Transactions.{participants}
use Rattle.safety.specs.Vocabulary.{View}
use Rattle.audit.proofs.ListLemmas.{participants_many, working_more}
use Rattle.audit.proofs.views.Course.working.Goals as goal

pub loop-place-preserved : goal.loop-place-preserved
loop-place-preserved c =
    let tx = c.args.tx.now in
    let many = participants_many tx in
    let lt : c.loop-place._place < length (participants tx) =
    omega (arith, many, c.loop-place-test.true, c.count-place-end.ensures.value) in
    c.in_ok-push.ensures.items ∙ ap (λ vs. vs ++ View.Working ∷ []) c.loop-place.invariant
    ∙ working_more (participants tx) c.loop-place._place lt
