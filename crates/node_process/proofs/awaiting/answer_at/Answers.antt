use Rattle.std.proofs.Common.{sym, refl, inl}
use Rattle.std.proofs.lemmas.Result.{on_ok_weaker}
use Rattle.node_process.proofs.AwaitLemmas.{hears_one}
use Rattle.node_process.proofs.awaiting.answer_at.Goals as goal

pub returns-in-Some-clause-hears : goal.returns-in-Some-clause-hears
returns-in-Some-clause-hears g c =
    on_ok_weaker c.answer_await.result (λ asks. hears_one c.args.now c.args.node.now c.answer_await.new.node c.args.key
    c.args.clients.now.seats c.in-Some.client.now c.answer_await.new.client (sym c.in-Some.ensures.value) asks) c.answer_await.ensures

pub returns-in-None-clause-hears : goal.returns-in-None-clause-hears
returns-in-None-clause-hears g c = inl (refl, λ key. refl)
