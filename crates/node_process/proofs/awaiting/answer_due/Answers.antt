use Rattle.std.proofs.Common.{refl, inl}
use Rattle.node_process.proofs.awaiting.answer_due.Goals as goal

pub returns-clause-hears : goal.returns-clause-hears
returns-clause-hears g c = inl (refl, λ key. refl)
