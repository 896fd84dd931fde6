use Rattle.std.proofs.Common.{◌∙◌}
use Rattle.safety.specs.Vocabulary.{Ask}
use Rattle.audit.proofs.BranchLemmas.{called_so}
use Rattle.audit.proofs.ledger.Ledger.take_event.Goals as goal

pub returns-clause-ok : goal.returns-clause-ok
returns-clause-ok c =
    called_so c.take_call.result c.args.self.now c.take_call.new.self c.args.event.now c.args.answer.now c.in-R.rm c.in-Call.xid
    c.in-Call.action
    (c.in-Ask.is ∙ (λ i. Ask (c.in-R.is i) (c.in-Call.is i))) c.take_call.ensures.ok c.take_call.ensures.rest
