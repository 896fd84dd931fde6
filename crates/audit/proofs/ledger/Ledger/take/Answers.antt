use Rattle.audit.proofs.LedgerLemmas.{serve_taken, step_taken}
use Rattle.audit.proofs.ledger.Ledger.take.Goals as goal

pub returns-else-not-branch-clause-ok : goal.returns-else-not-branch-clause-ok
returns-else-not-branch-clause-ok c =
    step_taken c.take_change.result c.args.entry.now c.in-Step.step c.args.self.now c.take_event.new.self c.take_change.new.self
    c.in_ok-take_event-in-Step.field-0 c.in-Step.is c.if-not-branch.false c.in_ok-take_event-in-Step.ensures.ok c.take_change.ensures.ok

pub returns-in-Serve-clause-ok : goal.returns-in-Serve-clause-ok
returns-in-Serve-clause-ok c =
    serve_taken c.take_change-in-Serve.result c.args.entry.now c.in-Serve.node c.in-Serve.answer c.in-Serve.now c.in-Serve.sent
    c.args.self.now
    c.take_change-in-Serve.new.self c.in-Serve.is c.take_change-in-Serve.ensures.ok
