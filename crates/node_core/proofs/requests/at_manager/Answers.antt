use Rattle.node_core.proofs.Deciding.{asked_so, call_decides}
use Rattle.node_core.proofs.requests.at_manager.Goals as goal

pub returns-in_ok-call-in-Call-clause-ok : goal.returns-in_ok-call-in-Call-clause-ok
returns-in_ok-call-in-Call-clause-ok c =
    asked_so _ _ _ _ _ _ c.take_answer.ensures c.in-Call.is
    (call_decides c.args.manager.now c.call.new.manager c.in-Call.xid c.in-Call.action c.in_ok-call-in-Call.field-0
    (λ config number. c.in_ok-call-in-Call.ensures.ok config number))
