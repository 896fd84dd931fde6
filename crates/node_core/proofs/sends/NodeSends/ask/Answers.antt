use Rattle.node_core.proofs.Deciding.{asked_apart}
use Rattle.node_core.proofs.sends.NodeSends.ask.Goals as goal

pub returns-clause-ok : goal.returns-clause-ok
returns-clause-ok c =
    asked_apart _ _ _ c.lead.new.decision c.replace.result c.take_fact.new.to c.clear.new.self c.clear-2.new.self c.clear-3.new.self
    c.replace.ensures.value c.take_fact.ensures c.clear.ensures c.clear-2.ensures c.clear-3.ensures c.in_ok-lead.ensures.ok
