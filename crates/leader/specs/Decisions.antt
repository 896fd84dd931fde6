-- How contracts see what a leader decides.
use Rattle.protocol.specs.declared.decisions.Decision.{Decision}
use Rattle.leader.specs.declared.decision.LeaderDecision.{LeaderDecision}

-- a decision as the machine has it
abbrev pub shown : LeaderDecision → Decision
shown decision = record { answer = decision.answer; fact = decision.fact; sends = decision.sends }
