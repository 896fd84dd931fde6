-- What is decided on a message over the bytes of its transaction, as the machine has it.
use Rattle.std.specs.Prelude.{List, [], ◌∷◌, Option, Some, None}
use Rattle.protocol.specs.declared.answers.Answer.TheVariants.{Done}
use Rattle.protocol.specs.declared.decisions.Decision.{Decision}
use Rattle.protocol.specs.declared.decisions.MessageDecision.{MessageDecision}
use Rattle.protocol.specs.declared.decisions.Outgoing.{Outgoing}
use Rattle.protocol.specs.declared.decisions.SentReply.{SentReply}

-- the messages that are sent in reply: one, or none
abbrev pub sent_reply : Option SentReply → List Outgoing
sent_reply None = []
sent_reply (Some reply) = record { to = reply.to; message = reply.message } ∷ []

-- a decision as the machine has it
abbrev pub shown : MessageDecision → Decision
shown decision = record { answer = Done; fact = decision.fact; sends = sent_reply decision.reply }
