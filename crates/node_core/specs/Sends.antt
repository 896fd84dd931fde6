-- What a node sends, as the machine has it.
use Rattle.std.specs.Prelude.{◌≡◌, ℕ, ◌<◌, ◌≤◌, ◌+◌, length, List, [], ◌∷◌, slice_index_or, take, Option, Some, None, Result, Ok, Err}
use Rattle.wire.specs.declared.message.Kind.{Kind}
use Rattle.wire.specs.declared.grammar.TheConstants.{MAX_MESSAGE_BYTES}
use Rattle.wire.specs.Grammar.{Spells}
use Rattle.protocol.specs.declared.decisions.Address.{Address}
use Rattle.xid.specs.declared.refusals.Refusal.{Refusal}
use Rattle.stable_record.specs.declared.fact.FactKind.{FactKind as Fact}
use Rattle.protocol.specs.declared.answers.Answer.{Answer}
use Rattle.protocol.specs.declared.decisions.Outgoing.{Outgoing}
use Rattle.leader.specs.declared.decision.LeaderDecision.{LeaderDecision}

-- what a leader decided, whose parts stand apart; or a refusal
abbrev pub led : Answer → Option Fact → List Outgoing → Result (Unit {0}) Refusal → Result LeaderDecision Refusal
led answer fact sends (Ok done) = Ok (record { answer = answer; fact = fact; sends = sends })
led answer fact sends (Err refusal) = Err refusal

-- a message and whom it is for, if there is one
abbrev pub addressed : Address → Option Kind → List Outgoing
addressed to None = []
addressed to (Some message) = record { to = to; message = message } ∷ []

-- so many bytes are none, or spell a message
pub record IsReplied (len : ℕ) (bytes : List ℕ) : Type 0 where
  pub few : len ≤ MAX_MESSAGE_BYTES
  pub spells : 0 < len → (message : Kind) × Spells message (take len bytes)

-- the messages that are sent stand in one place: an acceptor's reply or a resource manager's vote on a message, the vote that it sends
-- again, what it asks, or a leader's
pub record AreSends (replied reminded question led : List Outgoing) : Type 0 where
  pub by_leader : 0 < length led → length reminded + length question ≡ 0
  pub by_reply : 0 < length replied → length reminded + length question + length led ≡ 0

-- bytes spell the message of a place, which is for these
pub record IsSpelledAt (sends : List Outgoing) (i : ℕ) (to : Address) (bytes : List ℕ) : Type 0 where
  pub message : Kind
  pub spells : Spells message bytes
  pub there : record { to = to; message = message } ≡ slice_index_or sends i (record { to = to; message = message })
