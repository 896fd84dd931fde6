-- The vocabulary of this crate: its types, which code and definitions share, each with its variants. Variants whose names another type has
-- too are written behind their type.
pub use Rattle.protocol.specs.declared.answers.Answer.{Answer}
pub use Rattle.protocol.specs.declared.answers.Answer.TheVariants.{Done, Code, Value, NoValue, Xids, Stands, Refused}
pub use Rattle.protocol.specs.declared.decisions.Address.{Address}
pub use Rattle.protocol.specs.declared.decisions.Address.TheVariants.{Node, Acceptors, Leaders, Managers}
pub use Rattle.protocol.specs.declared.decisions.Outgoing.{Outgoing}
pub use Rattle.protocol.specs.declared.decisions.Decision.{Decision}
pub use Rattle.protocol.specs.declared.events.Event.{Event}
pub use Rattle.protocol.specs.declared.events.Event.TheVariants.{Ask, Deliver, Lose, Cut, Noise, Tear, Restart, Compact}
pub use Rattle.protocol.specs.declared.events.Event.TheVariants.{Raise, Hear, Replace}
pub use Rattle.protocol.specs.declared.events.Change.{Change}
pub use Rattle.protocol.specs.declared.events.Sent.{Sent}
pub use Rattle.protocol.specs.declared.events.Step.{Step}
pub use Rattle.protocol.specs.declared.nodes.NodeId.{NodeId}
pub use Rattle.protocol.specs.declared.nodes.NodeId.TheVariants.{A, L, R}
pub use Rattle.protocol.specs.declared.requests.Action.{Action}
pub use Rattle.protocol.specs.declared.requests.Action.TheVariants.{Start, Put, Del, Get, End, EndFail, Rollback}
pub use Rattle.protocol.specs.declared.requests.Request.{Request}
pub use Rattle.protocol.specs.declared.requests.Request.TheVariants.{Call, Recover, Timeout}
pub use Rattle.protocol.specs.declared.rows.Row.{Row}
pub use Rattle.protocol.specs.declared.states.BranchState.{BranchState}
pub use Rattle.protocol.specs.declared.states.Standing.{Standing}
pub use Rattle.protocol.specs.declared.states.Status.{Status}
pub use Rattle.protocol.specs.declared.states.View.{View}
