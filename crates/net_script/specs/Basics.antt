-- The words of the system that scripts and traces print, and the values that scripts and traces are. Variants whose names another type has
-- too are written behind their type.
pub use Rattle.xid.specs.Names.{XidParts, IsBytes, IsXid}
pub use Rattle.xid.specs.Transactions.{TxParts, IsTx, tx_text}
pub use Rattle.xid.specs.Text.{hex_text, xid_text}
pub use Rattle.xid.specs.Places.{Place}
pub use Rattle.xid.specs.Codes.{code_number}
pub use Rattle.xid.specs.declared.codes.XaCode.{XaCode}
pub use Rattle.xid.specs.Refusals.{number_of}
pub use Rattle.xid.specs.declared.refusals.Refusal.{Refusal}
pub use Rattle.xid.specs.declared.refusals.Refusal.TheVariants.{NoMemory, BadScript, BadConfig}
pub use Rattle.xid.specs.declared.transaction.Vote.{Vote}
pub use Rattle.wire.specs.Messages.{message_tx, IsMessage}
pub use Rattle.wire.specs.declared.message.Kind.{Kind}
pub use Rattle.wire.specs.declared.message.Kind.TheVariants.{Prepare, P1a, P1b, P2a, P2b, Commit, Abort, B1a, B1b, B2b}
pub use Rattle.wire.specs.declared.items.InstanceReport.{InstanceReport}
pub use Rattle.wire.specs.declared.items.InstanceAccept.{InstanceAccept}
pub use Rattle.protocol.specs.declared.answers.Answer.{Answer}
pub use Rattle.protocol.specs.declared.answers.Answer.TheVariants.{Done, Code, Value, NoValue, Xids, Stands, Refused}
pub use Rattle.protocol.specs.declared.events.Event.{Event}
pub use Rattle.protocol.specs.declared.events.Event.TheVariants.{Ask, Deliver, Lose, Cut, Noise, Tear, Restart, Compact}
pub use Rattle.protocol.specs.declared.events.Event.TheVariants.{Raise, Hear, Replace}
pub use Rattle.protocol.specs.declared.events.Change.{Change}
pub use Rattle.protocol.specs.declared.events.Sent.{Sent}
pub use Rattle.protocol.specs.declared.events.Told.{Told}
pub use Rattle.protocol.specs.declared.events.Step.{Step}
pub use Rattle.protocol.specs.declared.nodes.NodeId.{NodeId}
pub use Rattle.protocol.specs.declared.nodes.NodeId.TheVariants.{A, L, R}
pub use Rattle.protocol.specs.declared.requests.Action.{Action}
pub use Rattle.protocol.specs.declared.requests.Action.TheVariants.{Start, Put, Del, Get, End, EndFail, Rollback}
pub use Rattle.protocol.specs.declared.requests.Request.{Request}
pub use Rattle.protocol.specs.declared.requests.Request.TheVariants.{Call, Recover, Timeout}
pub use Rattle.protocol.specs.declared.rows.Row.{Row}
pub use Rattle.protocol.specs.declared.states.Standing.{Standing}
pub use Rattle.protocol.specs.declared.states.View.{View}
pub use Rattle.net_script.specs.declared.values.Sizes.{Sizes}
pub use Rattle.net_script.specs.declared.values.Table.{Table}
pub use Rattle.net_script.specs.declared.values.Command.{Command}
pub use Rattle.net_script.specs.declared.values.Command.TheVariants.{Do, Flow}
pub use Rattle.net_script.specs.declared.values.Script.{Script}
pub use Rattle.net_script.specs.declared.values.Entry.{Entry}
pub use Rattle.net_script.specs.declared.values.Trace.{Trace}
pub use Rattle.net_script.specs.declared.items.Item.{Item}
pub use Rattle.net_script.specs.declared.trace_lines.TraceLine.{TraceLine}
pub use Rattle.net_script.specs.declared.so_far.LastEntry.{LastEntry}
pub use Rattle.net_script.specs.declared.so_far.SoFar.{SoFar}
pub use Rattle.net_script.specs.declared.stop.Stop.{Stop}
pub use Rattle.net_script.specs.declared.stop.Stop.TheVariants.{Wrong, Memory}
