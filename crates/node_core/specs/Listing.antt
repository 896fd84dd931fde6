-- The transactions that a node's record has prepared and not ended.
use Rattle.std.specs.Prelude.{◌≡◌, List, Option, None, Result, Ok, Err}
use Rattle.xid.specs.Transactions.{TxParts}
use Rattle.xid.specs.declared.refusals.Refusal.{Refusal}
use Rattle.stable_record.specs.declared.fact.FactKind.{FactKind as Fact}
use Rattle.protocol.specs.declared.nodes.NodeId.{NodeId}
use Rattle.protocol.specs.declared.nodes.NodeId.TheVariants.{R}
use Rattle.resource_manager.specs.Open.{open_in}
use Rattle.node_core.specs.declared.role.Role.{Role}

-- the open transactions are those of a resource manager's facts; no other kind of node has any
abbrev pub SaysOpen : NodeId → List Fact → Result (List TxParts) Refusal → Type 0
SaysOpen (R rm) facts (Ok txs) = txs ≡ open_in facts
SaysOpen (R rm) facts (Err refusal) = refusal ≡ Refusal.NoMemory
SaysOpen who facts result = result ≡ Err Refusal.NoSuch

-- what a node answers that is asked for them: where it is a resource manager that is down, that
abbrev pub ListsOpen : NodeId → List Fact → Option Role → Result (List TxParts) Refusal → Type 0
ListsOpen (R rm) facts None result = result ≡ Err Refusal.Down
ListsOpen who facts role result = SaysOpen who facts result
