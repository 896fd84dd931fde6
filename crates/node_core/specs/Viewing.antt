-- What a node's record says, whether the node is up or down.
use Rattle.std.specs.Prelude.{◌≡◌, ◌⊎◌, ℕ, Bool, false, List, [], Option, Some, None, Result, Ok, Err}
use Rattle.std.specs.List.{list_all}
use Rattle.xid.specs.Places.{Place, is_below}
use Rattle.xid.specs.Transactions.{TxParts}
use Rattle.xid.specs.declared.refusals.Refusal.{Refusal}
use Rattle.stable_record.specs.declared.fact.FactKind.{FactKind as Fact}
use Rattle.stable_record.specs.Facts.{fact_tx}
use Rattle.stable_record.specs.Held.{Held, HasFailed}
use Rattle.protocol.specs.declared.nodes.NodeId.{NodeId}
use Rattle.protocol.specs.declared.nodes.NodeId.TheVariants.{R}
use Rattle.protocol.specs.declared.rows.Row.{Row}
use Rattle.protocol.specs.declared.states.View.{View}
use Rattle.protocol.specs.Effects.{Config}
use Rattle.protocol.specs.Managers.{on_view_call, stored_votes}
use Rattle.protocol.specs.Nodes.{NodeState, Memory, empty_memory, first_rows}
use Rattle.protocol.specs.Tables.{table}
use Rattle.resource_manager.specs.Managers.{view_answer}
use Rattle.node_core.specs.declared.role.Role.{Role}
use Rattle.node_core.specs.Roles.{RoleStands}
use Rattle.node_core.specs.Nodes.{Kept, Holds, begun, NodeParts, IsSameNode, Stands}
use Rattle.node_core.specs.Opening.{IsBad}

-- a record was read and played, and is as it was
pub record IsPeeked (config : Config) (who : NodeId) (own : List Row) (old new : Held) (role : Role) : Type 0 where
  pub kept : Kept
  pub tail : List ℕ
  pub held : Holds config who old.bytes kept tail
  pub same : new ≡ old
  pub stands : RoleStands (begun config who own kept.rows) who role kept.facts empty_memory

-- what reading a record leaves that is to stay as it is: where it fails, its content stays too
abbrev pub Peeks : Config → NodeId → (own : List Row) → (old new : Held) → Result Role Refusal → Type 0
Peeks config who own old new (Ok role) = IsPeeked config who own old new role
Peeks config who own old new (Err Refusal.Damaged) = (new ≡ old) × IsBad config who old.bytes
Peeks config who own old new (Err Refusal.RecordFault) = HasFailed old.bytes old new
Peeks config who own old new (Err Refusal.NoMemory) = new ≡ old
Peeks config who own old new (Err other) = ⊥

-- a view is what a resource manager of the machine answers, by the facts
abbrev pub SaysView : Config → NodeId → List Fact → TxParts → Result View Refusal → Type 0
SaysView config (R rm) facts tx result = view_answer result ≡ (on_view_call config rm (stored_votes rm facts) [] tx).answer
SaysView config who facts tx result = result ≡ Err Refusal.NoSuch

-- a table is the one that the facts give
abbrev pub SaysRows : Config → ℕ → List Fact → Result (List Row) Refusal → Type 0
SaysRows config rm facts (Ok rows) = rows ≡ table (first_rows config rm) facts
SaysRows config rm facts (Err refusal) = refusal ≡ Refusal.NoMemory

-- a table is that of a resource manager's facts; no other kind of node has one
abbrev pub SaysTable : Config → NodeId → List Fact → Result (List Row) Refusal → Type 0
SaysTable config (R rm) facts result = SaysRows config rm facts result
SaysTable config who facts result = result ≡ Err Refusal.NoSuch

-- whether an acceptor or a leader has stored nothing about a name at or above a place; of a resource manager it isn't asked
abbrev pub is_unused_above : NodeId → Place → List Fact → Bool
is_unused_above (R rm) place facts = false
is_unused_above who place facts = list_all (λ fact. is_below (Some place) (fact_tx fact)) facts

-- a role says so, for whatever it stands for
abbrev pub TellsUnused : Place → Role → Bool → Type 0
TellsUnused place role unused =
    (config : Config) (who : NodeId) (facts : List Fact) (memory : Memory) → RoleStands config who role facts memory
    → unused ≡ is_unused_above who place facts

-- the record of a node that is down couldn't be read: it failed, which it counted, or memory ran out; its content stays
abbrev pub IsUnread : {X : Type 0} → (old new : Held) → Option Role → Result X Refusal → Type 0
IsUnread old new role result =
    (role ≡ None) × (((result ≡ Err Refusal.RecordFault) × HasFailed old.bytes old new)
    ⊎ ((result ≡ Err Refusal.NoMemory) × (new ≡ old)))

-- a node was asked where it stands in a transaction: it stays what it is
pub record Views (config : Config) (who : NodeId) (own : List Row) (m : NodeState) (old new : Held) (role : Option Role) (tx : TxParts)
    (result : Result View Refusal) : Type 0 where
  pub stands : Stands config who own new role m
  pub says : ((new ≡ old) × SaysView config who m.facts tx result) ⊎ IsUnread old new role result

-- a node was asked for its table: it stays what it is
pub record Tables (config : Config) (who : NodeId) (own : List Row) (m : NodeState) (old new : Held) (role : Option Role)
    (result : Result (List Row) Refusal) : Type 0 where
  pub stands : Stands config who own new role m
  pub says : ((new ≡ old) × SaysTable config who m.facts result) ⊎ IsUnread old new role result

-- a node was asked whether it has stored nothing at or above a place: it stays what it is
pub record AsksUnused (config : Config) (who : NodeId) (own : List Row) (m : NodeState) (old new : Held) (role : Option Role)
    (place : Place) (result : Result Bool Refusal) : Type 0 where
  pub stands : Stands config who own new role m
  pub says : ((new ≡ old) × (result ≡ Ok (is_unused_above who place m.facts))) ⊎ IsUnread old new role result

-- the same of a whole node
pub record ViewsAs (config : Config) (m : NodeState) (old new : NodeParts) (tx : TxParts) (result : Result View Refusal) : Type 0 where
  pub same : IsSameNode old new
  pub role_is : new.role ≡ old.role
  pub views : Views config old.who old.rows m old.held new.held old.role tx result

-- the same of a whole node, asked for its table
pub record TablesAs (config : Config) (m : NodeState) (old new : NodeParts) (result : Result (List Row) Refusal) : Type 0 where
  pub same : IsSameNode old new
  pub role_is : new.role ≡ old.role
  pub tables : Tables config old.who old.rows m old.held new.held old.role result

-- the same of a whole node, asked whether it has stored nothing at or above a place
pub record AsksUnusedAs (config : Config) (m : NodeState) (old new : NodeParts) (place : Place) (result : Result Bool Refusal) : Type 0
  where
    pub same : IsSameNode old new
    pub role_is : new.role ≡ old.role
    pub asks : AsksUnused config old.who old.rows m old.held new.held old.role place result
