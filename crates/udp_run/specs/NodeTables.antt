-- What the tables of resource managers hold.
use Rattle.std.specs.Prelude.{◌≡◌, ◌⊎◌, ℕ, ◌<◌, true, false, List, [], ◌∷◌, ◌++◌, length, take, slice_index_or, Option, Some, None, Ok, Err}
use Rattle.std.specs.List.{AllZip, filter}
use Rattle.xid.specs.declared.refusals.Refusal.TheVariants.{RecordFault}
use Rattle.stable_record.specs.Held.{Held}
use Rattle.protocol.specs.declared.rows.Row.{Row}
use Rattle.protocol.specs.Effects.{Config}
use Rattle.protocol.specs.Nodes.{NodeState}
use Rattle.node_core.specs.Viewing.{SaysTable, IsUnread}
use Rattle.floors.specs.Worlds.{is_manager}
use Rattle.floored.specs.Nodes.{FlooredStands}
use Rattle.port.specs.Members.{MemberParts}

-- rows are the table of a node's facts, whatever node of the machine it stands for
pub record IsTableOf (node : MemberParts) (rows : List Row) : Type 0 where
  pub says : (config : Config) (m : NodeState) → FlooredStands config node.floored m
      → SaysTable config node.floored.node.who m.facts (Ok rows)

-- a resource manager has a table, and no other node
abbrev pub HasTable : MemberParts → Option (List Row) → Type 0
HasTable node None = is_manager node.floored.node.who ≡ false
HasTable node (Some rows) = (is_manager node.floored.node.who ≡ true) × IsTableOf node rows

-- a resource manager's table was put after others
pub record PutsTable (node : MemberParts) (old new : List (List Row)) : Type 0 where
  pub manages : is_manager node.floored.node.who ≡ true
  pub rows : List Row
  pub is : IsTableOf node rows
  pub put : new ≡ old ++ rows ∷ []

-- the table of a node was put after others, if it is a resource manager
abbrev pub ShowsTable : MemberParts → (old new : List (List Row)) → Type 0
ShowsTable node old new = ((is_manager node.floored.node.who ≡ false) × (new ≡ old)) ⊎ PutsTable node old new

-- the tables of the resource managers among nodes, in order
abbrev pub AreTablesOf : List MemberParts → List (List Row) → Type 0
AreTablesOf nodes tables = AllZip IsTableOf (filter (λ node. is_manager node.floored.node.who) nodes) tables

-- a resource manager that is down wasn't read for its table: its record failed
pub record IsUnshown (node : MemberParts) : Type 0 where
  pub manages : is_manager node.floored.node.who ≡ true
  pub left : Held
  pub unread : IsUnread {X = List Row} node.floored.node.held left node.floored.node.role (Err RecordFault)

-- among nodes, that of one place wasn't; those before it were
pub record StopsAtTable (nodes : List MemberParts) : Type 0 where
  pub at : ℕ
  pub node : MemberParts
  pub within : at < length nodes
  pub node_is : node ≡ slice_index_or nodes at node
  pub shown : List (List Row)
  pub before : AreTablesOf (take at nodes) shown
  pub unshown : IsUnshown node
