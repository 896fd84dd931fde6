-- What is left of a node where it forgets names below a floor.
use Rattle.std.specs.Prelude.{◌≡◌, if◌then◌else◌, List, [], map, Option}
use Rattle.std.specs.List.{list_any}
use Rattle.xid.specs.Places.{Place}
use Rattle.stable_record.specs.declared.fact.FactKind.{FactKind as Fact}
use Rattle.stable_record.specs.declared.fact.FactKind.TheVariants as stored
use Rattle.protocol.specs.declared.nodes.NodeId.{NodeId}
use Rattle.protocol.specs.declared.nodes.NodeId.TheVariants.{R}
use Rattle.protocol.specs.declared.rows.Row.{Row}
use Rattle.protocol.specs.Effects.{Config}
use Rattle.protocol.specs.Facts.{is_commit_of}
use Rattle.protocol.specs.Kept.{kept_facts, kept_memory}
use Rattle.protocol.specs.Nodes.{NodeState, first_rows}
use Rattle.protocol.specs.Tables.{table}

-- a fact as it is left among facts: a vote on a transaction that they have committed is left without its writes
abbrev pub without_writes : List Fact → Fact → Fact
without_writes facts (stored.VotePrepared tx keys) =
    stored.VotePrepared tx (if list_any (is_commit_of tx) facts then [] else keys)
without_writes facts fact = fact

-- those about names at or above a floor, and of these votes on transactions that are committed without their writes, which are in the rows
-- that the table begins with then
abbrev pub manager_left : Option Place → List Fact → List Fact
manager_left floor facts = map (without_writes facts) (kept_facts floor facts)

-- what is left of a node's facts: those about names at or above a floor, and of these a resource manager's votes on transactions that are
-- committed are left without their writes, which are in the rows that its table begins with then
abbrev pub left_facts : NodeId → Option Place → List Fact → List Fact
left_facts (R rm) floor facts = manager_left floor facts
left_facts who floor facts = kept_facts floor facts

-- what is left of a node
abbrev pub left_node : NodeId → Option Place → NodeState → NodeState
left_node who floor node = record node { facts = left_facts who floor node.facts; memory = kept_memory floor node.memory }

-- the rows of a node's table; only resource managers have one
abbrev pub rows_of : Config → NodeId → List Fact → List Row
rows_of config (R rm) facts = table (first_rows config rm) facts
rows_of config who facts = []

-- a resource manager's table begins with rows; that of no other node matters
abbrev pub HasFirstRows : Config → NodeId → List Row → Type 0
HasFirstRows config (R rm) rows = first_rows config rm ≡ rows
HasFirstRows config who rows = Unit {0}

-- clusters are alike to a node: they are the same; to a resource manager their tables may begin with other rows
abbrev pub AreAlike : NodeId → (from config : Config) → Type 0
AreAlike (R rm) from config = from ≡ record config { tables = from.tables }
AreAlike who from config = from ≡ config
