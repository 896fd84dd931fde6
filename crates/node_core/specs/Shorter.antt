-- The entries of a node's shorter record, which its facts determine.
use Rattle.std.specs.Prelude.{List, map}
use Rattle.stable_record.specs.declared.entry.EntryKind.{EntryKind as Entry}
use Rattle.stable_record.specs.declared.entry.EntryKind.TheVariants as entries
use Rattle.stable_record.specs.declared.fact.FactKind.{FactKind as Fact}
use Rattle.protocol.specs.declared.nodes.NodeId.{NodeId}
use Rattle.protocol.specs.declared.nodes.NodeId.TheVariants.{A, L, R}
use Rattle.protocol.specs.Effects.{Config}
use Rattle.protocol.specs.Nodes.{first_rows}
use Rattle.protocol.specs.Tables.{table}
use Rattle.acceptor.specs.Compaction as of_acceptor
use Rattle.leader.specs.Compaction as of_leader
use Rattle.resource_manager.specs.Compacted.{shorter_entries}

-- the shorter record of a node's facts: an acceptor's slots or a leader's greatest ballots, by transaction in the order of the first facts,
-- or the table and outcomes of a resource manager
abbrev pub shorter_record : Config → NodeId → List Fact → List Entry
shorter_record config (A a) facts = map entries.Fact (of_acceptor.shorter_facts facts)
shorter_record config (L l) facts = map entries.Fact (of_leader.shorter_facts facts)
shorter_record config (R rm) facts = shorter_entries (table (first_rows config rm) facts) facts
