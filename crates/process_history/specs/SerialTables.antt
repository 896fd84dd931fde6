-- The tables that the processes of a cluster answer, and one order of transactions.
use Rattle.std.specs.Prelude.{◌≡◌, ℕ, true, List, Ok}
use Rattle.protocol.specs.declared.nodes.NodeId.{NodeId}
use Rattle.protocol.specs.declared.nodes.NodeId.TheVariants.{R}
use Rattle.protocol.specs.declared.rows.Row.{Row}
use Rattle.protocol.specs.Effects.{Config}
use Rattle.protocol.specs.Nodes.{first_rows}
use Rattle.node_core.specs.Configs.{is_among}
use Rattle.history.specs.SerialOrder.{committed_at, serial_table}
use Rattle.floors.specs.Worlds.{FlooredWorld}
use Rattle.floors.specs.Runs.{IsFlooredReachable}
use Rattle.floored_history.specs.Histories.{floored_history}
use Rattle.port.specs.Members.{MemberParts}
use Rattle.floored_groups.specs.Clusters.{AllProcesses}
use Rattle.floored_groups.specs.Processes.{AnswersTable, StandsIn}

-- events with floors, one at a time, lead to a world for which all processes stand, and each table that one of them answers is the serial
-- one of what it committed
pub record AreSerial (config : Config) (all : AllProcesses) : Type 0 where
  pub world : FlooredWorld
  pub reached : IsFlooredReachable config world
  pub stand : (who : NodeId) → is_among config who ≡ true → StandsIn config world who (all.members who)
  pub tables : (rm : ℕ) → is_among config (R rm) ≡ true → (new : MemberParts) (rows : List Row)
      → AnswersTable (all.members (R rm)) new (Ok rows)
      → rows
      ≡ serial_table (first_rows config rm) rm (floored_history config world reached)
      (committed_at rm (floored_history config world reached))
