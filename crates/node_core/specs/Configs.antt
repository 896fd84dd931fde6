-- The clusters that there may be, and their nodes.
use Rattle.std.specs.Prelude.{ℕ, Bool, true, false, ◌&&◌, ◌||◌, ◌==◌, nat_lt, nat_le, List, length}
use Rattle.std.specs.List.{list_all}
use Rattle.xid.specs.Limits.{most_leaders, most_managers}
use Rattle.branch_table.specs.TableStates.{are_rows}
use Rattle.protocol.specs.declared.nodes.NodeId.{NodeId}
use Rattle.protocol.specs.declared.nodes.NodeId.TheVariants.{A, L, R}
use Rattle.protocol.specs.declared.rows.Row.{Row}
use Rattle.protocol.specs.Effects.{Config}
use Rattle.node_core.specs.declared.config.Sizes.{Sizes}

-- a cluster of these sizes and tables
abbrev pub config_by : Sizes → List (List Row) → Config
config_by sizes tables = record {
  acceptors = sizes.acceptors;
  leaders = sizes.leaders;
  managers = sizes.managers;
  bundled = sizes.bundled;
  tables = tables;
}

-- one that isn't bundled
abbrev pub config_of : (acceptors leaders managers : ℕ) → List (List Row) → Config
config_of acceptors leaders managers tables =
    record { acceptors = acceptors; leaders = leaders; managers = managers; bundled = false; tables = tables }

-- the same cluster, bundled
abbrev pub bundled_config : Config → Config
bundled_config config = record config { bundled = true }

-- there may be so many nodes of each kind
abbrev pub are_sizes : (acceptors leaders managers : ℕ) → Bool
are_sizes acceptors leaders managers =
    (acceptors == 1 || acceptors == 3 || acceptors == 5 || acceptors == 7) && (nat_lt 0 leaders && nat_le leaders most_leaders)
    && (nat_lt 0 managers && nat_le managers most_managers)

-- a cluster is within the limits, and has a table for each resource manager
abbrev pub is_config : Config → Bool
is_config config =
    are_sizes config.acceptors config.leaders config.managers && (length config.tables == config.managers)
    && list_all are_rows config.tables

-- whether a node is one of a cluster
abbrev pub is_among : Config → NodeId → Bool
is_among config (A a) = nat_lt a config.acceptors
is_among config (L l) = nat_lt l config.leaders
is_among config (R rm) = nat_lt rm config.managers
