use Rattle.std.proofs.Common.{◌≡◌, List, map, length, take, true}
use Rattle.std.specs.Prelude.{is_some}
use Rattle.protocol.specs.declared.rows.Row.{Row}
use Rattle.protocol.specs.Effects.{Config}
use Rattle.protocol.specs.Nodes.{NodeState}
use Rattle.node_core.specs.Nodes.{AreSizes, Stands, input_of}
use Rattle.node_core.proofs.Walked.{Reaches}
use Rattle.node_core.proofs.grouping.store_one_by_one.Given as goal

abbrev pub invariant-loop-i : goal.invariant-loop-i
invariant-loop-i g l = record {
  len : length l.outs ≡ length l.inputs;
  armed : is_some (g.R.Record.held l.device).armed ≡ true;
  reaches : (config : Config) (own : List Row) (m : NodeState) → AreSizes config l.sizes
      → Stands config l.who own (g.R.Record.held l.initial.device) l.initial.role m
      → Reaches config l.who own (record { state = m; held = g.R.Record.held l.initial.device; role = l.initial.role })
      (map input_of (take l.i l.inputs)) (take l.i l.outs) l.role (g.R.Record.held l.device);
}
