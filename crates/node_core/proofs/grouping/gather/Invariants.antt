use Rattle.std.proofs.Common.{◌≡◌, List, map, length, take, None}
use Rattle.stable_record.specs.Held.{Held}
use Rattle.protocol.specs.declared.rows.Row.{Row}
use Rattle.protocol.specs.Effects.{Config}
use Rattle.protocol.specs.Nodes.{NodeState}
use Rattle.node_core.specs.Nodes.{AreSizes, Stands, input_of}
use Rattle.node_core.specs.Groups.{GathersOn}
use Rattle.stable_record.specs.Records.{mem_held}
use Rattle.node_core.proofs.grouping.gather.Given as goal

abbrev pub invariant-loop-i : goal.invariant-loop-i
invariant-loop-i l = record {
  len : length l.outs ≡ length l.inputs;
  gathers : (config : Config) (own : List Row) (m : NodeState) (held : Held) → held.armed ≡ None
      → (mem_held l.initial.frames).armed ≡ None → AreSizes config l.sizes → Stands config l.who own held l.initial.role m
      → GathersOn config l.who own (record { state = m; held = held; role = l.initial.role }) (map input_of (take l.i l.inputs))
      (take l.i l.outs) l.role (mem_held l.initial.frames) (mem_held l.frames);
}
