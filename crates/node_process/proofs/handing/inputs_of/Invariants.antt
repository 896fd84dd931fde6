use Rattle.std.proofs.Common.{◌≡◌, map, take}
use Rattle.node_process.specs.Handing.{given_of, handed_of}
use Rattle.node_process.proofs.handing.inputs_of.Given as goal

-- what the items so far give to the node
abbrev pub invariant-loop-item : goal.invariant-loop-item
invariant-loop-item l = map given_of l.inputs.items ≡ handed_of (take l.item-index l.items)
