-- Where nodes stand in a cluster.
use Rattle.std.specs.Prelude.{ℕ, ◌+◌, ◌-◌, nat_lt, if◌then◌else◌, Option, Some, None}
use Rattle.protocol.specs.declared.nodes.NodeId.{NodeId}
use Rattle.protocol.specs.declared.nodes.NodeId.TheVariants.{A, L, R}
use Rattle.protocol.specs.Effects.{Config}
use Rattle.node_core.specs.declared.config.Sizes.{Sizes}

-- how many nodes a cluster has
abbrev pub node_count : Sizes → ℕ
node_count sizes = sizes.acceptors + sizes.leaders + sizes.managers

-- the place of a number below a bound, after so many others
abbrev pub placed_after : (number bound before : ℕ) → Option ℕ
placed_after number bound before = if nat_lt number bound then Some (before + number) else None

-- the node in a place: acceptors come first, then leaders, then resource managers
abbrev pub node_in : Config → ℕ → NodeId
node_in config at =
    if nat_lt at config.acceptors then A at
    else if nat_lt at (config.acceptors + config.leaders) then L (at - config.acceptors)
    else R (at - config.acceptors - config.leaders)
