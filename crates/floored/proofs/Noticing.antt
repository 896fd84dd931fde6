-- Notices depend on the sizes of a cluster alone. Clusters and ports need it.
use Rattle.std.proofs.Common.{◌≡◌, ℕ, [], ◌++◌, map, Option, Some, None, refl, ap}
use Rattle.std.specs.List.{range_with_len}
use Rattle.xid.specs.Places.{Place}
use Rattle.protocol.specs.declared.nodes.NodeId.{NodeId}
use Rattle.protocol.specs.declared.nodes.NodeId.TheVariants.{A, L}
use Rattle.protocol.specs.Effects.{Config}
use Rattle.floors.specs.Worlds.{notices_of, told_nodes}
use Rattle.node_core.specs.declared.config.Sizes.{Sizes}
use Rattle.node_core.specs.Configs.{config_by}
use Rattle.node_core.specs.Nodes.{AreSizes}

told_nodes_as : (config : Config) (sizes : Sizes) → AreSizes config sizes → told_nodes (config_by sizes []) ≡ told_nodes config
told_nodes_as config sizes are =
    λ i. map A (range_with_len 0 (are.acceptors_are i)) ++ map L (range_with_len 0 (are.leaders_are i))

-- notices depend on the sizes of a cluster alone
pub notices_as : (config : Config) (sizes : Sizes) → AreSizes config sizes → (manager : ℕ) (floor : Option Place)
    → notices_of (config_by sizes []) manager floor ≡ notices_of config manager floor
notices_as config sizes are manager None = refl
notices_as config sizes are manager (Some place) =
    ap (map (λ (who : NodeId). record { manager = manager; receiver = who; place = place })) (told_nodes_as config sizes are)
