use Rattle.std.proofs.Common.{◌≡◌, map, take}
use Rattle.cluster_file.specs.declared.cluster.Place.{Place}
use Rattle.node_setup.proofs.setup.node_places.Given as goal

-- where the nodes so far are found
abbrev pub invariant-loop-place : goal.invariant-loop-place
invariant-loop-place l = l.found.items ≡ map (λ (place : Place). place.node) (take l.place-index l.place-items)
