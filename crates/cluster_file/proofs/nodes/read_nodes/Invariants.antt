use Rattle.std.proofs.Common.{◌≡◌, ◌+◌, length, drop}
use Rattle.std.specs.Prelude.{All}
use Rattle.toml.specs.View.{items_view}
use Rattle.cluster_file.specs.Clusters.{IsShut}
use Rattle.cluster_file.specs.Nodes.{nodes_from}
use Rattle.cluster_file.proofs.NodeLemmas.{ReadSoFar}
use Rattle.cluster_file.proofs.nodes.read_nodes.Given as goal

-- a place more for each node so far, and the nodes that are left
abbrev pub invariant-loop-index : goal.invariant-loop-index
invariant-loop-index l = record {
  count : length l.places.items ≡ length l.fn.places.items + l.index;
  shut : All (IsShut l.keyed.nodes l.keyed.clients) l.fn.places.items → All (IsShut l.keyed.nodes l.keyed.clients) l.places.items;
  read : ReadSoFar
      (nodes_from l.kind l.keyed.nodes l.keyed.clients 0 (items_view l.nodes.items))
      (nodes_from l.kind l.keyed.nodes l.keyed.clients l.index (items_view (drop l.index l.nodes.items)))
      l.fn.places.items l.places.items l.fn.tables.items l.tables.items l.index;
}
