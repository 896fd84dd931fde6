use Rattle.std.proofs.Common.{◌≡◌, length}
use Rattle.node_core.specs.declared.config.Sizes.{Sizes}
use Rattle.udp_run.specs.Sites.{site_of}
use Rattle.udp_run.specs.Commands.{Joins, ServesFirst}
use Rattle.udp_run.proofs.rounds.serve_each.Given as goal

-- the first so many nodes were served
abbrev pub invariant-loop-at : goal.invariant-loop-at
invariant-loop-at g l = record {
  joins : (sizes : Sizes) (noise : g.row.P.Denot) → Joins (ServesFirst g.P.Port.received g.P.Port.sent l.at)
      (site_of sizes l.fn.nodes.items l.fn.ports.items noise) (site_of sizes l.nodes.items l.ports.items noise)
      l.fn.entries.items l.entries.items;
  nodes : length l.nodes.items ≡ length l.fn.nodes.items;
  ports : length l.ports.items ≡ length l.fn.ports.items;
}
