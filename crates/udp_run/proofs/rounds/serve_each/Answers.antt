use Rattle.std.proofs.Common.{◌≡◌, ◌∙◌, ℕ, length, refl, subst, arith}
use Rattle.std.proofs.lemmas.List.{length-set}
use Rattle.udp_run.specs.Sites.{site_of}
use Rattle.udp_run.specs.Commands.{Joins, ServesFirst}
use Rattle.udp_run.proofs.Listing.{serves_none, serves_next}
use Rattle.udp_run.proofs.rounds.serve_each.Goals as goal

pub loop-at-init : goal.loop-at-init
loop-at-init g c = record {
  joins = λ sizes noise.
      serves_none g.P.Port.received g.P.Port.sent (site_of sizes c.args.nodes.now.items c.args.ports.now.items noise)
      c.args.entries.now.items;
  nodes = refl;
  ports = refl;
}

pub loop-at-preserved : goal.loop-at-preserved
loop-at-preserved g c = record {
  joins = λ sizes noise.
      serves_next g.P.Port.received g.P.Port.sent
      (site_of sizes c.args.nodes.now.items c.args.ports.now.items noise) sizes c.loop-at.nodes.items c.loop-at.ports.items noise
      c.loop-at.at c.index_mut-node.result.now c.serve.new.node c.index_mut-port.result.now c.serve.new.port c.args.entries.now.items
      c.loop-at.entries.items c.serve.new.entries.items (omega (arith, c.loop-at-test.true, c.loop-at.invariant.nodes))
      c.index_mut-node.ensures.value c.index_mut-port.ensures.value c.in_ok-serve.ensures.ok (c.loop-at.invariant.joins sizes noise);
  nodes = length-set c.loop-at.nodes.items c.loop-at.at c.serve.new.node ∙ c.loop-at.invariant.nodes;
  ports = length-set c.loop-at.ports.items c.loop-at.at c.serve.new.port ∙ c.loop-at.invariant.ports;
}

pub returns-clause-ok : goal.returns-clause-ok
returns-clause-ok g c =
    λ sizes noise.
    let all : c.loop-at.at ≡ length c.args.nodes.now.items =
    omega (arith, c.loop-at-test.false, c.len-at-end.ensures, c.loop-at.auto.at-end) in
    subst (λ (k : ℕ). Joins (ServesFirst g.P.Port.received g.P.Port.sent k)
    (site_of sizes c.args.nodes.now.items c.args.ports.now.items noise)
    (site_of sizes c.loop-at.nodes.items c.loop-at.ports.items noise) c.args.entries.now.items c.loop-at.entries.items) all
    (c.loop-at.invariant.joins sizes noise)
