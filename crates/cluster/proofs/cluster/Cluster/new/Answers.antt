use Rattle.std.proofs.Common.{map, arith}
use Rattle.std.proofs.lemmas.List.{length-map}
use Rattle.cluster.proofs.Opened.{made_sound, made}
use Rattle.cluster.proofs.cluster.Cluster.new.Goals as goal

pub invariant_of-result : goal.invariant_of-result
invariant_of-result g c =
    made_sound c.args.config.now c.sizes-sizes.result c.sizes-sizes.ensures.sizes (map g.R.Record.held c.args.records.items)
    c.in_ok-nodes.nodes.items c.new-2.result c.new-2.ensures
    (omega (
      arith,
      length-map c.args.records.items g.R.Record.held,
      c.args.records.ok.0,
      c.len.ensures,
      c.node_count.ensures,
      c.if-len-node_count.false,
    ))
    c.in_ok-nodes.ensures.ok c.in-Ok.notices c.in-Ok.ensures.told c.in-Ok.ensures.all

pub returns-clause-ok : goal.returns-clause-ok
returns-clause-ok g c =
    made c.args.config.now c.sizes-sizes.result c.sizes-sizes.ensures.sizes (map g.R.Record.held c.args.records.items)
    c.in_ok-nodes.nodes.items c.new-2.result c.new-2.ensures
    (omega (
      arith,
      length-map c.args.records.items g.R.Record.held,
      c.args.records.ok.0,
      c.len.ensures,
      c.node_count.ensures,
      c.if-len-node_count.false,
    ))
    c.in_ok-nodes.ensures.ok c.in-Ok.notices c.in-Ok.ensures.told c.in-Ok.ensures.all
