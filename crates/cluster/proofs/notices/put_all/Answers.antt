use Rattle.std.proofs.Common.{◌∙◌, ◌<◌, map, ap, arith}
use Rattle.std.proofs.lemmas.List.{map_push}
use Rattle.cluster.specs.Notices.{shown_notice, told_count}
use Rattle.cluster.proofs.Noticed.{tells_next, tells_all}
use Rattle.cluster.proofs.notices.put_all.Goals as goal

pub loop-i-preserved : goal.loop-i-preserved
loop-i-preserved c =
    let lt : c.loop-i.i < told_count c.args.sizes = omega (arith, c.loop-i-test.true, c.count_told-i-end.ensures) in
    record {
      items =
          ap (map shown_notice) c.push_reserved.ensures.items ∙ map_push shown_notice c.loop-i.all.items _
          ∙ tells_next c.args.sizes c.args.manager c.args.floor.now (map shown_notice c.args.all.now.items) c.loop-i.i lt
          (map shown_notice c.loop-i.all.items) c.loop-i.invariant.items c.node_in.result c.node_in.ensures.named;
      len = omega (arith, c.push_reserved.ensures.len, c.loop-i.invariant.len);
      capacity = c.push_reserved.ensures.capacity ∙ c.loop-i.invariant.capacity;
    }

pub returns-clause-items : goal.returns-clause-items
returns-clause-items c =
    c.loop-i.invariant.items
    ∙ tells_all c.args.sizes c.args.manager c.args.floor.now (map shown_notice c.args.all.now.items) c.loop-i.i
    (omega (arith, c.loop-i-test.false, c.count_told-i-end.ensures))
