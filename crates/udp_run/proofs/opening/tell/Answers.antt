use Rattle.std.proofs.Common.{◌<◌, length, arith}
use Rattle.udp_run.proofs.Finding.{told_next}
use Rattle.udp_run.proofs.opening.tell.Goals as goal

pub loop-at-preserved : goal.loop-at-preserved
loop-at-preserved c =
    let lt : c.loop-at.at < length c.loop-at.ports.items =
    omega (arith, c.loop-at-test.true, c.len-at-end.ensures, c.loop-at.invariant.long) in
    told_next c.args.addresses c.loop-at.at c.args.ports.now.items c.loop-at.ports.items c.index_mut-port.result.now lt
    c.index_mut-port.ensures.value c.loop-at.invariant c.find_at.new.self c.find_at.ensures
