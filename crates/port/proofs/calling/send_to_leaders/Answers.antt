use Rattle.std.proofs.Common.{List, sym, subst, arith}
use Rattle.std.proofs.lemmas.List.FromFn.{map-range_with_len_more}
use Rattle.protocol.specs.declared.nodes.NodeId.{NodeId}
use Rattle.protocol.specs.declared.nodes.NodeId.TheVariants.{L}
use Rattle.port.specs.Calls.{SendsTo, leaders_below}
use Rattle.port.proofs.Sending.{to_one}
use Rattle.port.proofs.calling.send_to_leaders.Goals as goal

pub loop-number-preserved : goal.loop-number-preserved
loop-number-preserved g c =
    let n = c.loop-number.number in
    subst (λ (whos : List NodeId). SendsTo g.P.Port.sent c.args.port.now c.send.new.self c.args.bytes.now whos)
    (sym (map-range_with_len_more (λ k. L k) 0 n n (omega arith)))
    (to_one g.P.Port.sent c.args.bytes.now (leaders_below n) c.args.port.now c.loop-number.port c.send.new.self (L n) c.send.result
    c.loop-number.invariant c.send.ensures.step)
