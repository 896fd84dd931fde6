use Rattle.net_script.proofs.TraceLemmas.{kept_behind}
use Rattle.net_script.proofs.traces.put_all_sent.Goals as goal

pub returns-in_err-put_sent-clause-kept : goal.returns-in_err-put_sent-clause-kept
returns-in_err-put_sent-clause-kept c =
    kept_behind c.from_residual.result c.args.out.now.items c.loop-datagram.out.items c.put_sent.new.out.items _ c.loop-datagram.invariant
    c.in_err-put_sent.ensures.kept
