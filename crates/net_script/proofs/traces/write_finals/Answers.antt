use Rattle.net_script.proofs.TraceLemmas.{kept_behind}
use Rattle.net_script.proofs.traces.write_finals.Goals as goal

pub returns-in_err-put_final-clause-kept : goal.returns-in_err-put_final-clause-kept
returns-in_err-put_final-clause-kept c =
    let before = c.loop-rm.invariant.1 in
    kept_behind c.from_residual.result c.args.out.now.items c.loop-rm.out.items c.put_final.new.out.items before.more before.is
    c.in_err-put_final.ensures.kept
