use Rattle.net_script.proofs.TraceLemmas.{kept_behind}
use Rattle.net_script.proofs.traces.put_all_told.Goals as goal

pub returns-in_err-write_notice-clause-kept : goal.returns-in_err-write_notice-clause-kept
returns-in_err-write_notice-clause-kept c =
    kept_behind c.from_residual.result c.args.out.now.items c.loop-notice.out.items c.write_notice.new.out.items _ c.loop-notice.invariant
    c.in_err-write_notice.ensures.kept
