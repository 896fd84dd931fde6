use Rattle.net_script.proofs.TraceLemmas.{kept_behind, onward}
use Rattle.net_script.proofs.messages.put_accepts.Goals as goal

pub returns-in_err-put_manager-clause-kept : goal.returns-in_err-put_manager-clause-kept
returns-in_err-put_manager-clause-kept c =
    kept_behind c.from_residual.result c.args.out.now.items c.loop-item.out.items c.put_manager.new.out.items _ c.loop-item.invariant
    c.in_err-put_manager.ensures.kept

pub returns-in_err-put_accepted-clause-kept : goal.returns-in_err-put_accepted-clause-kept
returns-in_err-put_accepted-clause-kept c =
    kept_behind c.from_residual-in_err-put_accepted.result c.args.out.now.items c.put_manager.new.out.items c.put_accepted.new.out.items _
    (onward c.args.out.now.items c.loop-item.out.items c.put_manager.new.out.items _ _ c.loop-item.invariant
    c.in_ok-put_manager.ensures.puts)
    c.in_err-put_accepted.ensures.kept
