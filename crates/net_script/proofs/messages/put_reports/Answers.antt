use Rattle.std.proofs.Common.{◌∙◌}
use Rattle.net_script.proofs.TraceLemmas.{kept_behind, kept_so, onward}
use Rattle.net_script.proofs.messages.put_reports.Goals as goal

pub returns-in_err-put_manager-clause-kept : goal.returns-in_err-put_manager-clause-kept
returns-in_err-put_manager-clause-kept c =
    kept_behind c.from_residual.result c.args.out.now.items c.loop-item.out.items c.put_manager.new.out.items _ c.loop-item.invariant
    c.in_err-put_manager.ensures.kept

pub returns-in_err-extend_from_slice-in-None-clause-kept : goal.returns-in_err-extend_from_slice-in-None-clause-kept
returns-in_err-extend_from_slice-in-None-clause-kept c =
    kept_so c.from_residual-in_err-extend_from_slice-in-None.result c.args.out.now.items c.extend_from_slice.new.self.items _
    (c.in_err-extend_from_slice-in-None.ensures.items
    ∙ onward c.args.out.now.items c.loop-item.out.items c.put_manager.new.out.items _ _ c.loop-item.invariant
    c.in_ok-put_manager.ensures.puts)

pub returns-in_err-put_accepted-in-Some-clause-kept : goal.returns-in_err-put_accepted-in-Some-clause-kept
returns-in_err-put_accepted-in-Some-clause-kept c =
    kept_behind c.from_residual-in_err-put_accepted-in-Some.result c.args.out.now.items c.put_manager.new.out.items
    c.put_accepted.new.out.items _
    (onward c.args.out.now.items c.loop-item.out.items c.put_manager.new.out.items _ _ c.loop-item.invariant
    c.in_ok-put_manager.ensures.puts)
    c.in_err-put_accepted-in-Some.ensures.kept
