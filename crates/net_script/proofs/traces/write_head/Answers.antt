use Rattle.net_script.proofs.TraceLemmas.{kept_behind, onward}
use Rattle.net_script.proofs.traces.write_head.Goals as goal

pub returns-in_err-put_table-clause-kept : goal.returns-in_err-put_table-clause-kept
returns-in_err-put_table-clause-kept c =
    kept_behind c.from_residual-in_err-put_table.result c.args.out.now.items c.loop-table.out.items c.put_table.new.out.items _
    (onward c.args.out.now.items c.put_sizes.new.out.items c.loop-table.out.items _ _ c.in_ok-put_sizes.ensures.puts c.loop-table.invariant)
    c.in_err-put_table.ensures.kept
