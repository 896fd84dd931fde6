use Rattle.std.proofs.Common.{subst}
use Rattle.xid.specs.Names.{IsBytes}
use Rattle.resource_manager.proofs.Entries.{row_valid}
use Rattle.resource_manager.proofs.Frames.{row_written}
use Rattle.resource_manager.proofs.shorter.write_one.Goals as goal

pub returns-clause-ok : goal.returns-clause-ok
returns-clause-ok c =
    row_written c.write_row.result c.as_slice-key.result.now c.as_slice-value.result.now c.args.frames.now.items
    c.write_row.new.out.items c.args.row.now c.as_slice-key.ensures c.as_slice-value.ensures
    (row_valid c.args.row.now c.requires (subst IsBytes c.as_slice-key.ensures c.are_bytes.ensures)
    (subst IsBytes c.as_slice-value.ensures c.are_bytes-2.ensures)) c.write_row.ensures.ok
