use Rattle.std.proofs.Common.{refl}
use Rattle.stable_record.proofs.Written.{row_framed}
use Rattle.stable_record.proofs.writing.write_row.Goals as goal

pub returns-clause-ok : goal.returns-clause-ok
returns-clause-ok c =
    row_framed c.args.out.now.items c.put_number.new.out.items c.extend_from_slice.new.self.items c.put_key.new.out.items
    c.put_value.new.out.items _ c.args.key.now c.args.value.now refl
    c.in_ok-put_number.ensures c.in_ok-extend_from_slice.ensures.items c.in_ok-put_key.ensures c.in_ok-put_value.ensures
