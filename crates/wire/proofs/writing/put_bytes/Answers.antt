use Rattle.std.proofs.Common.{◌+◌, ◌-◌, length, arith}
use Rattle.std.proofs.lemmas.Slice.{drop-put_mid}
use Rattle.wire.proofs.writing.put_bytes.Goals as goal

pub returns-clause-rest : goal.returns-clause-rest
returns-clause-rest c = λ n le.
    drop-put_mid c.args.at (c.args.at + length c.args.bytes.now - c.args.at) c.args.out.now c.copy_from_slice.new.self n
    (omega arith) (omega arith) (omega arith)
