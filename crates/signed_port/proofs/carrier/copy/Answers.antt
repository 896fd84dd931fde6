use Rattle.port.proofs.Copying.{copied_front}
use Rattle.signed_port.proofs.carrier.copy.Goals as goal

pub returns-clause-front : goal.returns-clause-front
returns-clause-front g c =
    copied_front c.min-len.result g.row.N c.args.bytes.now c.copy_from_slice.new.self _ c.min-len.ensures c.copy_from_slice.ensures.after
