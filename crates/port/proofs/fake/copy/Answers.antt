use Rattle.port.specs.declared.port.TheConstants.{MAX_TAKEN}
use Rattle.port.proofs.Copying.{copied_front}
use Rattle.port.proofs.fake.copy.Goals as goal

pub returns-clause-front : goal.returns-clause-front
returns-clause-front c =
    copied_front c.min-len.result MAX_TAKEN c.args.bytes.now c.copy_from_slice.new.self _ c.min-len.ensures c.copy_from_slice.ensures.after
