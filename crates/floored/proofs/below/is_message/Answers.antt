use Rattle.std.proofs.Common.{sym}
use Rattle.floored.proofs.Passing.{is_spelled, is_noise}
use Rattle.floored.proofs.below.is_message.Goals as goal

pub returns-in-Ok : goal.returns-in-Ok
returns-in-Ok c = sym (is_spelled _ c.args.bytes.now c.in-Ok.ensures.ok)

pub returns-in-Err : goal.returns-in-Err
returns-in-Err c = sym (is_noise c.args.bytes.now c.in-Err.ensures.err.1)
