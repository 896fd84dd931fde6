use Rattle.udp_run.proofs.Reaching.{is_spelled, is_unspelled}
use Rattle.udp_run.proofs.happenings.is_message.Goals as goal

pub returns-in-Ok : goal.returns-in-Ok
returns-in-Ok c = is_spelled c.args.bytes.now c.in-Ok.field-0 c.in-Ok.ensures.ok

pub returns-in-Err : goal.returns-in-Err
returns-in-Err c = is_unspelled c.args.bytes.now c.in-Err.ensures.err.1
