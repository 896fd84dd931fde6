use Rattle.stable_record.specs.Records.{file_held}
use Rattle.udp_run.proofs.opening.take_up.Goals as goal

pub returns-clause-err : goal.returns-clause-err
returns-clause-err c = (file_held c.in-Err.field-0-0, c.in-Err.ensures.err)
