use Rattle.wire.proofs.Notices.{found, spelled}
use Rattle.wire.proofs.laws.notice_at_is_exact.Goals as goal

pub returns-clause-found : goal.returns-clause-found
returns-clause-found c = found

pub returns-clause-spelled : goal.returns-clause-spelled
returns-clause-spelled c = spelled
