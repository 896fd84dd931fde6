use Rattle.wire.proofs.Notices.{no_message}
use Rattle.wire.proofs.laws.notices_are_no_messages.Goals as goal

pub returns : goal.returns
returns c = no_message
