use Rattle.safety.proofs.Acceptor.Slots.{slot_is}
use Rattle.safety.proofs.laws.slot_is_greatest.Goals as goal

pub returns : goal.returns
returns c = slot_is
