use Rattle.wire.proofs.DecodingLemmas.{found, spelled}
use Rattle.wire.proofs.laws.message_at_is_exact.Goals as goal

pub returns : goal.returns
returns c = record { found = found; spelled = spelled }
