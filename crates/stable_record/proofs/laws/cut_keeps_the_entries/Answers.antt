use Rattle.stable_record.proofs.Framed.{taken_stored}
use Rattle.stable_record.proofs.laws.cut_keeps_the_entries.Goals as goal

pub returns : goal.returns
returns c = λ bytes tail entries is. taken_stored entries bytes tail is
