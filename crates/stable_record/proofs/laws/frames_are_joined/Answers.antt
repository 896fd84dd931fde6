use Rattle.stable_record.proofs.Framed.{stored_joined}
use Rattle.stable_record.proofs.laws.frames_are_joined.Goals as goal

pub returns-clause-joined : goal.returns-clause-joined
returns-clause-joined c = λ bytes more tail entries others p q. stored_joined entries others bytes more tail p q
