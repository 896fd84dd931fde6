use Rattle.stable_record.proofs.Framed.{stored_same}
use Rattle.stable_record.proofs.laws.stored_in_one_way.Goals as goal

pub returns : goal.returns
returns c = λ bytes entries others tail end p q. stored_same entries others bytes tail end p q
