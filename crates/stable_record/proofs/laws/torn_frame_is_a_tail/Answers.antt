use Rattle.stable_record.proofs.Framed.{torn_tail, torn_stored, whole_stored}
use Rattle.stable_record.proofs.laws.torn_frame_is_a_tail.Goals as goal

pub returns-clause-tail : goal.returns-clause-tail
returns-clause-tail c = torn_tail

pub returns-clause-torn : goal.returns-clause-torn
returns-clause-torn c = torn_stored

pub returns-clause-whole : goal.returns-clause-whole
returns-clause-whole c = whole_stored
