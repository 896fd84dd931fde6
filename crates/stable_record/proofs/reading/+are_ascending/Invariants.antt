use Rattle.std.proofs.Common.{length}
use Rattle.stable_record.proofs.reading.+are_ascending.Given as goal

abbrev pub decreases-are_ascending : goal.decreases-are_ascending
decreases-are_ascending l = length l.keys.now
