use Rattle.wire.specs.Versions.{version_2, version_of}
use Rattle.stable_record.proofs.Lengths.{fact_frame_has, entry_in_version_2}
use Rattle.stable_record.proofs.laws.frame_length_is_exact.Goals as goal

pub returns-clause-length : goal.returns-clause-length
returns-clause-length c = λ v fact. fact_frame_has (version_of v) fact

pub returns-clause-today : goal.returns-clause-today
returns-clause-today c = fact_frame_has version_2

pub returns-clause-written : goal.returns-clause-written
returns-clause-written c = entry_in_version_2
