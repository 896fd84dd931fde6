use Rattle.std.proofs.Math.Facts.{Fits-lt-pow}
use Rattle.stable_record.proofs.Floors.{begins_with, found_valid}
use Rattle.stable_record.proofs.behind.floor_in.Goals as goal

pub returns-in-Some-clause-begins : goal.returns-in-Some-clause-begins
returns-in-Some-clause-begins c = begins_with c.args.bytes.now (λ i. Fits-lt-pow (c.type_inv.bytes i))

pub returns-in-Some-clause-are_bytes : goal.returns-in-Some-clause-are_bytes
returns-in-Some-clause-are_bytes c = λ i. Fits-lt-pow (c.type_inv.bytes i)

pub returns-in-None-clause-begins : goal.returns-in-None-clause-begins
returns-in-None-clause-begins c = begins_with c.args.bytes.now (λ i. Fits-lt-pow (c.type_inv.bytes i))

pub returns-in-None-clause-are_bytes : goal.returns-in-None-clause-are_bytes
returns-in-None-clause-are_bytes c = λ i. Fits-lt-pow (c.type_inv.bytes i)

pub returns-in-Some-clause-valid : goal.returns-in-Some-clause-valid
returns-in-Some-clause-valid c = found_valid c.args.bytes.now (λ i. Fits-lt-pow (c.type_inv.bytes i))

pub returns-in-None-clause-valid : goal.returns-in-None-clause-valid
returns-in-None-clause-valid c = found_valid c.args.bytes.now (λ i. Fits-lt-pow (c.type_inv.bytes i))
