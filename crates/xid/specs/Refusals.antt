-- The refusals by number.
use Rattle.std.specs.Prelude.{ℕ}
use Rattle.xid.specs.declared.refusals.Refusal.{Refusal}
use Rattle.xid.specs.declared.refusals.Refusal.TheVariants.{BadXid, BadTx, BadMessage, Damaged, RecordFault, NoBallot, BadScript, Down}
use Rattle.xid.specs.declared.refusals.Refusal.TheVariants.{Busy, Full, NoMemory, PortFault, BadConfig, Forged, NoSuch, FileFault}
use Rattle.xid.specs.declared.refusals.Refusal.TheVariants.{Forgotten, InUse}

-- a refusal's number, which is printed
abbrev pub number_of : Refusal → ℕ
number_of BadXid = 1
number_of BadTx = 2
number_of BadMessage = 3
number_of Damaged = 4
number_of RecordFault = 5
number_of NoBallot = 6
number_of (BadScript line) = 7
number_of Down = 8
number_of Busy = 9
number_of Full = 10
number_of NoMemory = 11
number_of PortFault = 12
number_of BadConfig = 13
number_of Forged = 14
number_of NoSuch = 15
number_of FileFault = 16
number_of Forgotten = 17
number_of InUse = 18
