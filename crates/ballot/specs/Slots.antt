-- What an acceptor keeps of one instance, and how phases 1b and 2b change it.
-- Gray and Lamport, "Consensus on Transaction Commit", ACM TODS 31(1), 2006, section 4.1.
use Rattle.std.specs.Prelude.{ℕ, Some, None, nat_lt, if◌then◌else◌}
use Rattle.xid.specs.declared.transaction.Vote.{Vote}
use Rattle.ballot.specs.declared.slot.Slot.{Slot}

-- a slot at first: no part in a ballot above 0, and nothing accepted
abbrev pub empty_slot : Slot
empty_slot = record { mbal = 0; report = None }

-- a slot after phase 1b: it takes part in a ballot that is greater than every one before, and else stays
abbrev pub promised : (ballot : ℕ) → Slot → Slot
promised ballot s = if nat_lt s.mbal ballot then record s { mbal = ballot } else s

-- a slot after phase 2b: it accepts a value in a ballot that is no less than every one before, and else stays
abbrev pub accepted_in : (ballot : ℕ) → Vote → Slot → Slot
accepted_in ballot vote s = if nat_lt ballot s.mbal then s else record { mbal = ballot; report = Some (ballot, vote) }
