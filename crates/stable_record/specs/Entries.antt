-- What a record holds: facts, and, where it was made shorter, what stands for facts that it doesn't hold any more.
use Rattle.std.specs.Prelude.{◌<◌, ◌^◌}
use Rattle.xid.specs.Transactions.{IsTx}
use Rattle.wire.specs.Versions.{Version, IsTxIn}
use Rattle.stable_record.specs.declared.fact.FactKind.{FactKind as Fact}
use Rattle.stable_record.specs.declared.fact.FactKind.TheVariants.{Promise, Accept}
use Rattle.stable_record.specs.declared.entry.EntryKind.{EntryKind as Entry}
use Rattle.stable_record.specs.declared.entry.EntryKind.TheVariants.{Snapshot, Row, PastCommitted, PastAborted}
use Rattle.stable_record.specs.Facts.{IsFact, IsKey, IsValue, fact_tx}

-- the entries that a record may hold
abbrev pub IsEntry : Entry → Type 0
IsEntry (Entry.Fact fact) = IsFact fact
IsEntry Snapshot = Unit {0}
IsEntry (Row key value) = IsKey key × IsValue value
IsEntry (PastCommitted tx) = IsTx tx
IsEntry (PastAborted tx) = IsTx tx

-- the number of an instance has room in a version
abbrev pub IsInstanceIn : Version → Fact → Type 0
IsInstanceIn v (Promise tx instance ballot) = instance < 256 ^ v.rm_width
IsInstanceIn v (Accept tx instance ballot vote) = instance < 256 ^ v.rm_width
IsInstanceIn v fact = Unit {0}

-- a version has room for what an entry names
abbrev pub IsNamedIn : Version → Entry → Type 0
IsNamedIn v (Entry.Fact fact) = IsTxIn v (fact_tx fact) × IsInstanceIn v fact
IsNamedIn v Snapshot = Unit {0}
IsNamedIn v (Row key value) = Unit {0}
IsNamedIn v (PastCommitted tx) = IsTxIn v tx
IsNamedIn v (PastAborted tx) = IsTxIn v tx

-- the entries that a version can spell
pub record IsEntryIn (v : Version) (entry : Entry) : Type 0 where
  pub valid : IsEntry entry
  pub named : IsNamedIn v entry
