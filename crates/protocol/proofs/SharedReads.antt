-- shared_reads: two branches read one key, and each may write it only while it alone holds it.
use Rattle.std.specs.Prelude.{◌≡◌, refl, List, [], ◌∷◌, ◌++◌}
use Rattle.xid.specs.declared.refusals.Refusal.TheVariants.{Busy}
use Rattle.protocol.specs.Vocabulary.{Value, Refused, Action, Event, Start, Get, End, Rollback}
use Rattle.protocol.specs.Effects.{Config}
use Rattle.protocol.proofs.RowWords.{x, z, row, cluster_with_row, answers, tables, call, put, ok}

abbrev c : Config
c = cluster_with_row 1 1 1

abbrev read : Action
read = Get (0x6b ∷ [])

abbrev both_read : List Event
both_read = call 0 x Start ∷ call 0 z Start ∷ call 0 x read ∷ call 0 z read ∷ call 0 x (put 0x6b 0x31) ∷ []

abbrev one_writes : List Event
one_writes = call 0 z End ∷ call 0 z Rollback ∷ call 0 x (put 0x6b 0x31) ∷ call 0 z Start ∷ call 0 z read ∷ []

pub answered : answers c (both_read ++ one_writes)
    ≡ ok ∷ ok ∷ Value (0x30 ∷ []) ∷ Value (0x30 ∷ []) ∷ Refused Busy ∷ ok ∷ ok ∷ ok ∷ ok ∷ Refused Busy ∷ []
answered = refl

pub final : tables c (both_read ++ one_writes) ≡ (row 0x6b 0x30 ∷ []) ∷ []
final = refl
