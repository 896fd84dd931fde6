-- many_managers: as many resource managers as there may be, and a commit at the first and the last of them.
use Rattle.std.specs.Prelude.{◌≡◌, refl, List, [], ◌∷◌, ◌++◌}
use Rattle.xid.specs.Transactions.{TxParts}
use Rattle.xid.specs.declared.refusals.Refusal.TheVariants.{NoSuch}
use Rattle.xid.specs.declared.transaction.Vote.TheVariants as votes
use Rattle.wire.specs.declared.message.Kind.TheVariants.{Prepare, P2a}
use Rattle.protocol.specs.declared.states.View.TheVariants as views
use Rattle.protocol.specs.Vocabulary.{A, L, R, Refused, Start, End, Event, Deliver}
use Rattle.protocol.specs.Effects.{Config}
use Rattle.protocol.proofs.RowWords.{x, y, cluster, next, deliveries, sent_by, changes, call, commit}

abbrev c : Config
c = cluster 1 1 64

-- 1:74/0=61,63=62
abbrev far : TxParts
far = record { format = 1; gtrid = 0x74 ∷ []; branches = record { rm = 0; bqual = 0x61 ∷ [] } ∷ record { rm = 63; bqual = 0x62 ∷ [] } ∷ [] }

abbrev far_ended : List Event
far_ended = call 0 x Start ∷ call 0 x End ∷ call 63 y Start ∷ call 63 y End ∷ commit 0 far ∷ []

pub asked_to_prepare : (next c [] (commit 0 far)).sent ≡ sent_by (L 0) (R 0) (Prepare far) ∷ sent_by (L 0) (R 63) (Prepare far) ∷ []
asked_to_prepare = refl

pub last_votes : (next c (far_ended ++ deliveries 1 1) (Deliver 2)).sent ≡ sent_by (R 63) (A 0) (P2a far 63 0 votes.Prepared) ∷ []
last_votes = refl

pub first_commits : (next c (far_ended ++ deliveries 1 6) (Deliver 7)).now ≡ changes 0 far views.Committed
first_commits = refl

pub last_commits : (next c (far_ended ++ deliveries 1 7) (Deliver 8)).now ≡ changes 63 far views.Committed
last_commits = refl

pub none_after_the_last : (next c [] (call 64 x Start)).answer ≡ Refused NoSuch
none_after_the_last = refl
