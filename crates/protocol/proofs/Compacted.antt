-- compacted: after a whole commit a node replaces its record by a shorter one, and restarts as it was.
use Rattle.std.specs.Prelude.{◌≡◌, refl, List, [], ◌∷◌, ◌++◌, drop}
use Rattle.xid.specs.declared.transaction.Vote.TheVariants as votes
use Rattle.xid.specs.declared.codes.XaCode.TheVariants as codes
use Rattle.xid.specs.declared.refusals.Refusal.TheVariants.{RecordFault, Down, NoSuch}
use Rattle.wire.specs.declared.message.Kind.TheVariants.{P2a}
use Rattle.protocol.specs.declared.states.Standing.TheVariants as standings
use Rattle.protocol.specs.Vocabulary.{A, L, R, Done, Code, Stands, Refused, Event, Deliver, Tear, Restart, Compact, Start}
use Rattle.protocol.specs.Effects.{Config}
use Rattle.protocol.proofs.RowWords.{x, two, row, cluster, cluster_with_row, next, answers, tables, deliveries, call, view, sent_by}
use Rattle.protocol.proofs.RowWords.{two_ended, one_ended}

abbrev c : Config
c = cluster_with_row 3 1 2

abbrev before : List Event
before = two_ended ++ deliveries 1 16

abbrev after : List Event
after = Compact (R 0) ∷ Restart (R 0) ∷ view 0 two ∷ call 0 x Start ∷ []

pub answered : drop 23 (answers c (before ++ after)) ≡ Done ∷ Done ∷ Stands standings.Committed ∷ Code codes.DupId ∷ []
answered = refl

pub votes_again : (next c (before ++ after) (Deliver 1)).sent
    ≡ sent_by (R 0) (A 0) (P2a two 0 0 votes.Prepared) ∷ sent_by (R 0) (A 1) (P2a two 0 0 votes.Prepared)
    ∷ sent_by (R 0) (A 2) (P2a two 0 0 votes.Prepared) ∷ []
votes_again = refl

pub final : tables c (before ++ after) ≡ (row 0x6b 0x31 ∷ []) ∷ (row 0x6d 0x32 ∷ []) ∷ []
final = refl

abbrev d : Config
d = cluster 1 1 1

-- a tear stays armed over a compaction; a node that is down answers so, and one that is not there
abbrev torn : List Event
torn = Tear (R 0) 0 ∷ Compact (R 0) ∷ Deliver 1 ∷ Compact (R 0) ∷ Restart (R 0) ∷ Compact (A 0) ∷ Compact (L 0) ∷ Compact (R 1) ∷ []

pub torn_after : drop 4 (answers d (one_ended ++ torn)) ≡ Done ∷ Done ∷ Refused RecordFault ∷ Refused Down ∷ Done ∷ Done ∷ Done
    ∷ Refused NoSuch ∷ []
torn_after = refl
