-- shared_reads_prepared: branches that only read one key are prepared beside each other, and hold it shared after a restart too.
use Rattle.std.specs.Prelude.{◌≡◌, refl, List, [], ◌∷◌, ◌++◌}
use Rattle.xid.specs.Names.{XidParts}
use Rattle.xid.specs.declared.transaction.Vote.TheVariants as votes
use Rattle.xid.specs.declared.refusals.Refusal.TheVariants.{Busy}
use Rattle.wire.specs.declared.message.Kind.TheVariants.{P2a}
use Rattle.protocol.specs.declared.states.View.TheVariants as views
use Rattle.protocol.specs.declared.states.Standing.TheVariants as standings
use Rattle.protocol.specs.Vocabulary.{A, R, Answer, Done, Value, Xids, Stands, Refused, Action, Event, Deliver, Restart, Start, Get, End}
use Rattle.protocol.specs.Effects.{Config}
use Rattle.protocol.proofs.RowWords.{x, z, one, other_one, row, cluster_with_row, next, answers, tables, call, put, recover, commit}
use Rattle.protocol.proofs.RowWords.{sent_by, changes, ok}

abbrev c : Config
c = cluster_with_row 1 1 1

-- 1:76:61
abbrev later : XidParts
later = record { format = 1; gtrid = 0x76 ∷ []; bqual = 0x61 ∷ [] }

abbrev read : Action
read = Get (0x6b ∷ [])

abbrev read_of_both : List Event
read_of_both = call 0 x Start ∷ call 0 x read ∷ call 0 x End ∷ call 0 z Start ∷ call 0 z read ∷ call 0 z End ∷ []

abbrev asked : List Event
asked = read_of_both ++ commit 0 one ∷ commit 0 other_one ∷ []

abbrev restarted : List Event
restarted = Restart (R 0) ∷ recover 0 ∷ call 0 later Start ∷ call 0 later read ∷ call 0 later (put 0x6b 0x31) ∷ []

abbrev value : Answer
value = Value (0x30 ∷ [])

abbrev undecided : Answer
undecided = Stands standings.Undecided

pub answered : answers c (asked ++ Deliver 1 ∷ Deliver 2 ∷ restarted)
    ≡ ok ∷ value ∷ ok ∷ ok ∷ value ∷ ok ∷ undecided ∷ undecided ∷ Done ∷ Done ∷ Done ∷ Xids (x ∷ z ∷ []) ∷ ok ∷ value ∷ Refused Busy ∷ []
answered = refl

pub first_prepares : (next c asked (Deliver 1)).now ≡ changes 0 one views.Prepared
first_prepares = refl

pub first_votes : (next c asked (Deliver 1)).sent ≡ sent_by (R 0) (A 0) (P2a one 0 0 votes.Prepared) ∷ []
first_votes = refl

pub second_prepares : (next c (asked ++ Deliver 1 ∷ []) (Deliver 2)).now ≡ changes 0 other_one views.Prepared
second_prepares = refl

pub second_votes : (next c (asked ++ Deliver 1 ∷ []) (Deliver 2)).sent ≡ sent_by (R 0) (A 0) (P2a other_one 0 0 votes.Prepared) ∷ []
second_votes = refl

pub final : tables c (asked ++ Deliver 1 ∷ Deliver 2 ∷ restarted) ≡ (row 0x6b 0x30 ∷ []) ∷ []
final = refl
