-- torn_vote: the append of a vote is stopped, before its first byte and after its last.
use Rattle.std.specs.Prelude.{◌≡◌, refl, ℕ, List, [], ◌∷◌, ◌++◌, None, drop}
use Rattle.xid.specs.declared.transaction.Vote.TheVariants as votes
use Rattle.xid.specs.declared.codes.XaCode.TheVariants as codes
use Rattle.xid.specs.declared.refusals.Refusal.TheVariants.{RecordFault}
use Rattle.wire.specs.declared.message.Kind.TheVariants.{P2a}
use Rattle.wire.specs.Versions.{version_1}
use Rattle.stable_record.specs.declared.fact.Act.TheVariants.{Put}
use Rattle.stable_record.specs.declared.fact.FactKind.{FactKind as Fact}
use Rattle.stable_record.specs.declared.fact.FactKind.TheVariants.{VotePrepared}
use Rattle.stable_record.specs.Frames.{frame_length, frame_length_in}
use Rattle.protocol.specs.declared.states.View.TheVariants as views
use Rattle.protocol.specs.Vocabulary.{A, R, Answer, Done, Code, Xids, Refused, Event, Deliver, Tear, Restart}
use Rattle.protocol.specs.Effects.{Config}
use Rattle.protocol.proofs.RowWords.{x, one, cluster, next, answers, recover, sent_by, changes, one_ended}

abbrev c : Config
c = cluster 1 1 1

abbrev torn_at : ℕ → List Event
torn_at n = one_ended ++ Tear (R 0) n ∷ []

abbrev after_tear : List Event
after_tear = Deliver 1 ∷ recover 0 ∷ Restart (R 0) ∷ recover 0 ∷ Deliver 1 ∷ []

-- the answers to a tear and to what comes after it
abbrev torn_answers : ℕ → List Answer
torn_answers n = drop 4 (answers c (torn_at n ++ after_tear))

abbrev vote : Fact
vote = VotePrepared one (record { key = 0x6b ∷ []; act = Put (0x31 ∷ []) } ∷ [])

pub frame_has_24 : frame_length vote ≡ 24
frame_has_24 = refl

pub frame_had_23 : frame_length_in version_1 vote ≡ 23
frame_had_23 = refl

pub nothing_kept : torn_answers 0 ≡ Done ∷ Refused RecordFault ∷ Code codes.RmFail ∷ Done ∷ Xids [] ∷ Done ∷ []
nothing_kept = refl

pub one_byte_short : torn_answers 23 ≡ Done ∷ Refused RecordFault ∷ Code codes.RmFail ∷ Done ∷ Xids [] ∷ Done ∷ []
one_byte_short = refl

pub all_kept : torn_answers 24 ≡ Done ∷ Refused RecordFault ∷ Code codes.RmFail ∷ Done ∷ Xids (x ∷ []) ∷ Done ∷ []
all_kept = refl

pub nothing_changed : (next c (torn_at 23) (Deliver 1)).now ≡ None
nothing_changed = refl

pub still_prepared : (next c (torn_at 24) (Deliver 1)).now ≡ changes 0 one views.Prepared
still_prepared = refl

pub nothing_sent : (next c (torn_at 24) (Deliver 1)).sent ≡ []
nothing_sent = refl

pub votes_aborted : (next c (torn_at 23 ++ Deliver 1 ∷ Restart (R 0) ∷ []) (Deliver 1)).now ≡ changes 0 one views.Aborted
votes_aborted = refl

pub sends_aborted : (next c (torn_at 23 ++ Deliver 1 ∷ Restart (R 0) ∷ []) (Deliver 1)).sent
    ≡ sent_by (R 0) (A 0) (P2a one 0 0 votes.Aborted) ∷ []
sends_aborted = refl

pub sends_again : (next c (torn_at 1000 ++ Deliver 1 ∷ Restart (R 0) ∷ []) (Deliver 1)).sent
    ≡ sent_by (R 0) (A 0) (P2a one 0 0 votes.Prepared) ∷ []
sends_again = refl
