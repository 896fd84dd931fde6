-- rollback_only: end fail, and the vote aborted.
use Rattle.std.specs.Prelude.{◌≡◌, refl, List, [], ◌∷◌, ◌++◌}
use Rattle.xid.specs.declared.transaction.Vote.TheVariants as votes
use Rattle.xid.specs.declared.codes.XaCode.TheVariants as codes
use Rattle.wire.specs.declared.message.Kind.TheVariants.{P2a}
use Rattle.protocol.specs.declared.states.View.TheVariants as views
use Rattle.protocol.specs.declared.states.Standing.TheVariants as standings
use Rattle.protocol.specs.Vocabulary.{A, R, Done, Code, Stands, Event, Deliver, Start, EndFail, Rollback}
use Rattle.protocol.specs.Effects.{Config}
use Rattle.protocol.proofs.RowWords.{x, one, cluster, next, answers, call, put, sent_by, changes, ok, commit}

abbrev c : Config
c = cluster 1 1 1

abbrev before : List Event
before = call 0 x Start ∷ call 0 x Rollback ∷ call 0 x EndFail ∷ call 0 x (put 0x6b 0x31) ∷ commit 0 one ∷ []

pub answered : answers c (before ++ Deliver 1 ∷ call 0 x Start ∷ call 0 x Rollback ∷ [])
    ≡ ok ∷ Code codes.Proto ∷ Code codes.RbRollback ∷ Code codes.Proto ∷ Stands standings.Undecided ∷ Done
    ∷ Code codes.DupId ∷ Code codes.Nota ∷ []
answered = refl

pub votes_aborted : (next c before (Deliver 1)).now ≡ changes 0 one views.Aborted
votes_aborted = refl

pub sends_aborted : (next c before (Deliver 1)).sent ≡ sent_by (R 0) (A 0) (P2a one 0 0 votes.Aborted) ∷ []
sends_aborted = refl
