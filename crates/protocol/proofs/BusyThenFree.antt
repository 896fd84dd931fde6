-- busy_then_free: a held key is refused, and free after the abort.
use Rattle.std.specs.Prelude.{◌≡◌, refl, List, [], ◌∷◌, ◌++◌}
use Rattle.xid.specs.declared.transaction.Vote.TheVariants as votes
use Rattle.xid.specs.declared.refusals.Refusal.TheVariants.{Busy}
use Rattle.wire.specs.declared.message.Kind.TheVariants.{P2a}
use Rattle.protocol.specs.declared.states.View.TheVariants as views
use Rattle.protocol.specs.declared.states.Standing.TheVariants as standings
use Rattle.protocol.specs.Vocabulary.{A, R, Done, Stands, Refused, Event, Deliver, Start, Get}
use Rattle.protocol.specs.Effects.{Config}
use Rattle.protocol.proofs.RowWords.{x, z, one, cluster, next, answers, tables, call, put, sent_by, changes, ok, commit}

abbrev c : Config
c = cluster 1 1 1

abbrev before : List Event
before = call 0 x Start ∷ call 0 x (put 0x6b 0x31) ∷ call 0 z Start ∷ call 0 z (put 0x6b 0x32) ∷ call 0 z (Get (0x6b ∷ []))
    ∷ commit 0 one ∷ []

pub answered : answers c (before ++ Deliver 1 ∷ call 0 z (put 0x6b 0x32) ∷ [])
    ≡ ok ∷ ok ∷ ok ∷ Refused Busy ∷ Refused Busy ∷ Stands standings.Undecided ∷ Done ∷ ok ∷ []
answered = refl

pub votes_aborted : (next c before (Deliver 1)).now ≡ changes 0 one views.Aborted
votes_aborted = refl

pub sends_aborted : (next c before (Deliver 1)).sent ≡ sent_by (R 0) (A 0) (P2a one 0 0 votes.Aborted) ∷ []
sends_aborted = refl

pub final : tables c (before ++ Deliver 1 ∷ call 0 z (put 0x6b 0x32) ∷ []) ≡ [] ∷ []
final = refl
