-- blocked: one datagram never comes, and the branch stays prepared.
use Rattle.std.specs.Prelude.{◌≡◌, refl, List, [], ◌∷◌, ◌++◌}
use Rattle.xid.specs.declared.transaction.Vote.TheVariants as votes
use Rattle.xid.specs.declared.codes.XaCode.TheVariants as codes
use Rattle.wire.specs.declared.message.Kind.TheVariants.{P2a, P2b, Ask}
use Rattle.protocol.specs.declared.states.Standing.TheVariants as standings
use Rattle.protocol.specs.Vocabulary.{A, L, R, Done, Code, Xids, Stands, Event, Deliver, Rollback}
use Rattle.protocol.specs.Effects.{Config}
use Rattle.protocol.proofs.RowWords.{x, one, cluster, next, answers, tables, deliveries, call, recover, sent_by, ok, one_ended, status}
use Rattle.protocol.proofs.RowWords.{timeout, view}

abbrev c : Config
c = cluster 1 1 1

abbrev events : List Event
events = one_ended ++ Deliver 1 ∷ Deliver 2 ∷ status 0 one ∷ recover 0 ∷ call 0 x Rollback ∷ view 0 one ∷ timeout (R 0) one ∷ Deliver 5 ∷ []

pub answered : answers c events ≡ ok ∷ ok ∷ ok ∷ Stands standings.Undecided ∷ Done ∷ Done ∷ Stands standings.Undecided ∷ Xids (x ∷ [])
    ∷ Code codes.Proto ∷ Stands standings.Prepared ∷ Done ∷ Done ∷ []
answered = refl

pub told : (next c (one_ended ++ deliveries 1 1) (Deliver 2)).sent ≡ sent_by (A 0) (L 0) (P2b one 0 0 votes.Prepared 0) ∷ []
told = refl

pub asks : (next c (one_ended ++ deliveries 1 2) (timeout (R 0) one)).sent ≡ sent_by (R 0) (A 0) (P2a one 0 0 votes.Prepared)
    ∷ sent_by (R 0) (L 0) (Ask one 0) ∷ []
asks = refl

pub final : tables c events ≡ [] ∷ []
final = refl
