-- Once an outcome is decided, it is told again at a commit call, at a timeout and to whom asks.
use Rattle.std.specs.Prelude.{◌≡◌, refl, List, [], ◌∷◌, ◌++◌}
use Rattle.xid.specs.declared.refusals.Refusal.TheVariants.{BadTx}
use Rattle.wire.specs.declared.message.Kind.TheVariants.{Commit}
use Rattle.protocol.specs.declared.states.Standing.TheVariants as standings
use Rattle.protocol.specs.Vocabulary.{L, R, Stands, Refused, Event, Deliver}
use Rattle.protocol.specs.Effects.{Config}
use Rattle.protocol.proofs.RowWords.{one, two, cluster, next, deliveries, sent_by, one_ended, commit, status, timeout, view}

abbrev c : Config
c = cluster 1 1 1

-- up to the decision; the Commit, datagram 4, isn't delivered
abbrev decided : List Event
decided = one_ended ++ deliveries 1 3

pub at_commit_call : (next c decided (commit 0 one)).sent ≡ sent_by (L 0) (R 0) (Commit one) ∷ []
at_commit_call = refl

pub commit_answers : (next c decided (commit 0 one)).answer ≡ Stands standings.Committed
commit_answers = refl

pub at_timeout : (next c decided (timeout (L 0) one)).sent ≡ sent_by (L 0) (R 0) (Commit one) ∷ []
at_timeout = refl

-- the prepared resource manager sends its vote again, datagram 5, and asks, datagram 6
pub to_who_asks : (next c (decided ++ timeout (R 0) one ∷ []) (Deliver 6)).sent ≡ sent_by (L 0) (R 0) (Commit one) ∷ []
to_who_asks = refl

-- undecided, nobody is told
pub not_before : (next c (one_ended ++ deliveries 1 1 ++ timeout (R 0) one ∷ []) (Deliver 4)).sent ≡ []
not_before = refl

-- a phase 2b after the decision changes nothing
pub not_twice : (next c decided (Deliver 3)).sent ≡ []
not_twice = refl

pub unknown_first : (next c [] (status 0 one)).answer ≡ Stands standings.Unknown
unknown_first = refl

pub met_by_an_ask : (next c (one_ended ++ deliveries 1 1 ++ timeout (R 0) one ∷ Deliver 4 ∷ []) (status 0 one)).answer
    ≡ Stands standings.Undecided
met_by_an_ask = refl

-- r1 isn't in the cluster
pub refused_commit : (next c [] (commit 0 two)).answer ≡ Refused BadTx
refused_commit = refl

pub refused_status : (next c [] (status 0 two)).answer ≡ Refused BadTx
refused_status = refl

pub refused_timeout : (next c [] (timeout (L 0) two)).answer ≡ Refused BadTx
refused_timeout = refl

pub refused_timeout_there : (next c [] (timeout (R 0) two)).answer ≡ Refused BadTx
refused_timeout_there = refl

pub refused_view : (next c [] (view 0 two)).answer ≡ Refused BadTx
refused_view = refl
