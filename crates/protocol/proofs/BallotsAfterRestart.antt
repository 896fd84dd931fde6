-- ballots_after_restart: a restarted leader never uses a ballot again.
use Rattle.std.specs.Prelude.{◌≡◌, refl, List, [], ◌∷◌, ◌++◌, None}
use Rattle.wire.specs.declared.message.Kind.TheVariants.{P1a, P1b}
use Rattle.protocol.specs.declared.states.Standing.TheVariants as standings
use Rattle.protocol.specs.Vocabulary.{A, L, Stands, Event, Deliver, Restart}
use Rattle.protocol.specs.Effects.{Config}
use Rattle.protocol.proofs.RowWords.{one, cluster, next, sent_by, status, timeout}

abbrev c : Config
c = cluster 3 1 1

abbrev before : List Event
before = timeout (L 0) one ∷ Deliver 1 ∷ Deliver 2 ∷ Restart (L 0) ∷ []

pub begins_one : (next c [] (timeout (L 0) one)).sent ≡ sent_by (L 0) (A 0) (P1a one 0 1) ∷ sent_by (L 0) (A 1) (P1a one 0 1)
    ∷ sent_by (L 0) (A 2) (P1a one 0 1) ∷ []
begins_one = refl

pub reports : (next c (timeout (L 0) one ∷ []) (Deliver 1)).sent ≡ sent_by (A 0) (L 0) (P1b one 0 1 None 0) ∷ []
reports = refl

pub not_counted : (next c (before ++ Deliver 4 ∷ []) (Deliver 5)).sent ≡ []
not_counted = refl

pub still_known : (next c (before ++ Deliver 4 ∷ Deliver 5 ∷ []) (status 0 one)).answer ≡ Stands standings.Undecided
still_known = refl

pub begins_two : (next c (before ++ Deliver 4 ∷ Deliver 5 ∷ []) (timeout (L 0) one)).sent
    ≡ sent_by (L 0) (A 0) (P1a one 0 2) ∷ sent_by (L 0) (A 1) (P1a one 0 2) ∷ sent_by (L 0) (A 2) (P1a one 0 2) ∷ []
begins_two = refl
