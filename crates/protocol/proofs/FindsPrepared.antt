-- takeover_finds_prepared: a second leader finishes the commit.
use Rattle.std.specs.Prelude.{◌≡◌, refl, List, [], ◌∷◌, ◌++◌, Some}
use Rattle.xid.specs.declared.transaction.Vote.TheVariants as votes
use Rattle.wire.specs.declared.message.Kind.TheVariants.{P1b, P2a, P2b, Commit}
use Rattle.protocol.specs.declared.states.View.TheVariants as views
use Rattle.protocol.specs.declared.states.Standing.TheVariants as standings
use Rattle.protocol.specs.Vocabulary.{A, L, R, Stands, Event, Deliver}
use Rattle.protocol.specs.Effects.{Config}
use Rattle.protocol.proofs.RowWords.{two, row, cluster_with_row, next, tables, deliveries, sent_by, changes, two_ended, status, timeout}

abbrev c : Config
c = cluster_with_row 3 2 2

abbrev voted : List Event
voted = two_ended ++ deliveries 1 8

abbrev taken_over : List Event
taken_over = voted ++ timeout (L 1) two ∷ Deliver 21 ∷ Deliver 22 ∷ Deliver 24 ∷ Deliver 25 ∷ []

abbrev proposed : List Event
proposed = taken_over ++ deliveries 27 4

abbrev told : List Event
told = proposed ++ Deliver 31 ∷ Deliver 32 ∷ Deliver 34 ∷ Deliver 35 ∷ Deliver 38 ∷ Deliver 40 ∷ Deliver 42 ∷ []

pub to_both : (next c (two_ended ++ deliveries 1 7) (Deliver 8)).sent ≡ sent_by (A 2) (L 0) (P2b two 1 0 votes.Prepared 2)
    ∷ sent_by (A 2) (L 1) (P2b two 1 0 votes.Prepared 2) ∷ []
to_both = refl

pub its_own_ballot : (next c (voted ++ timeout (L 1) two ∷ []) (Deliver 21)).sent
    ≡ sent_by (A 0) (L 1) (P1b two 0 2 (Some (0, votes.Prepared)) 0) ∷ []
its_own_ballot = refl

pub picks_prepared : (next c (taken_over ++ deliveries 27 1) (Deliver 28)).sent
    ≡ sent_by (L 1) (A 0) (P2a two 0 2 votes.Prepared) ∷ sent_by (L 1) (A 1) (P2a two 0 2 votes.Prepared)
    ∷ sent_by (L 1) (A 2) (P2a two 0 2 votes.Prepared) ∷ []
picks_prepared = refl

pub waits_for_both : (next c (proposed ++ Deliver 31 ∷ Deliver 32 ∷ Deliver 34 ∷ Deliver 35 ∷ Deliver 38 ∷ []) (Deliver 40)).sent ≡ []
waits_for_both = refl

pub decided : (next c told (Deliver 44)).sent ≡ sent_by (L 1) (R 0) (Commit two) ∷ sent_by (L 1) (R 1) (Commit two) ∷ []
decided = refl

pub commits : (next c (told ++ Deliver 44 ∷ Deliver 45 ∷ []) (Deliver 46)).now ≡ changes 1 two views.Committed
commits = refl

pub one_knows : (next c (told ++ deliveries 44 3) (status 1 two)).answer ≡ Stands standings.Committed
one_knows = refl

pub other_waits : (next c (told ++ deliveries 44 3) (status 0 two)).answer ≡ Stands standings.Undecided
other_waits = refl

pub final : tables c (told ++ deliveries 44 3) ≡ (row 0x6b 0x31 ∷ []) ∷ (row 0x6d 0x32 ∷ []) ∷ []
final = refl
