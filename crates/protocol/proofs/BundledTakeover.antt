-- bundled_takeover: the leader takes over, and hears of both instances at once: one is prepared, of the other nothing was accepted.
use Rattle.std.specs.Prelude.{◌≡◌, refl, List, [], ◌∷◌, ◌++◌, Some, None}
use Rattle.xid.specs.declared.transaction.Vote.TheVariants as votes
use Rattle.wire.specs.declared.items.InstanceReport.{InstanceReport}
use Rattle.wire.specs.declared.items.InstanceAccept.{InstanceAccept}
use Rattle.wire.specs.declared.message.Kind.TheVariants.{P2a, Abort, B1a, B1b, B2b}
use Rattle.protocol.specs.Vocabulary.{A, L, R, Event, Deliver}
use Rattle.protocol.specs.Effects.{Config}
use Rattle.protocol.proofs.RowWords.{two, row, cluster_with_row, with_bundles, next, tables, sent_by, two_ended, timeout}

abbrev c : Config
c = with_bundles (cluster_with_row 3 1 2)

abbrev one_voted : List Event
one_voted = two_ended ++ Deliver 1 ∷ Deliver 3 ∷ Deliver 4 ∷ []

abbrev asked : List Event
asked = one_voted ++ timeout (L 0) two ∷ []

abbrev reports : List InstanceReport
reports = record { instance = 0; report = Some (0, votes.Prepared) } ∷ record { instance = 1; report = None } ∷ []

abbrev accepts : List InstanceAccept
accepts = record { instance = 0; ballot = 1; vote = votes.Prepared } ∷ record { instance = 1; ballot = 1; vote = votes.Aborted } ∷ []

abbrev proposed : List Event
proposed = asked ++ Deliver 6 ∷ Deliver 7 ∷ Deliver 9 ∷ Deliver 10 ∷ []

abbrev told : List Event
told = proposed ++ Deliver 11 ∷ Deliver 14 ∷ Deliver 12 ∷ Deliver 15 ∷ []

pub take_over : (next c one_voted (timeout (L 0) two)).sent
    ≡ sent_by (L 0) (A 0) (B1a two 1) ∷ sent_by (L 0) (A 1) (B1a two 1) ∷ sent_by (L 0) (A 2) (B1a two 1) ∷ []
take_over = refl

pub reported : (next c asked (Deliver 6)).sent ≡ sent_by (A 0) (L 0) (B1b two 1 0 reports) ∷ []
reported = refl

pub picked : (next c (asked ++ Deliver 6 ∷ Deliver 7 ∷ Deliver 9 ∷ []) (Deliver 10)).sent
    ≡ sent_by (L 0) (A 0) (P2a two 0 1 votes.Prepared) ∷ sent_by (L 0) (A 1) (P2a two 0 1 votes.Prepared)
    ∷ sent_by (L 0) (A 2) (P2a two 0 1 votes.Prepared) ∷ sent_by (L 0) (A 0) (P2a two 1 1 votes.Aborted)
    ∷ sent_by (L 0) (A 1) (P2a two 1 1 votes.Aborted) ∷ sent_by (L 0) (A 2) (P2a two 1 1 votes.Aborted) ∷ []
picked = refl

pub first_alone : (next c proposed (Deliver 11)).sent ≡ []
first_alone = refl

pub both_told : (next c (proposed ++ Deliver 11 ∷ []) (Deliver 14)).sent ≡ sent_by (A 0) (L 0) (B2b two 0 accepts) ∷ []
both_told = refl

pub decided : (next c (told ++ Deliver 17 ∷ []) (Deliver 18)).sent ≡ sent_by (L 0) (R 0) (Abort two) ∷ sent_by (L 0) (R 1) (Abort two) ∷ []
decided = refl

pub final : tables c (told ++ Deliver 17 ∷ Deliver 18 ∷ []) ≡ (row 0x6b 0x30 ∷ []) ∷ [] ∷ []
final = refl
