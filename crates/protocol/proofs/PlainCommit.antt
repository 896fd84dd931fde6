-- plain_commit: two resource managers, three acceptors, and a commit.
use Rattle.std.specs.Prelude.{◌≡◌, refl, [], ◌∷◌, ◌++◌}
use Rattle.xid.specs.declared.transaction.Vote.TheVariants as votes
use Rattle.wire.specs.declared.message.Kind.TheVariants.{Prepare, P2a, P2b, Commit}
use Rattle.protocol.specs.declared.states.View.TheVariants as views
use Rattle.protocol.specs.declared.states.Standing.TheVariants as standings
use Rattle.protocol.specs.Vocabulary.{A, L, R, Stands, Deliver}
use Rattle.protocol.specs.Effects.{Config}
use Rattle.protocol.proofs.RowWords.{two, row, cluster_with_row, next, answers, tables, deliveries, sent_by, changes, ok, two_ended, commit}

abbrev c : Config
c = cluster_with_row 3 1 2

pub calls_answered : answers c two_ended ≡ ok ∷ ok ∷ ok ∷ ok ∷ ok ∷ ok ∷ Stands standings.Undecided ∷ []
calls_answered = refl

pub asked_to_prepare : (next c [] (commit 0 two)).sent ≡ sent_by (L 0) (R 0) (Prepare two) ∷ sent_by (L 0) (R 1) (Prepare two) ∷ []
asked_to_prepare = refl

pub first_votes : (next c two_ended (Deliver 1)).now ≡ changes 0 two views.Prepared
first_votes = refl

pub second_votes : (next c (two_ended ++ deliveries 1 1) (Deliver 2)).sent
    ≡ sent_by (R 1) (A 0) (P2a two 1 0 votes.Prepared) ∷ sent_by (R 1) (A 1) (P2a two 1 0 votes.Prepared)
    ∷ sent_by (R 1) (A 2) (P2a two 1 0 votes.Prepared) ∷ []
second_votes = refl

pub accepted : (next c (two_ended ++ deliveries 1 7) (Deliver 8)).sent ≡ sent_by (A 2) (L 0) (P2b two 1 0 votes.Prepared 2) ∷ []
accepted = refl

pub one_short : (next c (two_ended ++ deliveries 1 11) (Deliver 12)).sent ≡ []
one_short = refl

pub decided : (next c (two_ended ++ deliveries 1 12) (Deliver 13)).sent ≡ sent_by (L 0) (R 0) (Commit two)
    ∷ sent_by (L 0) (R 1) (Commit two) ∷ []
decided = refl

pub first_commits : (next c (two_ended ++ deliveries 1 14) (Deliver 15)).now ≡ changes 0 two views.Committed
first_commits = refl

pub second_commits : (next c (two_ended ++ deliveries 1 15) (Deliver 16)).now ≡ changes 1 two views.Committed
second_commits = refl

pub final : tables c (two_ended ++ deliveries 1 16) ≡ (row 0x6b 0x31 ∷ []) ∷ (row 0x6d 0x32 ∷ []) ∷ []
final = refl
