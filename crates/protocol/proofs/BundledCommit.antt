-- bundled_commit: the plain commit in a bundled cluster, where an acceptor tells of both instances at once.
use Rattle.std.specs.Prelude.{◌≡◌, refl, List, [], ◌∷◌, ◌++◌, length}
use Rattle.xid.specs.declared.transaction.Vote.TheVariants as votes
use Rattle.wire.specs.declared.items.InstanceAccept.{InstanceAccept}
use Rattle.wire.specs.declared.message.Kind.TheVariants.{Commit, B2b}
use Rattle.protocol.specs.declared.states.View.TheVariants as views
use Rattle.protocol.specs.Vocabulary.{A, L, R, Deliver}
use Rattle.protocol.specs.Effects.{Config}
use Rattle.protocol.proofs.RowWords.{two, row, cluster_with_row, with_bundles, next, tables, run, deliveries, sent_by, changes, two_ended}

abbrev c : Config
c = with_bundles (cluster_with_row 3 1 2)

abbrev both : List InstanceAccept
both = record { instance = 0; ballot = 0; vote = votes.Prepared } ∷ record { instance = 1; ballot = 0; vote = votes.Prepared } ∷ []

pub first_alone : (next c (two_ended ++ deliveries 1 2) (Deliver 3)).sent ≡ []
first_alone = refl

pub both_told : (next c (two_ended ++ deliveries 1 5) (Deliver 6)).sent ≡ sent_by (A 0) (L 0) (B2b two 0 both) ∷ []
both_told = refl

pub one_short : (next c (two_ended ++ deliveries 1 8) (Deliver 9)).sent ≡ []
one_short = refl

pub decided : (next c (two_ended ++ deliveries 1 9) (Deliver 10)).sent ≡ sent_by (L 0) (R 0) (Commit two)
    ∷ sent_by (L 0) (R 1) (Commit two) ∷ []
decided = refl

pub second_commits : (next c (two_ended ++ deliveries 1 12) (Deliver 13)).now ≡ changes 1 two views.Committed
second_commits = refl

pub no_more : length (run c (two_ended ++ deliveries 1 13)).net ≡ 13
no_more = refl

pub final : tables c (two_ended ++ deliveries 1 13) ≡ (row 0x6b 0x31 ∷ []) ∷ (row 0x6d 0x32 ∷ []) ∷ []
final = refl
