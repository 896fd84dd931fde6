-- two_lists_one_gtrid: one name, two transactions; only one may bind the branch.
use Rattle.std.specs.Prelude.{◌≡◌, refl, List, [], ◌∷◌, ◌++◌}
use Rattle.xid.specs.declared.transaction.Vote.TheVariants as votes
use Rattle.wire.specs.declared.message.Kind.TheVariants.{Prepare, P2a, Commit}
use Rattle.protocol.specs.declared.states.View.TheVariants as views
use Rattle.protocol.specs.Vocabulary.{A, L, R, Xids, Event, Deliver, Start, End}
use Rattle.protocol.specs.Effects.{Config}
use Rattle.protocol.proofs.RowWords.{x, two, one, cluster, next, deliveries, call, recover, sent_by, changes, commit}

abbrev c : Config
c = cluster 1 1 2

abbrev before : List Event
before = call 0 x Start ∷ call 0 x End ∷ commit 0 one ∷ commit 0 two ∷ []

pub both_asked : (next c (call 0 x Start ∷ call 0 x End ∷ commit 0 one ∷ []) (commit 0 two)).sent ≡ sent_by (L 0) (R 0) (Prepare two)
    ∷ sent_by (L 0) (R 1) (Prepare two) ∷ []
both_asked = refl

pub first_binds : (next c before (Deliver 1)).now ≡ changes 0 one views.Prepared
first_binds = refl

pub second_aborts : (next c (before ++ deliveries 1 1) (Deliver 2)).now ≡ changes 0 two views.Aborted
second_aborts = refl

pub second_says_aborted : (next c (before ++ deliveries 1 1) (Deliver 2)).sent ≡ sent_by (R 0) (A 0) (P2a two 0 0 votes.Aborted) ∷ []
second_says_aborted = refl

pub other_aborts : (next c (before ++ deliveries 1 2) (Deliver 3)).now ≡ changes 1 two views.Aborted
other_aborts = refl

pub still_bound : (next c (before ++ deliveries 1 3) (recover 0)).answer ≡ Xids (x ∷ [])
still_bound = refl

pub decided : (next c (before ++ deliveries 1 4) (Deliver 7)).sent ≡ sent_by (L 0) (R 0) (Commit one) ∷ []
decided = refl

pub commits : (next c (before ++ deliveries 1 4 ++ deliveries 7 1) (Deliver 8)).now ≡ changes 0 one views.Committed
commits = refl
