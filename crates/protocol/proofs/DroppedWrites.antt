-- dropped_writes: a restart drops an unprepared branch and its writes.
use Rattle.std.specs.Prelude.{◌≡◌, refl, List, [], ◌∷◌, ◌++◌}
use Rattle.xid.specs.declared.codes.XaCode.TheVariants as codes
use Rattle.wire.specs.declared.message.Kind.TheVariants.{Commit}
use Rattle.protocol.specs.declared.states.View.TheVariants as views
use Rattle.protocol.specs.declared.states.Standing.TheVariants as standings
use Rattle.protocol.specs.Vocabulary.{L, R, Done, Code, Stands, Event, Deliver, Restart, Start, End}
use Rattle.protocol.specs.Effects.{Config}
use Rattle.protocol.proofs.RowWords.{x, one, row, cluster, next, answers, tables, deliveries, call, put, sent_by, changes, ok, commit}

abbrev c : Config
c = cluster 1 1 1

abbrev before : List Event
before = call 0 x Start ∷ call 0 x (put 0x6b 0x31) ∷ Restart (R 0) ∷ call 0 x (put 0x6b 0x32) ∷ call 0 x Start ∷ call 0 x (put 0x6c 0x33)
    ∷ call 0 x End ∷ commit 0 one ∷ []

pub answered : answers c before ≡ ok ∷ ok ∷ Done ∷ Code codes.Nota ∷ ok ∷ ok ∷ ok ∷ Stands standings.Undecided ∷ []
answered = refl

pub votes_prepared : (next c before (Deliver 1)).now ≡ changes 0 one views.Prepared
votes_prepared = refl

pub decided : (next c (before ++ deliveries 1 2) (Deliver 3)).sent ≡ sent_by (L 0) (R 0) (Commit one) ∷ []
decided = refl

pub final : tables c (before ++ deliveries 1 4) ≡ (row 0x6c 0x33 ∷ []) ∷ []
final = refl
