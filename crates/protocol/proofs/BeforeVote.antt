-- takeover_before_vote: a leader takes over before one resource manager has voted, and the transaction is aborted.
use Rattle.std.specs.Prelude.{◌≡◌, refl, List, [], ◌∷◌, ◌++◌}
use Rattle.xid.specs.declared.transaction.Vote.TheVariants as votes
use Rattle.xid.specs.declared.codes.XaCode.TheVariants as codes
use Rattle.wire.specs.declared.message.Kind.TheVariants.{P1a, P2a, Abort}
use Rattle.protocol.specs.declared.states.View.TheVariants as views
use Rattle.protocol.specs.Vocabulary.{A, L, R, Code, Event, Deliver, Start}
use Rattle.protocol.specs.Effects.{Config}
use Rattle.protocol.proofs.RowWords.{y, two, row, cluster_with_row, next, tables, deliveries, call, sent_by, changes, two_ended, timeout}

abbrev c : Config
c = cluster_with_row 3 1 2

-- up to the second report
abbrev reported : List Event
reported = two_ended ++ Deliver 1 ∷ Deliver 3 ∷ Deliver 4 ∷ timeout (L 0) two ∷ Deliver 11 ∷ Deliver 12 ∷ Deliver 14 ∷ Deliver 15 ∷ []

pub takes_over : (next c (two_ended ++ Deliver 1 ∷ Deliver 3 ∷ Deliver 4 ∷ []) (timeout (L 0) two)).sent
    ≡ sent_by (L 0) (A 0) (P1a two 0 1) ∷ sent_by (L 0) (A 1) (P1a two 0 1) ∷ sent_by (L 0) (A 2) (P1a two 0 1)
    ∷ sent_by (L 0) (A 0) (P1a two 1 1) ∷ sent_by (L 0) (A 1) (P1a two 1 1) ∷ sent_by (L 0) (A 2) (P1a two 1 1) ∷ []
takes_over = refl

pub picks_aborted : (next c (two_ended ++ Deliver 1 ∷ Deliver 3 ∷ Deliver 4 ∷ timeout (L 0) two ∷ Deliver 11 ∷ Deliver 12 ∷ Deliver 14
    ∷ []) (Deliver 15)).sent
    ≡ sent_by (L 0) (A 0) (P2a two 1 1 votes.Aborted) ∷ sent_by (L 0) (A 1) (P2a two 1 1 votes.Aborted)
    ∷ sent_by (L 0) (A 2) (P2a two 1 1 votes.Aborted) ∷ []
picks_aborted = refl

-- the vote comes after the take-over asked
abbrev late : List Event
late = reported ++ Deliver 2 ∷ Deliver 19 ∷ Deliver 20 ∷ Deliver 21 ∷ Deliver 16 ∷ Deliver 17 ∷ Deliver 22 ∷ Deliver 23 ∷ []

pub late_vote : (next c reported (Deliver 2)).now ≡ changes 1 two views.Prepared
late_vote = refl

pub promised_above : (next c (reported ++ Deliver 2 ∷ []) (Deliver 19)).sent ≡ []
promised_above = refl

pub late_abort : (next c late (Deliver 24)).sent ≡ sent_by (L 0) (R 0) (Abort two) ∷ sent_by (L 0) (R 1) (Abort two) ∷ []
late_abort = refl

pub late_views : (next c (late ++ Deliver 24 ∷ Deliver 25 ∷ []) (Deliver 26)).now ≡ changes 1 two views.Aborted
late_views = refl

pub late_tables : tables c (late ++ deliveries 24 3) ≡ (row 0x6b 0x30 ∷ []) ∷ [] ∷ []
late_tables = refl

-- the abort comes first
abbrev early : List Event
early = reported ++ Deliver 16 ∷ Deliver 17 ∷ Deliver 19 ∷ []

pub early_abort : (next c early (Deliver 20)).sent ≡ sent_by (L 0) (R 0) (Abort two) ∷ sent_by (L 0) (R 1) (Abort two) ∷ []
early_abort = refl

pub early_view : (next c (early ++ Deliver 20 ∷ []) (Deliver 22)).now ≡ changes 1 two views.Aborted
early_view = refl

pub no_vote_after : (next c (early ++ Deliver 20 ∷ Deliver 22 ∷ []) (Deliver 2)).sent ≡ []
no_vote_after = refl

pub name_spent : (next c (early ++ Deliver 20 ∷ Deliver 22 ∷ Deliver 2 ∷ []) (call 1 y Start)).answer ≡ Code codes.DupId
name_spent = refl
