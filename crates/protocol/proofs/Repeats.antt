-- repeats: every datagram of a commit is handed over again, in the other order; nothing new is stored.
use Rattle.std.specs.Prelude.{◌≡◌, refl, ◌-◌, ℕ, List, [], ◌∷◌, ◌++◌, map, length, drop, None}
use Rattle.std.specs.List.{range_with_len}
use Rattle.xid.specs.declared.transaction.Vote.TheVariants as votes
use Rattle.wire.specs.declared.message.Kind.TheVariants.{P2a, P2b}
use Rattle.protocol.specs.Vocabulary.{A, L, R, Done, Event, Deliver}
use Rattle.protocol.specs.Effects.{Config}
use Rattle.protocol.proofs.RowWords.{two, row, cluster_with_row, run, next, answers, tables, deliveries, sent_by, two_ended}

abbrev c : Config
c = cluster_with_row 3 1 2

abbrev committed : List Event
committed = two_ended ++ deliveries 1 16

-- from a number down to 1
abbrev down_from : ℕ → List Event
down_from n = map (λ i. Deliver (n - i)) (range_with_len 0 n)

abbrev again : List Event
again = map Deliver (15 ∷ 15 ∷ 15 ∷ 15 ∷ 15 ∷ 16 ∷ []) ++ down_from 15

pub all_done : drop 23 (answers c (committed ++ again)) ≡ map (λ i. Done) (range_with_len 0 21)
all_done = refl

pub commits_once : (next c committed (Deliver 15)).now ≡ None
commits_once = refl

pub tells_nobody : (next c (committed ++ map Deliver (15 ∷ 16 ∷ 15 ∷ 14 ∷ [])) (Deliver 13)).sent ≡ []
tells_nobody = refl

pub accepted_before : (next c (committed ++ again) (Deliver 8)).sent ≡ sent_by (A 2) (L 0) (P2b two 1 0 votes.Prepared 2) ∷ []
accepted_before = refl

pub voted_before : (next c (committed ++ again) (Deliver 2)).sent
    ≡ sent_by (R 1) (A 0) (P2a two 1 0 votes.Prepared) ∷ sent_by (R 1) (A 1) (P2a two 1 0 votes.Prepared)
    ∷ sent_by (R 1) (A 2) (P2a two 1 0 votes.Prepared) ∷ []
voted_before = refl

pub datagrams : length (run c (committed ++ again)).net ≡ 28
datagrams = refl

pub two_facts_each : map (λ node. length node.facts) (run c (committed ++ again)).nodes ≡ 2 ∷ 2 ∷ 2 ∷ 0 ∷ 2 ∷ 2 ∷ []
two_facts_each = refl

pub final : tables c (committed ++ again) ≡ (row 0x6b 0x31 ∷ []) ∷ (row 0x6d 0x32 ∷ []) ∷ []
final = refl
