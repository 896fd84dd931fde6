-- noise_and_cuts: beginnings of a datagram, a datagram that isn't there, and bytes that nobody sent: a message of version 1 among them.
use Rattle.std.specs.Prelude.{◌≡◌, ℕ, refl, true, false, List, [], ◌∷◌, ◌++◌, map, drop, take, replicate}
use Rattle.std.specs.List.{range_with_len}
use Rattle.xid.specs.declared.refusals.Refusal.TheVariants.{BadMessage, Forged, NoSuch}
use Rattle.wire.specs.Versions.{version_1}
use Rattle.wire.specs.Grammar.{spelling, tx_spelling}
use Rattle.wire.specs.Reading.{component_at, branch_at, list_at, tx_at, kind_at}
use Rattle.wire.specs.declared.message.Kind.TheVariants.{Prepare}
use Rattle.protocol.specs.Vocabulary.{R, Refused, Event, Deliver, Lose, Cut, Noise}
use Rattle.protocol.specs.Effects.{Config}
use Rattle.protocol.proofs.RowWords.{two, row, cluster_with_row, run, next, answers, tables, two_ended}

abbrev c : Config
c = cluster_with_row 3 1 2

abbrev cuts : List Event
cuts = map (λ k. Cut 1 k) (range_with_len 0 18)

-- the datagram's bytes, and what they were in version 1
abbrev prepare : List ℕ
prepare = 2 ∷ 1 ∷ 0 ∷ 0 ∷ 0 ∷ 1 ∷ 1 ∷ 0x74 ∷ 2 ∷ 0 ∷ 0 ∷ 1 ∷ 0x61 ∷ 0 ∷ 1 ∷ 1 ∷ 0x62 ∷ []

abbrev old_prepare : List ℕ
old_prepare = 1 ∷ 1 ∷ 0 ∷ 0 ∷ 0 ∷ 1 ∷ 1 ∷ 0x74 ∷ 2 ∷ 0 ∷ 1 ∷ 0x61 ∷ 1 ∷ 1 ∷ 0x62 ∷ []

abbrev noise : List Event
noise = map (Noise (R 0)) (replicate 1401 0 ∷ [] ∷ old_prepare ∷ prepare ∷ [])

abbrev disturbed : List Event
disturbed = two_ended ++ cuts ++ Deliver 99 ∷ noise

pub prepare_is : spelling (Prepare two) ≡ prepare
prepare_is = refl

pub old_prepare_was : version_1.byte ∷ 1 ∷ tx_spelling version_1 two ≡ old_prepare
old_prepare_was = refl

pub beginnings : take 17 (drop 7 (answers c disturbed)) ≡ map (λ k. Refused BadMessage) (range_with_len 0 17)
beginnings = refl

pub whole_is_no_cut : drop 24 (answers c disturbed) ≡
    Refused NoSuch ∷ Refused NoSuch ∷ Refused BadMessage ∷ Refused BadMessage ∷ Refused BadMessage ∷ Refused Forged ∷ []
unfolding component_at branch_at list_at tx_at kind_at
whole_is_no_cut = refl

pub nothing_changed : run c disturbed ≡ run c two_ended
unfolding component_at branch_at list_at tx_at kind_at
nothing_changed = refl

pub lost_once : map (λ datagram. datagram.marked) (run c (two_ended ++ Lose 1 ∷ [])).net ≡ true ∷ false ∷ []
lost_once = refl

pub no_third : (next c two_ended (Lose 3)).answer ≡ Refused NoSuch
no_third = refl

pub final : tables c disturbed ≡ (row 0x6b 0x30 ∷ []) ∷ [] ∷ []
unfolding component_at branch_at list_at tx_at kind_at
final = refl
