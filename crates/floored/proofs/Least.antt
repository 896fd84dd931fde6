-- The least of floors that were told, from the last of them on.
-- Needed by `ToldFloors::least`.
use Rattle.std.proofs.Common.{◌≡◌, ◌∙◌, ℕ, suc, ◌+◌, ◌-◌, ◌<◌, List, [], ◌∷◌, length, drop, map, Option, None, refl, sym, ap, arith}
use Rattle.std.specs.List.{range_with_len}
use Rattle.std.proofs.Math.Seq.{drop-cons, drop-length}
use Rattle.std.proofs.lemmas.List.{length-drop}
use Rattle.xid.specs.Places.{Place}
use Rattle.protocol.specs.Effects.{Config}
use Rattle.floors.specs.Worlds.{least_of, least_told, lower}
use Rattle.floored.specs.Told.{told_at}

least_more : (first : Option Place) (rest : List (Option Place)) → 0 < length rest → least_of (first ∷ rest) ≡ lower first (least_of rest)
least_more first [] some = absurd (omega (arith, some))
least_more first (next ∷ rest) some = refl

-- one floor before others
module _ (floors : List (Option Place)) (at : ℕ) (inside : at < length floors) where
  whole : drop at floors ≡ told_at floors at ∷ drop (suc at) floors
  whole = drop-cons floors at None inside

  pub last_least : suc at ≡ length floors → told_at floors at ≡ least_of (drop at floors)
  last_least last =
      let none : drop (suc at) floors ≡ [] = ap (λ (n : ℕ). drop n floors) last ∙ drop-length floors in
      sym (ap least_of (whole ∙ ap (λ (rest : List (Option Place)). told_at floors at ∷ rest) none))

  pub more_least : suc at < length floors → lower (told_at floors at) (least_of (drop (suc at) floors)) ≡ least_of (drop at floors)
  more_least more =
      sym (ap least_of whole ∙ least_more (told_at floors at) (drop (suc at) floors) (omega (arith, length-drop (suc at) floors, more)))

-- ---- of each at its number

told_from : (floors : List (Option Place)) (told : ℕ → Option Place) (from : ℕ)
    → ((i : ℕ) → i < length floors → told (from + i) ≡ told_at floors i) → map told (range_with_len from (length floors)) ≡ floors
told_from [] told from each = refl
told_from (first ∷ rest) told from each =
    let here : from ≡ from + 0 = omega arith in
    let later : (i : ℕ) → from + 1 + i ≡ from + suc i = λ i. omega arith in
    λ k. (ap told here ∙ each 0 (omega arith)) k
    ∷ told_from rest told (from + 1) (λ i inside. ap told (later i) ∙ each (suc i) (omega (arith, inside))) k

pub least_told_is : (floors : List (Option Place)) (config : Config) → config.managers ≡ length floors
    → least_of floors ≡ least_told config (told_at floors)
least_told_is floors config sizes =
    let same : (i : ℕ) → 0 + i ≡ i = λ i. omega arith in
    ap least_of (sym (told_from floors (told_at floors) 0 (λ i inside. ap (told_at floors) (same i)))
    ∙ ap (λ (n : ℕ). map (told_at floors) (range_with_len 0 n)) (sym sizes))

pub none_least : (floors : List (Option Place)) (n : ℕ) → n ≡ length floors → None ≡ least_of (drop (n - 0) floors)
none_least floors n is =
    let whole : n - 0 ≡ length floors = omega (arith, is) in
    sym (ap least_of (ap (λ (k : ℕ). drop k floors) whole ∙ drop-length floors))
