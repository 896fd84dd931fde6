-- The items of a bundle, taken as the code does: the first, and then as many as are left.
-- Needed by `take_items`.
use Rattle.std.proofs.Common.{◌≡◌, ◌≢◌, ℕ, zero, suc, ◌-◌, ◌≤◌, false, ltb, List, Option, Some, None, refl, sym, arith}
use Rattle.std.proofs.Math.Dec.{eqb-suc-zero}
use Rattle.std.proofs.lemmas.Bool.{le-ltb}
use Rattle.xid.specs.Limits.{most_branches}
use Rattle.wire.specs.Reading.{byte_at, list_at, items_at, with_first}

module _ {X : Type 0} (one : List ℕ → Option (X × List ℕ)) (bytes rest : List ℕ) where
  -- the first item and those behind it are the bundle's
  pub all_taken : (count : ℕ) (first : X) (after : List ℕ) → Some (count, rest) ≡ byte_at bytes → count ≢ 0 → count ≤ most_branches
      → Some (first, after) ≡ one rest → with_first first (list_at one (count - 1) after) ≡ items_at one bytes
  unfolding items_at list_at
  all_taken zero first after e some few got = absurd (some refl)
  all_taken (suc n) first after e some few got =
      let fits : ltb most_branches (suc n) ≡ false = le-ltb _ _ few in
      let less : suc n - 1 ≡ n = omega arith in
      rw (sym e, eqb-suc-zero n, fits, sym got, less) refl

  -- where the first can't be taken, the bundle can't
  pub none_taken : (count : ℕ) → Some (count, rest) ≡ byte_at bytes → count ≢ 0 → count ≤ most_branches
      → None ≡ one rest → None ≡ items_at one bytes
  unfolding items_at list_at
  none_taken zero e some few got = absurd (some refl)
  none_taken (suc n) e some few got =
      let fits : ltb most_branches (suc n) ≡ false = le-ltb _ _ few in
      rw (sym e, eqb-suc-zero n, fits, sym got) refl
