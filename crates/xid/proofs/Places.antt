-- Places in the order of names are totally ordered.
use Rattle.std.proofs.Common.{◌≡◌, ◌∙◌, true, false, Option, Some, None, refl, sym, ap}
use Rattle.std.specs.Cmp.{IsTotalOrder, nat_cmp_total, on_total, then_total}
use Rattle.std.specs.Cmp.Lexicographic.{on_texts, options_total}
use Rattle.std.specs.Option.{option_cmp}
use Rattle.std.specs.Ordering.{is_lt, ordering_reverse}
use Rattle.std.specs.declared.cmp.Ordering.{Ordering}
use Rattle.std.specs.declared.cmp.Ordering.TheVariants.{Less, Equal, Greater}
use Rattle.xid.specs.Places.{Place, place_cmp, is_lower}

place_total : IsTotalOrder place_cmp
place_total = then_total (on_total (λ (p : Place). p.format) nat_cmp_total) (on_texts (λ (p : Place). p.gtrid))

floor_total : IsTotalOrder (option_cmp place_cmp)
floor_total = options_total place_total

module _ {K : Type 0} (R : K → K → Ordering) (o : IsTotalOrder R) where
  turned : (x y : K) (r : Ordering) → R x y ≡ r → R y x ≡ ordering_reverse r
  turned x y r e = o.antisymm y x ∙ ap ordering_reverse e

  -- what isn't lower is higher or equal; two such steps make one
  chain_by : (x y z : K) (r s : Ordering) → R x y ≡ r → R z x ≡ s → is_lt (R y x) ≡ false → is_lt (R z y) ≡ false → is_lt s ≡ false
  chain_by x y z Less Less xy zx up more = let far = o.trans z x y zx xy in absurd (cc (far, more))
  chain_by x y z Equal Less xy zx up more =
      let yz = sym (o.congr x y z xy) ∙ turned z x Less zx in
      let zy = turned y z Greater yz in absurd (cc (zy, more))
  chain_by x y z Greater Less xy zx up more = let yx = turned x y Greater xy in absurd (cc (yx, up))
  chain_by x y z r Equal xy zx up more = refl
  chain_by x y z r Greater xy zx up more = refl

  pub chain : (x y z : K) → is_lt (R y x) ≡ false → is_lt (R z y) ≡ false → is_lt (R z x) ≡ false
  chain x y z up more = chain_by x y z (R x y) (R z x) refl refl up more

  self_by : (x : K) (r : Ordering) → R x x ≡ r → is_lt r ≡ false
  self_by x Less e = let back : R x x ≡ Greater = o.antisymm x x ∙ ap ordering_reverse e in absurd (cc (e, back))
  self_by x Equal e = refl
  self_by x Greater e = refl

  back_by : (x y : K) (r : Ordering) → R x y ≡ r → is_lt r ≡ true → is_lt (R y x) ≡ false
  back_by x y Less e lt = ap is_lt (turned x y Less e)
  back_by x y Equal e lt = absurd (cc (lt))
  back_by x y Greater e lt = absurd (cc (lt))

-- where y isn't lower than x, and z isn't lower than y, z isn't lower than x
pub not_lower : (x y z : Option Place) → is_lower y x ≡ false → is_lower z y ≡ false → is_lower z x ≡ false
not_lower x y z up more = chain (option_cmp place_cmp) floor_total x y z up more

-- no floor is lower than itself
pub not_lower_self : (x : Option Place) → is_lower x x ≡ false
not_lower_self x = self_by (option_cmp place_cmp) floor_total x (option_cmp place_cmp x x) refl

-- of two floors not both are lower
pub not_back : (x y : Option Place) → is_lower x y ≡ true → is_lower y x ≡ false
not_back x y lt = back_by (option_cmp place_cmp) floor_total x y (option_cmp place_cmp x y) refl lt

-- nothing is lower than no floor
pub not_below_none : (x : Option Place) → is_lower x None ≡ false
not_below_none None = refl
not_below_none (Some place) = refl
