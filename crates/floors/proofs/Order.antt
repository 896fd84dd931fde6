-- What is higher, lower and least of floors.
use Rattle.std.proofs.Common.{◌≡◌, ◌∙◌, inl, inr, ℕ, false, List, [], ◌∷◌, Option, Some, None, refl, sym, ap, subst}
use Rattle.std.proofs.lemmas.Bool.{cond_both}
use Rattle.std.proofs.lemmas.Cmp.{nat_cmp_total, on_total, ranked, then_total}
use Rattle.std.proofs.lemmas.Map.Text.{is_eq-slice_cmp}
use Rattle.std.specs.Cmp.Lexicographic.{bytes_decides, on_texts, slice_cmp}
use Rattle.std.specs.Ordering.{is_eq, is_lt, nat_cmp, ordering_reverse, ordering_then}
use Rattle.std.specs.declared.cmp.Ordering.{Ordering}
use Rattle.std.specs.declared.cmp.Ordering.TheVariants.{Less, Equal, Greater}
use Rattle.ballot.specs.Greatest.{IsIn}
use Rattle.xid.specs.Places.{Place, is_lower, place_cmp}
use Rattle.xid.proofs.Places.{not_back, not_lower, not_lower_self}
use Rattle.floors.specs.Worlds.{higher, lower, least_of}

-- what isn't lower than two floors isn't lower than the higher of them
pub higher_bound : (a b c : Option Place) → is_lower c a ≡ false → is_lower c b ≡ false → is_lower c (higher a b) ≡ false
higher_bound a b c ca cb = cond_both (is_lower a b) b a (λ (h : Option Place). is_lower c h ≡ false) (λ lt. cb) (λ ge. ca)

-- neither of two floors is lower than the lower of them
pub lower_first : (a b : Option Place) → is_lower a (lower a b) ≡ false
lower_first a b =
    cond_both (is_lower b a) b a (λ (l : Option Place). is_lower a l ≡ false) (λ lt. not_back b a lt) (λ ge. not_lower_self a)

pub lower_second : (a b : Option Place) → is_lower b (lower a b) ≡ false
lower_second a b = cond_both (is_lower b a) b a (λ (l : Option Place). is_lower b l ≡ false) (λ lt. not_lower_self b) (λ ge. ge)

-- none is lower than the least
pub least_is : (floors : List (Option Place)) (x : Option Place) → IsIn floors x → is_lower x (least_of floors) ≡ false
least_is [] x h = absurd h
least_is (first ∷ []) x (inl e) = subst (λ (f : Option Place). is_lower x f ≡ false) (sym e) (not_lower_self x)
least_is (first ∷ []) x (inr none) = absurd none
least_is (first ∷ second ∷ rest) x (inl e) =
    subst (λ (f : Option Place). is_lower f (lower first (least_of (second ∷ rest))) ≡ false) e
    (lower_first first (least_of (second ∷ rest)))
least_is (first ∷ second ∷ rest) x (inr h) =
    not_lower (lower first (least_of (second ∷ rest))) (least_of (second ∷ rest)) x (lower_second first (least_of (second ∷ rest)))
    (least_is (second ∷ rest) x h)

-- ---- neither is lower

equal_by : (r s : Ordering) → ordering_then r s ≡ Equal → (r ≡ Equal) × (s ≡ Equal)
equal_by Equal s e = (refl, e)
equal_by Less s e = absurd (cc (e))
equal_by Greater s e = absurd (cc (e))

number_equal : (x y : ℕ) → nat_cmp x y ≡ Equal → x ≡ y
number_equal x y e = ranked x y Equal (sym e)

text_equal : (xs ys : List ℕ) → slice_cmp nat_cmp xs ys ≡ Equal → xs ≡ ys
text_equal xs ys e = (bytes_decides xs ys).0 (sym (is_eq-slice_cmp xs ys) ∙ ap is_eq e)

place_equal : (a b : Place) → place_cmp a b ≡ Equal → a ≡ b
place_equal a b e =
    let parts = equal_by (nat_cmp a.format b.format) (slice_cmp nat_cmp a.gtrid b.gtrid) e in
    λ k. record { format = number_equal a.format b.format parts.0 k; gtrid = text_equal a.gtrid b.gtrid parts.1 k }

-- a floor and a place of which neither is lower are the same
pub same_floor : (floor : Option Place) (place : Place) → is_lower floor (Some place) ≡ false → is_lower (Some place) floor ≡ false
    → floor ≡ Some place
same_floor None place up back = absurd (cc (up))
same_floor (Some own) place up back = by (place_cmp own place) refl up
  where
    by : (r : Ordering) → place_cmp own place ≡ r → is_lt r ≡ false → Some own ≡ Some place
    by Less e up = absurd (cc (up))
    by Equal e up = ap Some (place_equal own place e)
    by Greater e up =
        let total = then_total (on_total (λ (p : Place). p.format) nat_cmp_total) (on_texts (λ (p : Place). p.gtrid)) in
        let lower : place_cmp place own ≡ Less = total.antisymm place own ∙ ap ordering_reverse e in
        absurd (cc (lower, back))
