-- A place is taken again, as a name begins, and what is taken was spelled.
-- Needed by `put_place`; Ends and Notices; crates stable_record, floored and net_script.
use Rattle.std.proofs.Common.{◌≡◌, ◌∙◌, ℕ, zero, suc, ◌≤◌, ◌<◌, ◌^◌, cond, ltb, List, [], ◌∷◌, ◌++◌, length, take, drop, Some, None}
use Rattle.std.proofs.Common.{refl, sym, ap, subst, append_assoc, arith}
use Rattle.std.proofs.lemmas.Bool.Decides.{nat_tests}
use Rattle.std.proofs.lemmas.List.{length-take, take-append-drop}
use Rattle.byteorder.specs.Endian.{big_number}
use Rattle.byteorder.specs.Numbers.{big_from-lt}
use Rattle.xid.specs.Limits.{most_component}
use Rattle.xid.specs.Names.{IsBytes}
use Rattle.xid.specs.Places.{Place, IsPlace}
use Rattle.wire.specs.Grammar.{number_spelling, component_spelling}
use Rattle.wire.specs.Reading.{big_at, number_at, component_at}
use Rattle.wire.specs.Names.{place_spelling, name_at}
use Rattle.wire.proofs.Fields.{number_again, component_again}
use Rattle.wire.proofs.Spelled.{Front, bytes_after, joined, some_same, step, unless, number_spelled, component_spelled}

-- ---- what is spelled is taken again

-- a place, as a name begins
pub name_again : (place : Place) (rest : List ℕ) → IsPlace place → name_at (place_spelling place ++ rest) ≡ Some (place, rest)
unfolding name_at
name_again place rest is =
    let first = number_again place.format (component_spelling place.gtrid ++ rest) is.format in
    let second = component_again place.gtrid rest is.few in
    ap name_at (append_assoc (number_spelling place.format) (component_spelling place.gtrid) rest) ∙ rw (first, second) refl

-- ---- what is taken was spelled

-- a number of so many bytes is below the numbers that these can't spell
pub big_below : (width : ℕ) (bytes : List ℕ) (x : ℕ × List ℕ) → IsBytes bytes → big_at width bytes ≡ Some x → x.0 < 256 ^ width
big_below width bytes x is e =
    let t = unless (ltb (length bytes) width) (Some (big_number width bytes, drop width bytes)) x e in
    let same : big_number width bytes ≡ x.0 =
    ap (λ (x : ℕ × List ℕ). x.0) (some_same (big_number width bytes, drop width bytes) x t.1) in
    subst (λ (n : ℕ). n < 256 ^ width) same (big_from-lt 0 width bytes is)

-- a part of a name that was taken is short enough
pub component_few : (bytes : List ℕ) (x : List ℕ × List ℕ) → component_at bytes ≡ Some x → length x.0 ≤ most_component
unfolding component_at
component_few [] x e = absurd (cc)
component_few (n ∷ rest) x e =
    let few = unless (ltb most_component n) (cond (ltb (length rest) n) None (Some (take n rest, drop n rest))) x e in
    let long = unless (ltb (length rest) n) (Some (take n rest, drop n rest)) x few.1 in
    let le : n ≤ most_component = grind (arith, nat_tests, few.0) in
    subst (λ (x : List ℕ × List ℕ). length x.0 ≤ most_component) (some_same (take n rest, drop n rest) x long.1)
    (omega (arith, length-take n rest, le))

-- what stands in front of bytes is bytes
pub bytes_front : (front rest : List ℕ) → IsBytes (front ++ rest) → IsBytes front
bytes_front [] rest is i = omega arith
bytes_front (x ∷ front) rest is zero = is 0
bytes_front (x ∷ front) rest is (suc i) = bytes_front front rest (λ k. is (suc k)) i

component_bytes : (bytes : List ℕ) (x : List ℕ × List ℕ) → IsBytes bytes → Front bytes (component_spelling x.0) x.1 → IsBytes x.0
component_bytes bytes x is front =
    let whole : IsBytes (length x.0 ∷ (x.0 ++ x.1)) = subst IsBytes front.same is in
    bytes_front x.0 x.1 (λ i. whole (suc i))

-- a place that was spelled, with what follows it
pub record Named (bytes : List ℕ) (x : Place × List ℕ) : Type 0 where
  pub front : Front bytes (place_spelling x.0) x.1
  pub valid : IsPlace x.0

-- a place that was taken was spelled
pub name_spelled : (bytes : List ℕ) (x : Place × List ℕ) → IsBytes bytes → name_at bytes ≡ Some x → Named bytes x
unfolding name_at
name_spelled bytes x is e =
    step (number_at bytes) _ e (λ format ef e. step (component_at format.1) _ e (λ gtrid eg e.
    let one = number_spelled bytes format is ef in
    let two = component_spelled format.1 gtrid one.after eg in
    let place : Place = record { format = format.0; gtrid = gtrid.0 } in
    subst (Named bytes) (some_same (place, gtrid.1) x e) (record {
      front = joined bytes (number_spelling format.0) format.1 (component_spelling gtrid.0) gtrid.1 one two;
      valid = record {
        format = big_below 4 bytes format is ef;
        few = component_few format.1 gtrid eg;
        bytes = component_bytes format.1 gtrid one.after two;
      };
    })))

-- ---- what is put

-- a component that was put into bytes is bytes
pub component_put : (n : ℕ) (xs front component : List ℕ) → IsBytes xs → take n xs ≡ front ++ component_spelling component
    → IsBytes component
component_put n xs front component is e =
    let first : IsBytes (take n xs) = bytes_front (take n xs) (drop n xs) (subst IsBytes (sym (take-append-drop n xs)) is) in
    let last : IsBytes (component_spelling component) = bytes_after front (component_spelling component) (subst IsBytes e first) in
    λ i. last (suc i)
