-- Names under all numbers up to one are found where the numbers are gone through in order. Needed where branches are looked for that nobody
-- touched.
use Rattle.std.proofs.Common.{◌≡◌, ◌∙◌, ◌||◌, ◌∷◌, ◌≤◌, ℕ, [], List, Bool, true, false, cond, Some, refl, sym, ap, subst, inl, inr}
use Rattle.std.proofs.Common.{◌+◌, ◌<◌, arith, get_or, length, take}
use Rattle.std.proofs.lemmas.List.Folds.{list_any_more}
use Rattle.std.specs.Prelude.{not}
use Rattle.std.specs.BTreeMap.{is_at}
use Rattle.std.specs.BTreeMap.Range.{entries_between, range_contains}
use Rattle.std.specs.Map.{lookup}
use Rattle.std.specs.Ordering.{is_lt, nat_cmp}
use Rattle.std.specs.Set.{is_member}
use Rattle.std.specs.declared.ops.Bound.TheVariants.{Included, Unbounded}
use Rattle.std.proofs.lemmas.Bool.{cases_Bool, cond_both, le-ltb, or_left, or_right}
use Rattle.std.proofs.lemmas.Map.Lookups.{exact_unsigned}
use Rattle.std.specs.Cmp.{Equal-is}
use Rattle.indexmap.specs.IndexSet.{IndexSet}
use Rattle.hashing.specs.declared.keys.WordKey.{WordKey}
use Rattle.xid.specs.Names.{XidParts, xid_eq}
use Rattle.xid.proofs.Deciding.{xid_apart, xid_decides, xid_other}
use Rattle.serving.specs.ByNumber.{is_in}

-- whether a name is under any of these numbers
abbrev pub in_any : XidParts → List (ℕ × IndexSet XidParts WordKey) → Bool
in_any x [] = false
in_any x (entry ∷ entries) = is_member xid_eq entry.1.keys x || in_any x entries

not_after : (last number : ℕ) → number ≤ last → is_lt (nat_cmp last number) ≡ false
not_after last number by = grind (arith, le-ltb last number by)

-- a name under a number up to the last is under any of these
pub reached : (entries : List (ℕ × IndexSet XidParts WordKey)) (last number : ℕ) (x : XidParts) → number ≤ last
    → is_in x (lookup (is_at (nat_cmp number)) entries) ≡ true
    → in_any x (entries_between nat_cmp Unbounded (Included last) entries) ≡ true
reached [] last number x by there = absurd (cc (there))
reached (entry ∷ entries) last number x by there =
    cond_both (range_contains nat_cmp Unbounded (Included last) entry.0) (entry ∷ left) left (λ kept. in_any x kept ≡ true)
    (λ keeps. elim (cases_Bool (is_at (nat_cmp number) entry.0)) [
      | inl at ↦ or_left (is_member xid_eq entry.1.keys x) (in_any x left) (one at)
      | inr away ↦ or_right (is_member xid_eq entry.1.keys x) (in_any x left) (rest away (reached entries last number x by))
    ])
    (λ drops. elim (cases_Bool (is_at (nat_cmp number) entry.0)) [
      | inl at ↦
          let same : number ≡ entry.0 = exact_unsigned number entry.0 ((Equal-is (nat_cmp number entry.0)).0 at) in
          let past : is_lt (nat_cmp last entry.0) ≡ false =
          subst (λ (n : ℕ). is_lt (nat_cmp last n) ≡ false) same (not_after last number by) in
          let wrong : true ≡ false = sym (ap not past) ∙ drops in absurd (cc (wrong))
      | inr away ↦ rest away (reached entries last number x by)
    ])
  where
    left : List (ℕ × IndexSet XidParts WordKey)
    left = entries_between nat_cmp Unbounded (Included last) entries

    one : is_at (nat_cmp number) entry.0 ≡ true → is_member xid_eq entry.1.keys x ≡ true
    one at = ap (λ (b : Bool). is_in x (cond b (Some entry.1) (lookup (is_at (nat_cmp number)) entries))) (sym at) ∙ there

    rest : is_at (nat_cmp number) entry.0 ≡ false
        → (is_in x (lookup (is_at (nat_cmp number)) entries) ≡ true → in_any x left ≡ true) → in_any x left ≡ true
    rest away further =
        further (ap (λ (b : Bool). is_in x (cond b (Some entry.1) (lookup (is_at (nat_cmp number)) entries))) (sym away) ∙ there)

or_turned : (is before there : Bool) → cond is true (before || there) ≡ (before || (there || is))
or_turned true true there = refl
or_turned true false true = refl
or_turned true false false = refl
or_turned false true there = refl
or_turned false false true = refl
or_turned false false false = refl

xid_turn : (x y : XidParts) → xid_eq x y ≡ xid_eq y x
xid_turn x y =
    elim (cases_Bool (xid_eq x y)) [
      | inl is ↦ is ∙ sym ((xid_decides y x).1 (sym ((xid_decides x y).0 is)))
      | inr other ↦ other ∙ sym (xid_other y x (λ same. xid_apart x y other (sym same)))
    ]

-- one more name of a list was put to others
pub one_more : (names : List XidParts) (i : ℕ) (name x : XidParts) (before was now : Bool) → i < length names → name ≡ get_or names i name
    → was ≡ (before || is_member xid_eq (take i names) x) → now ≡ cond (xid_eq name x) true was
    → now ≡ (before || is_member xid_eq (take (i + 1) names) x)
one_more names i name x before was now within is so_far changes =
    let more : is_member xid_eq (take (i + 1) names) x ≡ (is_member xid_eq (take i names) x || xid_eq x name) =
    list_any_more (xid_eq x) names i name within
    ∙ ap (λ (n : XidParts). is_member xid_eq (take i names) x || xid_eq x n) (sym is) in
    changes ∙ ap (λ (b : Bool). cond b true was) (xid_turn name x) ∙ ap (cond (xid_eq x name) true) so_far
    ∙ or_turned (xid_eq x name) before (is_member xid_eq (take i names) x) ∙ ap (λ (b : Bool). before || b) (sym more)
