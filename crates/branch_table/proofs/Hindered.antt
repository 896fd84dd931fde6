-- Another branch hinders where a key has more uses than the own branch makes of it.
-- Needed by 5 functions of this crate; OutcomeSteps and TableKept.
use Rattle.std.proofs.Common.{◌≡◌, ◌∙◌, ℕ, ◌+◌, ◌<◌, ◌≤◌, Bool, true, false, not, ◌&&◌, ◌||◌, cond, ltb, List, [], ◌∷◌, Some, None}
use Rattle.std.proofs.Common.{refl, sym, ap, subst, arith, Decides, inl, inr}
use Rattle.std.specs.List.{list_any, AllByRecursion, IsDistinct}
use Rattle.std.proofs.lemmas.Bool.{and_parts, both_ways, cond_both, lt-ltb, ltb-true, not-true, or_cases, or_from, or_left, or_parts}
use Rattle.std.proofs.lemmas.Bool.{or_right}
use Rattle.std.proofs.lemmas.List.Sums.{sum_by-cons}
use Rattle.xid.specs.Names.{XidParts, xid_eq}
use Rattle.xid.proofs.Deciding.{xid_self, xid_decides, xid_other, xid_apart}
use Rattle.protocol.specs.Branches.{BranchView, no_branch, hinders_use}
use Rattle.protocol.specs.Holds.{names_of}
use Rattle.protocol.specs.Managers.{Branch, view_named}
use Rattle.branch_table.specs.OneCall.{IsHindered}
use Rattle.branch_table.specs.TableStates.{branch_named}
use Rattle.branch_table.specs.Parts.{is_using, uses_of, uses_in}
use Rattle.branch_table.proofs.Uses.{one}
use Rattle.branch_table.proofs.Views.{hindered_to, is_of, none_hinders_use, view_of}

view_absent : (bs : List Branch) (x : XidParts) → list_any (is_of x) bs ≡ false → view_named bs x ≡ no_branch
view_absent [] x e = refl
view_absent (b ∷ bs) x e =
    let parts = or_parts (is_of x b) (list_any (is_of x) bs) e in
    rw parts.0 (view_absent bs x parts.1)

-- where no branch has a name, none is found
pub named_absent : (bs : List Branch) (x : XidParts) → list_any (is_of x) bs ≡ false → branch_named bs x ≡ None
named_absent [] x e = refl
named_absent (b ∷ bs) x e =
    let parts = or_parts (is_of x b) (list_any (is_of x) bs) e in
    rw parts.0 (named_absent bs x parts.1)

-- no later branch has the XID of the first
absent_after : (bs : List Branch) (x : XidParts) → AllByRecursion (λ y. xid_eq x y ≡ false) (names_of bs) → list_any (is_of x) bs ≡ false
absent_after [] x apart = refl
absent_after (c ∷ bs) x apart =
    or_from (is_of x c) (list_any (is_of x) bs) (xid_other c.xid x (λ e. xid_apart x c.xid apart.0 (sym e)))
    (absent_after bs x apart.1)

-- where the first branch has it, no later one does
pub none_later : (c : Branch) (bs : List Branch) (x : XidParts) → IsDistinct xid_eq (names_of (c ∷ bs)) → is_of x c ≡ true
    → list_any (is_of x) bs ≡ false
unfolding IsDistinct
none_later c bs x distinct own =
    subst (λ (y : XidParts). list_any (is_of y) bs ≡ false) ((xid_decides c.xid x).0 own) (absent_after bs c.xid distinct.0)

absent_own : (c : Branch) (bs : List Branch) (x : XidParts) → IsDistinct xid_eq (names_of (c ∷ bs)) → is_of x c ≡ true
    → view_named bs x ≡ no_branch
absent_own c bs x distinct own = view_absent bs x (none_later c bs x distinct own)

-- the names of the rest are different too
pub distinct_tail : (b : Branch) (bs : List Branch) → IsDistinct xid_eq (names_of (b ∷ bs)) → IsDistinct xid_eq (names_of bs)
unfolding IsDistinct
distinct_tail b bs distinct = distinct.1

module _ (test : BranchView → Bool) (none : test no_branch ≡ false) where
  abbrev is_other : XidParts → Branch → Bool
  is_other x branch = not (xid_eq branch.xid x) && test (view_of branch)

  -- what shows of a later branch shows of the list
  shows_later : (b : Branch) (bs : List Branch) (y : XidParts) → IsDistinct xid_eq (names_of (b ∷ bs))
      → test (view_named bs y) ≡ true → test (view_named (b ∷ bs) y) ≡ true
  shows_later b bs y distinct shown =
      cond_both (xid_eq b.xid y) (view_of b) (view_named bs y) (λ (v : BranchView). test v ≡ true)
      (λ own. absurd (both_ways _ (ap test (absent_own b bs y distinct own) ∙ none) shown)) (λ other. shown)

  hindered_from : (bs : List Branch) (x : XidParts) → IsDistinct xid_eq (names_of bs) → list_any (is_other x) bs ≡ true
      → IsHindered test (view_named bs) x
  hindered_from [] x distinct e = absurd (cc (e))
  hindered_from (b ∷ bs) x distinct e = elim (or_cases (is_other x b) (list_any (is_other x) bs) e) [
    | inl here ↦
        let parts = and_parts (not (xid_eq b.xid x)) (test (view_of b)) here in
        (b.xid, xid_apart b.xid x (not-true (xid_eq b.xid x) parts.0), rw (xid_self b.xid) parts.1)
    | inr later ↦
        let found = hindered_from bs x (distinct_tail b bs distinct) later in
        (found.0, found.1, shows_later b bs found.0 distinct found.2)
  ]

module _ (writes : Bool) (key : List ℕ) where
  abbrev own : List Branch → XidParts → ℕ
  own bs x = uses_of writes key (branch_named bs x)

  abbrev uses : List Branch → ℕ
  uses bs = uses_in writes key bs

  abbrev is_another : XidParts → Branch → Bool
  is_another x branch = not (xid_eq branch.xid x) && is_using writes key branch

  uses_cons : (b : Branch) (bs : List Branch) → uses (b ∷ bs) ≡ one (is_using writes key b) + uses bs
  uses_cons b bs = sum_by-cons (λ c. one (is_using writes key c)) b bs

  own_head : (b : Branch) (bs : List Branch) (x : XidParts) → xid_eq b.xid x ≡ true → own (b ∷ bs) x ≡ one (is_using writes key b)
  own_head b bs x e = ap (λ t. uses_of writes key (cond t (Some b) (branch_named bs x))) e

  own_tail : (b : Branch) (bs : List Branch) (x : XidParts) → xid_eq b.xid x ≡ false → own (b ∷ bs) x ≡ own bs x
  own_tail b bs x e = ap (λ t. uses_of writes key (cond t (Some b) (branch_named bs x))) e

  -- what the own branch uses of a key is among all uses
  pub own_within : (bs : List Branch) (x : XidParts) → own bs x ≤ uses bs
  own_within [] x = omega arith
  own_within (b ∷ bs) x = by (xid_eq b.xid x) refl (own_within bs x)
    where
      by : (t : Bool) → xid_eq b.xid x ≡ t → own bs x ≤ uses bs → own (b ∷ bs) x ≤ uses (b ∷ bs)
      by true e rest =
          let here = own_head b bs x e in
          let all = uses_cons b bs in
          omega (arith, here, all)
      by false e rest =
          let here = own_tail b bs x e in
          let all = uses_cons b bs in
          omega (arith, here, all, rest)

  none_own : (bs : List Branch) (x : XidParts) → list_any (is_of x) bs ≡ false → own bs x ≡ 0
  none_own bs x e = ap (uses_of writes key) (named_absent bs x e)

  counted_from : (bs : List Branch) (x : XidParts) → IsDistinct xid_eq (names_of bs) → own bs x < uses bs
      → list_any (is_another x) bs ≡ true
  counted_from [] x distinct lt = absurd (omega (arith, lt))
  counted_from (b ∷ bs) x distinct lt =
      by (xid_eq b.xid x) (is_using writes key b) refl refl (counted_from bs x (distinct_tail b bs distinct))
    where
      by : (t u : Bool) → xid_eq b.xid x ≡ t → is_using writes key b ≡ u
          → (own bs x < uses bs → list_any (is_another x) bs ≡ true) → list_any (is_another x) (b ∷ bs) ≡ true
      by true u e f others =
          let here = own_head b bs x e in
          let all = uses_cons b bs in
          let zero = none_own bs x (none_later b bs x distinct e) in
          or_right (is_another x b) (list_any (is_another x) bs)
          (others (omega (arith, here, all, zero, lt)))
      by false true e f others = or_left (is_another x b) (list_any (is_another x) bs) (rw (e, f) refl)
      by false false e f others =
          let here = own_tail b bs x e in
          let all = uses_cons b bs in
          let unused : one (is_using writes key b) ≡ 0 = ap one f in
          or_right (is_another x b) (list_any (is_another x) bs)
          (others (omega (arith, here, all, unused, lt)))

  counted_to : (bs : List Branch) (x : XidParts) → IsDistinct xid_eq (names_of bs) → list_any (is_another x) bs ≡ true
      → own bs x < uses bs
  counted_to [] x distinct found = absurd (cc (found))
  counted_to (b ∷ bs) x distinct found =
      by (xid_eq b.xid x) (is_using writes key b) refl refl (counted_to bs x (distinct_tail b bs distinct))
    where
      later : is_another x b ≡ false → list_any (is_another x) bs ≡ true
      later e = sym (ap (λ t. t || list_any (is_another x) bs) e) ∙ found

      by : (t u : Bool) → xid_eq b.xid x ≡ t → is_using writes key b ≡ u
          → (list_any (is_another x) bs ≡ true → own bs x < uses bs) → own (b ∷ bs) x < uses (b ∷ bs)
      by true u e f others =
          let here = own_head b bs x e in
          let all = uses_cons b bs in
          let rest = others (later (ap (λ t. not t && is_using writes key b) e)) in
          omega (arith, here, all, rest)
      by false true e f others =
          let here = own_tail b bs x e in
          let all = uses_cons b bs in
          let used : one (is_using writes key b) ≡ 1 = ap one f in
          let within = own_within bs x in
          omega (arith, here, all, used, within)
      by false false e f others =
          let here = own_tail b bs x e in
          let all = uses_cons b bs in
          let rest = others (later (ap (λ t. not t && is_using writes key b) e ∙ f)) in
          omega (arith, here, all, rest)

  -- by numbers: the own uses, and all of them
  pub hindered_by : (bs : List Branch) (x : XidParts) (mine all : ℕ) → IsDistinct xid_eq (names_of bs) → mine ≡ own bs x → all ≡ uses bs
      → (mine < all → IsHindered (hinders_use writes key) (view_named bs) x)
      × (IsHindered (hinders_use writes key) (view_named bs) x → mine < all)
  hindered_by bs x mine all distinct is-mine is-all =
      let test = hinders_use writes key in
      let none = none_hinders_use writes key in (
        λ lt. hindered_from test none bs x distinct (counted_from bs x distinct (omega (arith, is-mine, is-all, lt))),
        λ is.
            let found = counted_to bs x distinct (hindered_to test none bs x is.0 is.1 is.2) in
            omega (arith, found, is-mine, is-all),
      )

  -- the test of numbers is the test of a hindering branch
  pub decides_by : (bs : List Branch) (x : XidParts) (mine all : ℕ) → IsDistinct xid_eq (names_of bs) → mine ≡ own bs x → all ≡ uses bs
      → Decides (ltb mine all) (IsHindered (hinders_use writes key) (view_named bs) x)
  decides_by bs x mine all distinct is-mine is-all =
      let hindered = hindered_by bs x mine all distinct is-mine is-all in
      (λ e. hindered.0 (ltb-true mine all e), λ is. lt-ltb mine all (hindered.1 is))

  -- whether another branch hinders
  pub is_busy : (bs : List Branch) (x : XidParts) → IsDistinct xid_eq (names_of bs)
      → (busy : Bool) × Decides busy (IsHindered (hinders_use writes key) (view_named bs) x)
  is_busy bs x distinct = (ltb (own bs x) (uses bs), decides_by bs x (own bs x) (uses bs) distinct refl refl)
