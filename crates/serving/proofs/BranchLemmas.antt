-- Each active branch is found among those that its client started, and each branch among those that were touched in its second, whatever a
-- call changes. Needed where branches are noted.
use Rattle.std.proofs.Common.{◌≡◌, ◌∙◌, ◌||◌, ◌∷◌, ◌≤◌, [], List, Bool, true, false, cond, Option, Some, None, refl, sym, ap, subst}
use Rattle.std.proofs.Common.{inl, inr, ◌+◌, ◌++◌, ◌<◌, append-nil, arith, get_or, length, take}
use Rattle.std.proofs.lemmas.List.Elements.{filter_more}
use Rattle.std.specs.Prelude.{◌==◌, filter, not, ℕ}
use Rattle.std.specs.List.{IsDistinct, AllByRecursion}
use Rattle.std.specs.Ordering.{nat_cmp}
use Rattle.std.specs.Set.{is_member}
use Rattle.std.specs.Time.{instant_nanos}
use Rattle.std.specs.BTreeMap as tree
use Rattle.std.proofs.lemmas.Bool.{and_left, and_parts, and_right, both_ways, cases_Bool, cond_both, leb-true, not-true}
use Rattle.std.proofs.lemmas.Bool.Decides.{Decides-eqb}
use Rattle.std.specs.Option.{option_map_or}
use Rattle.std.specs.declared.time.Instant.{Instant}
use Rattle.indexmap.specs.IndexSet.{IndexSet}
use Rattle.hashing.specs.declared.keys.WordKey.{WordKey}
use Rattle.indexmap.specs.IndexMap.{get, IndexMap}
use Rattle.xid.specs.Names.{XidParts, xid_eq}
use Rattle.xid.proofs.Deciding.{xid_decides}
use Rattle.serving.specs.declared.branches.Branch.{Branch}
use Rattle.serving.specs.declared.branches.Branches.{Branches}
use Rattle.serving.specs.declared.by_number.ByNumber.{ByNumber}
use Rattle.serving.specs.Noted.{after_touch, is_active_of, is_known_as, is_untouched, known, AreNames}
use Rattle.serving.specs.ByNumber.{has, is_in, second_of, under, AreFound, AreTimed, AreUnder, HasAll, HasApart, HasOthers, Leaves}

some_branch : (a b : Branch) → Some a ≡ Some b → a ≡ b
some_branch a b e = cc

-- ---- branches that pass a test, under their numbers

module _ (test : Branch → Bool) (number_of : Branch → ℕ) where
  -- one branch is another now, which is under its number
  pub under_one : (old new : IndexMap XidParts Branch WordKey) (names after : ByNumber) (x : XidParts) (now : Branch)
      → AreUnder test number_of old names → HasApart names after x
      → ((y : XidParts) → get xid_eq new y ≡ cond (xid_eq x y) (Some now) (get xid_eq old y))
      → (test now ≡ true → has after (number_of now) x ≡ true) → AreUnder test number_of new after
  under_one old new names after x now all apart changes its y branch there passes =
      elim (cases_Bool (xid_eq x y)) [
        | inl same ↦
            let is : Some now ≡ Some branch =
            sym (ap (λ (b : Bool). cond b (Some now) (get xid_eq old y)) same) ∙ sym (changes y) ∙ there in
            let one : now ≡ branch = some_branch now branch is in
            subst (λ (b : Branch). has after (number_of b) y ≡ true) one
            (subst (λ (z : XidParts). has after (number_of now) z ≡ true) ((xid_decides x y).0 same) (its (ap test one ∙ passes)))
        | inr other ↦
            apart (number_of branch) y other
            (all y branch (sym (ap (λ (b : Bool). cond b (Some now) (get xid_eq old y)) other) ∙ sym (changes y) ∙ there) passes)
      ]

-- ---- names under numbers, before and after

pub apart_all : (old new : ByNumber) (x : XidParts) → HasAll old new → HasApart old new x
apart_all old new x all number y other there = all number y there

pub apart_then : (old mid new : ByNumber) (x : XidParts) → HasApart old mid x → HasApart mid new x → HasApart old new x
apart_then old mid new x first then number y other there = then number y other (first number y other there)

pub apart_removed : (old new : ByNumber) (number : ℕ) (x : XidParts) → HasOthers old new number x → HasApart old new x
apart_removed old new number x others other y is there = others other y (and_right (number == other) (xid_eq x y) is) there

pub apart_left : (old new : ByNumber) (number : ℕ) (x : XidParts) → Leaves old new number x → HasApart old new x
apart_left old new number x leaves other y is there = leaves other y (and_right (not (number == other)) (xid_eq x y) is) there

-- what is left under other numbers stays under this
pub left_there : (old new : ByNumber) (number : ℕ) (x : XidParts) → Leaves old new number x → has old number x ≡ true
    → has new number x ≡ true
left_there old new number x leaves there =
    leaves number x (and_left (not (number == number)) (xid_eq x x) (ap not ((Decides-eqb number number).1 refl))) there

-- one that was touched is found, if it is active still
pub found_touched : (named : IndexMap XidParts Branch WordKey) (started : ByNumber) (x : XidParts) (was now : Branch) (has_ended : Bool)
    (time : Instant) → AreFound named started → get xid_eq named x ≡ Some was → now ≡ after_touch has_ended time was
    → now.is_active ≡ true → has started now.client x ≡ true
found_touched named started x was now has_ended time found there is active =
    subst (λ (b : Branch). has started b.client x ≡ true) (sym is)
    (found x was there (and_parts was.is_active (not has_ended) (ap (λ (b : Branch). b.is_active) (sym is) ∙ active)).0)

-- one that was ended isn't active
pub ended : (was now : Branch) (has_ended : Bool) (time : Instant) → now ≡ after_touch has_ended time was → has_ended ≡ true
    → now.is_active ≡ true → ⊥
ended was now has_ended time is ends active =
    both_ways has_ended
    (not-true has_ended (and_parts was.is_active (not has_ended) (ap (λ (b : Branch). b.is_active) (sym is) ∙ active)).1) ends

-- one that was touched goes to the second of its time
pub timed_touched : (began : Instant) (named : IndexMap XidParts Branch WordKey) (touched after : ByNumber) (x : XidParts)
    (was now : Branch) (has_ended : Bool) (time : Instant) (before second : ℕ) → AreTimed began named touched
    → get xid_eq named x ≡ Some was → now ≡ after_touch has_ended time was → before ≡ second_of began was.touched
    → second ≡ second_of began time → (has touched before x ≡ true → has after second x ≡ true)
    → has after (second_of began now.touched) x ≡ true
timed_touched began named touched after x was now has_ended time before second timed there is at_first at_last shifted =
    subst (λ (b : Branch). has after (second_of began b.touched) x ≡ true) (sym is)
    (subst (λ (n : ℕ). has after n x ≡ true) at_last
    (shifted (subst (λ (n : ℕ). has touched n x ≡ true) (sym at_first) (timed x was there refl))))

in_under : (x : XidParts) (names : Option (IndexSet XidParts WordKey)) → is_in x names ≡ true
    → is_member xid_eq (option_map_or (λ names. names.keys) names []) x ≡ true
in_under x None there = absurd (cc (there))
in_under x (Some names) there = there

-- an active branch of a client is among those that it started
pub known_started : (branches : Branches) (client : ℕ) (x : XidParts) → AreFound branches.named branches.started
    → is_known_as (is_active_of client) branches x ≡ true → is_member xid_eq (under branches.started client) x ≡ true
known_started branches client x found is = by (known branches x) refl is
  where
    by : (seen : Option Branch) → known branches x ≡ seen → option_map_or (λ branch. is_active_of client (x, branch)) seen false ≡ true
        → is_member xid_eq (under branches.started client) x ≡ true
    by None there is = absurd (cc (is))
    by (Some branch) there is =
        let both = and_parts (branch.client == client) branch.is_active is in
        in_under x (tree.get nat_cmp branches.started.numbers client)
        (subst (λ (c : ℕ). has branches.started c x ≡ true) ((Decides-eqb branch.client client).0 both.0) (found x branch there both.1))

-- the second of a time isn't before that of an earlier one
pub seconds_rise : (began early late : Instant) → instant_nanos early ≤ instant_nanos late → second_of began early ≤ second_of began late
seconds_rise began early late by = omega arith

-- a branch that nobody touched since then is among those of that second and of those before
pub known_timed : (branches : Branches) (since : Instant) (names : List XidParts) (x : XidParts)
    → AreTimed branches.began branches.named branches.touched
    → ((number : ℕ) (y : XidParts) → number ≤ second_of branches.began since → has branches.touched number y ≡ true
    → is_member xid_eq names y ≡ true)
    → is_known_as (is_untouched since) branches x ≡ true → is_member xid_eq names x ≡ true
known_timed branches since names x timed reached is = by (known branches x) refl is
  where
    by : (seen : Option Branch) → known branches x ≡ seen → option_map_or (λ branch. is_untouched since (x, branch)) seen false ≡ true
        → is_member xid_eq names x ≡ true
    by None there is = absurd (cc (is))
    by (Some branch) there is =
        reached (second_of branches.began branch.touched) x
        (seconds_rise branches.began branch.touched since (leb-true (instant_nanos branch.touched) (instant_nanos since) is))
        (timed x branch there refl)

-- of no names none stands twice
pub none_twice : IsDistinct xid_eq []
unfolding IsDistinct
none_twice = tt

-- one more name of a list passes a test
pub filter_yes : (test : XidParts → Bool) (names : List XidParts) (i : ℕ) (name : XidParts) (found : List XidParts) → i < length names
    → name ≡ get_or names i name → test name ≡ true → found ≡ filter test (take i names)
    → (found ++ name ∷ []) ≡ filter test (take (i + 1) names)
filter_yes test names i name found within is passes so_far =
    ap (λ (list : List XidParts). list ++ name ∷ []) so_far
    ∙ ap (λ (b : Bool). filter test (take i names) ++ cond b (name ∷ []) []) (sym passes)
    ∙ ap (λ (n : XidParts). filter test (take i names) ++ cond (test n) (n ∷ []) []) is ∙ sym (filter_more test names i name within)

-- one more name of a list fails a test
pub filter_no : (test : XidParts → Bool) (names : List XidParts) (i : ℕ) (name : XidParts) (found : List XidParts) → i < length names
    → name ≡ get_or names i name → test name ≡ false → found ≡ filter test (take i names) → found ≡ filter test (take (i + 1) names)
filter_no test names i name found within is fails so_far =
    so_far ∙ sym (append-nil (filter test (take i names)))
    ∙ ap (λ (b : Bool). filter test (take i names) ++ cond b (name ∷ []) []) (sym fails)
    ∙ ap (λ (n : XidParts). filter test (take i names) ++ cond (test n) (n ∷ []) []) is ∙ sym (filter_more test names i name within)

-- ---- the names that pass a test

module _ (test : XidParts → Bool) where
  member_passes : (names : List XidParts) (x : XidParts) → test x ≡ true
      → is_member xid_eq (filter test names) x ≡ is_member xid_eq names x
  member_passes [] x passes = refl
  member_passes (name ∷ names) x passes =
      cond_both (test name) (name ∷ filter test names) (filter test names)
      (λ (list : List XidParts). is_member xid_eq list x ≡ (xid_eq x name || is_member xid_eq names x))
      (λ here. ap (λ (b : Bool). xid_eq x name || b) (member_passes names x passes))
      (λ fails. member_passes names x passes
      ∙ sym (ap (λ (b : Bool). b || is_member xid_eq names x) (apart (xid_eq x name) refl fails)))
    where
      apart : (b : Bool) → xid_eq x name ≡ b → test name ≡ false → xid_eq x name ≡ false
      apart true same fails =
          let wrong : true ≡ false = sym passes ∙ ap test ((xid_decides x name).0 same) ∙ fails in absurd (cc (wrong))
      apart false same fails = same

  member_fails : (names : List XidParts) (x : XidParts) → test x ≡ false → is_member xid_eq (filter test names) x ≡ false
  member_fails [] x fails = refl
  member_fails (name ∷ names) x fails =
      cond_both (test name) (name ∷ filter test names) (filter test names)
      (λ (list : List XidParts). is_member xid_eq list x ≡ false)
      (λ here. ap (λ (b : Bool). b || is_member xid_eq (filter test names) x) (apart (xid_eq x name) refl here)
      ∙ member_fails names x fails)
      (λ away. member_fails names x fails)
    where
      apart : (b : Bool) → xid_eq x name ≡ b → test name ≡ true → xid_eq x name ≡ false
      apart true same here =
          let wrong : true ≡ false = sym here ∙ sym (ap test ((xid_decides x name).0 same)) ∙ fails in absurd (cc (wrong))
      apart false same here = same

  each_apart : (P : XidParts → Type 0) (names : List XidParts) → AllByRecursion P names → AllByRecursion P (filter test names)
  each_apart P [] all = tt
  each_apart P (name ∷ names) all =
      cond_both (test name) (name ∷ filter test names) (filter test names) (AllByRecursion P)
      (λ here. (all.0, each_apart P names all.1)) (λ away. each_apart P names all.1)

  distinct_still : (names : List XidParts) → IsDistinct xid_eq names → IsDistinct xid_eq (filter test names)
  unfolding IsDistinct
  distinct_still [] apart = tt
  distinct_still (name ∷ names) apart =
      cond_both (test name) (name ∷ filter test names) (filter test names) (IsDistinct xid_eq)
      (λ here. (each_apart (λ y. xid_eq name y ≡ false) names apart.0, distinct_still names apart.1))
      (λ away. distinct_still names apart.1)

  -- of distinct names, among which are all that pass a test, those that pass are these
  pub names_filter : (names : List XidParts) → IsDistinct xid_eq names
      → ((x : XidParts) → test x ≡ true → is_member xid_eq names x ≡ true) → AreNames test (filter test names)
  names_filter names apart all = (
    λ (x : XidParts). elim (cases_Bool (test x)) [
      | inl passes ↦ member_passes names x passes ∙ all x passes ∙ sym passes
      | inr fails ↦ member_fails names x fails ∙ sym fails
    ],
    distinct_still names apart,
  )
