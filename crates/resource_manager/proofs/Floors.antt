-- What is left of a resource manager's courses above a floor, one by one, and whether one of its branches is below.
-- Needed by `ResourceManager::has_branch_below` and `left_of`; crate forgetting.
use Rattle.std.proofs.Common.{◌≡◌, ◌∙◌, inl, inr, ℕ, suc, ◌+◌, ◌<◌, ◌≤◌, Bool, true, false, not, ◌&&◌, ◌||◌, if◌then◌else◌, List, [], ◌∷◌}
use Rattle.std.proofs.Common.{◌++◌, length, get_or, take, drop, append_assoc, append-nil}
use Rattle.std.proofs.Common.{Option, Some, None, is_some, refl, sym, ap, subst, arith}
use Rattle.std.specs.Prelude.{filter, filter_map, find, nat_lt, option_map, slice_get}
use Rattle.std.specs.List.{AllByRecursion, IsDistinct, cons_option, list_all, list_any}
use Rattle.std.specs.Option.{option_map_or}
use Rattle.std.proofs.lemmas.Bool.{both_ways, cond-false, cond-true, false_from_ne_true, ltb-true}
use Rattle.std.proofs.lemmas.List.{take-append-drop, take_all}
use Rattle.std.proofs.lemmas.List.Elements.{filter-append, filter_map-append}
use Rattle.std.proofs.lemmas.List.Folds.{list_any-append}
use Rattle.std.proofs.lemmas.Option.{slice_get-get_or}
use Rattle.xid.specs.Names.{XidParts, xid_eq}
use Rattle.xid.specs.Places.{Place, is_below, is_xid_below}
use Rattle.xid.specs.Transactions.{BranchParts, TxParts, is_at, is_participant, tx_eq, xid_at, xid_of}
use Rattle.xid.proofs.Deciding.{tx_decides, xid_decides, xid_self}
use Rattle.xid.proofs.Texts.{list_all_get}
use Rattle.ballot.specs.Greatest.{IsIn}
use Rattle.stable_record.specs.declared.fact.FactKind.{FactKind as Fact}
use Rattle.stable_record.specs.declared.fact.Touched.{Touched}
use Rattle.transactions.proofs.Above.{any_passing}
use Rattle.protocol.specs.declared.states.BranchState.{BranchState}
use Rattle.protocol.specs.Effects.{Config}
use Rattle.protocol.specs.Facts.{Bound, bound_branches}
use Rattle.protocol.specs.Kept.{are_free_below}
use Rattle.protocol.specs.Managers.{Branch, all_branches}
use Rattle.protocol.proofs.Lists.{any_find, any_found, found_among, found_any}
use Rattle.protocol.proofs.Manager.Apart.{bound_named}
use Rattle.branch_table.specs.TableStates.{branch_named}
use Rattle.resource_manager.specs.declared.course.Course.{Course}
use Rattle.resource_manager.specs.Courses.{CoursesParts, course_in, is_new_course}
use Rattle.resource_manager.specs.Forgetting.{AreCoursesOf, IsKept, begun_above}
use Rattle.resource_manager.specs.Managers.{ManagerParts, StandsFor, branches_in}
use Rattle.resource_manager.specs.SpentNames.{SpentParts}
use Rattle.resource_manager.proofs.Entries.{given_more, read_at}

-- ---- transactions that come once each

-- one of these isn't among those before it
apart_before : (txs : List TxParts) (tx : TxParts) (rest : List TxParts) → IsDistinct tx_eq (txs ++ tx ∷ rest)
    → list_any (tx_eq tx) txs ≡ false
unfolding IsDistinct
apart_before [] tx rest once = refl
apart_before (t ∷ txs) tx rest once = λ k. turned (no_more txs once.0) k || apart_before txs tx rest once.1 k
  where
    no_more : (ts : List TxParts) → AllByRecursion (λ u. tx_eq t u ≡ false) (ts ++ tx ∷ rest) → tx_eq t tx ≡ false
    no_more [] each = each.0
    no_more (u ∷ ts) each = no_more ts each.1

    turned : tx_eq t tx ≡ false → tx_eq tx t ≡ false
    turned e = false_from_ne_true (tx_eq tx t) (λ same. both_ways (tx_eq t tx) e ((tx_decides t tx).1 (sym ((tx_decides tx t).0 same))))

-- ---- one transaction more

or_turned : (a b : Bool) → (a || b) ≡ (b || (a || false))
or_turned true true = refl
or_turned true false = refl
or_turned false true = refl
or_turned false false = refl

module _ (m : ManagerParts) where
  abbrev has_name : XidParts → TxParts → Bool
  has_name x tx = option_map_or (xid_eq x) (xid_at tx m.number) false

  abbrev course_left : TxParts → Bool → Course
  course_left tx t = if t then course_in m.courses tx else Course.Working

  course_more : (tx other : TxParts) (t u : Bool) → tx_eq other tx ≡ t
      → (if t then course_in m.courses tx else course_left other u) ≡ course_left other (u || (t || false))
  course_more tx other true true e = ap (course_in m.courses) (sym ((tx_decides other tx).0 e))
  course_more tx other true false e = ap (course_in m.courses) (sym ((tx_decides other tx).0 e))
  course_more tx other false true e = refl
  course_more tx other false false e = refl

  one_more : (txs : List TxParts) (old new : CoursesParts) (old_spent new_spent : SpentParts) (tx : TxParts)
      → AreCoursesOf txs m old old_spent → list_any (tx_eq tx) txs ≡ false
      → IsKept m.number tx (course_in m.courses tx) old new old_spent new_spent → AreCoursesOf (txs ++ tx ∷ []) m new new_spent
  one_more txs old new old_spent new_spent tx are absent kept =
      let working : course_in old tx ≡ Course.Working = are.courses_are tx ∙ ap (course_left tx) absent in
      record {
        courses_are = λ other.
            kept.courses_are other
            ∙ ap (λ (c : Course). if tx_eq other tx then course_in m.courses tx else c) (are.courses_are other)
            ∙ course_more tx other (tx_eq other tx) (list_any (tx_eq other) txs) refl
            ∙ ap (course_left other) (sym (list_any-append (tx_eq other) txs (tx ∷ [])));
        begun_are =
            kept.begun_are ∙ ap (λ (c : Course). if is_new_course c then old.begun ++ tx ∷ [] else old.begun) working
            ∙ ap (λ (ts : List TxParts). ts ++ tx ∷ []) are.begun_are;
        spent_are = λ x.
            kept.spent_are x ∙ ap (λ (t : Bool). has_name x tx || t) (are.spent_are x)
            ∙ or_turned (has_name x tx) (list_any (has_name x) txs) ∙ sym (list_any-append (has_name x) txs (tx ∷ []));
      }

-- ---- one number more

module _ (place : Place) (m inside : ManagerParts) (same : inside ≡ m) (numbers : List ℕ) (i d : ℕ) (lt : i < length numbers) where
  abbrev p : TxParts → Bool
  p tx = not (is_below (Some place) tx)

  abbrev found_by : List ℕ → List TxParts
  found_by = filter_map (slice_get m.courses.transactions)

  -- there is a transaction of each number
  pub there : list_all (λ number. nat_lt number (length inside.courses.transactions)) numbers ≡ true
      → None ≡ slice_get inside.courses.transactions (get_or numbers i d) → ⊥
  there below none =
      let ts = inside.courses.transactions in
      let n = get_or numbers i d in
      let within = ltb-true n (length ts) (list_all_get (λ number. nat_lt number (length ts)) numbers i d lt below) in
      let some = slice_get-get_or ts n nobody within in
      absurd (cc (none, some))
    where
      nobody : TxParts
      nobody = record { format = 0; gtrid = []; branches = [] }

  module _ (tx : TxParts) (found : Some tx ≡ slice_get inside.courses.transactions (get_or numbers i d)) where
    more : found_by (take (suc i) numbers) ≡ found_by (take i numbers) ++ tx ∷ []
    more =
        given_more (slice_get m.courses.transactions) numbers i (get_or numbers i d) lt (read_at numbers i d lt)
        ∙ ap (λ (o : Option TxParts). found_by (take i numbers) ++ cons_option o [])
        (ap (λ (n : ManagerParts). slice_get n.courses.transactions (get_or numbers i d)) (sym same) ∙ sym found)

    filtered : filter p (found_by (take (i + 1) numbers)) ≡ filter p (found_by (take i numbers)) ++ filter p (tx ∷ [])
    filtered =
        let next : i + 1 ≡ suc i = omega arith in
        ap (λ (k : ℕ). filter p (found_by (take k numbers))) next ∙ ap (filter p) more
        ∙ filter-append p (found_by (take i numbers)) (tx ∷ [])

    whole : found_by numbers ≡ found_by (take i numbers) ++ tx ∷ found_by (drop (suc i) numbers)
    whole =
        ap found_by (sym (take-append-drop (suc i) numbers))
        ∙ filter_map-append (slice_get m.courses.transactions) (take (suc i) numbers) (drop (suc i) numbers)
        ∙ ap (λ (ts : List TxParts). ts ++ found_by (drop (suc i) numbers)) more
        ∙ append_assoc (found_by (take i numbers)) (tx ∷ []) (found_by (drop (suc i) numbers))

    abbrev Are : ℕ → CoursesParts → SpentParts → Type 0
    Are k courses spent = IsDistinct tx_eq m.courses.begun → AreCoursesOf (filter p (found_by (take k numbers))) m courses spent

    -- one that is below isn't kept
    pub passed : (courses : CoursesParts) (spent : SpentParts) → is_below (Some place) tx ≡ true → Are i courses spent
        → Are (i + 1) courses spent
    passed courses spent below are = λ once.
        let fails : p tx ≡ false = ap not below in
        let still : filter p (found_by (take (i + 1) numbers)) ≡ filter p (found_by (take i numbers)) =
        filtered ∙ ap (λ (ts : List TxParts). filter p (found_by (take i numbers)) ++ ts) (cond-false (p tx) (tx ∷ []) [] fails)
        ∙ append-nil (filter p (found_by (take i numbers))) in
        subst (λ (ts : List TxParts). AreCoursesOf ts m courses spent) (sym still) (are once)

    -- one that isn't is
    pub kept : (number : ℕ) (course : Course) (old new : CoursesParts) (old_spent new_spent : SpentParts) → is_below (Some place) tx ≡ false
        → found_by numbers ≡ m.courses.begun → number ≡ m.number → course ≡ course_in m.courses tx → Are i old old_spent
        → IsKept number tx course old new old_spent new_spent → Are (i + 1) new new_spent
    kept number course old new old_spent new_spent high all own came are is = λ once.
        let passes : p tx ≡ true = ap not high in
        let longer : filter p (found_by (take (i + 1) numbers)) ≡ filter p (found_by (take i numbers)) ++ tx ∷ [] =
        filtered ∙ ap (λ (ts : List TxParts). filter p (found_by (take i numbers)) ++ ts) (cond-true (p tx) (tx ∷ []) [] passes) in
        let absent : list_any (tx_eq tx) (found_by (take i numbers)) ≡ false =
        apart_before (found_by (take i numbers)) tx (found_by (drop (suc i) numbers))
        (subst (IsDistinct tx_eq) (sym all ∙ whole) once) in
        let here : IsKept m.number tx (course_in m.courses tx) old new old_spent new_spent =
        subst (λ (c : Course). IsKept m.number tx c old new old_spent new_spent) came
        (subst (λ (n : ℕ). IsKept n tx course old new old_spent new_spent) own is) in
        subst (λ (ts : List TxParts). AreCoursesOf ts m new new_spent) (sym longer)
        (one_more m (filter p (found_by (take i numbers))) old new old_spent new_spent tx (are once)
        (any_passing p tx passes (found_by (take i numbers)) ∙ absent) here)

-- and after all
pub all_taken : (place : Place) (m inside : ManagerParts) → inside ≡ m → (numbers : List ℕ) (i : ℕ) → length numbers ≤ i
    → filter_map (slice_get inside.courses.transactions) numbers ≡ inside.courses.begun → (courses : CoursesParts) (spent : SpentParts)
    → (IsDistinct tx_eq m.courses.begun
    → AreCoursesOf (filter (λ tx. not (is_below (Some place) tx)) (filter_map (slice_get m.courses.transactions) (take i numbers)))
    m courses spent)
    → IsDistinct tx_eq m.courses.begun → AreCoursesOf (begun_above place m) m courses spent
all_taken place m inside same numbers i past found courses spent are once =
    let all : filter_map (slice_get m.courses.transactions) numbers ≡ m.courses.begun =
    ap (λ (n : ManagerParts). filter_map (slice_get n.courses.transactions) numbers) (sym same) ∙ found
    ∙ ap (λ (n : ManagerParts). n.courses.begun) same in
    subst (λ (ts : List TxParts). AreCoursesOf (filter (λ tx. not (is_below (Some place) tx)) ts) m courses spent)
    (ap (filter_map (slice_get m.courses.transactions)) (take_all i numbers past) ∙ all) (are once)

-- ---- whether a branch is below

not_all : {X : Type 0} (q : X → Bool) (xs : List X) → list_any q xs ≡ not (list_all (λ x. not (q x)) xs)
not_all q [] = refl
not_all q (x ∷ xs) = by_test (q x) (not_all q xs)
  where
    by_test : (t : Bool) → list_any q xs ≡ not (list_all (λ x. not (q x)) xs)
        → (t || list_any q xs) ≡ not (not t && list_all (λ x. not (q x)) xs)
    by_test true e = refl
    by_test false e = e

-- two tests that follow from one another are one
pub same_test : (a b : Bool) → (a ≡ true → b ≡ true) → (b ≡ true → a ≡ true) → a ≡ b
same_test true b to from = sym (to refl)
same_test false true to from = from refl
same_test false false to from = refl

module _ (place : Place) where
  abbrev below : Branch → Bool
  below branch = is_xid_below (Some place) branch.xid

  abbrev AreNamedSame : (bs cs : List Branch) → Type 0
  AreNamedSame bs cs = (x : XidParts) → branch_named bs x ≡ branch_named cs x

  also_below : (bs cs : List Branch) → AreNamedSame bs cs → list_any below bs ≡ true → list_any below cs ≡ true
  also_below bs cs same h =
      let found = any_found below bs h in
      let x = found.element.xid in
      let of_name = λ (branch : Branch). xid_eq branch.xid x in
      let own = any_find of_name bs (found_any of_name bs found.element found.among (xid_self x)) in
      let there = found_among of_name cs own.0 (sym (same x) ∙ own.1) in
      found_any below cs own.0 there.0
      (subst (λ (y : XidParts). is_xid_below (Some place) y ≡ true) (sym ((xid_decides (own.0).xid x).0 there.1)) found.passes)

  module _ (rm : ℕ) where
    abbrev prepared : List Bound → List Branch
    prepared bounds =
        filter_map (λ one. option_map (λ x. record { xid = x; state = BranchState.Prepared; keys = one.keys }) (xid_at one.tx rm)) bounds

    -- a prepared branch is below where its transaction is
    one_bound : (tx : TxParts) (keys : List Touched) (o : Option BranchParts) → is_some o ≡ true → (bs branches : List Branch)
        → list_any below
        (cons_option (option_map (λ x. record { xid = x; state = BranchState.Prepared; keys = keys }) (option_map (xid_of tx) o)) bs
        ++ branches)
        ≡ (is_below (Some place) tx || list_any below (bs ++ branches))
    one_bound tx keys None named bs branches = absurd (cc (named))
    one_bound tx keys (Some b) named bs branches = refl

    not_free : (bounds : List Bound) (branches : List Branch)
        → ((bound : Bound) → IsIn bounds bound → is_participant bound.tx rm ≡ true)
        → list_any below (all_branches rm bounds branches)
        ≡ not (list_all (λ bound. not (is_below (Some place) bound.tx)) bounds && list_all (λ branch. not (below branch)) branches)
    not_free [] branches named = not_all below branches
    not_free (bound ∷ bounds) branches named =
        let there = any_find (is_at rm) bound.tx.branches (named bound (inl refl)) in
        one_bound bound.tx bound.keys (find (is_at rm) bound.tx.branches) (ap is_some there.1)
        (prepared bounds) branches
        ∙ by_test (is_below (Some place) bound.tx) (not_free bounds branches (λ b h. named b (inr h)))
      where
        by_test : (t : Bool) → list_any below (all_branches rm bounds branches)
            ≡ not (list_all (λ b. not (is_below (Some place) b.tx)) bounds && list_all (λ branch. not (below branch)) branches)
            → (t || list_any below (all_branches rm bounds branches))
            ≡ not (not t && list_all (λ b. not (is_below (Some place) b.tx)) bounds && list_all (λ branch. not (below branch)) branches)
        by_test true e = refl
        by_test false e = e

  -- whether some branch is below is the machine's test
  pub some_below : (config : Config) (number : ℕ) (m : ManagerParts) (facts : List Fact) (branches : List Branch)
      → StandsFor config number m facts branches → list_any below m.table.branches ≡ not (are_free_below place facts branches)
  some_below config number m facts branches stands =
      let all = branches_in number facts branches in
      same_test (list_any below m.table.branches) (list_any below all) (also_below m.table.branches all stands.branches_are)
      (also_below all m.table.branches (λ x. sym (stands.branches_are x)))
      ∙ not_free number (bound_branches facts) branches (bound_named config number facts stands.played)
