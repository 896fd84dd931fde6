-- The names of the prepared branches, ascending, are those of the machine.
-- Needed by `ResourceManager::recover`.
use Rattle.std.proofs.Common.{◌≡◌, ◌⊎◌, ◌∙◌, inl, inr, ℕ, ◌+◌, suc, get_or, Bool, true, false, List, [], ◌∷◌}
use Rattle.std.proofs.Common.{Option, Some, filter, refl, sym, ap, subst, arith}
use Rattle.std.specs.Prelude.{filter_map, fold, Result, Ok, Err, IfOk}
use Rattle.std.specs.Cmp.{IsTotalOrder, nat_cmp_total, on_total, then_total}
use Rattle.std.specs.Cmp.Lexicographic.{on_texts}
use Rattle.std.specs.List.{IsDistinct}
use Rattle.std.specs.List.Sorted.{IsSorted}
use Rattle.std.specs.Ordering.{is_lt, is_eq, ordering_reverse}
use Rattle.std.specs.declared.cmp.Ordering.{Ordering}
use Rattle.std.specs.declared.cmp.Ordering.TheVariants.{Less, Equal, Greater}
use Rattle.std.proofs.lemmas.Bool.{cond_both, both_ways, false_from_ne_true}
use Rattle.std.proofs.lemmas.List.Sorted.{Contains-permutation, IsPermutation-sym}
use Rattle.std.proofs.lemmas.Map.Keys.{IsDistinct-IsPermutation}
use Rattle.xid.specs.Comparing.{xid_ties}
use Rattle.xid.specs.Names.{XidParts, xid_eq, xid_cmp}
use Rattle.xid.specs.Transactions.{xid_at}
use Rattle.xid.proofs.Deciding.{xid_decides}
use Rattle.ballot.specs.Greatest.{IsIn}
use Rattle.stable_record.specs.declared.fact.FactKind.{FactKind as Fact}
use Rattle.protocol.specs.declared.answers.Answer.{Answer}
use Rattle.protocol.specs.declared.answers.Answer.TheVariants.{Xids}
use Rattle.protocol.specs.declared.states.BranchState.{BranchState}
use Rattle.protocol.specs.Effects.{Config}
use Rattle.protocol.specs.Facts.{Bound, bound_branches, branch_bound_by, is_prepared_view, view}
use Rattle.protocol.specs.Holds.{AreDistinct, names_of}
use Rattle.protocol.specs.Managers.{Branch, insert_xid, on_recover, stored_votes}
use Rattle.protocol.proofs.Lists.{IsIn-map, IsIn-mapped, Contains-among, IsIn-contains, all_each, filter_kept, filter_keeps}
use Rattle.protocol.proofs.Lists.{filter_map_given, filter_map_gives}
use Rattle.protocol.proofs.Manager.Apart.{named_so}
use Rattle.protocol.proofs.Manager.Names.{distinct_filtered, named_once_filtered}
use Rattle.protocol.proofs.Manager.Prepared.{names_held_once, prepared_or_not, votes_named}
use Rattle.protocol.proofs.TouchedKeys.{less_from}
use Rattle.branch_table.specs.TableStates.{AreTableBranches, is_prepared}
use Rattle.branch_table.specs.Outcomes.{AreRecovered, prepared_names}
use Rattle.branch_table.proofs.Found.{xid_turned}
use Rattle.resource_manager.specs.Managers.{ManagerParts, StandsFor, branches_in}
use Rattle.resource_manager.proofs.Deciding.{distinct_names}
use Rattle.resource_manager.proofs.Named.{named_at, named_in}
use Rattle.resource_manager.proofs.Standing.{bound_in}

-- ---- lists that rise

xid_total : IsTotalOrder xid_cmp
xid_total =
    then_total (on_total (λ (x : XidParts). x.format) nat_cmp_total)
    (then_total (on_texts (λ (x : XidParts). x.gtrid)) (on_texts (λ (x : XidParts). x.bqual)))

never_before : (x y : XidParts) → xid_cmp x y ≡ Less → xid_cmp y x ≡ Less → ⊥
never_before x y less more =
    let turned : Less ≡ Greater = sym less ∙ xid_total.antisymm x y ∙ ap ordering_reverse more in
    absurd (cc (turned))

less_by : (x y : XidParts) (o : Ordering) → xid_cmp x y ≡ o → is_lt (xid_cmp y x) ≡ false → xid_eq x y ≡ false → xid_cmp x y ≡ Less
less_by x y Less e over apart = e
less_by x y Equal e over apart = absurd (both_ways (xid_eq x y) apart (xid_ties x y ∙ ap is_eq e))
less_by x y Greater e over apart =
    absurd (both_ways (is_lt (xid_cmp y x)) over (ap is_lt (xid_total.antisymm y x ∙ ap ordering_reverse e)))

-- of two names that differ one is before the other
less_of : (x y : XidParts) → is_lt (xid_cmp y x) ≡ false → xid_eq x y ≡ false → xid_cmp x y ≡ Less
less_of x y over apart = less_by x y (xid_cmp x y) refl over apart

-- each is before all that follow
abbrev IsRising : List XidParts → Type 0
IsRising [] = Unit {0}
IsRising (x ∷ xs) = ((y : XidParts) → IsIn xs y → xid_cmp x y ≡ Less) × IsRising xs

-- rising lists of the same names are the same
rising_same : (xs ys : List XidParts) → IsRising xs → IsRising ys → ((z : XidParts) → IsIn xs z → IsIn ys z)
    → ((z : XidParts) → IsIn ys z → IsIn xs z) → xs ≡ ys
rising_same [] [] r s to from = refl
rising_same [] (y ∷ ys) r s to from = absurd (from y (inl refl))
rising_same (x ∷ xs) [] r s to from = absurd (to x (inl refl))
rising_same (x ∷ xs) (y ∷ ys) r s to from =
    let same : x ≡ y = elim (to x (inl refl)) [
      | inl e ↦ sym e
      | inr there ↦ elim (from y (inl refl)) [
        | inl e ↦ e
        | inr here ↦ absurd (never_before y x (s.0 x there) (r.0 y here))
      ]
    ] in
    (λ i. same i ∷ rising_same xs ys r.1 s.1
    (λ z h. elim (to z (inr h)) [
      | inl e ↦ absurd (itself x z (r.0 z h) (same ∙ e))
      | inr there ↦ there
    ])
    (λ z h. elim (from z (inr h)) [
      | inl e ↦ absurd (itself y z (s.0 z h) (sym same ∙ e))
      | inr here ↦ here
    ]) i)
  where
    itself : (x z : XidParts) → xid_cmp x z ≡ Less → x ≡ z → ⊥
    itself x z less e =
        let own = subst (λ (w : XidParts). xid_cmp x w ≡ Less) (sym e) less in never_before x x own own

-- ---- the names of a sorted list

rising_names : (xs : List XidParts) → IsSorted xid_cmp xs → IsDistinct xid_eq xs → IsRising xs
unfolding IsDistinct
rising_names [] sorted distinct = tt
rising_names (x ∷ []) sorted distinct = (λ y h. absurd h, tt)
rising_names (x ∷ y ∷ xs) sorted distinct =
    let rest = rising_names (y ∷ xs) (λ k d low high.
    let more : suc k + 1 ≡ suc (k + 1) = omega arith in
    subst (λ (n : ℕ). is_lt (xid_cmp (get_or (x ∷ y ∷ xs) n d) (get_or (x ∷ y ∷ xs) (suc k) d)) ≡ false) more
    (sorted (suc k) d (omega arith) (omega (arith, high)))) distinct.1 in
    let less = less_of x y (sorted 0 x (omega arith) (omega arith)) distinct.0.0 in (
      λ z h. elim h [
        | inl e ↦ subst (λ (w : XidParts). xid_cmp x w ≡ Less) e less
        | inr there ↦ xid_total.trans x y z less
            (rest.0 z there)
      ],
      rest,
    )

distinct_from : (xs : List XidParts) → AreDistinct xs → IsDistinct xid_eq xs
unfolding IsDistinct
distinct_from [] d = tt
distinct_from (x ∷ xs) d = (
  all_each (λ y. xid_eq x y ≡ false) xs (λ y h. false_from_ne_true (xid_eq x y) (λ e. d.0 (subst (IsIn xs) (sym
      ((xid_decides x y).0 e)) h))),
  distinct_from xs d.1,
)

-- ---- names that are put in

-- what stands among names into which one was put
insert_in : (x : XidParts) (xs : List XidParts) (y : XidParts) → IsIn (insert_xid x xs) y → (x ≡ y) ⊎ IsIn xs y
insert_in x [] y (inl e) = inl e
insert_in x [] y (inr none) = absurd none
insert_in x (z ∷ xs) y h =
    cond_both (is_lt (xid_cmp x z)) (x ∷ z ∷ xs) (z ∷ insert_xid x xs) (λ (ys : List XidParts). IsIn ys y → (x ≡ y) ⊎ IsIn (z ∷ xs) y)
    (λ less k. k)
    (λ more k. elim k [
      | inl e ↦ inr (inl e)
      | inr rest ↦ elim (insert_in x xs y rest) [ inl e ↦ inl e | inr there ↦ inr (inr there) ]
    ])
    h

in_insert : (x : XidParts) (xs : List XidParts) (y : XidParts) → (x ≡ y) ⊎ IsIn xs y → IsIn (insert_xid x xs) y
in_insert x [] y h = h
in_insert x (z ∷ xs) y h =
    cond_both (is_lt (xid_cmp x z)) (x ∷ z ∷ xs) (z ∷ insert_xid x xs) (λ (ys : List XidParts). IsIn ys y)
    (λ less. h)
    (λ more. elim h [
      | inl e ↦ inr (in_insert x xs y (inl e))
      | inr there ↦ elim there [ inl e ↦ inl e | inr later ↦ inr (in_insert x xs y (inr later)) ]
    ])

insert_rises : (x : XidParts) (xs : List XidParts) → IsRising xs → (IsIn xs x → ⊥) → IsRising (insert_xid x xs)
insert_rises x [] r new = (λ y h. absurd h, tt)
insert_rises x (z ∷ xs) r new =
    cond_both (is_lt (xid_cmp x z)) (x ∷ z ∷ xs) (z ∷ insert_xid x xs) IsRising
    (λ less.
    let before = less_from (xid_cmp x z) less in (
      λ y h. elim h [
        | inl e ↦ subst (λ (w : XidParts). xid_cmp x w ≡ Less) e before
        | inr there ↦ xid_total.trans x z y before
            (r.0 y there)
      ],
      r,
    ))
    (λ more.
    let after = less_of z x more (false_from_ne_true (xid_eq z x) (λ e. new (inl ((xid_decides z x).0 e)))) in (
      λ y h. elim (insert_in x xs y h) [ inl e ↦ subst (λ (w : XidParts). xid_cmp z w ≡ Less) e after | inr there ↦ r.0 y there ],
      insert_rises x xs r.1 (λ h. new (inr h)),
    ))

abbrev put_all : List XidParts → List XidParts → List XidParts
put_all before names = fold (λ xs x. insert_xid x xs) before names

put_rises : (names before : List XidParts) → IsRising before → AreDistinct names → ((x : XidParts) → IsIn names x → IsIn before x → ⊥)
    → IsRising (put_all before names)
put_rises [] before r d apart = r
put_rises (x ∷ names) before r d apart =
    put_rises names (insert_xid x before) (insert_rises x before r (apart x (inl refl))) d.1
    (λ y h k. elim (insert_in x before y k) [ inl e ↦ d.0 (subst (IsIn names) (sym e) h) | inr old ↦ apart y (inr h) old ])

put_in : (names before : List XidParts) (y : XidParts) → IsIn (put_all before names) y → IsIn before y ⊎ IsIn names y
put_in [] before y h = inl h
put_in (x ∷ names) before y h = elim (put_in names (insert_xid x before) y h) [
  | inl old ↦ elim (insert_in x before y old) [ inl e ↦ inr (inl e) | inr older ↦ inl older ]
  | inr new ↦ inr (inr new)
]

in_put : (names before : List XidParts) (y : XidParts) → IsIn before y ⊎ IsIn names y → IsIn (put_all before names) y
in_put [] before y (inl h) = h
in_put [] before y (inr none) = absurd none
in_put (x ∷ names) before y (inl h) = in_put names (insert_xid x before) y (inl (in_insert x before y (inr h)))
in_put (x ∷ names) before y (inr (inl e)) = in_put names (insert_xid x before) y (inl (in_insert x before y (inl e)))
in_put (x ∷ names) before y (inr (inr h)) = in_put names (insert_xid x before) y (inr h)

-- ---- the prepared branches

prepared_state : (s : BranchState) → is_prepared s ≡ true → s ≡ BranchState.Prepared
prepared_state BranchState.Prepared e = refl
prepared_state s e = absurd (cc (e))

module _ (config : Config) (number : ℕ) (m : ManagerParts) (facts : List Fact) (branches : List Branch)
    (stands : StandsFor config number m facts branches) (are : AreTableBranches m.table.branches) where
  abbrev at : Bound → Option XidParts
  at bound = xid_at bound.tx number

  abbrev bound_names : List XidParts
  bound_names = filter_map at (bound_branches facts)

  abbrev all : List Branch
  all = branches_in number facts branches

  abbrev prepared : Branch → Bool
  prepared b = is_prepared b.state

  bound_prepared : (y : XidParts) → IsIn bound_names y → IsIn (prepared_names m.table.branches) y
  bound_prepared y h =
      let given = filter_map_given at (bound_branches facts) y h in
      let b = named_so given.source.keys y in
      let once = names_held_once config number facts branches stands.played stands.apart in
      let found = named_at all b y once (bound_in number facts branches given.source y given.among given.gives) refl in
      let there = named_in m.table.branches y b (stands.branches_are y ∙ found) in
      IsIn-map (λ (c : Branch). c.xid) (filter prepared m.table.branches) b (filter_keeps prepared m.table.branches b there.0 refl)

  prepared_bound : (y : XidParts) → IsIn (prepared_names m.table.branches) y → IsIn bound_names y
  prepared_bound y h =
      let source = IsIn-mapped (λ (c : Branch). c.xid) (filter prepared m.table.branches) y h in
      let b = source.source in
      let kept = filter_kept prepared m.table.branches b source.among in
      let found = named_at m.table.branches b y (distinct_names (names_of m.table.branches) are.distinct) kept.0 source.maps in
      let there = named_in all y b (sym (stands.branches_are y) ∙ found) in
      elim (prepared_or_not number facts branches b there.0) [
        | inl one ↦ filter_map_gives at (bound_branches facts) one.bound y one.among (one.name ∙ ap Some source.maps)
        | inr own ↦ absurd (stands.unprepared b own (prepared_state b.state kept.1))
      ]

  pub recovered_is : (names : List XidParts) → AreRecovered m.table.branches names → names ≡ put_all [] bound_names
  recovered_is names recovered =
      let listed = prepared_names m.table.branches in
      let distinct = distinct_from listed
      (named_once_filtered prepared m.table.branches (distinct_names (names_of m.table.branches) are.distinct)) in
      rising_same names (put_all [] bound_names)
      (rising_names names recovered.ascending (IsDistinct-IsPermutation xid_eq xid_turned listed names recovered.same distinct))
      (put_rises bound_names [] tt
      (distinct_filtered at (λ bound. is_prepared_view (view facts bound.tx)) (filter_map branch_bound_by facts)
      (votes_named config number facts stands.played)) (λ x h k. absurd k))
      (λ z h. in_put bound_names [] z
      (inr (prepared_bound z (IsIn-contains listed z
      (Contains-permutation names listed z (IsPermutation-sym listed names recovered.same) (Contains-among names z h))))))
      (λ z h. elim (put_in bound_names [] z h) [
        | inl none ↦ absurd none
        | inr there ↦
            IsIn-contains names z (Contains-permutation listed names z recovered.same (Contains-among listed z (bound_prepared z there)))
      ])

-- the names that the table recovers are the machine's
pub recovers_ok : {E : Type 0} (r : Result Answer E) (m old : ManagerParts) → m ≡ old → AreTableBranches m.table.branches
    → IfOk r (λ answer. (names : List XidParts) × (answer ≡ Xids names) × AreRecovered m.table.branches names)
    → IfOk r (λ answer. (config : Config) (number : ℕ) (facts : List Fact) (branches : List Branch)
    → StandsFor config number old facts branches → answer ≡ (on_recover number (stored_votes number facts) branches).answer)
recovers_ok (Ok answer) m old e are is = λ config number facts branches stands.
    is.1
    ∙ ap Xids (recovered_is config number m facts branches
    (subst (λ (o : ManagerParts). StandsFor config number o facts branches) (sym e) stands) are is.0 is.2)
recovers_ok (Err refusal) m old e are is = tt
