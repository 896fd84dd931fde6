-- What a change of one branch keeps: no name has two, holds are the touched keys the other way round, and no key is held by two branches
-- of which one has written it.
-- Needed by 7 functions of this crate.
use Rattle.std.proofs.Common.{◌≡◌, ◌≢◌, ◌∙◌, ℕ, ◌+◌, ◌-◌, Bool, true, false, ◌||◌, cond, List, [], ◌∷◌, Option, Some, None, Contains}
use Rattle.std.proofs.Common.{length, ◌<◌, ◌^◌, refl, sym, ap, subst, arith, inl, inr}
use Rattle.std.specs.List.{IsDistinct}
use Rattle.std.specs.Option.{option_map}
use Rattle.std.specs.Str.{bytes_eq}
use Rattle.std.proofs.lemmas.Bool.{both_ways}
use Rattle.std.proofs.lemmas.List.Sums.{count_by-le-length}
use Rattle.std.proofs.lemmas.List.Elements.{Contains-append_right, Contains-get_or}
use Rattle.std.proofs.lemmas.Slice.Eq.{bytes_eq-Decides}
use Rattle.xid.specs.Names.{XidParts}
use Rattle.stable_record.specs.declared.fact.Act.{Act}
use Rattle.stable_record.specs.declared.fact.Touched.{Touched}
use Rattle.protocol.specs.declared.states.BranchState.{BranchState}
use Rattle.protocol.specs.Branches.{is_write, hinders_use}
use Rattle.protocol.specs.Managers.{Branch, act_on, has_key, view_named, with_touched}
use Rattle.protocol.proofs.Manager.Keys.{written_touched}
use Rattle.branch_table.specs.OneCall.{IsHindered}
use Rattle.branch_table.specs.Outcomes.{AreHindered, CanBePrepared, prepared_branch}
use Rattle.branch_table.specs.TableStates.{AreHeldApart, AreTableBranches, branch_named, in_state, is_idle, with_act}
use Rattle.branch_table.specs.Admission.{IsAdmitted}
use Rattle.branch_table.specs.Parts.{AddsHolders, AreHolds, free, Replaces, TakesHolders, hold_at, hold_more, is_using, uses_by, uses_held}
use Rattle.branch_table.specs.Parts.{uses_in, uses_of}
use Rattle.branch_table.specs.declared.hold.Hold.{Hold}
use Rattle.branch_table.proofs.Hindered.{own_within}
use Rattle.branch_table.proofs.TableRows.{Known}
use Rattle.branch_table.proofs.Found.{view_or_none}
use Rattle.branch_table.proofs.CallSteps.{apart_after, apart_same, apart_touched, apart_without, free_of, others_shown, shown}
use Rattle.branch_table.proofs.CallSteps.{shows_written, started_branch}
use Rattle.branch_table.proofs.Uses.{more_uses, no_hold, uses_none, uses_same}

-- what is kept
abbrev pub IsKept : Known → List Branch → Type 0
IsKept holds branches = AreTableBranches branches × AreHolds holds branches

-- no branch, and no hold
pub kept_none : (holds : Known) (branches : List Branch) → branches ≡ [] → ((key : List ℕ) → hold_at holds key ≡ free)
    → IsKept holds branches
unfolding IsDistinct
kept_none holds branches none unheld = subst (IsKept holds) (sym none) (
  record { distinct = tt; apart = λ x y differ key written. absurd (cc (written)) },
  λ writes key. ap (uses_held writes) (unheld key) ∙ no_hold writes,
)

-- a branch that is found was it
pub was_found : (old new : List Branch) (x : XidParts) (b : Branch) (g : Branch → Branch) → branch_named old x ≡ Some b
    → Replaces old new x (branch_named old x) (option_map g (branch_named old x)) → Replaces old new x (Some b) (Some (g b))
was_found old new x b g found is = subst (λ (o : Option Branch). Replaces old new x o (option_map g o)) found is

-- a new branch has no keys
pub kept_started : (holds : Known) (old new : List Branch) (x : XidParts) → IsKept holds old
    → Replaces old new x None (Some (started_branch x))
    → IsKept holds new
kept_started holds old new x kept is = (
  record { distinct = is.distinct; apart = apart_without old new x (Some (started_branch x)) kept.0.apart is.only (λ key. refl) },
  λ writes key.
      let none = uses_same writes key (started_branch x) ∙ uses_none writes key in
      let counts = is.counts writes key in
      let before = kept.1 writes key in
      omega (arith, none, counts, before),
)

-- a branch is in another state
pub kept_state : (holds : Known) (old new : List Branch) (x : XidParts) (b : Branch) (s : BranchState) → IsKept holds old
    → branch_named old x ≡ Some b → Replaces old new x (branch_named old x) (option_map (in_state s) (branch_named old x))
    → IsKept holds new
kept_state holds old new x b s kept found given =
    let is = was_found old new x b (in_state s) found given in (
      record { distinct = is.distinct; apart = apart_same old new x b (in_state s b) kept.0.apart found is.only refl },
      λ writes key.
          let was = uses_same writes key b in
          let now = uses_same writes key (in_state s b) in
          let counts = is.counts writes key in
          let before = kept.1 writes key in
          omega (arith, was, now, counts, before),
    )

-- a branch has ended, and its keys were let go
pub kept_ended : (holds after : Known) (old new : List Branch) (x : XidParts) (b : Branch) → IsKept holds old → branch_named old x ≡ Some b
    → Replaces old new x (branch_named old x) None
    → ((writes : Bool) (key : List ℕ)
    → uses_held writes (hold_at after key) ≡ uses_held writes (hold_at holds key) - uses_by writes key b.keys)
    → IsKept after new
kept_ended holds after old new x b kept found given freed =
    let is = subst (λ (o : Option Branch). Replaces old new x o None) found given in (
      record { distinct = is.distinct; apart = apart_without old new x None kept.0.apart is.only (λ key. refl) },
      λ writes key.
          let was = uses_same writes key b in
          let counts = is.counts writes key in
          let before = kept.1 writes key in
          let left = freed writes key in
          omega (arith, was, counts, before, left),
    )

-- there was no branch
pub kept_absent : (holds : Known) (old new : List Branch) (x : XidParts) → IsKept holds old → branch_named old x ≡ None
    → Replaces old new x (branch_named old x) None → IsKept holds new
kept_absent holds old new x kept none given =
    let is = subst (λ (o : Option Branch). Replaces old new x o None) none given in (
      record { distinct = is.distinct; apart = apart_without old new x None kept.0.apart is.only (λ key. refl) },
      λ writes key.
          let counts = is.counts writes key in
          let before = kept.1 writes key in
          omega (arith, counts, before),
    )

add_by : (held was other own more : ℕ) (b : Bool) → held ≡ cond b (was + more) was → own ≡ cond b (other + more) other
    → (uses total : ℕ) → uses + other ≡ total + own → was ≡ total → held ≡ uses
add_by held was other own more true is takes uses total counts before = omega (arith, is, takes, counts, before)
add_by held was other own more false is takes uses total counts before = omega (arith, is, takes, counts, before)

-- one more act on a key of a branch
pub kept_touched : (holds after : Known) (old new : List Branch) (x : XidParts) (key : List ℕ) (act : Act) → IsKept holds old
    → (is : IsAdmitted old x (is_write act) key) → AddsHolders holds after key (hold_more is.branch.keys key act)
    → Replaces old new x (branch_named old x) (option_map (with_act key act) (branch_named old x)) → IsKept after new
kept_touched holds after old new x key act kept is adds given =
    let b = is.branch in
    let replaced = was_found old new x b (with_act key act) is.found given in (
      record { distinct = replaced.distinct; apart = apart_touched old new x key act kept.0.apart is given.only },
      λ writes q.
          let was = uses_same writes q b in
          let now = uses_same writes q (with_act key act b) in
          let counts = replaced.counts writes q in
          add_by _ (uses_held writes (hold_at holds q)) (uses_by writes q b.keys) (uses_by writes q (with_touched b.keys key act))
          (uses_held writes (hold_more b.keys key act)) (bytes_eq key q) (adds writes q) (more_uses writes q b.keys key act is.ascending)
          (uses_in writes q new) (uses_in writes q old) (omega (arith, was, now, counts)) (kept.1 writes q),
    )

back_by : (h g k m : ℕ) (b : Bool) → g ≡ cond b (h + m) h → k ≡ cond b (g - m) g → k ≡ h
back_by h g k m true more less = omega (arith, more, less)
back_by h g k m false more less = omega (arith, more, less)

-- a hold that was taken is let go again
pub kept_back : (holds added back : Known) (branches : List Branch) (key : List ℕ) (more : Hold) → IsKept holds branches
    → AddsHolders holds added key more → TakesHolders added back key more → IsKept back branches
kept_back holds added back branches key more kept adds takes = (
  kept.0,
  λ writes q.
      back_by (uses_held writes (hold_at holds q)) (uses_held writes (hold_at added q)) (uses_held writes (hold_at back q))
      (uses_held writes more)
      (bytes_eq key q) (adds writes q) (takes writes q) ∙ kept.1 writes q,
)

-- ---- a prepared branch is made

-- a key that was touched, with the last act on it
touched_in : (keys : List Touched) (key : List ℕ) → has_key key keys ≡ true
    → (t : Touched) × (Contains keys t) × (t.key ≡ key) × (t.act ≡ act_on keys key)
touched_in [] key there = absurd (cc (there))
touched_in (t ∷ keys) key there = by (bytes_eq t.key key) refl (touched_in keys key)
  where
    by : (b : Bool) → bytes_eq t.key key ≡ b
        → (has_key key keys ≡ true → (u : Touched) × (Contains keys u) × (u.key ≡ key) × (u.act ≡ act_on keys key))
        → (u : Touched) × (Contains (t ∷ keys) u) × (u.key ≡ key) × (u.act ≡ act_on (t ∷ keys) key)
    by true e later = (
      t,
      Contains-get_or (t ∷ keys) 0 t (omega arith),
      (bytes_eq-Decides t.key key).0 e,
      sym
          (ap (λ b. cond b t.act (act_on keys key)) e),
    )
    by false e later =
        let found = later (sym (ap (λ b. b || has_key key keys) e) ∙ there) in (
          found.0,
          Contains-append_right (t ∷ []) keys found.0 found.1,
          found.2,
          found.3 ∙ sym (ap (λ b. cond b t.act (act_on keys key)) e),
        )

-- another branch doesn't hinder the use of a touched key
not_hindering : (branches : List Branch) (x y : XidParts) (keys : List Touched) (key : List ℕ) (writes : Bool)
    → (AreHindered branches x keys → ⊥) → y ≢ x → has_key key keys ≡ true → is_write (act_on keys key) ≡ writes
    → hinders_use writes key (view_named branches y) ≡ false
not_hindering branches x y keys key writes free differ there acts =
    let found = touched_in keys key there in
    free_of branches x y writes key (λ hindered. free (
      found.0,
      found.1,
      subst (λ (w : Bool). IsHindered (hinders_use w found.0.key) (view_named branches) x) (sym (ap is_write found.3 ∙ acts))
          (subst (λ (k : List ℕ). IsHindered (hinders_use writes k) (view_named branches) x) (sym found.2) hindered),
    )) differ

apart_prepared : (old new : List Branch) (x : XidParts) (keys : List Touched) → AreHeldApart (view_named old)
    → (AreHindered old x keys → ⊥) → Replaces old new x None (Some (prepared_branch x keys)) → AreHeldApart (view_named new)
apart_prepared old new x keys apart free is =
    apart_after (view_named old) (view_named new) x apart (others_shown old new x (Some (prepared_branch x keys)) is.only)
    (λ y differ key written.
    let acts = ap (λ v. is_write (v.act key)) (sym now) ∙ written in
    not_hindering old x y keys key true free differ (written_touched keys key acts) acts)
    (λ y differ key written. ap (λ v. v.touched key) now
    ∙ by key y differ written (has_key key keys) refl (is_write (act_on keys key)) refl)
  where
    now : view_named new x ≡ view_or_none (Some (prepared_branch x keys))
    now = shown new x (Some (prepared_branch x keys)) is.only.own

    by : (key : List ℕ) (y : XidParts) → y ≢ x → is_write ((view_named old y).act key) ≡ true
        → (h : Bool) → has_key key keys ≡ h → (w : Bool) → is_write (act_on keys key) ≡ w → has_key key keys ≡ false
    by key y differ written true h true w =
        absurd (both_ways _ (not_hindering old x y keys key true free differ h w) (shows_written old y key written))
    by key y differ written true h false w = absurd (both_ways _ (not_hindering old x y keys key false free differ h w) written)
    by key y differ written false h true w = h
    by key y differ written false h false w = h

-- a branch that was prepared keeps it so
pub kept_prepared : (holds after : Known) (old new : List Branch) (x : XidParts) (keys : List Touched) → IsKept holds old
    → (AreHindered old x keys → ⊥) → Replaces old new x None (Some (prepared_branch x keys))
    → ((writes : Bool) (key : List ℕ)
    → uses_held writes (hold_at after key) ≡ uses_held writes (hold_at holds key) + uses_by writes key keys)
    → IsKept after new
kept_prepared holds after old new x keys kept free is held = (
  record { distinct = is.distinct; apart = apart_prepared old new x keys kept.0.apart free is },
  λ writes key.
      let now = uses_same writes key (prepared_branch x keys) in
      let counts = is.counts writes key in
      let before = kept.1 writes key in
      let more = held writes key in
      omega (arith, now, counts, before, more),
)

-- ---- whether a branch can be prepared

idle_is : (s : BranchState) → is_idle s ≡ true → s ≡ BranchState.Idle
idle_is BranchState.Active e = absurd (cc (e))
idle_is BranchState.Idle e = refl
idle_is BranchState.RollbackOnly e = absurd (cc (e))
idle_is BranchState.Prepared e = absurd (cc (e))

abbrev keys_if : Option Branch → List Touched
keys_if None = []
keys_if (Some b) = b.keys

abbrev state_if : Option Branch → BranchState
state_if None = BranchState.Active
state_if (Some b) = b.state

-- an idle branch with just these keys can be
pub could_idle : (bs : List Branch) (x : XidParts) (s : BranchState) (keys given : List Touched)
    → branch_named bs x ≡ Some (record { xid = x; state = s; keys = keys }) → is_idle s ≡ true → keys ≡ given → CanBePrepared bs x given
could_idle bs x s keys given found idle same =
    inl (found ∙ (λ i. Some (record { xid = x; state = idle_is s idle i; keys = same i })))

-- one that isn't idle can't
pub refused_state : (bs : List Branch) (x : XidParts) (b : Branch) (given : List Touched) → branch_named bs x ≡ Some b
    → is_idle b.state ≡ false → CanBePrepared bs x given → ⊥
refused_state bs x b given found idle (inl is) = both_ways _ idle (ap (λ o. is_idle (state_if o)) (sym found ∙ is))
refused_state bs x b given found idle (inr is) = absurd (cc (sym found ∙ is.0))

-- nor one with other keys
pub refused_keys : (bs : List Branch) (x : XidParts) (b : Branch) (given : List Touched) → branch_named bs x ≡ Some b
    → (b.keys ≡ given → ⊥) → CanBePrepared bs x given → ⊥
refused_keys bs x b given found other (inl is) = other (ap keys_if (sym found ∙ is))
refused_keys bs x b given found other (inr is) = absurd (cc (sym found ∙ is.0))

-- nor is one made where another hinders
pub refused_hindered : (bs : List Branch) (x : XidParts) (given : List Touched) → branch_named bs x ≡ None
    → AreHindered bs x given → CanBePrepared bs x given → ⊥
refused_hindered bs x given none hindered (inl is) = absurd (cc (sym none ∙ is))
refused_hindered bs x given none hindered (inr is) = is.1 hindered

-- the keys of a branch that was found twice
pub keys_same : (bs : List Branch) (x : XidParts) (b c : Branch) → branch_named bs x ≡ Some b → branch_named bs x ≡ Some c → b.keys ≡ c.keys
keys_same bs x b c one two = ap keys_if (sym one ∙ two)

-- holds that are the same at each key
pub same_kept : (holds after : Known) (old new : List Branch) → IsKept holds old → new ≡ old
    → ((writes : Bool) (key : List ℕ) → uses_held writes (hold_at after key) ≡ uses_held writes (hold_at holds key)) → IsKept after new
same_kept holds after old new kept same held =
    subst (IsKept after) (sym same) (kept.0, λ writes key. held writes key ∙ kept.1 writes key)

-- a key has no more holders than there are branches
pub held_small : (holds : Known) (branches : List Branch) → AreHolds holds branches → length branches < 2 ^ 63
    → (writes : Bool) (key : List ℕ) → uses_held writes (hold_at holds key) < 2 ^ 63
held_small holds branches are few writes key =
    let uses = are writes key in
    let counted = count_by-le-length (is_using writes key) branches in
    omega (arith, uses, counted, few)

-- a key that a branch has touched is held
pub held_there : (holds : Known) (branches : List Branch) (x : XidParts) (b : Branch) → AreHolds holds branches
    → branch_named branches x ≡ Some b → (key : List ℕ) → has_key key b.keys ≡ true → 0 < (hold_at holds key).touched_by
held_there holds branches x b are found key there =
    let uses : (hold_at holds key).touched_by ≡ uses_in true key branches = are true key in
    let own = ap (uses_of true key) found in
    let one : uses_of true key (Some b) ≡ 1 = ap (λ h. cond h 1 0) there in
    let within = own_within true key branches x in
    omega (arith, uses, own, one, within)
