-- Branches by their names: what a look-up finds, and what a change of one entry leaves.
-- Needed by 7 functions of this crate; CallSteps and TableKept; crate resource_manager.
use Rattle.std.proofs.Common.{◌≡◌, ◌∙◌, ℕ, zero, suc, ◌+◌, ◌<◌, Bool, true, false, cond, List, [], ◌∷◌, ◌++◌, length, map, get_or, Option}
use Rattle.std.proofs.Common.{Some, None, Bor, refl, sym, ap, subst, arith}
use Rattle.std.specs.List.{IsDistinct, sum_by, swap_remove}
use Rattle.std.specs.Prelude.{is_some, position}
use Rattle.std.specs.Map.{lookup, set_value, keys_of}
use Rattle.std.specs.Option.{option_map, option_map_or, option_copied}
use Rattle.std.proofs.lemmas.List.{get_or-map, length-map}
use Rattle.std.proofs.lemmas.List.Quantifiers.{position-Some}
use Rattle.std.proofs.lemmas.List.Sums.{sum_by-cons, sum_by_push, sum_by-swap_remove}
use Rattle.xid.specs.Names.{XidParts, xid_eq}
use Rattle.xid.proofs.Deciding.{xid_decides, xid_other, xid_apart}
use Rattle.protocol.specs.Branches.{BranchView, no_branch}
use Rattle.protocol.specs.Managers.{Branch, view_by, view_named}
use Rattle.indexmap.specs.IndexMap.{swap_remove_entry}
use Rattle.branch_table.specs.TableStates.{branch_named, ChangesOnly}
use Rattle.branch_table.specs.Parts.{Course, branch_of, is_using, uses_of, uses_in, Replaces}
use Rattle.branch_table.proofs.Positions.{none_passes}

abbrev pub Entries : Type 0
Entries = List (XidParts × Course)

-- the branches of entries
abbrev pub branches_of : Entries → List Branch
branches_of es = map (λ entry. branch_of entry.0 entry.1) es

-- the test of a name is the same either way
pub xid_turned : (x y : XidParts) → xid_eq x y ≡ xid_eq y x
xid_turned x y = by (xid_eq x y) refl
  where
    by : (b : Bool) → xid_eq x y ≡ b → xid_eq x y ≡ xid_eq y x
    by true e = e ∙ sym ((xid_decides y x).1 (sym ((xid_decides x y).0 e)))
    by false e = e ∙ sym (xid_other y x (λ same. xid_apart x y e (sym same)))

-- a branch by its name is the entry of its name
pub named_from : (es : Entries) (x : XidParts) → branch_named (branches_of es) x ≡ option_map (branch_of x) (lookup (xid_eq x) es)
named_from [] x = refl
named_from (e ∷ es) x = by (xid_eq x e.0) refl (named_from es x)
  where
    by : (b : Bool) → xid_eq x e.0 ≡ b → branch_named (branches_of es) x ≡ option_map (branch_of x) (lookup (xid_eq x) es)
        → branch_named (branches_of (e ∷ es)) x ≡ option_map (branch_of x) (lookup (xid_eq x) (e ∷ es))
    by true q rest = rw (xid_turned e.0 x, q) (ap (λ y. Some (branch_of y e.1)) (sym ((xid_decides x e.0).0 q)))
    by false q rest = rw (xid_turned e.0 x, q) rest

-- how a branch shows that may not exist
abbrev pub view_or_none : Option Branch → BranchView
view_or_none None = no_branch
view_or_none (Some branch) = view_by branch.state branch.keys

-- a branch shows as the look-up of its name says
pub view_of_named : (bs : List Branch) (x : XidParts) → view_named bs x ≡ view_or_none (branch_named bs x)
view_of_named [] x = refl
view_of_named (b ∷ bs) x = by (xid_eq b.xid x) (view_of_named bs x)
  where
    by : (t : Bool) → view_named bs x ≡ view_or_none (branch_named bs x)
        → cond t (view_by b.state b.keys) (view_named bs x) ≡ view_or_none (cond t (Some b) (branch_named bs x))
    by true e = refl
    by false e = e

-- what a change of the entry of x leaves, by look-ups
pub changes_from : (old new : Entries) (x : XidParts) (w : Option Course) → lookup (xid_eq x) new ≡ w
    → ((y : XidParts) → xid_eq x y ≡ false → lookup (xid_eq y) new ≡ lookup (xid_eq y) old)
    → ChangesOnly (branches_of old) (branches_of new) x (option_map (branch_of x) w)
changes_from old new x w own others = record {
  own = named_from new x ∙ ap (option_map (branch_of x)) own;
  others = λ y apart.
      named_from new y ∙ ap (option_map (branch_of y)) (others y (xid_other x y (λ e. apart (sym e)))) ∙ sym (named_from old y);
}

-- ---- counts

-- a sum over branches is one over entries
sum_map : {X Y : Type 0} (g : Y → ℕ) (f : X → Y) (xs : List X) → sum_by g (map f xs) ≡ sum_by (λ x. g (f x)) xs
sum_map g f [] = refl
sum_map g f (x ∷ xs) =
    sum_by-cons g (f x) (map f xs) ∙ ap (λ n. g (f x) + n) (sum_map g f xs) ∙ sym (sum_by-cons (λ y. g (f y)) x xs)

module _ (writes : Bool) (key : List ℕ) where
  -- whether an entry's branch uses the key so, as a number
  abbrev pub weight : XidParts × Course → ℕ
  weight e = cond (is_using writes key (branch_of e.0 e.1)) 1 0

  by_weight : (es : Entries) → uses_in writes key (branches_of es) ≡ sum_by weight es
  by_weight es = sum_map (λ b. cond (is_using writes key b) 1 0) (λ entry. branch_of entry.0 entry.1) es

  pub counts_pushed : (es : Entries) (e : XidParts × Course)
      → uses_in writes key (branches_of (es ++ e ∷ [])) + 0 ≡ uses_in writes key (branches_of es) + weight e
  counts_pushed es e =
      let pushed = by_weight (es ++ e ∷ []) in
      let more = sum_by_push weight es e in
      let was = by_weight es in
      omega (arith, pushed, more, was)

  sum_set : (es : Entries) (x : XidParts) (v w : Course) → lookup (xid_eq x) es ≡ Some v
      → sum_by weight (set_value (xid_eq x) es w) + weight (x, v) ≡ sum_by weight es + weight (x, w)
  sum_set [] x v w e = absurd (cc (e))
  sum_set (e ∷ es) x v w found = by (xid_eq x e.0) refl (sum_set es x v w)
    where
      by : (b : Bool) → xid_eq x e.0 ≡ b
          → (lookup (xid_eq x) es ≡ Some v → sum_by weight (set_value (xid_eq x) es w) + weight (x, v) ≡ sum_by weight es + weight (x, w))
          → sum_by weight (set_value (xid_eq x) (e ∷ es) w) + weight (x, v) ≡ sum_by weight (e ∷ es) + weight (x, w)
      by true q others =
          let same = (xid_decides x e.0).0 q in
          let here : Some e.1 ≡ Some v = sym (ap (λ b. cond b (Some e.1) (lookup (xid_eq x) es)) q) ∙ found in
          let value : e.1 ≡ v = cc (here) in
          let first : weight e ≡ weight (x, v) = ap (λ y. weight (y, e.1)) (sym same) ∙ ap (λ u. weight (x, u)) value in
          let after : weight (e.0, w) ≡ weight (x, w) = ap (λ y. weight (y, w)) (sym same) in
          let one = sum_by-cons weight (e.0, w) es in
          let two = sum_by-cons weight e es in
          rw q (omega (arith, first, after, one, two))
      by false q others =
          let later : lookup (xid_eq x) es ≡ Some v = sym (ap (λ b. cond b (Some e.1) (lookup (xid_eq x) es)) q) ∙ found in
          let rest = others later in
          let one = sum_by-cons weight e (set_value (xid_eq x) es w) in
          let two = sum_by-cons weight e es in
          rw q (omega (arith, rest, one, two))

  pub counts_set : (es : Entries) (x : XidParts) (v w : Course) → lookup (xid_eq x) es ≡ Some v
      → uses_in writes key (branches_of (set_value (xid_eq x) es w)) + weight (x, v) ≡ uses_in writes key (branches_of es) + weight (x, w)
  counts_set es x v w found =
      let set = sum_set es x v w found in
      let one = by_weight (set_value (xid_eq x) es w) in
      let two = by_weight es in
      omega (arith, set, one, two)

  pub counts_removed : (es : Entries) (i : ℕ) (d : XidParts × Course) → i < length es
      → uses_in writes key (branches_of (swap_remove es i d)) + weight (get_or es i d) ≡ uses_in writes key (branches_of es)
  counts_removed es i d lt =
      let removed = sum_by-swap_remove weight es i d lt in
      let one = by_weight (swap_remove es i d) in
      let two = by_weight es in
      omega (arith, removed, one, two)

-- ---- what a look-up by a test finds

lookup_first : (test : XidParts → Bool) (es : Entries) (i : ℕ) (d : XidParts × Course) → i < length es
    → test (get_or es i d).0 ≡ true → ((k : ℕ) → k < i → test (get_or es k d).0 ≡ false) → lookup test es ≡ Some (get_or es i d).1
lookup_first test [] i d lt here before = absurd (omega (arith, lt))
lookup_first test (e ∷ es) zero d lt here before = rw here refl
lookup_first test (e ∷ es) (suc i) d lt here before =
    rw (before 0 (omega arith)) (lookup_first test es i d (omega (arith, lt)) here (λ k less. before (suc k) (omega (arith, less))))

lookup_none : (test : XidParts → Bool) (es : Entries) (d : XidParts × Course) → ((k : ℕ) → k < length es → test (get_or es k d).0 ≡ false)
    → lookup test es ≡ None
lookup_none test [] d none = refl
lookup_none test (e ∷ es) d none = rw (none 0 (omega arith)) (lookup_none test es d (λ k less. none (suc k) (omega (arith, less))))

key_at : (es : Entries) (k : ℕ) (d : XidParts × Course) → k < length es → get_or (keys_of es) k d.0 ≡ (get_or es k d).0
key_at es k d lt = get_or-map (λ (e : XidParts × Course). e.0) es k d d.0 lt

-- the branch of x, if there is one, is taken out, and the last takes its place
pub counts_swapped : (writes : Bool) (key : List ℕ) (es : Entries) (x : XidParts)
    → uses_in writes key (branches_of (swap_remove_entry (xid_eq x) es)) + uses_of writes key (branch_named (branches_of es) x)
    ≡ uses_in writes key (branches_of es) + 0
counts_swapped writes key [] x = refl
counts_swapped writes key (e ∷ es) x =
    ap (λ o. uses_in writes key (branches_of (swap_remove_entry (xid_eq x) (e ∷ es))) + uses_of writes key o) (named_from (e ∷ es) x)
    ∙ by (position (xid_eq x) (keys_of (e ∷ es))) refl
  where
    by : (o : Option ℕ) → position (xid_eq x) (keys_of (e ∷ es)) ≡ o
        → uses_in writes key (branches_of (option_map_or (λ i. swap_remove (e ∷ es) i e) o (e ∷ es)))
        + uses_of writes key (option_map (branch_of x) (lookup (xid_eq x) (e ∷ es)))
        ≡ uses_in writes key (branches_of (e ∷ es)) + 0
    by None p =
        let none = lookup_none (xid_eq x) (e ∷ es) e
        (λ k lt. ap (xid_eq x) (sym (key_at (e ∷ es) k e lt))
        ∙ none_passes (xid_eq x) (keys_of (e ∷ es)) p k e.0
        (subst (λ n. k < n) (sym (length-map (e ∷ es) (λ (f : XidParts × Course). f.0))) lt)) in
        ap (λ o. uses_in writes key (branches_of (e ∷ es)) + uses_of writes key (option_map (branch_of x) o)) none
    by (Some i) p =
        let found = position-Some (xid_eq x) (keys_of (e ∷ es)) i e.0 p in
        let lt : i < length (e ∷ es) = subst (λ n. i < n) (length-map (e ∷ es) (λ (f : XidParts × Course). f.0)) found.0 in
        let here : xid_eq x (get_or (e ∷ es) i e).0 ≡ true = ap (xid_eq x) (sym (key_at (e ∷ es) i e lt)) ∙ found.1 in
        let value = lookup_first (xid_eq x) (e ∷ es) i e lt here
        (λ k less. ap (xid_eq x) (sym (key_at (e ∷ es) k e (omega (arith, less, lt)))) ∙ found.2 k less) in
        let name : x ≡ (get_or (e ∷ es) i e).0 = (xid_decides x (get_or (e ∷ es) i e).0).0 here in
        let own : uses_of writes key (option_map (branch_of x) (lookup (xid_eq x) (e ∷ es))) ≡ weight writes key (get_or (e ∷ es) i e) =
        ap (λ o. uses_of writes key (option_map (branch_of x) o)) value
        ∙ ap (λ y. cond (is_using writes key (branch_of y (get_or (e ∷ es) i e).1)) 1 0) name in
        let removed = counts_removed writes key (e ∷ es) i e lt in
        omega (arith, own, removed)

-- ---- whole changes

pub names_of : (es : Entries) → map (λ branch. branch.xid) (branches_of es) ≡ keys_of es
names_of [] = refl
names_of (e ∷ es) = ap (λ xs. e.0 ∷ xs) (names_of es)

-- entries of different keys are branches of different names
pub distinct_names : (es : Entries) → IsDistinct xid_eq (keys_of es) → IsDistinct xid_eq (map (λ branch. branch.xid) (branches_of es))
distinct_names es distinct = subst (IsDistinct xid_eq) (sym (names_of es)) distinct

-- what is found of an entry is the branch of its course
pub copied_map : (x : XidParts) (r : Option (Bor Course))
    → option_map (λ branch. branch_of x branch.now) r ≡ option_map (branch_of x) (option_copied r)
copied_map x None = refl
copied_map x (Some b) = refl

none_mapped : (x : XidParts) (o : Option Course) → option_map (branch_of x) o ≡ None → o ≡ None
none_mapped x None e = refl
none_mapped x (Some c) e = absurd (cc (e))

-- a branch that doesn't exist has no entry
pub no_entry : (es : Entries) (x : XidParts) → branch_named (branches_of es) x ≡ None → lookup (xid_eq x) es ≡ None
no_entry es x e = none_mapped x (lookup (xid_eq x) es) (sym (named_from es x) ∙ e)

-- what a change of the entry of x to w says of look-ups
abbrev pub Updated : (old new : Entries) → XidParts → Option Course → Type 0
Updated old new x w = (lookup (xid_eq x) new ≡ w) × ((y : XidParts) → xid_eq x y ≡ false → lookup (xid_eq y) new ≡ lookup (xid_eq y) old)

-- one branch more
pub pushed : (old new : Entries) (x : XidParts) (v : Course) → branch_named (branches_of old) x ≡ None → new ≡ old ++ (x, v) ∷ []
    → Updated old new x (Some v) → IsDistinct xid_eq (keys_of new)
    → Replaces (branches_of old) (branches_of new) x None (Some (branch_of x v))
pushed old new x v none is updated distinct = record {
  distinct = distinct_names new distinct;
  found = none;
  only = changes_from old new x (Some v) updated.0 updated.1;
  counts = λ writes key.
      ap (λ (es : Entries). uses_in writes key (branches_of es) + 0) is ∙ counts_pushed writes key old (x, v);
}

-- one branch less
pub removed : (old new : Entries) (x : XidParts) → new ≡ swap_remove_entry (xid_eq x) old → Updated old new x None
    → IsDistinct xid_eq (keys_of new) → Replaces (branches_of old) (branches_of new) x (branch_named (branches_of old) x) None
removed old new x is updated distinct = record {
  distinct = distinct_names new distinct;
  found = refl;
  only = changes_from old new x None updated.0 updated.1;
  counts = λ writes key.
      ap (λ (es : Entries). uses_in writes key (branches_of es) + uses_of writes key (branch_named (branches_of old) x)) is
      ∙ counts_swapped writes key old x;
}

-- the entry of x was v, and is w
pub set_to : (old new : Entries) (x : XidParts) (v w : Course) (g : Branch → Branch) → lookup (xid_eq x) old ≡ Some v
    → g (branch_of x v) ≡ branch_of x w → new ≡ set_value (xid_eq x) old w → Updated old new x (Some w) → IsDistinct xid_eq (keys_of new)
    → Replaces (branches_of old) (branches_of new) x (branch_named (branches_of old) x) (option_map g (branch_named (branches_of old) x))
set_to old new x v w g was to is updated distinct =
    let found : branch_named (branches_of old) x ≡ Some (branch_of x v) = named_from old x ∙ ap (option_map (branch_of x)) was in
    subst (λ (o : Option Branch). Replaces (branches_of old) (branches_of new) x o (option_map g o)) (sym found)
    (subst (λ (b : Branch). Replaces (branches_of old) (branches_of new) x (Some (branch_of x v)) (Some b)) (sym to)
    (record {
      found = found;
      distinct = distinct_names new distinct;
      only = changes_from old new x (Some w) updated.0 updated.1;
      counts = λ writes key.
          ap (λ (es : Entries). uses_in writes key (branches_of es) + weight writes key (x, v)) is ∙ counts_set writes key old x v w was;
    }))

-- what a look-up answers
pub found_some : (x : XidParts) (r : Option (Bor Course)) (bs : List Branch) → is_some r ≡ true
    → option_map (λ branch. branch_of x branch.now) r ≡ branch_named bs x → (b : Branch) × (branch_named bs x ≡ Some b)
found_some x (Some b) bs is found = (branch_of x b.now, sym found)
found_some x None bs is found = absurd (cc (is))

-- where a look-up finds nothing, no branch has the name
pub found_none : (x : XidParts) (r : Option (Bor Course)) (bs : List Branch) → is_some r ≡ false
    → option_map (λ branch. branch_of x branch.now) r ≡ branch_named bs x → branch_named bs x ≡ None
found_none x (Some b) bs is found = absurd (cc (is))
found_none x None bs is found = sym found

-- a branch that is there has an entry
pub not_absent : (es : Entries) (x : XidParts) (bs : List Branch) → branches_of es ≡ bs → is_some (branch_named bs x) ≡ true
    → None ≡ lookup (xid_eq x) es → ⊥
not_absent es x bs e is none =
    let absent : branch_named bs x ≡ None =
    ap (λ all. branch_named all x) (sym e) ∙ named_from es x ∙ ap (option_map (branch_of x)) (sym none) in
    let turned : true ≡ false = sym is ∙ ap is_some absent in
    absurd (cc (turned))
