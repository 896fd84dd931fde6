-- What touching a key makes of the touched keys of a branch of the machine, which stand ascending.
-- Needed by Manager.Apart and Manager.Keys; crates safety, branch_table, resource_manager and history.
use Rattle.std.proofs.Common.{◌≡◌, ◌∙◌, ℕ, suc, ◌+◌, Bool, true, false, ◌||◌, cond, List, [], ◌∷◌, length, refl, sym, ap, subst, arith}
use Rattle.std.specs.Cmp.Lexicographic.{slice_cmp}
use Rattle.std.specs.Ordering.{nat_cmp, is_lt, is_eq, ordering_reverse}
use Rattle.std.specs.Str.{bytes_eq}
use Rattle.std.specs.declared.cmp.Ordering.{Ordering}
use Rattle.std.specs.declared.cmp.Ordering.TheVariants.{Less, Equal, Greater}
use Rattle.std.proofs.lemmas.Bool.{cond_both, both_ways, false_from_ne_true, or_parts}
use Rattle.std.proofs.lemmas.Cmp.{nat_list_cmp_total}
use Rattle.std.proofs.lemmas.Map.Text.{is_eq-slice_cmp}
use Rattle.std.proofs.lemmas.Slice.Eq.{bytes_eq-Decides}
use Rattle.stable_record.specs.declared.fact.Act.{Act}
use Rattle.stable_record.specs.declared.fact.Touched.{Touched}
use Rattle.stable_record.specs.Facts.{AreAscending}
use Rattle.protocol.specs.Vocabulary.{Action, Start, Put, Del, Get, End, EndFail, Rollback}
use Rattle.protocol.specs.Managers.{Branch, with_touched, last_act, has_key, act_on, branch_after}

-- ---- the order of keys

-- what is less by the test is Less
pub less_from : (o : Ordering) → is_lt o ≡ true → o ≡ Less
less_from Less e = refl
less_from Equal e = absurd (cc (e))
less_from Greater e = absurd (cc (e))

-- of two keys that differ, the one that isn't earlier is later
pub later_by : (x y : List ℕ) (o : Ordering) → slice_cmp nat_cmp y x ≡ o → bytes_eq x y ≡ false → is_lt o ≡ false
    → slice_cmp nat_cmp x y ≡ Less
later_by x y Less e apart over = absurd (cc (over))
later_by x y Equal e apart over =
    let same : y ≡ x = (bytes_eq-Decides y x).0 (sym (is_eq-slice_cmp y x) ∙ ap is_eq e) in
    absurd (both_ways (bytes_eq x y) apart ((bytes_eq-Decides x y).1 (sym same)))
later_by x y Greater e apart over = nat_list_cmp_total.antisymm x y ∙ ap ordering_reverse e

-- a key that is neither x nor before it comes after it
later : (x y : List ℕ) → bytes_eq x y ≡ false → is_lt (slice_cmp nat_cmp y x) ≡ false → slice_cmp nat_cmp x y ≡ Less
later x y apart over = later_by x y (slice_cmp nat_cmp y x) refl apart over

pub not_itself : (key : List ℕ) → slice_cmp nat_cmp key key ≡ Less → ⊥
not_itself key less =
    let turned : Less ≡ Greater = sym less ∙ nat_list_cmp_total.antisymm key key ∙ ap ordering_reverse less in
    absurd (cc (turned))

-- an earlier key is another one
pub apart_from : (key k : List ℕ) → slice_cmp nat_cmp key k ≡ Less → bytes_eq k key ≡ false
apart_from key k less = false_from_ne_true (bytes_eq k key)
    (λ e. not_itself key (subst (λ (z : List ℕ). slice_cmp nat_cmp key z ≡ Less) ((bytes_eq-Decides k key).0 e) less))

-- a key before the first isn't there
pub absent : (t : Touched) (keys : List Touched) (key : List ℕ) → AreAscending (t ∷ keys) → slice_cmp nat_cmp key t.key ≡ Less
    → has_key key (t ∷ keys) ≡ false
absent t [] key ascending less = ap (λ b. b || false) (apart_from key t.key less)
absent t (u ∷ keys) key ascending less =
    ap (λ b. b || has_key key (u ∷ keys)) (apart_from key t.key less)
    ∙ absent u keys key ascending.1 (nat_list_cmp_total.trans key t.key u.key less ascending.0)

-- the rest of touched keys that ascend does too
pub tail_ascends : (t : Touched) (keys : List Touched) → AreAscending (t ∷ keys) → AreAscending keys
tail_ascends t [] ascending = tt
tail_ascends t (u ∷ keys) ascending = ascending.1

-- ---- which keys are there

pub twice : (a b : Bool) → (a || b) ≡ (a || (a || b))
twice true b = refl
twice false b = refl

pub swap : (a b c : Bool) → (a || (b || c)) ≡ (b || (a || c))
swap true true c = refl
swap true false c = refl
swap false true c = refl
swap false false c = refl

-- which keys are touched afterwards
pub has_touched : (keys : List Touched) (key other : List ℕ) (act : Act)
    → has_key other (with_touched keys key act) ≡ (bytes_eq key other || has_key other keys)
has_touched [] key other act = refl
has_touched (t ∷ keys) key other act =
    let goal = λ (after : List Touched). has_key other after ≡ (bytes_eq key other || has_key other (t ∷ keys)) in
    cond_both (bytes_eq t.key key) _ _ goal
    (λ same.
    twice (bytes_eq key other) (has_key other keys)
    ∙ ap (λ (k : List ℕ). bytes_eq key other || (bytes_eq k other || has_key other keys)) (sym ((bytes_eq-Decides t.key key).0 same)))
    (λ apart. cond_both (is_lt (slice_cmp nat_cmp key t.key)) _ _ goal
    (λ here. refl)
    (λ there.
    ap (λ (b : Bool). bytes_eq t.key other || b) (has_touched keys key other act)
    ∙ swap (bytes_eq t.key other) (bytes_eq key other) (has_key other keys)))

-- ---- how many

pub suc_in : (b : Bool) (n : ℕ) → suc (cond b n (n + 1)) ≡ cond b (suc n) (suc n + 1)
suc_in true n = refl
suc_in false n = omega arith

-- how many they are
pub counts_touched : (keys : List Touched) (key : List ℕ) (act : Act) → AreAscending keys
    → length (with_touched keys key act) ≡ cond (has_key key keys) (length keys) (length keys + 1)
counts_touched [] key act ascending = refl
counts_touched (t ∷ keys) key act ascending =
    let n = length keys in
    let goal = λ (after : List Touched). length after ≡ cond (has_key key (t ∷ keys)) (suc n) (suc n + 1) in
    cond_both (bytes_eq t.key key) _ _ goal
    (λ same. sym (ap (λ (b : Bool). cond (b || has_key key keys) (suc n) (suc n + 1)) same))
    (λ apart. cond_both (is_lt (slice_cmp nat_cmp key t.key)) _ _ goal
    (λ here.
    let more : suc (suc n) ≡ suc n + 1 = omega arith in
    more ∙ sym (ap (λ (b : Bool). cond b (suc n) (suc n + 1)) (absent t keys key ascending (less_from (slice_cmp nat_cmp key t.key) here))))
    (λ there.
    ap suc (counts_touched keys key act (tail_ascends t keys ascending)) ∙ suc_in (has_key key keys) n
    ∙ sym (ap (λ (b : Bool). cond (b || has_key key keys) (suc n) (suc n + 1)) apart)))

-- ---- the last acts on them

-- a key that is none of those touched has no act
pub untouched : (keys : List Touched) (key : List ℕ) → has_key key keys ≡ false → act_on keys key ≡ Act.Read
untouched [] key none = refl
untouched (t ∷ keys) key none =
    let parts = or_parts (bytes_eq t.key key) (has_key key keys) none in
    ap (λ (b : Bool). cond b t.act (act_on keys key)) parts.0 ∙ untouched keys key parts.1

in_its_place : (b : Bool) (act old rest : Act) → cond b (last_act old act) rest ≡ cond b (last_act (cond b old rest) act) (cond b old rest)
in_its_place true act old rest = refl
in_its_place false act old rest = refl

after_read : (act : Act) → act ≡ last_act Act.Read act
after_read Act.Read = refl
after_read (Act.Put value) = refl
after_read Act.Del = refl

in_front : (b : Bool) (act old : Act) → (b ≡ true → old ≡ Act.Read) → cond b act old ≡ cond b (last_act old act) old
in_front true act old none = after_read act ∙ ap (λ before. last_act before act) (sym (none refl))
in_front false act old none = refl

further_on : (b c : Bool) (act old rest : Act) → (b ≡ true → c ≡ false)
    → cond b old (cond c (last_act rest act) rest) ≡ cond c (last_act (cond b old rest) act) (cond b old rest)
further_on true true act old rest one = absurd (cc (one refl))
further_on true false act old rest one = refl
further_on false c act old rest one = refl

-- and what was done last to each
pub acts_touched : (keys : List Touched) (key other : List ℕ) (act : Act) → AreAscending keys
    → act_on (with_touched keys key act) other ≡ cond (bytes_eq key other) (last_act (act_on keys other) act) (act_on keys other)
acts_touched [] key other act ascending = in_front (bytes_eq key other) act Act.Read (λ e. refl)
acts_touched (t ∷ keys) key other act ascending =
    let goal = λ (after : List Touched). act_on after other
    ≡ cond (bytes_eq key other) (last_act (act_on (t ∷ keys) other) act) (act_on (t ∷ keys) other) in
    cond_both (bytes_eq t.key key) _ _ goal
    (λ same. subst
    (λ (k : List ℕ). cond (bytes_eq key other) (last_act t.act act) (act_on keys other)
    ≡ cond (bytes_eq key other) (last_act (cond (bytes_eq k other) t.act (act_on keys other)) act) (cond (bytes_eq k other) t.act
    (act_on keys other)))
    (sym ((bytes_eq-Decides t.key key).0 same)) (in_its_place (bytes_eq key other) act t.act (act_on keys other)))
    (λ apart. cond_both (is_lt (slice_cmp nat_cmp key t.key)) _ _ goal
    (λ here. in_front (bytes_eq key other) act (act_on (t ∷ keys) other)
    (λ e. subst (λ (k : List ℕ). act_on (t ∷ keys) k ≡ Act.Read) ((bytes_eq-Decides key other).0 e)
    (untouched (t ∷ keys) key (absent t keys key ascending (less_from (slice_cmp nat_cmp key t.key) here)))))
    (λ there.
    ap (λ (w : Act). cond (bytes_eq t.key other) t.act w) (acts_touched keys key other act (tail_ascends t keys ascending))
    ∙ further_on (bytes_eq t.key other) (bytes_eq key other) act t.act (act_on keys other)
    (λ e. false_from_ne_true (bytes_eq key other)
    (λ f. both_ways (bytes_eq t.key key) apart
    ((bytes_eq-Decides t.key key).1 ((bytes_eq-Decides t.key other).0 e ∙ sym ((bytes_eq-Decides key other).0 f)))))))

-- ---- they ascend again

renamed : (t u : Touched) (keys : List Touched) → t.key ≡ u.key → AreAscending (t ∷ keys) → AreAscending (u ∷ keys)
renamed t u [] same ascending = tt
renamed t u (v ∷ keys) same ascending = (subst (λ (k : List ℕ). slice_cmp nat_cmp k v.key ≡ Less) same ascending.0, ascending.1)

ascends_after : (t : Touched) (keys : List Touched) (key : List ℕ) (act : Act) → AreAscending (t ∷ keys)
    → slice_cmp nat_cmp t.key key ≡ Less → AreAscending (t ∷ with_touched keys key act)
ascends_after t [] key act ascending less = (less, tt)
ascends_after t (u ∷ keys) key act ascending less =
    let goal = λ (after : List Touched). AreAscending (t ∷ after) in
    cond_both (bytes_eq u.key key) _ _ goal
    (λ same. (less, renamed u (record { key = key; act = last_act u.act act }) keys ((bytes_eq-Decides u.key key).0 same) ascending.1))
    (λ apart. cond_both (is_lt (slice_cmp nat_cmp key u.key)) _ _ goal
    (λ here. (less, (less_from (slice_cmp nat_cmp key u.key) here, ascending.1)))
    (λ there. (ascending.0, ascends_after u keys key act ascending.1 (later u.key key apart there))))

ascends_touched : (keys : List Touched) (key : List ℕ) (act : Act) → AreAscending keys → AreAscending (with_touched keys key act)
ascends_touched [] key act ascending = tt
ascends_touched (t ∷ keys) key act ascending =
    cond_both (bytes_eq t.key key) _ _ AreAscending
    (λ same. renamed t (record { key = key; act = last_act t.act act }) keys ((bytes_eq-Decides t.key key).0 same) ascending)
    (λ apart. cond_both (is_lt (slice_cmp nat_cmp key t.key)) _ _ AreAscending
    (λ here. (less_from (slice_cmp nat_cmp key t.key) here, ascending))
    (λ there. ascends_after t keys key act ascending (later t.key key apart there)))

-- whatever a call makes of a branch
pub changed_ascends : (action : Action) (b : Branch) → AreAscending b.keys → AreAscending (branch_after action b).keys
changed_ascends (Put key value) b ascending = ascends_touched b.keys key (Act.Put value) ascending
changed_ascends (Del key) b ascending = ascends_touched b.keys key Act.Del ascending
changed_ascends (Get key) b ascending = ascends_touched b.keys key Act.Read ascending
changed_ascends End b ascending = ascending
changed_ascends EndFail b ascending = ascending
changed_ascends Start b ascending = ascending
changed_ascends Rollback b ascending = ascending
