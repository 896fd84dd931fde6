-- What touched keys, which ascend, use of a key: after one more act, and one key after the other.
-- Needed by 8 functions of this crate; Hindered, OutcomeSteps and TableKept.
use Rattle.std.proofs.Common.{◌≡◌, ◌∙◌, ℕ, zero, suc, ◌+◌, ◌-◌, ◌^◌, ◌≤◌, ◌<◌, Bool, true, false, not, ◌&&◌, ◌||◌, ◌==◌, cond, ltb, List}
use Rattle.std.proofs.Common.{[], ◌∷◌, length, get_or, take, drop, refl, sym, ap, subst, arith, Some, Result, Ok, Err}
use Rattle.std.specs.List.{AllByRecursion}
use Rattle.std.proofs.Math.Seq.{drop-cons}
use Rattle.std.specs.Cmp.Lexicographic.{slice_cmp}
use Rattle.std.specs.Ordering.{nat_cmp, is_lt}
use Rattle.std.specs.Str.{bytes_eq}
use Rattle.std.proofs.lemmas.Bool.{ltb-true}
use Rattle.std.proofs.lemmas.Slice.Eq.{bytes_eq-Decides}
use Rattle.xid.specs.Limits.{most_touched}
use Rattle.stable_record.specs.declared.fact.Act.{Act}
use Rattle.stable_record.specs.declared.fact.Touched.{Touched}
use Rattle.stable_record.specs.Facts.{AreAscending, AreKeys, IsTouched, IsKey, IsAct}
use Rattle.protocol.specs.declared.states.BranchState.{BranchState}
use Rattle.protocol.specs.Branches.{is_write}
use Rattle.protocol.specs.Managers.{Branch, act_on, has_key, last_act, with_touched}
use Rattle.protocol.proofs.TouchedKeys.{acts_touched, counts_touched, has_touched, tail_ascends, untouched, changed_ascends}
use Rattle.protocol.specs.declared.requests.Action.TheVariants.{Put, Del, Get}
use Rattle.protocol.proofs.Manager.Keys.{first_once}
use Rattle.branch_table.specs.Outcomes.{looks_after}
use Rattle.branch_table.specs.Parts.{free, hold_by, hold_more, hold_of, more_by, uses_by, uses_held, uses_of}
use Rattle.std.specs.Prelude.{OnOk, IfErr}
use Rattle.xid.specs.declared.refusals.Refusal.{Refusal}
use Rattle.xid.specs.declared.refusals.Refusal.TheVariants.{NoMemory}

-- 1 where it is so
abbrev pub one : Bool → ℕ
one b = cond b 1 0

-- a branch uses what its keys use
pub uses_same : (writes : Bool) (key : List ℕ) (b : Branch) → uses_of writes key (Some b) ≡ uses_by writes key b.keys
uses_same true key b = refl
uses_same false key b = refl

pub ascends : (keys : List Touched) (key : List ℕ) (act : Act) (b : BranchState) → AreAscending keys
    → AreAscending (with_touched keys key act)
ascends keys key Act.Read s up =
    changed_ascends (Get key) (record { xid = record { format = 0; gtrid = []; bqual = [] }; state = s; keys = keys }) up
ascends keys key (Act.Put value) s up =
    changed_ascends (Put key value) (record { xid = record { format = 0; gtrid = []; bqual = [] }; state = s; keys = keys }) up
ascends keys key Act.Del s up =
    changed_ascends (Del key) (record { xid = record { format = 0; gtrid = []; bqual = [] }; state = s; keys = keys }) up

-- ---- one more act on a key

one_or_more : (h : Bool) → 1 ≡ one h + cond h 0 1
one_or_more true = refl
one_or_more false = refl

write_more : (before act : Act) → one (is_write (last_act before act)) ≡ one (is_write before) + one (is_write act && not (is_write before))
write_more Act.Read Act.Read = refl
write_more Act.Read (Act.Put v) = refl
write_more Act.Read Act.Del = refl
write_more (Act.Put u) Act.Read = refl
write_more (Act.Put u) (Act.Put v) = refl
write_more (Act.Put u) Act.Del = refl
write_more Act.Del Act.Read = refl
write_more Act.Del (Act.Put v) = refl
write_more Act.Del Act.Del = refl

-- what is used of a key after one act more
pub more_uses : (writes : Bool) (q : List ℕ) (keys : List Touched) (key : List ℕ) (act : Act) → AreAscending keys
    → uses_by writes q (with_touched keys key act)
    ≡ cond (bytes_eq key q) (uses_by writes q keys + uses_held writes (hold_more keys key act)) (uses_by writes q keys)
more_uses true q keys key act up = ap one (has_touched keys key q act) ∙ by (bytes_eq key q) refl
  where
    by : (b : Bool) → bytes_eq key q ≡ b
        → one (b || has_key q keys) ≡ cond b (one (has_key q keys) + cond (has_key key keys) 0 1) (one (has_key q keys))
    by true e =
        subst (λ (k : List ℕ). 1 ≡ one (has_key k keys) + cond (has_key key keys) 0 1) ((bytes_eq-Decides key q).0 e)
        (one_or_more (has_key key keys))
    by false e = refl
more_uses false q keys key act up = ap (λ a. one (is_write a)) (acts_touched keys key q act up) ∙ by (bytes_eq key q) refl
  where
    by : (b : Bool) → bytes_eq key q ≡ b
        → one (is_write (cond b (last_act (act_on keys q) act) (act_on keys q)))
        ≡ cond b (one (is_write (act_on keys q)) + one (is_write act && not (is_write (act_on keys key)))) (one (is_write (act_on keys q)))
    by true e =
        subst (λ (k : List ℕ). one (is_write (last_act (act_on keys k) act))
        ≡ one (is_write (act_on keys k)) + one (is_write act && not (is_write (act_on keys key))))
        ((bytes_eq-Decides key q).0 e) (write_more (act_on keys key) act)
    by false e = refl

-- ---- one key after the other

-- by the first touched key, and the rest
pub first_uses : (writes : Bool) (q : List ℕ) (t : Touched) (keys : List Touched) → AreAscending (t ∷ keys)
    → uses_by writes q (t ∷ keys) ≡ uses_by writes q keys + cond (bytes_eq t.key q) (uses_held writes (hold_by t.act)) 0
first_uses true q t keys up = by (bytes_eq t.key q) refl
  where
    by : (b : Bool) → bytes_eq t.key q ≡ b → one (b || has_key q keys) ≡ one (has_key q keys) + cond b 1 0
    by true e =
        subst (λ (k : List ℕ). 1 ≡ one (has_key k keys) + 1) ((bytes_eq-Decides t.key q).0 e)
        (ap (λ h. one h + 1) (sym (first_once t keys up)))
    by false e = omega arith
first_uses false q t keys up = by (bytes_eq t.key q) refl
  where
    by : (b : Bool) → bytes_eq t.key q ≡ b
        → one (is_write (cond b t.act (act_on keys q))) ≡ one (is_write (act_on keys q)) + cond b (one (is_write t.act)) 0
    by true e =
        let same = (bytes_eq-Decides t.key q).0 e in
        let none : act_on keys q ≡ Act.Read =
        subst (λ (k : List ℕ). act_on keys k ≡ Act.Read) same (untouched keys t.key (first_once t keys up)) in
        let nothing : one (is_write (act_on keys q)) ≡ 0 = ap (λ a. one (is_write a)) none in
        omega (arith, nothing)
    by false e = omega arith

-- no touched key uses nothing
pub uses_none : (writes : Bool) (q : List ℕ) → uses_by writes q [] ≡ 0
uses_none true q = refl
uses_none false q = refl

pub drop_ascends : (keys : List Touched) (n : ℕ) → AreAscending keys → AreAscending (drop n keys)
drop_ascends [] zero up = up
drop_ascends [] (suc n) up = up
drop_ascends (t ∷ keys) zero up = up
drop_ascends (t ∷ keys) (suc n) up = drop_ascends keys n (tail_ascends t keys up)

-- the first of touched keys that ascend do too
pub take_ascends : (keys : List Touched) (n : ℕ) → AreAscending keys → AreAscending (take n keys)
take_ascends [] zero up = tt
take_ascends [] (suc n) up = tt
take_ascends (t ∷ keys) zero up = tt
take_ascends (t ∷ []) (suc zero) up = tt
take_ascends (t ∷ []) (suc (suc n)) up = tt
take_ascends (t ∷ u ∷ keys) (suc zero) up = tt
take_ascends (t ∷ u ∷ keys) (suc (suc n)) up = (up.0, take_ascends (u ∷ keys) (suc n) up.1)

-- touched keys use what the first of them and what the others use
pub split_uses : (writes : Bool) (q : List ℕ) (keys : List Touched) (n : ℕ) → AreAscending keys
    → uses_by writes q keys ≡ uses_by writes q (take n keys) + uses_by writes q (drop n keys)
split_uses writes q [] zero up = omega (arith, uses_none writes q)
split_uses writes q [] (suc n) up = omega (arith, uses_none writes q)
split_uses writes q (t ∷ keys) zero up = omega (arith, uses_none writes q)
split_uses writes q (t ∷ keys) (suc n) up =
    let whole = first_uses writes q t keys up in
    let front = first_uses writes q t (take n keys) (take_ascends (t ∷ keys) (suc n) up) in
    let rest = split_uses writes q keys n (tail_ascends t keys up) in
    omega (arith, whole, front, rest)

-- the keys from a place on are the one there and the others
pub uses_step : (writes : Bool) (q : List ℕ) (keys : List Touched) (i : ℕ) (t : Touched) → i < length keys → t ≡ get_or keys i t
    → AreAscending keys
    → uses_by writes q (drop i keys)
    ≡ uses_by writes q (drop (i + 1) keys) + cond (bytes_eq t.key q) (uses_held writes (hold_by t.act)) 0
uses_step writes q keys i t lt read up =
    let next : suc i ≡ i + 1 = omega arith in
    let whole : drop i keys ≡ t ∷ drop (i + 1) keys = drop-cons keys i t lt ∙ (λ j. sym read j ∷ drop (next j) keys) in
    ap (uses_by writes q) whole ∙ first_uses writes q t (drop (i + 1) keys) (subst AreAscending whole (drop_ascends keys i up))

-- one key is let go
pub let_step : (h g u v a z : ℕ) (b : Bool) → h ≡ cond b (g - a) g → u ≡ v + cond b a 0 → g - u ≡ z → h - v ≡ z
let_step h g u v a z true is split e = omega (arith, is, split, e)
let_step h g u v a z false is split e = omega (arith, is, split, e)

-- one key is held
pub hold_step : (h g u v a z : ℕ) (b : Bool) → h ≡ cond b (g + a) g → u ≡ v + cond b a 0 → g + u ≡ z → h + v ≡ z
hold_step h g u v a z true is split e = omega (arith, is, split, e)
hold_step h g u v a z false is split e = omega (arith, is, split, e)

-- looks behind looks
pub looks_more : (before n m : ℕ) → looks_after (looks_after before n) m ≡ looks_after before (n + m)
looks_more before n m = omega arith

-- no look changes nothing
pub looks_none : (before : ℕ) → before < 2 ^ 64 → before ≡ looks_after before 0
looks_none before lt = omega (arith, lt)

-- ---- they are keys of a vote again

each_touched : (keys : List Touched) (key : List ℕ) (act : Act) → IsKey key → IsAct act → AllByRecursion IsTouched keys
    → AllByRecursion IsTouched (with_touched keys key act)
each_touched [] key act is-key is-act all = (record { key = is-key; act = is-act }, tt)
each_touched (t ∷ keys) key act is-key is-act all =
    by (bytes_eq t.key key) (is_lt (slice_cmp nat_cmp key t.key)) (each_touched keys key act is-key is-act all.1)
  where
    after : (before act : Act) → IsAct before → IsAct act → IsAct (last_act before act)
    after before Act.Read is-before is-act = is-before
    after before (Act.Put v) is-before is-act = is-act
    after before Act.Del is-before is-act = tt

    by : (b c : Bool) → AllByRecursion IsTouched (with_touched keys key act)
        → AllByRecursion IsTouched (cond b (record { key = key; act = last_act t.act act } ∷ keys)
        (cond c (record { key = key; act = act } ∷ t ∷ keys) (t ∷ with_touched keys key act)))
    by true c rest = (record { key = is-key; act = after t.act act all.0.act is-act }, all.1)
    by false true rest = (record { key = is-key; act = is-act }, all)
    by false false rest = (all.0, rest)

pub are_keys_touched : (keys : List Touched) (key : List ℕ) (act : Act) → IsKey key → IsAct act
    → (has_key key keys || ltb (length keys) most_touched) ≡ true → AreKeys keys → AreKeys (with_touched keys key act)
are_keys_touched keys key act is-key is-act room are = record {
  few = by (has_key key keys) refl;
  each = each_touched keys key act is-key is-act are.each;
  ascending = ascends keys key act BranchState.Active are.ascending;
}
  where
    by : (h : Bool) → has_key key keys ≡ h → length (with_touched keys key act) ≤ most_touched
    by true h =
        let counted = counts_touched keys key act are.ascending ∙ ap (λ b. cond b (length keys) (length keys + 1)) h in
        omega (arith, counted, are.few)
    by false h =
        let counted = counts_touched keys key act are.ascending ∙ ap (λ b. cond b (length keys) (length keys + 1)) h in
        let small = ltb-true (length keys) most_touched (sym (ap (λ b. b || ltb (length keys) most_touched) h) ∙ room) in
        omega (arith, counted, small)

-- a try to note one more act leaves keys of a vote
pub are_keys_after : (r : Result (Unit {0}) Refusal) (old new : List Touched) (key : List ℕ) (act : Act) → IsKey key → IsAct act
    → (has_key key old || ltb (length old) most_touched) ≡ true → AreKeys old → OnOk r (new ≡ with_touched old key act)
    → IfErr r (λ e. (e ≡ NoMemory) × (new ≡ old)) → AreKeys new
are_keys_after (Ok u) old new key act is-key is-act room are ok err =
    subst AreKeys (sym ok) (are_keys_touched old key act is-key is-act room are)
are_keys_after (Err e) old new key act is-key is-act room are ok err = subst AreKeys (sym err.1) are

-- the hold of a branch on a key is its uses of it
pub own_hold : (writes : Bool) (keys : List Touched) (key : List ℕ) → uses_held writes (hold_of keys key) ≡ uses_by writes key keys
own_hold true keys key = refl
own_hold false keys key = refl

-- a key that is free is used by nobody
pub no_hold : (writes : Bool) → uses_held writes free ≡ 0
no_hold true = refl
no_hold false = refl

-- one act adds one use at most
pub more_small : (writes : Bool) (keys : List Touched) (key : List ℕ) (act : Act) → uses_held writes (hold_more keys key act) ≤ 1
more_small true keys key act = by (has_key key keys)
  where
    by : (b : Bool) → cond b 0 1 ≤ 1
    by true = omega arith
    by false = omega arith
more_small false keys key act = by (is_write act && not (is_write (act_on keys key)))
  where
    by : (b : Bool) → cond b 1 0 ≤ 1
    by true = omega arith
    by false = omega arith

-- what one more act adds to the hold of a branch, by that hold
pub more_is : (keys : List Touched) (key : List ℕ) (act : Act) → more_by (hold_of keys key) act ≡ hold_more keys key act
more_is keys key act = λ i. record {
  touched_by = touched (has_key key keys) i;
  written_by = written (is_write act) (is_write (act_on keys key)) i;
}
  where
    touched : (h : Bool) → one (one h == 0) ≡ cond h 0 1
    touched true = refl
    touched false = refl

    written : (w o : Bool) → one (w && one o == 0) ≡ cond (w && not o) 1 0
    written true true = refl
    written true false = refl
    written false true = refl
    written false false = refl

-- the hold of one branch, by whether it has touched the key, and its last act
pub hold_by_act : (keys : List Touched) (key : List ℕ) (act : Act) → act ≡ act_on keys key → has_key key keys ≡ true
    → hold_by act ≡ hold_of keys key
hold_by_act keys key act is there =
    λ i. record { touched_by = one (sym there i); written_by = one (is_write (is i)) }

-- a key that isn't touched is held free
pub hold_of_none : (keys : List Touched) (key : List ℕ) → act_on keys key ≡ Act.Read → has_key key keys ≡ false
    → free ≡ hold_of keys key
hold_of_none keys key is none =
    λ i. record { touched_by = one (sym none i); written_by = one (is_write (sym is i)) }
