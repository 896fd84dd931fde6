-- The place at which an act on a key is noted among ascending keys, and what is found there.
-- Needed by `act_on`, `place_of` and `touch_key`.
use Rattle.std.proofs.Common.{◌≡◌, ◌∙◌, ℕ, zero, suc, ◌<◌, ◌≤◌, Bool, true, false, not, ◌||◌, ltb, cond, List, [], ◌∷◌, length, get_or, set}
use Rattle.std.proofs.Common.{Some, None, refl, sym, ap, subst, arith, inl, inr}
use Rattle.std.specs.List.{insert, position, prefix_len}
use Rattle.std.specs.List.Sorted.{IsPartitionedBy, IsPartitionPoint}
use Rattle.std.specs.Cmp.Lexicographic.{slice_cmp}
use Rattle.std.specs.Ordering.{nat_cmp, is_lt, is_le, is_eq, ordering_reverse}
use Rattle.std.specs.Str.{bytes_eq}
use Rattle.std.specs.declared.cmp.Ordering.{Ordering}
use Rattle.std.specs.declared.cmp.Ordering.TheVariants.{Less, Equal, Greater}
use Rattle.std.proofs.lemmas.Bool.{cases_lt, le-ltb, lt-ltb, not-true}
use Rattle.std.proofs.lemmas.List.Quantifiers.{position-Some}
use Rattle.std.proofs.lemmas.Map.Text.{is_eq-slice_cmp}
use Rattle.std.proofs.lemmas.Slice.Eq.{bytes_eq-Decides}
use Rattle.stable_record.specs.declared.fact.Act.{Act}
use Rattle.stable_record.specs.declared.fact.Touched.{Touched}
use Rattle.std.proofs.lemmas.Cmp.{nat_list_cmp_total}
use Rattle.std.proofs.lemmas.List.Sums.{prefix_len_is}
use Rattle.stable_record.specs.Facts.{AreAscending}
use Rattle.protocol.specs.Managers.{act_on, has_key, last_act, with_touched}
use Rattle.protocol.proofs.TouchedKeys.{absent, tail_ascends}
use Rattle.branch_table.proofs.TableRows.{flipped}

-- whether a key stands no later than a touched one
abbrev pub is_up_to : List ℕ → Touched → Bool
is_up_to key touched = is_le (slice_cmp nat_cmp key touched.key)

-- the tests of two keys, by their order
same_test : (x key : List ℕ) → bytes_eq x key ≡ is_eq (slice_cmp nat_cmp key x)
same_test x key = flipped x key ∙ sym (is_eq-slice_cmp key x)

past_eq : (o : Ordering) → is_le o ≡ false → is_eq o ≡ false
past_eq Less e = absurd (cc (e))
past_eq Equal e = absurd (cc (e))
past_eq Greater e = refl

past_lt : (o : Ordering) → is_le o ≡ false → is_lt o ≡ false
past_lt Less e = absurd (cc (e))
past_lt Equal e = absurd (cc (e))
past_lt Greater e = refl

before_lt : (o : Ordering) → is_le o ≡ true → is_eq o ≡ false → is_lt o ≡ true
before_lt Less e apart = refl
before_lt Equal e apart = absurd (cc (apart))
before_lt Greater e apart = absurd (cc (e))

before_less : (o : Ordering) → is_le o ≡ true → is_eq o ≡ false → o ≡ Less
before_less Less e apart = refl
before_less Equal e apart = absurd (cc (apart))
before_less Greater e apart = absurd (cc (e))

-- a touched key before this one stays where it is
passes : (t : Touched) (keys : List Touched) (key : List ℕ) (act : Act) → is_up_to key t ≡ false
    → with_touched (t ∷ keys) key act ≡ t ∷ with_touched keys key act
passes t keys key act past =
    rw (same_test t.key key ∙ past_eq (slice_cmp nat_cmp key t.key) past, past_lt (slice_cmp nat_cmp key t.key) past) refl

-- t stands at place i, the first of which the key isn't before this one
pub record IsKeyPlace (keys : List Touched) (key : List ℕ) (i : ℕ) (t : Touched) : Type 0 where
  pub within : i < length keys
  pub read : t ≡ get_or keys i t
  pub up : is_up_to key t ≡ true
  pub before : (k : ℕ) → k < i → is_up_to key (get_or keys k t) ≡ false

-- the first key that is not below this one is at its place
pub key_placed : (keys : List Touched) (key : List ℕ) (i : ℕ) (t : Touched) → position (is_up_to key) keys ≡ Some i → t ≡ get_or keys i t
    → IsKeyPlace keys key i t
key_placed keys key i t e read =
    let found = position-Some (is_up_to key) keys i t e in record {
      within = found.0;
      read = read;
      up = subst (λ (u : Touched). is_up_to key u ≡ true) (sym read) found.1;
      before = found.2;
    }

IsKeyPlace-tail : (u : Touched) (keys : List Touched) (key : List ℕ) (i : ℕ) (t : Touched) → IsKeyPlace (u ∷ keys) key (suc i) t
    → IsKeyPlace keys key i t
IsKeyPlace-tail u keys key i t place = record {
  within = omega (arith, place.within);
  read = place.read;
  up = place.up;
  before = λ k less. place.before (suc k) (omega arith);
}

-- the key is there: its act is noted
pub set_at_key : (keys : List Touched) (key : List ℕ) (act : Act) (i : ℕ) (t : Touched) → IsKeyPlace keys key i t
    → bytes_eq t.key key ≡ true → set keys i (record t { act = last_act t.act act }) ≡ with_touched keys key act
set_at_key [] key act i t place same = absurd (omega (arith, place.within))
set_at_key (u ∷ keys) key act zero t place same =
    subst (λ (v : Touched). record t { act = last_act t.act act } ∷ keys ≡ with_touched (v ∷ keys) key act) place.read
    (rw same (ap (λ (k : List ℕ). record { key = k; act = last_act t.act act } ∷ keys) ((bytes_eq-Decides t.key key).0 same)))
set_at_key (u ∷ keys) key act (suc i) t place same =
    ap (λ (rest : List Touched). u ∷ rest) (set_at_key keys key act i t (IsKeyPlace-tail u keys key i t place) same)
    ∙ sym (passes u keys key act (place.before 0 (omega arith)))

-- the key is new, and comes before that of t
pub insert_before : (keys : List Touched) (key : List ℕ) (act : Act) (i : ℕ) (t : Touched) → IsKeyPlace keys key i t
    → bytes_eq t.key key ≡ false → insert keys i (record { key = key; act = act }) ≡ with_touched keys key act
insert_before [] key act i t place apart = absurd (omega (arith, place.within))
insert_before (u ∷ keys) key act zero t place apart =
    subst (λ (v : Touched). record { key = key; act = act } ∷ v ∷ keys ≡ with_touched (v ∷ keys) key act) place.read
    (rw (apart, before_lt (slice_cmp nat_cmp key t.key) place.up (sym (same_test t.key key) ∙ apart)) refl)
insert_before (u ∷ keys) key act (suc i) t place apart =
    ap (λ (rest : List Touched). u ∷ rest) (insert_before keys key act i t (IsKeyPlace-tail u keys key i t place) apart)
    ∙ sym (passes u keys key act (place.before 0 (omega arith)))

-- the key is new, and comes after all others
pub insert_last : (keys : List Touched) (key : List ℕ) (act : Act)
    → ((k : ℕ) (t : Touched) → k < length keys → is_up_to key (get_or keys k t) ≡ false)
    → insert keys (length keys) (record { key = key; act = act }) ≡ with_touched keys key act
insert_last [] key act before = refl
insert_last (u ∷ keys) key act before =
    ap (λ (rest : List Touched). u ∷ rest) (insert_last keys key act (λ k t less. before (suc k) t (omega arith)))
    ∙ sym (passes u keys key act (before 0 u (omega arith)))

-- ---- found by halving

past : (o : Ordering) → is_le o ≡ false → o ≡ Greater
past Less e = absurd (cc (e))
past Equal e = absurd (cc (e))
past Greater e = refl

-- what stands before a key that is before this one is before it too
earlier : (t u : Touched) (key : List ℕ) → slice_cmp nat_cmp t.key u.key ≡ Less → is_up_to key u ≡ false → is_up_to key t ≡ false
earlier t u key less e =
    let below : slice_cmp nat_cmp u.key key ≡ Less =
    nat_list_cmp_total.antisymm u.key key ∙ ap ordering_reverse (past (slice_cmp nat_cmp key u.key) e) in
    let above : slice_cmp nat_cmp key t.key ≡ Greater =
    nat_list_cmp_total.antisymm key t.key ∙ ap ordering_reverse (nat_list_cmp_total.trans t.key u.key key less below) in
    ap is_le above

-- no key before this one comes after one that isn't
pub parted : (keys : List Touched) (key : List ℕ) → AreAscending keys → IsPartitionedBy (λ t. not (is_up_to key t)) keys
parted keys key up i j d le lt = by keys i j up le lt
  where
    by : (keys : List Touched) (i j : ℕ) → AreAscending keys → i ≤ j → j < length keys
        → not (is_up_to key (get_or keys j d)) ≡ true → not (is_up_to key (get_or keys i d)) ≡ true
    by [] i j up le lt e = absurd (omega (arith, lt))
    by (t ∷ keys) zero zero up le lt e = e
    by (t ∷ []) zero (suc j) up le lt e = absurd (omega (arith, lt))
    by (t ∷ u ∷ keys) zero (suc j) up le lt e =
        let next = by (u ∷ keys) zero j up.1 (omega arith) (omega (arith, lt)) e in
        ap not (earlier t u key up.0 (not-true (is_up_to key u) next))
    by (t ∷ keys) (suc i) zero up le lt e = absurd (omega (arith, le))
    by (t ∷ keys) (suc i) (suc j) up le lt e = by keys i j (tail_ascends t keys up) (omega (arith, le)) (omega (arith, lt)) e

-- where the keys before this one end
parts_at : (keys : List Touched) (key : List ℕ) (i : ℕ) → i ≤ length keys
    → IsPartitionPoint (λ t. not (is_up_to key t) ≡ true) (λ t. not (is_up_to key t) ≡ false) keys i
    → position (is_up_to key) keys ≡ cond (ltb i (length keys)) (Some i) None
parts_at keys key i le point =
    let d : Touched = record { key = []; act = Act.Read } in
    let n : prefix_len (λ t. not (is_up_to key t)) keys ≡ i =
    prefix_len_is (λ t. not (is_up_to key t)) keys i d le (λ k l. point.0 k d (omega arith) l) (λ l. point.1 i d (omega arith) l) in
    ap (λ (m : ℕ). cond (ltb m (length keys)) (Some m) None) n

-- they are all before it
pub none_from : (keys : List Touched) (key : List ℕ) (i : ℕ) → i ≤ length keys
    → IsPartitionPoint (λ t. not (is_up_to key t) ≡ true) (λ t. not (is_up_to key t) ≡ false) keys i
    → i ≡ length keys → None ≡ position (is_up_to key) keys
none_from keys key i le point end =
    sym (parts_at keys key i le point ∙ ap (λ b. cond b (Some i) None) (le-ltb i (length keys) (omega (arith, end))))

-- the first that isn't stands where they end
pub some_from : (keys : List Touched) (key : List ℕ) (i : ℕ) → i ≤ length keys
    → IsPartitionPoint (λ t. not (is_up_to key t) ≡ true) (λ t. not (is_up_to key t) ≡ false) keys i
    → (i ≡ length keys → ⊥) → Some i ≡ position (is_up_to key) keys
some_from keys key i le point more =
    sym (parts_at keys key i le point ∙ ap (λ b. cond b (Some i) None) (lt-ltb i (length keys) (under i (length keys) le more)))
  where
    under : (i n : ℕ) → i ≤ n → (i ≡ n → ⊥) → i < n
    under i n le more = elim (cases_lt i n) [
      | inl lt ↦ lt
      | inr past ↦ absurd (more (omega arith))
    ]

-- a key is there exactly where it stands at its place
pub found_at : (keys : List Touched) (key : List ℕ) (i : ℕ) (t : Touched) → AreAscending keys → IsKeyPlace keys key i t
    → has_key key keys ≡ bytes_eq t.key key
found_at [] key i t up place = absurd (omega (arith, place.within))
found_at (u ∷ keys) key zero t up place =
    subst (λ (v : Touched). has_key key (v ∷ keys) ≡ bytes_eq t.key key) place.read
    (by (bytes_eq t.key key) refl (subst (λ (v : Touched). AreAscending (v ∷ keys)) (sym place.read) up))
  where
    by : (b : Bool) → bytes_eq t.key key ≡ b → AreAscending (t ∷ keys) → has_key key (t ∷ keys) ≡ bytes_eq t.key key
    by true e up = ap (λ b. b || has_key key keys) e ∙ sym e
    by false e up =
        let less = before_less (slice_cmp nat_cmp key t.key) place.up (sym (same_test t.key key) ∙ e) in
        absent t keys key up less ∙ sym e
found_at (u ∷ keys) key (suc i) t up place =
    ap (λ b. b || has_key key keys) (same_test u.key key ∙ past_eq (slice_cmp nat_cmp key u.key) (place.before 0 (omega arith)))
    ∙ found_at keys key i t (tail_ascends u keys up) (IsKeyPlace-tail u keys key i t place)

-- and its last act is the one that stands there
pub act_at : (keys : List Touched) (key : List ℕ) (i : ℕ) (t : Touched) → IsKeyPlace keys key i t
    → bytes_eq t.key key ≡ true → act_on keys key ≡ t.act
act_at [] key i t place same = absurd (omega (arith, place.within))
act_at (u ∷ keys) key zero t place same =
    subst (λ (v : Touched). act_on (v ∷ keys) key ≡ t.act) place.read (ap (λ b. cond b t.act (act_on keys key)) same)
act_at (u ∷ keys) key (suc i) t place same =
    ap (λ b. cond b u.act (act_on keys key))
    (same_test u.key key ∙ past_eq (slice_cmp nat_cmp key u.key) (place.before 0 (omega arith)))
    ∙ act_at keys key i t (IsKeyPlace-tail u keys key i t place) same

-- a key that all come before isn't there
pub none_at : (keys : List Touched) (key : List ℕ) → ((k : ℕ) (t : Touched) → k < length keys → is_up_to key (get_or keys k t) ≡ false)
    → has_key key keys ≡ false
none_at [] key before = refl
none_at (u ∷ keys) key before =
    ap (λ b. b || has_key key keys) (same_test u.key key ∙ past_eq (slice_cmp nat_cmp key u.key) (before 0 u (omega arith)))
    ∙ none_at keys key (λ k t less. before (suc k) t (omega arith))
