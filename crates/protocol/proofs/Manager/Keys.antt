-- Names of branches, which of them are spent, and keys that are touched or written.
-- Needed by Manager.Apart and Manager.Prepared; crates commits, floors, branch_table, resource_manager, history and forgetting.
use Rattle.std.proofs.Common.{◌≡◌, ◌⊎◌, ℕ, Bool, true, false, ◌||◌, if◌then◌else◌, List, [], ◌∷◌, ◌++◌, Option, Some, None, unwrap_or}
use Rattle.std.proofs.Common.{inl, inr, refl, sym, ap, ◌∙◌, subst}
use Rattle.std.specs.Prelude.{filter_map, option_map}
use Rattle.std.specs.Str.{bytes_eq}
use Rattle.std.specs.Cmp.Lexicographic.{bytes_decides}
use Rattle.std.proofs.lemmas.Bool.{cond_both, or_cases, or_left, or_right, false_from_ne_true, both_ways}
use Rattle.xid.specs.Names.{XidParts, xid_eq}
use Rattle.xid.specs.Transactions.{TxParts, is_participant, is_at, xid_of, xid_at}
use Rattle.protocol.specs.Basics.{Fact, Act, Touched}
use Rattle.stable_record.specs.Facts.{AreAscending, fact_tx}
use Rattle.protocol.specs.Vocabulary.{BranchState, Action, Put, Del, Get, End, EndFail}
use Rattle.protocol.specs.Branches.{key_of, is_write, hinders_use, hinders}
use Rattle.protocol.specs.Facts.{is_spent}
use Rattle.protocol.specs.Holds.{AreDisjoint}
use Rattle.protocol.specs.Managers.{Branch, last_act, with_touched, has_key, act_on, view_by, branch_after}
use Rattle.xid.proofs.Deciding.{xid_decides}
use Rattle.protocol.proofs.TouchedKeys.{absent, tail_ascends, has_touched, acts_touched}
use Rattle.ballot.specs.Greatest.{IsIn}
use Rattle.protocol.proofs.Lists.{any_find, any_found, found_any, IsIn-push, filter_map_given, filter_map_gives}

-- ---- names

-- a transaction that names this resource manager has a name here
pub names_name : (tx : TxParts) (rm : ℕ) → is_participant tx rm ≡ true → (x : XidParts) × (xid_at tx rm ≡ Some x)
names_name tx rm h = let found = any_find (is_at rm) tx.branches h in (xid_of tx found.0, ap (option_map (xid_of tx)) found.1)

-- ---- spent names

-- a name that a fact is about is spent
pub spent_by : (rm : ℕ) (facts : List Fact) (fact : Fact) (x : XidParts) → IsIn facts fact → xid_at (fact_tx fact) rm ≡ Some x
    → is_spent rm facts x ≡ true
spent_by rm facts fact x h e =
    let at = λ (f : Fact). xid_at (fact_tx f) rm in
    found_any (xid_eq x) (filter_map at facts) x (filter_map_gives at facts fact x h e) ((xid_decides x x).1 refl)

-- one more fact spends its own name only
pub still_unspent : (rm : ℕ) (facts : List Fact) (fact : Fact) (x : XidParts) → is_spent rm facts x ≡ false
    → (xid_at (fact_tx fact) rm ≡ Some x → ⊥)
    → is_spent rm (facts ++ fact ∷ []) x ≡ false
still_unspent rm facts fact x unspent apart = false_from_ne_true (is_spent rm (facts ++ fact ∷ []) x)
    (λ h.
    let at = λ (f : Fact). xid_at (fact_tx f) rm in
    let found = any_found (xid_eq x) (filter_map at (facts ++ fact ∷ [])) h in
    let same : x ≡ found.element = (xid_decides x found.element).0 found.passes in
    let given = filter_map_given at (facts ++ fact ∷ []) found.element found.among in
    let named : at given.source ≡ Some x = given.gives ∙ ap Some (sym same) in
    elim (IsIn-push facts fact given.source given.among) [
      | inl old ↦ both_ways (is_spent rm facts x) unspent (spent_by rm facts given.source x old named)
      | inr e ↦ apart (subst (λ (f : Fact). at f ≡ Some x) (sym e) named)
    ])

-- ---- keys

pub key_in : (keys : List Touched) (touched : Touched) → IsIn keys touched → has_key touched.key keys ≡ true
key_in keys touched h = found_any (λ t. bytes_eq t.key touched.key) keys touched h ((bytes_decides touched.key touched.key).1 refl)

-- a touched key is one of those before, or the new one
touched_before : (keys : List Touched) (key : List ℕ) (act : Act) (k : List ℕ) → has_key k (with_touched keys key act) ≡ true
    → (has_key k keys ≡ true) ⊎ (key ≡ k)
touched_before keys key act k h = elim (or_cases (bytes_eq key k) (has_key k keys) (sym (has_touched keys key k act) ∙ h)) [
  | inl e ↦ inr ((bytes_decides key k).0 e)
  | inr e ↦ inl e
]

-- a branch keeps its name in each call
pub changed_name : (action : Action) (b : Branch) → (branch_after action b).xid ≡ b.xid
changed_name (Put key value) b = refl
changed_name (Del key) b = refl
changed_name (Get key) b = refl
changed_name End b = refl
changed_name EndFail b = refl
changed_name action b = refl

-- a key that it has afterwards it had, or the call is about
pub changed_keys : (action : Action) (b : Branch) (k : List ℕ) → has_key k (branch_after action b).keys ≡ true
    → (has_key k b.keys ≡ true) ⊎ (key_of action ≡ Some k)
changed_keys (Put key value) b k h =
    elim (touched_before b.keys key (Act.Put value) k h) [ inl old ↦ inl old | inr new ↦ inr (ap Some new) ]
changed_keys (Del key) b k h = elim (touched_before b.keys key Act.Del k h) [ inl old ↦ inl old | inr new ↦ inr (ap Some new) ]
changed_keys (Get key) b k h = elim (touched_before b.keys key Act.Read k h) [ inl old ↦ inl old | inr new ↦ inr (ap Some new) ]
changed_keys action b k h = inl h

-- ---- keys that are written

-- a key that is written is touched
pub written_touched : (keys : List Touched) (key : List ℕ) → is_write (act_on keys key) ≡ true → has_key key keys ≡ true
written_touched [] key e = absurd (cc (e))
written_touched (t ∷ keys) key e =
    cond_both (bytes_eq t.key key) t.act (act_on keys key) (λ (act : Act). is_write act ≡ true → has_key key (t ∷ keys) ≡ true)
    (λ same written. or_left (bytes_eq t.key key) (has_key key keys) same)
    (λ apart written. or_right (bytes_eq t.key key) (has_key key keys) (written_touched keys key written)) e

-- a key that is touched, and its last act
pub record IsTouch (keys : List Touched) (key : List ℕ) : Type 0 where
  pub touched : Touched
  pub among : IsIn keys touched
  pub key_is : touched.key ≡ key
  pub act_is : act_on keys key ≡ touched.act

touch_by : (t : Touched) (keys : List Touched) (key : List ℕ) → (has_key key keys ≡ true → IsTouch keys key)
    → (b : Bool) → bytes_eq t.key key ≡ b → (b || has_key key keys) ≡ true → IsTouch (t ∷ keys) key
touch_by t keys key rest true same e = record {
  touched = t;
  among = inl refl;
  key_is = (bytes_decides t.key key).0 same;
  act_is = ap (λ (b : Bool). if b then t.act else act_on keys key) same;
}
touch_by t keys key rest false apart e =
    let later = rest e in
    record {
      touched = later.touched;
      among = inr later.among;
      key_is = later.key_is;
      act_is = ap (λ (b : Bool). if b then t.act else act_on keys key) apart ∙ later.act_is;
    }

pub touch_of : (keys : List Touched) (key : List ℕ) → has_key key keys ≡ true → IsTouch keys key
touch_of [] key e = absurd (cc (e))
touch_of (t ∷ keys) key e = touch_by t keys key (touch_of keys key) (bytes_eq t.key key) refl e

-- the first of ascending keys isn't there again
pub first_once : (t : Touched) (keys : List Touched) → AreAscending (t ∷ keys) → has_key t.key keys ≡ false
first_once t [] ascending = refl
first_once t (u ∷ keys) ascending = absent u keys t.key ascending.1 ascending.0

-- the last act on a key of ascending ones is the one that stands there
act_there : (keys : List Touched) (touched : Touched) → AreAscending keys → IsIn keys touched → act_on keys touched.key ≡ touched.act
act_there [] touched ascending h = absurd h
act_there (t ∷ keys) touched ascending (inl e) =
    subst (λ (u : Touched). act_on (t ∷ keys) u.key ≡ u.act) e
    (ap (λ (b : Bool). if b then t.act else act_on keys t.key) ((bytes_decides t.key t.key).1 refl))
act_there (t ∷ keys) touched ascending (inr h) =
    let apart : bytes_eq t.key touched.key ≡ false = false_from_ne_true (bytes_eq t.key touched.key)
    (λ same. both_ways (has_key t.key keys) (first_once t keys ascending)
    (subst (λ (k : List ℕ). has_key k keys ≡ true) (sym ((bytes_decides t.key touched.key).0 same)) (key_in keys touched h))) in
    ap (λ (b : Bool). if b then t.act else act_on keys touched.key) apart ∙ act_there keys touched (tail_ascends t keys ascending) h

write_of_last : (before act : Act) → is_write (last_act before act) ≡ true → (is_write before ≡ true) ⊎ (is_write act ≡ true)
write_of_last before Act.Read h = inl h
write_of_last before (Act.Put value) h = inr refl
write_of_last before Act.Del h = inr refl

-- a written key is one of those before, or this act writes it
written_before : (keys : List Touched) (key : List ℕ) (act : Act) (k : List ℕ) → AreAscending keys
    → is_write (act_on (with_touched keys key act) k) ≡ true
    → (is_write (act_on keys k) ≡ true) ⊎ ((key ≡ k) × (is_write act ≡ true))
written_before keys key act k ascending h =
    let goal = (is_write (act_on keys k) ≡ true) ⊎ ((key ≡ k) × (is_write act ≡ true)) in
    cond_both (bytes_eq key k) (last_act (act_on keys k) act) (act_on keys k) (λ (after : Act). is_write after ≡ true → goal)
    (λ same written. elim (write_of_last (act_on keys k) act written) [
      | inl old ↦ inl old
      | inr new ↦ inr ((bytes_decides key k).0 same, new)
    ])
    (λ apart old. inl old)
    (subst (λ (after : Act). is_write after ≡ true) (acts_touched keys key k act ascending) h)

-- the key that a call writes
abbrev pub written_by : Action → Option (List ℕ)
written_by (Put key value) = Some key
written_by (Del key) = Some key
written_by action = None

-- what a call writes is the key that it is about
pub written_key : (action : Action) (k : List ℕ) → written_by action ≡ Some k → key_of action ≡ Some k
written_key (Put key value) k e = e
written_key (Del key) k e = e
written_key action k e = absurd (cc (e))

-- a key that it has written afterwards it had, or the call writes
pub changed_writes : (action : Action) (b : Branch) (k : List ℕ) → AreAscending b.keys
    → is_write (act_on (branch_after action b).keys k) ≡ true → (is_write (act_on b.keys k) ≡ true) ⊎ (written_by action ≡ Some k)
changed_writes (Put key value) b k ascending h =
    elim (written_before b.keys key (Act.Put value) k ascending h) [ inl old ↦ inl old | inr new ↦ inr (ap Some new.0) ]
changed_writes (Del key) b k ascending h =
    elim (written_before b.keys key Act.Del k ascending h) [ inl old ↦ inl old | inr new ↦ inr (ap Some new.0) ]
changed_writes (Get key) b k ascending h =
    elim (written_before b.keys key Act.Read k ascending h) [ inl old ↦ inl old | inr new ↦ absurd (cc (new.1)) ]
changed_writes action b k ascending h = inl h

-- ---- who hinders

-- a branch that has written a key hinders any use of it
writer_hinders_use : (writes : Bool) (k : List ℕ) (state : BranchState) (keys : List Touched) → is_write (act_on keys k) ≡ true
    → hinders_use writes k (view_by state keys) ≡ true
writer_hinders_use true k state keys written = written_touched keys k written
writer_hinders_use false k state keys written = written

same_key : (key k : List ℕ) → Some key ≡ Some k → k ≡ key
same_key key k e = ap (λ (o : Option (List ℕ)). unwrap_or o key) (sym e)

-- a branch that has written a key hinders every call about it
pub writer_hinders : (action : Action) (k : List ℕ) (state : BranchState) (keys : List Touched) → key_of action ≡ Some k
    → is_write (act_on keys k) ≡ true → hinders action (view_by state keys) ≡ true
writer_hinders (Put key value) k state keys e written =
    writer_hinders_use true key state keys (subst (λ (j : List ℕ). is_write (act_on keys j) ≡ true) (same_key key k e) written)
writer_hinders (Del key) k state keys e written =
    writer_hinders_use true key state keys (subst (λ (j : List ℕ). is_write (act_on keys j) ≡ true) (same_key key k e) written)
writer_hinders (Get key) k state keys e written =
    writer_hinders_use false key state keys (subst (λ (j : List ℕ). is_write (act_on keys j) ≡ true) (same_key key k e) written)
writer_hinders action k state keys e written = absurd (cc (e))

-- a branch that has touched a key hinders each call that writes it
pub holder_hinders : (action : Action) (k : List ℕ) (state : BranchState) (keys : List Touched) → written_by action ≡ Some k
    → has_key k keys ≡ true → hinders action (view_by state keys) ≡ true
holder_hinders (Put key value) k state keys e touched = subst (λ (j : List ℕ). has_key j keys ≡ true) (same_key key k e) touched
holder_hinders (Del key) k state keys e touched = subst (λ (j : List ℕ). has_key j keys ≡ true) (same_key key k e) touched
holder_hinders action k state keys e touched = absurd (cc (e))

-- a use of a key of these, as it stands there, that a branch with the others hinders
abbrev pub IsHinderedUse : (state : BranchState) (keys others : List Touched) → Touched → Type 0
IsHinderedUse state keys others touched =
    IsIn keys touched × (hinders_use (is_write touched.act) touched.key (view_by state others) ≡ true)

-- keys are apart from others where these hinder no use of them, and only then
module _ (state : BranchState) (keys others : List Touched) where
  -- where no touched key is hindered, the keys are disjoint
  pub disjoint_from : ((touched : Touched) → ¬ IsHinderedUse state keys others touched) → AreDisjoint keys others
  disjoint_from free = (
    λ key written held.
        let is = touch_of keys key (written_touched keys key written) in
        let writes : true ≡ is_write is.touched.act = sym written ∙ ap is_write is.act_is in
        free is.touched (
          is.among,
          subst (λ (b : Bool). hinders_use b is.touched.key (view_by state others) ≡ true) writes
              (subst (λ (k : List ℕ). has_key k others ≡ true) (sym is.key_is) held),
        ),
    λ key written held.
        let is = touch_of keys key held in
        free is.touched (
          is.among,
          writer_hinders_use (is_write is.touched.act) is.touched.key state others
              (subst (λ (k : List ℕ). is_write (act_on others k) ≡ true) (sym is.key_is) written),
        ),
  )

  hinders_not : (touched : Touched) (writes : Bool) → AreDisjoint keys others → IsIn keys touched
      → is_write (act_on keys touched.key) ≡ writes
      → hinders_use writes touched.key (view_by state others) ≡ true → ⊥
  hinders_not touched true apart h e held = apart.0 touched.key e held
  hinders_not touched false apart h e written = apart.1 touched.key written (key_in keys touched h)

  -- and the other way round
  pub disjoint_to : AreDisjoint keys others → AreAscending keys → (touched : Touched) → ¬ IsHinderedUse state keys others touched
  disjoint_to apart ascending touched is =
      hinders_not touched (is_write touched.act) apart is.0 (ap is_write (act_there keys touched ascending is.0)) is.1
