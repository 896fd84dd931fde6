-- The touched keys of the branches of a resource manager could all be stored, whatever calls have come.
-- Needed by WellFormed.Manager, WellFormed.Nodes and WellFormed.Runs; crate run_traces.
use Rattle.std.proofs.Common.{◌≡◌, ℕ, ◌+◌, ◌≤◌, Bool, true, false, ◌&&◌, ◌||◌, cond, if◌then◌else◌, List, [], ◌∷◌, Option, Some, None}
use Rattle.std.proofs.Common.{length, inl, inr, refl, sym, ap, ◌∙◌, subst, arith, nat_lt, nat_le}
use Rattle.std.specs.Prelude.{map}
use Rattle.std.specs.List.{AllByRecursion}
use Rattle.std.specs.Str.{bytes_eq}
use Rattle.std.specs.Cmp.Lexicographic.{slice_cmp}
use Rattle.std.specs.Ordering.{nat_cmp, is_lt}
use Rattle.std.proofs.lemmas.Bool.{cond_both, and_parts, both_ways, ltb-true, leb-true}
use Rattle.xid.specs.Limits.{most_key, most_value, most_touched}
use Rattle.xid.specs.Names.{XidParts, xid_eq, IsBytes}
use Rattle.xid.specs.declared.codes.XaCode.TheVariants as codes
use Rattle.xid.specs.declared.refusals.Refusal.TheVariants.{Busy, Full}
use Rattle.xid.proofs.Deciding.{xid_decides}
use Rattle.stable_record.specs.Facts.{IsKey, IsValue, IsAct, IsTouched, AreKeys, AreAscending}
use Rattle.protocol.specs.Basics.{Fact, Act, Touched}
use Rattle.safety.specs.Vocabulary.{BranchState, Action, Start, Put, Del, Get, End, EndFail, Rollback, Answer, Code, Refused, Row}
use Rattle.safety.specs.Forms.{IsAction}
use Rattle.protocol.specs.Holds.{AreNamedOnce, names_of, AreApart}
use Rattle.protocol.specs.declared.states.BranchState.TheVariants as states
use Rattle.protocol.specs.Branches.{BranchView, key_fits, value_fits, by_state, hinders, is_done}
use Rattle.protocol.specs.Managers.{Branch, last_act, with_touched, has_key, all_branches, view_by, view_named, is_hindered, branch_after}
use Rattle.protocol.specs.Managers.{after_call, named_answer, stored_votes, on_call}
use Rattle.protocol.specs.Facts.{is_spent, bound_branches}
use Rattle.protocol.proofs.TouchedKeys.{counts_touched, changed_ascends}
use Rattle.ballot.specs.Greatest.{IsIn}
use Rattle.protocol.proofs.Lists.{IsIn-map, IsIn-mapped, IsIn-push}
use Rattle.protocol.proofs.Manager.Apart.{without_some}
use Rattle.protocol.proofs.Manager.Prepared.{prepared_or_not}

-- the keys of branches could be stored
abbrev pub AreHeld : List Branch → Type 0
AreHeld branches = (b : Branch) → IsIn branches b → AreKeys b.keys

-- ---- one more act

after_act : (before act : Act) → IsAct before → IsAct act → IsAct (last_act before act)
after_act before Act.Read first second = first
after_act before (Act.Put value) first second = second
after_act before Act.Del first second = second

each_touched : (keys : List Touched) (key : List ℕ) (act : Act) → IsKey key → IsAct act → AllByRecursion IsTouched keys
    → AllByRecursion IsTouched (with_touched keys key act)
each_touched [] key act is fits each = (record { key = is; act = fits }, tt)
each_touched (t ∷ keys) key act is fits each =
    cond_both (bytes_eq t.key key) _ _ (AllByRecursion IsTouched)
    (λ same. (record { key = is; act = after_act t.act act each.0.act fits }, each.1))
    (λ apart. cond_both (is_lt (slice_cmp nat_cmp key t.key)) _ _ (AllByRecursion IsTouched)
    (λ here. (record { key = is; act = fits }, each))
    (λ there. (each.0, each_touched keys key act is fits each.1)))

few_by : (there : Bool) (n : ℕ) → (there || nat_lt n most_touched) ≡ true → n ≤ most_touched → cond there n (n + 1) ≤ most_touched
few_by true n room few = few
few_by false n room few = let below = ltb-true n most_touched room in omega (arith, below)

-- with room for one more key, or none needed
touched_are : (keys : List Touched) (key : List ℕ) (act : Act) → IsKey key → IsAct act
    → (has_key key keys || nat_lt (length keys) most_touched) ≡ true → AreKeys keys → AreAscending (with_touched keys key act)
    → AreKeys (with_touched keys key act)
touched_are keys key act is fits room are ascending = record {
  few = subst (λ (n : ℕ). n ≤ most_touched) (sym (counts_touched keys key act are.ascending))
      (few_by (has_key key keys) (length keys) room are.few);
  each = each_touched keys key act is fits are.each;
  ascending = ascending;
}

key_is : (key : List ℕ) → IsBytes key → key_fits key ≡ true → IsKey key
key_is key bytes fits =
    let parts = and_parts (nat_le 1 (length key)) (nat_le (length key) most_key) fits in
    let some = leb-true 1 (length key) parts.0 in
    record { some = omega (arith, some); few = leb-true (length key) most_key parts.1; bytes = bytes }

value_is : (value : List ℕ) → IsBytes value → value_fits value ≡ true → IsValue value
value_is value bytes fits = record { few = leb-true (length value) most_value fits; bytes = bytes }

-- ---- which calls on keys are done

-- a test of answers that passes no refusal of a call on a key
record PassesNoRefusal (test : Answer → Bool) : Type 0 where
  inval : test (Code codes.Inval) ≡ false
  nota : test (Code codes.Nota) ≡ false
  proto : test (Code codes.Proto) ≡ false
  busy : test (Refused Busy) ≡ false
  full : test (Refused Full) ≡ false

-- the call fits, and its branch is active and has room
record IsRoom (good : Bool) (state : Option BranchState) (free : Bool) : Type 0 where
  fits : good ≡ true
  active : state ≡ Some states.Active
  room : free ≡ true

module _ (test : Answer → Bool) (no : PassesNoRefusal test) where
  room_by : (fits : Bool) (state : Option BranchState) (busy room : Bool) (reply : Answer)
      → test (if fits then by_state state (Code codes.Nota) (if busy then Refused Busy else if room then reply else Refused Full)
      (Code codes.Proto) else Code codes.Inval) ≡ true
      → IsRoom fits state room
  room_by false state busy room reply h = absurd (both_ways _ no.inval h)
  room_by true None busy room reply h = absurd (both_ways _ no.nota h)
  room_by true (Some states.Active) true room reply h = absurd (both_ways _ no.busy h)
  room_by true (Some states.Active) false true reply h = record { fits = refl; active = refl; room = refl }
  room_by true (Some states.Active) false false reply h = absurd (both_ways _ no.full h)
  room_by true (Some other) busy room reply h = absurd (both_ways _ no.proto h)

module _ (rows : List Row) (shows : BranchView) (busy : Bool) (key : List ℕ) where
  -- a branch that shows so is active, and has room for the key
  abbrev HasRoom : Bool → Type 0
  HasRoom fits = IsRoom fits shows.state (shows.touched key || nat_lt shows.count most_touched)

  put_room : (spent : Bool) (value : List ℕ) → is_done (Put key value) (named_answer spent rows shows busy (Put key value)) ≡ true
      → HasRoom (key_fits key && value_fits value)
  put_room true value h =
      room_by (is_done (Put key value)) (record { inval = refl; nota = refl; proto = refl; busy = refl; full = refl }) _ _ busy _ _ h
  put_room false value h =
      room_by (is_done (Put key value)) (record { inval = refl; nota = refl; proto = refl; busy = refl; full = refl }) _ _ busy _ _ h

  del_room : (spent : Bool) → is_done (Del key) (named_answer spent rows shows busy (Del key)) ≡ true → HasRoom (key_fits key)
  del_room true h =
      room_by (is_done (Del key)) (record { inval = refl; nota = refl; proto = refl; busy = refl; full = refl }) _ _ busy _ _ h
  del_room false h =
      room_by (is_done (Del key)) (record { inval = refl; nota = refl; proto = refl; busy = refl; full = refl }) _ _ busy _ _ h

  get_room : (spent : Bool) → is_done (Get key) (named_answer spent rows shows busy (Get key)) ≡ true → HasRoom (key_fits key)
  get_room true h =
      room_by (is_done (Get key)) (record { inval = refl; nota = refl; proto = refl; busy = refl; full = refl }) _ _ busy _ _ h
  get_room false h =
      room_by (is_done (Get key)) (record { inval = refl; nota = refl; proto = refl; busy = refl; full = refl }) _ _ busy _ _ h

-- ---- the branch that shows

-- a branch of a name shows
record IsShown (bs : List Branch) (x : XidParts) : Type 0 where
  branch : Branch
  among : IsIn bs branch
  name : branch.xid ≡ x
  shows : view_named bs x ≡ view_by branch.state branch.keys

shown_by : (b : Branch) (bs : List Branch) (x : XidParts) (state : BranchState) → ((view_named bs x).state ≡ Some state → IsShown bs x)
    → (t : Bool) → xid_eq b.xid x ≡ t → (if t then view_by b.state b.keys else view_named bs x).state ≡ Some state → IsShown (b ∷ bs) x
shown_by b bs x state rest true e h = record {
  branch = b;
  among = inl refl;
  name = (xid_decides b.xid x).0 e;
  shows = ap (λ (t : Bool). if t then view_by b.state b.keys else view_named bs x) e;
}
shown_by b bs x state rest false e h =
    let more = rest h in
    record {
      branch = more.branch;
      among = inr more.among;
      name = more.name;
      shows = ap (λ (t : Bool). if t then view_by b.state b.keys else view_named bs x) e ∙ more.shows;
    }

shown : (bs : List Branch) (x : XidParts) (state : BranchState) → (view_named bs x).state ≡ Some state → IsShown bs x
shown [] x state h = absurd (cc (h))
shown (b ∷ bs) x state h = shown_by b bs x state (shown bs x state) (xid_eq b.xid x) refl h

active_apart : (b : Branch) → b.state ≡ states.Prepared → (o : Option BranchState) → o ≡ Some b.state → o ≡ Some states.Active → ⊥
active_apart b is o shows active = absurd (cc (is, shows, active))

-- no two branches have one name
one_of_name : (branches : List Branch) → AreNamedOnce branches → (b c : Branch) → IsIn branches b → IsIn branches c
    → b.xid ≡ c.xid → b ≡ c
one_of_name [] distinct b c h k same = absurd h
one_of_name (first ∷ rest) distinct b c (inl e) (inl f) same = sym e ∙ f
one_of_name (first ∷ rest) distinct b c (inl e) (inr k) same =
    absurd (distinct.0 (subst (IsIn (names_of rest)) (sym same ∙ ap (λ (d : Branch). d.xid) (sym e))
    (IsIn-map (λ (d : Branch). d.xid) rest c k)))
one_of_name (first ∷ rest) distinct b c (inr h) (inl f) same =
    absurd (distinct.0 (subst (IsIn (names_of rest)) (same ∙ ap (λ (d : Branch). d.xid) (sym f))
    (IsIn-map (λ (d : Branch). d.xid) rest b h)))
one_of_name (first ∷ rest) distinct b c (inr h) (inr k) same = one_of_name rest distinct.1 b c h k same

-- ---- calls

module _ (rm : ℕ) (facts : List Fact) (branches : List Branch) (x : XidParts) (are : AreApart rm facts branches)
    (held : AreHeld branches) where
  abbrev all : List Branch
  all = all_branches rm (bound_branches facts) branches

  -- where the branch of a name shows as active, it is the one in memory
  shows_own : (view_named all x).state ≡ Some states.Active → (b : Branch) → IsIn branches b → b.xid ≡ x
      → view_named all x ≡ view_by b.state b.keys
  shows_own active b h e =
      let first = shown all x states.Active active in
      elim (prepared_or_not rm facts branches first.branch first.among) [
        | inl prepared ↦
            absurd (active_apart first.branch prepared.state (view_named all x).state (ap (λ (v : BranchView). v.state) first.shows) active)
        | inr own ↦
            let same : first.branch ≡ b = one_of_name branches are.distinct first.branch b own h (first.name ∙ sym e) in
            first.shows ∙ ap (λ (c : Branch). view_by c.state c.keys) same
      ]

  -- one more act on a key, where the branch that shows has room
  act_held : (fits : Bool) (key : List ℕ) (act : Act) → IsKey key → IsAct act → HasRoom [] (view_named all x) false key fits
      → (b : Branch) → IsIn branches b → b.xid ≡ x → AreAscending (with_touched b.keys key act) → AreKeys (with_touched b.keys key act)
  act_held fits key act is good room b h e ascending =
      touched_are b.keys key act is good
      (subst (λ (v : BranchView). (v.touched key || nat_lt v.count most_touched) ≡ true) (shows_own room.active b h e) room.room)
      (held b h) ascending

  -- a call changes the branch of its name alone
  mapped : (action : Action) → ((b : Branch) → IsIn branches b → b.xid ≡ x → AreKeys (branch_after action b).keys)
      → AreHeld (map (λ branch. if xid_eq branch.xid x then branch_after action branch else branch) branches)
  mapped action each b h =
      let from = IsIn-mapped (λ (branch : Branch). if xid_eq branch.xid x then branch_after action branch else branch) branches b h in
      subst (λ (c : Branch). AreKeys c.keys) from.maps
      (cond_both (xid_eq from.source.xid x) _ _ (λ (c : Branch). AreKeys c.keys)
      (λ e. each from.source from.among ((xid_decides from.source.xid x).0 e)) (λ apart. held from.source from.among))

  after_held : (action : Action) (spent busy : Bool) (rows : List Row) → IsAction action
      → is_done action (named_answer spent rows (view_named all x) busy action) ≡ true → AreHeld (after_call branches x action)
  after_held Start spent busy rows is done = λ b h. elim (IsIn-push branches _ b h) [
    | inl old ↦ held b old
    | inr e ↦ subst (λ (c : Branch). AreKeys c.keys) e (record { few = omega arith; each = tt; ascending = tt })
  ]
  after_held Rollback spent busy rows is done = λ b h. held b (without_some branches x b h)
  after_held (Put key value) spent busy rows is done = mapped (Put key value) (λ b h e.
      let room = put_room rows (view_named all x) busy key spent value done in
      let fits = and_parts (key_fits key) (value_fits value) room.fits in
      act_held _ key (Act.Put value) (key_is key is.0 fits.0) (value_is value is.1 fits.1) room b h e
      (changed_ascends (Put key value) b (held b h).ascending))
  after_held (Del key) spent busy rows is done = mapped (Del key) (λ b h e.
      let room = del_room rows (view_named all x) busy key spent done in
      act_held _ key Act.Del (key_is key is room.fits) tt room b h e (changed_ascends (Del key) b (held b h).ascending))
  after_held (Get key) spent busy rows is done = mapped (Get key) (λ b h e.
      let room = get_room rows (view_named all x) busy key spent done in
      act_held _ key Act.Read (key_is key is room.fits) tt room b h e (changed_ascends (Get key) b (held b h).ascending))
  after_held End spent busy rows is done = mapped End (λ b h e. held b h)
  after_held EndFail spent busy rows is done = mapped EndFail (λ b h e. held b h)

  pub call_held : (rows : List Row) (action : Action) → IsAction action
      → AreHeld (on_call rm (stored_votes rm facts) rows branches x action).memory
  call_held rows action is = cond_both
      (is_done action
      (named_answer (is_spent rm facts x) rows (view_named all x) (is_hindered (hinders action) all x) action)) _ _ AreHeld
      (λ done. after_held action (is_spent rm facts x) _ rows is done) (λ refused. held)
