-- What is known of keys after a change of one entry.
-- Needed by 11 functions of this crate.
use Rattle.std.proofs.Common.{◌≡◌, ◌∙◌, ◌||◌, ℕ, ◌+◌, ◌-◌, ◌<◌, Result, Ok, Err, Bool, true, false, cond, List, [], ◌∷◌, map, Option, Some}
use Rattle.std.proofs.Common.{None, refl, sym, ap, subst, arith}
use Rattle.std.specs.List.{AllByRecursion, IsDistinct}
use Rattle.std.specs.Map.{lookup, keys_of, KeepsOthers}
use Rattle.std.specs.Option.{unwrap_or}
use Rattle.std.specs.Str.{bytes_eq}
use Rattle.std.specs.Prelude.{IfErr, OnOk, is_some}
use Rattle.std.specs.Result.{is_err}
use Rattle.std.proofs.lemmas.Bool.{both_ways, or_right}
use Rattle.xid.specs.declared.refusals.Refusal.{Refusal}
use Rattle.xid.specs.declared.refusals.Refusal.TheVariants.{NoMemory}
use Rattle.std.proofs.lemmas.Slice.Eq.{bytes_eq-Decides}
use Rattle.stable_record.specs.declared.fact.Act.{Act}
use Rattle.stable_record.specs.declared.fact.Touched.{Touched}
use Rattle.protocol.specs.Branches.{value_after}
use Rattle.protocol.specs.Managers.{has_key}
use Rattle.protocol.specs.Tables.{rows_after}
use Rattle.branch_table.specs.Parts.{CanLeave, free, no_place, place_and, place_at, place_left, hold_at, table_of, uses_held, AddsHolders}
use Rattle.branch_table.specs.Parts.{SetsPlace, TakesHolders}
use Rattle.branch_table.specs.declared.hold.Hold.{Hold}
use Rattle.branch_table.specs.declared.places.Place.{Place}
use Rattle.stable_record.specs.Facts.{IsKey, IsAct}
use Rattle.branch_table.proofs.RowLimits.{row_fits}
use Rattle.branch_table.proofs.TableRows.{Known, flipped, table_after}

lookup_same : {K X : Type 0} (p q : K → Bool) (es : List (K × X)) → ((k : K) → p k ≡ q k) → lookup p es ≡ lookup q es
lookup_same p q [] same = refl
lookup_same p q (e ∷ es) same = λ i. cond (same e.0 i) (Some e.1) (lookup_same p q es same i)

module _ {K : Type 0} (f : K → List ℕ) where
  abbrev pub Entries : Type 0
  Entries = List (K × Place)

  -- what is known by entries
  abbrev pub known : Entries → Known
  known es = map (λ entry. (f entry.0, entry.1)) es

  abbrev pub key_eq : K → K → Bool
  key_eq x y = bytes_eq (f x) (f y)

  looked_up : (q : List ℕ) (es : Entries) → lookup (bytes_eq q) (known es) ≡ lookup (λ k. bytes_eq q (f k)) es
  looked_up q [] = refl
  looked_up q (e ∷ es) = ap (λ o. cond (bytes_eq q (f e.0)) (Some e.1) o) (looked_up q es)

  -- what is known of a key is what its entry says
  pub place_is : (q : List ℕ) (es : Entries) → place_at (known es) q ≡ unwrap_or (lookup (λ k. bytes_eq q (f k)) es) no_place
  place_is q es = ap (λ o. unwrap_or o no_place) (looked_up q es)

  -- what is known after the entry of a key was changed
  pub sets : (old new : Entries) (key : List ℕ) (w : Option Place) → KeepsOthers key_eq (λ k. bytes_eq key (f k)) old new
      → lookup (λ k. bytes_eq key (f k)) new ≡ w
      → (q : List ℕ) → place_at (known new) q ≡ cond (bytes_eq key q) (unwrap_or w no_place) (place_at (known old) q)
  unfolding KeepsOthers
  sets old new key w keeps own q = place_is q new ∙ by (bytes_eq key q) refl
    where
      is_test : (x y : K) → bytes_eq q (f x) ≡ true → bytes_eq q (f y) ≡ bytes_eq (f x) (f y)
      is_test x y e = ap (λ k. bytes_eq k (f y)) ((bytes_eq-Decides q (f x)).0 e)

      are_apart : bytes_eq key q ≡ false → (k : K) → bytes_eq key (f k) ≡ true → bytes_eq q (f k) ≡ false
      are_apart e k there = ap (bytes_eq q) (sym ((bytes_eq-Decides key (f k)).0 there)) ∙ (flipped q key ∙ e)

      by : (b : Bool) → bytes_eq key q ≡ b → unwrap_or (lookup (λ k. bytes_eq q (f k)) new) no_place
          ≡ cond b (unwrap_or w no_place) (place_at (known old) q)
      by true e =
          ap (λ o. unwrap_or o no_place) (lookup_same (λ k. bytes_eq q (f k)) (λ k. bytes_eq key (f k)) new
          (λ k. ap (λ (z : List ℕ). bytes_eq z (f k)) (sym ((bytes_eq-Decides key q).0 e))) ∙ own)
      by false e = ap (λ o. unwrap_or o no_place) (keeps (λ k. bytes_eq q (f k)) is_test (are_apart e)) ∙ sym (place_is q old)

  -- what is known then, by what was
  pub set_by : (old new : Entries) (key : List ℕ) (o w : Option Place) (g : Place → Place)
      → KeepsOthers key_eq (λ k. bytes_eq key (f k)) old new → lookup (λ k. bytes_eq key (f k)) new ≡ w
      → o ≡ lookup (λ k. bytes_eq key (f k)) old → unwrap_or w no_place ≡ g (unwrap_or o no_place)
      → SetsPlace (known old) (known new) key (g (place_at (known old) key))
  set_by old new key o w g keeps own was is =
      let there : unwrap_or o no_place ≡ place_at (known old) key = ap (λ p. unwrap_or p no_place) was ∙ sym (place_is key old) in
      subst (SetsPlace (known old) (known new) key) (is ∙ ap g there) (sets old new key w keeps own)

  others_known : (k : K) (es : Entries) → AllByRecursion (λ y. key_eq k y ≡ false) (keys_of es)
      → AllByRecursion (λ other. bytes_eq (f k) other ≡ false) (map (λ place. place.0) (known es))
  others_known k [] others = tt
  others_known k (e ∷ es) others = (others.0, others_known k es others.1)

  -- no two places have one key
  pub distinct_known : (es : Entries) → IsDistinct key_eq (keys_of es) → IsDistinct bytes_eq (map (λ place. place.0) (known es))
  unfolding IsDistinct
  distinct_known [] distinct = distinct
  distinct_known (e ∷ es) distinct = (others_known e.0 es distinct.0, distinct_known es distinct.1)

-- ---- what a change of one place makes of holds and rows

-- nothing of it has changed
pub sets_same : (places : Known) (key : List ℕ) (p : Place) → place_at places key ≡ p → SetsPlace places places key p
sets_same places key p is = λ other. by other (bytes_eq key other) refl
  where
    by : (other : List ℕ) (b : Bool) → bytes_eq key other ≡ b → place_at places other ≡ cond b p (place_at places other)
    by other true e = ap (place_at places) (sym ((bytes_eq-Decides key other).0 e)) ∙ is
    by other false e = refl

-- it has changed twice
pub sets_twice : (old mid new : Known) (key : List ℕ) (p q : Place) → SetsPlace old mid key p → SetsPlace mid new key q
    → SetsPlace old new key q
sets_twice old mid new key p q first second = λ other. second other ∙ by other (bytes_eq key other) (first other)
  where
    by : (other : List ℕ) (b : Bool) → place_at mid other ≡ cond b p (place_at old other)
        → cond b q (place_at mid other) ≡ cond b q (place_at old other)
    by other true is = refl
    by other false is = is

-- at the key itself
at_key : (old new : Known) (key other : List ℕ) (p : Place) → SetsPlace old new key p
    → (b : Bool) → bytes_eq key other ≡ b → place_at new other ≡ cond b p (place_at old other)
at_key old new key other p is b e = is other ∙ ap (λ (t : Bool). cond t p (place_at old other)) e

-- a place with more holders adds them
pub adds : (old new : Known) (key : List ℕ) (more : Hold) → SetsPlace old new key (place_and (place_at old key) more)
    → AddsHolders old new key more
adds old new key more is = λ writes other. by other (bytes_eq key other) refl writes
  where
    by : (other : List ℕ) (b : Bool) → bytes_eq key other ≡ b → (writes : Bool) → uses_held writes (hold_at new other)
        ≡ cond b (uses_held writes (hold_at old other) + uses_held writes more) (uses_held writes (hold_at old other))
    by other true e true =
        ap (λ (p : Place). p.hold.touched_by) (at_key old new key other (place_and (place_at old key) more) is true e)
        ∙ ap (λ (k : List ℕ). (place_at old k).hold.touched_by + more.touched_by) ((bytes_eq-Decides key other).0 e)
    by other true e false =
        ap (λ (p : Place). p.hold.written_by) (at_key old new key other (place_and (place_at old key) more) is true e)
        ∙ ap (λ (k : List ℕ). (place_at old k).hold.written_by + more.written_by) ((bytes_eq-Decides key other).0 e)
    by other false e writes =
        ap (λ (p : Place). uses_held writes p.hold) (at_key old new key other (place_and (place_at old key) more) is false e)

-- one with fewer takes them
pub takes : (old new : Known) (key : List ℕ) (act : Act) (fewer : Hold) → SetsPlace old new key (place_left (place_at old key) act fewer)
    → TakesHolders old new key fewer
takes old new key act fewer is = λ writes other. by other (bytes_eq key other) refl writes
  where
    by : (other : List ℕ) (b : Bool) → bytes_eq key other ≡ b → (writes : Bool) → uses_held writes (hold_at new other)
        ≡ cond b (uses_held writes (hold_at old other) - uses_held writes fewer) (uses_held writes (hold_at old other))
    by other true e true =
        ap (λ (p : Place). p.hold.touched_by) (at_key old new key other (place_left (place_at old key) act fewer) is true e)
        ∙ ap (λ (k : List ℕ). (place_at old k).hold.touched_by - fewer.touched_by) ((bytes_eq-Decides key other).0 e)
    by other true e false =
        ap (λ (p : Place). p.hold.written_by) (at_key old new key other (place_left (place_at old key) act fewer) is true e)
        ∙ ap (λ (k : List ℕ). (place_at old k).hold.written_by - fewer.written_by) ((bytes_eq-Decides key other).0 e)
    by other false e writes =
        ap (λ (p : Place). uses_held writes p.hold) (at_key old new key other (place_left (place_at old key) act fewer) is false e)

-- a place whose hold has some holders more
pub with_hold : (p : Place) (sum more : Hold)
    → sum ≡ record { touched_by = p.hold.touched_by + more.touched_by; written_by = p.hold.written_by + more.written_by }
    → record p { hold = sum } ≡ place_and p more
with_hold p sum more is = λ i. record { value = p.value; hold = is i }

-- a place that has its first holders
abbrev pub held_first : Hold → Place
held_first more = record { value = None; hold = more }

-- the first holders of a key
pub first_and : (more : Hold) → held_first more ≡ place_and no_place more
first_and more =
    let touched : more.touched_by ≡ 0 + more.touched_by = omega arith in
    let written : more.written_by ≡ 0 + more.written_by = omega arith in
    λ i. record { value = None; hold = record { touched_by = touched i; written_by = written i } }

-- nothing can be left of a key of which nothing is known
pub left_none : (places : Known) (key : List ℕ) (act : Act) (fewer : Hold) → CanLeave places key act → place_at places key ≡ no_place
    → place_at places key ≡ place_left (place_at places key) act fewer
left_none places key act fewer can is = is ∙ by act can ∙ sym (ap (λ p. place_left p act fewer) is)
  where
    less : (n : ℕ) → 0 ≡ 0 - n
    less n = omega arith

    none : no_place ≡ record { value = None; hold = record { touched_by = 0 - fewer.touched_by; written_by = 0 - fewer.written_by } }
    none = λ i. record { value = None; hold = record { touched_by = less fewer.touched_by i; written_by = less fewer.written_by i } }

    by : (act : Act) → CanLeave places key act → no_place ≡ place_left no_place act fewer
    by Act.Read can = none
    by (Act.Put value) can =
        let free : (place_at places key).hold.touched_by ≡ 0 = ap (λ (p : Place). p.hold.touched_by) is in
        let some = can.1 in
        absurd (omega (arith, free, some))
    by Act.Del can = none

-- a value can be put at a key that fits and is held
pub can_leave : (places : Known) (key : List ℕ) (act : Act) → IsKey key → IsAct act → 0 < (hold_at places key).touched_by
    → CanLeave places key act
can_leave places key Act.Read is-key is-act held = tt
can_leave places key (Act.Put value) is-key is-act held = (row_fits key value is-key is-act, held)
can_leave places key Act.Del is-key is-act held = tt

-- no key is held
pub free_set : (old new : Known) (key : List ℕ) (p : Place) → SetsPlace old new key p → p.hold ≡ free
    → ((other : List ℕ) → hold_at old other ≡ free) → (other : List ℕ) → hold_at new other ≡ free
free_set old new key p is here others = λ other. ap (λ (q : Place). q.hold) (is other) ∙ by other (bytes_eq key other)
  where
    by : (other : List ℕ) (b : Bool) → (cond b p (place_at old other)).hold ≡ free
    by other true = here
    by other false = others other

-- the value there is what an act leaves
pub rows_set : (old new : Known) (key : List ℕ) (act : Act) (p : Place) → SetsPlace old new key p
    → p.value ≡ value_after act (place_at old key).value → table_of new ≡ rows_after (table_of old) key act
rows_set old new key act p is value = table_after old new key act (λ other. by other (bytes_eq key other) refl)
  where
    by : (other : List ℕ) (b : Bool) → bytes_eq key other ≡ b → (place_at new other).value
        ≡ cond (bytes_eq key other) (value_after act (place_at old other).value) (place_at old other).value
    by other true e =
        ap (λ (q : Place). q.value) (at_key old new key other p is true e) ∙ value
        ∙ ap (λ (k : List ℕ). value_after act (place_at old k).value) ((bytes_eq-Decides key other).0 e)
        ∙ sym (ap (λ (t : Bool). cond t (value_after act (place_at old other).value) (place_at old other).value) e)
    by other false e =
        ap (λ (q : Place). q.value) (at_key old new key other p is false e)
        ∙ sym (ap (λ (t : Bool). cond t (value_after act (place_at old other).value) (place_at old other).value) e)

-- what a try says that failed, or didn't
pub kept_on_err : {X : Type 0} (r : Result (Unit {0}) Refusal) (a b : X) → is_err r ≡ true → IfErr r (λ e. (e ≡ NoMemory) × (a ≡ b)) → a ≡ b
kept_on_err (Ok u) a b is given = absurd (cc (is))
kept_on_err (Err e) a b is given = given.1

-- what holds where a call was done, where it was
pub given_on_ok : (r : Result (Unit {0}) Refusal) (P : Type 0) → is_err r ≡ false → OnOk r P → P
given_on_ok (Ok u) P is given = given
given_on_ok (Err e) P is given = absurd (cc (is))

-- and what follows from it
pub on_ok : (r : Result (Unit {0}) Refusal) (P Q : Type 0) → (P → Q) → OnOk r P → OnOk r Q
on_ok (Ok u) P Q f given = f given
on_ok (Err e) P Q f given = tt

-- what follows where it was refused
pub on_err : (r : Result (Unit {0}) Refusal) (P Q : Type 0) → (P → Q) → IfErr r (λ e. (e ≡ NoMemory) × P)
    → IfErr r (λ e. (e ≡ NoMemory) × Q)
on_err (Ok u) P Q f given = tt
on_err (Err e) P Q f given = (given.0, f given.1)

-- nothing there
pub nothing : {X : Type 0} (o : Option X) → is_some o ≡ false → o ≡ None
nothing None e = refl
nothing (Some x) e = absurd (cc (e))

-- and what holds then
pub given_on_err : (r : Result (Unit {0}) Refusal) (P : Type 0) → is_err r ≡ true → IfErr r (λ e. (e ≡ NoMemory) × P) → P
given_on_err (Ok u) P is given = absurd (cc (is))
given_on_err (Err e) P is given = given.1

-- ---- keys that are let go one after the other

-- a touched key is among the touched
pub own_key : (t : Touched) (rest : List Touched) → has_key t.key (t ∷ rest) ≡ true
own_key t rest = ap (λ b. b || has_key t.key rest) ((bytes_eq-Decides t.key t.key).1 refl)

-- the keys after one that is let go are held as before
pub held_after : (old new : Known) (t : Touched) (rest : List Touched) (fewer : Hold) → has_key t.key rest ≡ false
    → TakesHolders old new t.key fewer → ((key : List ℕ) → has_key key (t ∷ rest) ≡ true → 0 < (hold_at old key).touched_by)
    → (key : List ℕ) → has_key key rest ≡ true → 0 < (hold_at new key).touched_by
held_after old new t rest fewer apart taken held key there = by (bytes_eq t.key key) refl
  where
    by : (b : Bool) → bytes_eq t.key key ≡ b → 0 < (hold_at new key).touched_by
    by true e =
        absurd (both_ways (has_key key rest) (subst (λ (k : List ℕ). has_key k rest ≡ false) ((bytes_eq-Decides t.key key).0 e) apart)
        there)
    by false e =
        let same : (hold_at new key).touched_by ≡ (hold_at old key).touched_by =
        taken true key ∙ ap (λ b. cond b ((hold_at old key).touched_by - fewer.touched_by) (hold_at old key).touched_by) e in
        let was = held key (or_right (bytes_eq t.key key) (has_key key rest) there) in
        omega (arith, same, was)
