-- What is among a list, and what lists that are mapped, filtered and searched have.
-- Needed by 9 files here; 18 crates above.
use Rattle.std.proofs.Common.{◌≡◌, ◌⊎◌, inl, inr, ◌∙◌, Bool, true, false, List, [], ◌∷◌, ◌++◌, Option, Some, None, unwrap_or}
use Rattle.std.proofs.Common.{refl, sym, ap, subst, arith}
use Rattle.std.specs.Prelude.{map, filter, filter_map, find, Contains}
use Rattle.std.proofs.lemmas.List.Elements.{Contains-append_cases, Contains-append_right, Contains-push_cases}
use Rattle.std.specs.List.{AllByRecursion, list_any, list_all, flat_map, cons_option}
use Rattle.std.proofs.lemmas.Bool.{cond_both, or_cases, or_left, or_right, both_ways, and_parts}
use Rattle.ballot.specs.Greatest.{IsIn}

-- an element that passes
pub record IsPassingElement {X : Type 0} (p : X → Bool) (xs : List X) : Type 0 where
  pub element : X
  pub among : IsIn xs element
  pub passes : p element ≡ true

-- where some element passes a test, there is one that does
pub any_found : {X : Type 0} (p : X → Bool) (xs : List X) → list_any p xs ≡ true → IsPassingElement p xs
any_found p [] h = absurd (cc (h))
any_found p (x ∷ xs) h = elim (or_cases (p x) (list_any p xs) h) [
  | inl e ↦ record { element = x; among = inl refl; passes = e }
  | inr e ↦ let rest = any_found p xs e in record { element = rest.element; among = inr rest.among; passes = rest.passes }
]

-- an element that passes is one that some does
pub found_any : {X : Type 0} (p : X → Bool) (xs : List X) (x : X) → IsIn xs x → p x ≡ true → list_any p xs ≡ true
found_any p [] x h e = absurd h
found_any p (y ∷ ys) x (inl same) e = or_left (p y) (list_any p ys) (ap p same ∙ e)
found_any p (y ∷ ys) x (inr h) e = or_right (p y) (list_any p ys) (found_any p ys x h e)

-- nothing that passes is there
pub none_found : {X : Type 0} (p : X → Bool) (xs : List X) → list_any p xs ≡ false → (x : X) → IsIn xs x → p x ≡ true → ⊥
none_found p xs none x h e = both_ways (list_any p xs) none (found_any p xs x h e)

-- all pass
pub all_found : {X : Type 0} (p : X → Bool) (xs : List X) → list_all p xs ≡ true → (x : X) → IsIn xs x → p x ≡ true
all_found p [] h x k = absurd k
all_found p (y ∷ ys) h x (inl same) = ap p (sym same) ∙ (and_parts (p y) (list_all p ys) h).0
all_found p (y ∷ ys) h x (inr k) = all_found p ys (and_parts (p y) (list_all p ys) h).1 x k

-- what is among two lists is among one of them
pub IsIn-append : {X : Type 0} (xs ys : List X) (x : X) → IsIn (xs ++ ys) x → IsIn xs x ⊎ IsIn ys x
IsIn-append [] ys x h = inr h
IsIn-append (y ∷ xs) ys x (inl e) = inl (inl e)
IsIn-append (y ∷ xs) ys x (inr h) = elim (IsIn-append xs ys x h) [ inl a ↦ inl (inr a) | inr b ↦ inr b ]

-- what is among the first is among both
pub IsIn-before : {X : Type 0} (xs ys : List X) (x : X) → IsIn xs x → IsIn (xs ++ ys) x
IsIn-before [] ys x h = absurd h
IsIn-before (y ∷ xs) ys x (inl e) = inl e
IsIn-before (y ∷ xs) ys x (inr h) = inr (IsIn-before xs ys x h)

-- so is what is among the second
pub IsIn-after : {X : Type 0} (xs ys : List X) (x : X) → IsIn ys x → IsIn (xs ++ ys) x
IsIn-after [] ys x h = h
IsIn-after (y ∷ xs) ys x h = inr (IsIn-after xs ys x h)

-- one more at the end
pub IsIn-push : {X : Type 0} (xs : List X) (y x : X) → IsIn (xs ++ y ∷ []) x → IsIn xs x ⊎ (y ≡ x)
IsIn-push xs y x h = elim (IsIn-append xs (y ∷ []) x h) [
  | inl old ↦ inl old
  | inr new ↦ elim new [ inl e ↦ inr e | inr none ↦ absurd none ]
]

-- the last one is among them
pub IsIn-last : {X : Type 0} (xs : List X) (x : X) → IsIn (xs ++ x ∷ []) x
IsIn-last xs x = IsIn-after xs (x ∷ []) x (inl refl)

-- what is made of an element is among what is made of all
pub IsIn-map : {X Y : Type 0} (f : X → Y) (xs : List X) (x : X) → IsIn xs x → IsIn (map f xs) (f x)
IsIn-map f [] x h = absurd h
IsIn-map f (y ∷ xs) x (inl e) = inl (ap f e)
IsIn-map f (y ∷ xs) x (inr h) = inr (IsIn-map f xs x h)

-- what stands among mapped things comes from one of them
pub record IsMapSource {X Y : Type 0} (f : X → Y) (xs : List X) (y : Y) : Type 0 where
  pub source : X
  pub among : IsIn xs source
  pub maps : f source ≡ y

-- and each of those was made of one
pub IsIn-mapped : {X Y : Type 0} (f : X → Y) (xs : List X) (y : Y) → IsIn (map f xs) y → IsMapSource f xs y
IsIn-mapped f [] y h = absurd h
IsIn-mapped f (x ∷ xs) y (inl e) = record { source = x; among = inl refl; maps = e }
IsIn-mapped f (x ∷ xs) y (inr h) =
    let rest = IsIn-mapped f xs y h in record { source = rest.source; among = inr rest.among; maps = rest.maps }

-- what stands among lists joined end to end stands in one of them
pub record IsFlatMapSource {X Y : Type 0} (f : X → List Y) (xs : List X) (y : Y) : Type 0 where
  pub source : X
  pub among : IsIn xs source
  pub inside : IsIn (f source) y

-- what is among the lists of all elements is among that of one
pub IsIn-joined : {X Y : Type 0} (f : X → List Y) (xs : List X) (y : Y) → IsIn (flat_map f xs) y → IsFlatMapSource f xs y
IsIn-joined f [] y h = absurd h
IsIn-joined f (x ∷ xs) y h = elim (IsIn-append (f x) (flat_map f xs) y h) [
  | inl here ↦ record { source = x; among = inl refl; inside = here }
  | inr there ↦ let rest = IsIn-joined f xs y there in record { source = rest.source; among = inr rest.among; inside = rest.inside }
]

-- and the other way round
pub IsIn-join : {X Y : Type 0} (f : X → List Y) (xs : List X) (x : X) (y : Y) → IsIn xs x → IsIn (f x) y → IsIn (flat_map f xs) y
IsIn-join f [] x y h k = absurd h
IsIn-join f (z ∷ xs) x y (inl e) k = IsIn-before (f z) (flat_map f xs) y (subst (λ w. IsIn (f w) y) (sym e) k)
IsIn-join f (z ∷ xs) x y (inr h) k = IsIn-after (f z) (flat_map f xs) y (IsIn-join f xs x y h k)

-- what holds of the only one
pub only_one : {X : Type 0} (P : X → Type 0) (first : X) → P first → (x : X) → IsIn (first ∷ []) x → P x
only_one P first h x (inl e) = subst P e h
only_one P first h x (inr none) = absurd none

-- what a filter_map gives
pub record IsFilterMapSource {X Y : Type 0} (h : X → Option Y) (xs : List X) (y : Y) : Type 0 where
  pub source : X
  pub among : IsIn xs source
  pub gives : h source ≡ Some y

module _ {X Y : Type 0} (h : X → Option Y) where
  given_step : (x : X) (xs : List X) (y : Y) (o : Option Y)
      → h x ≡ o
      → (IsIn (filter_map h xs) y → IsFilterMapSource h xs y)
      → IsIn (cons_option o (filter_map h xs)) y → IsFilterMapSource h (x ∷ xs) y
  given_step x xs y None e rest k = let more = rest k in record { source = more.source; among = inr more.among; gives = more.gives }
  given_step x xs y (Some z) e rest (inl same) = record { source = x; among = inl refl; gives = e ∙ ap Some same }
  given_step x xs y (Some z) e rest (inr k) =
      let more = rest k in record { source = more.source; among = inr more.among; gives = more.gives }

  -- what was made of elements that give something was given by one
  pub filter_map_given : (xs : List X) (y : Y)
      → IsIn (filter_map h xs) y → IsFilterMapSource h xs y
  filter_map_given [] y k = absurd k
  filter_map_given (x ∷ xs) y k = given_step x xs y (h x) refl (filter_map_given xs y) k

give_at : {Y : Type 0} (ys : List Y) (y : Y) (o : Option Y) → o ≡ Some y → IsIn (cons_option o ys) y
give_at ys y None e = absurd (cc (e))
give_at ys y (Some z) e = inl (ap (λ o. unwrap_or o z) e)

give_more : {Y : Type 0} (ys : List Y) (y : Y) (o : Option Y) → IsIn ys y → IsIn (cons_option o ys) y
give_more ys y None k = k
give_more ys y (Some z) k = inr k

-- and the other way round
pub filter_map_gives : {X Y : Type 0} (h : X → Option Y) (xs : List X) (x : X) (y : Y) → IsIn xs x → h x ≡ Some y
    → IsIn (filter_map h xs) y
filter_map_gives h [] x y k e = absurd k
filter_map_gives h (z ∷ xs) x y (inl same) e = give_at (filter_map h xs) y (h z) (ap h same ∙ e)
filter_map_gives h (z ∷ xs) x y (inr k) e = give_more (filter_map h xs) y (h z) (filter_map_gives h xs x y k e)

-- ---- what filters keep, and what look-ups find

module _ {X : Type 0} (p : X → Bool) where
  -- what is kept was there and passes
  pub filter_kept : (xs : List X) (x : X) → IsIn (filter p xs) x → IsIn xs x × (p x ≡ true)
  filter_kept [] x = λ h. absurd h
  filter_kept (y ∷ ys) x =
      cond_both (p y) (y ∷ filter p ys) (filter p ys) (λ (zs : List X). IsIn zs x → IsIn (y ∷ ys) x × (p x ≡ true))
      (λ e h. elim h [ inl same ↦ (inl same, ap p (sym same) ∙ e) | inr rest ↦ let more = filter_kept ys x rest in (inr more.0, more.1) ])
      (λ e h. let more = filter_kept ys x h in (inr more.0, more.1))

  -- what was there and passes is kept
  pub filter_keeps : (xs : List X) (x : X) → IsIn xs x → p x ≡ true → IsIn (filter p xs) x
  filter_keeps [] x h e = absurd h
  filter_keeps (y ∷ ys) x h e =
      cond_both (p y) (y ∷ filter p ys) (filter p ys) (λ (zs : List X). IsIn zs x)
      (λ passes. elim h [ inl same ↦ inl same | inr rest ↦ inr (filter_keeps ys x rest e) ])
      (λ fails. elim h [ inl same ↦ absurd (both_ways (p y) fails (ap p same ∙ e)) | inr rest ↦ filter_keeps ys x rest e ])

  -- what is found is there and passes
  pub found_among : (xs : List X) (y : X) → find p xs ≡ Some y → IsIn xs y × (p y ≡ true)
  found_among [] y = λ f. absurd (cc (f))
  found_among (x ∷ xs) y =
      cond_both (p x) (Some x) (find p xs) (λ (o : Option X). o ≡ Some y → IsIn (x ∷ xs) y × (p y ≡ true))
      (λ e f. let same : x ≡ y = ap (λ o. unwrap_or o x) f in (inl same, ap p (sym same) ∙ e))
      (λ e f. let more = found_among xs y f in (inr more.0, more.1))

  -- where some element passes, one is found
  pub any_find : (xs : List X) → list_any p xs ≡ true → (y : X) × (find p xs ≡ Some y)
  any_find [] h = absurd (cc (h))
  any_find (x ∷ xs) h =
      cond_both (p x) (Some x) (find p xs) (λ (o : Option X). (y : X) × (o ≡ Some y)) (λ e. (x, refl))
      (λ e. any_find xs (elim (or_cases (p x) (list_any p xs) h) [ inl f ↦ absurd (both_ways (p x) e f) | inr f ↦ f ]))

  -- where something is found, some element passes
  pub find_any : (y : X) (xs : List X) → find p xs ≡ Some y → list_any p xs ≡ true
  find_any y xs e = let found = found_among xs y e in found_any p xs y found.0 found.1

-- ---- what holds of each

-- what holds of all holds of each among them
pub all_in : {X : Type 0} (P : X → Type 0) (xs : List X) → AllByRecursion P xs → (x : X) → IsIn xs x → P x
all_in P [] all x h = absurd h
all_in P (y ∷ ys) all x (inl e) = subst P e all.0
all_in P (y ∷ ys) all x (inr h) = all_in P ys all.1 x h

-- and the other way round
pub all_each : {X : Type 0} (P : X → Type 0) (xs : List X) → ((x : X) → IsIn xs x → P x) → AllByRecursion P xs
all_each P [] each = tt
all_each P (x ∷ xs) each = (each x (inl refl), all_each P xs (λ y h. each y (inr h)))

-- what holds of what is made of each holds of all that is made
pub all_mapped : {X Y : Type 0} (P : Y → Type 0) (f : X → Y) (xs : List X) → ((x : X) → IsIn xs x → P (f x))
    → AllByRecursion P (map f xs)
all_mapped P f [] each = tt
all_mapped P f (x ∷ xs) each = (each x (inl refl), all_mapped P f xs (λ y h. each y (inr h)))

-- what holds of two lists holds of both behind each other
pub all_joined : {X : Type 0} (P : X → Type 0) (xs ys : List X) → AllByRecursion P xs → AllByRecursion P ys
    → AllByRecursion P (xs ++ ys)
all_joined P [] ys first second = second
all_joined P (x ∷ xs) ys first second = (first.0, all_joined P xs ys first.1 second)

-- ---- std's words

-- a list contains its first
pub Contains-head : {X : Type 0} (x : X) (xs : List X) → Contains (x ∷ xs) x
Contains-head x xs = (0, omega arith, refl)

-- a list of one contains nothing else
pub Contains-one : {X : Type 0} (x y : X) → Contains (x ∷ []) y → x ≡ y
Contains-one x y h = elim (Contains-push_cases [] x y h) [ inl none ↦ absurd (omega (arith, none.1)) | inr e ↦ e ]

-- what a list contains is its first or is contained in the rest
pub Contains-cases : {X : Type 0} (x : X) (xs : List X) (y : X) → Contains (x ∷ xs) y → (x ≡ y) ⊎ Contains xs y
Contains-cases x xs y h = elim (Contains-append_cases (x ∷ []) xs y h) [ inl here ↦ inl (Contains-one x y here) | inr there ↦ inr there ]

-- what the rest contains, the list does
pub Contains-tail : {X : Type 0} (x : X) (xs : List X) (y : X) → Contains xs y → Contains (x ∷ xs) y
Contains-tail x xs y h = Contains-append_right (x ∷ []) xs y h

-- what is among a list is contained in it
pub Contains-among : {X : Type 0} (xs : List X) (x : X) → IsIn xs x → Contains xs x
Contains-among [] x h = absurd h
Contains-among (y ∷ xs) x (inl e) = subst (λ z. Contains (y ∷ xs) z) e (Contains-head y xs)
Contains-among (y ∷ xs) x (inr h) = Contains-tail y xs x (Contains-among xs x h)

-- and the other way round
pub IsIn-contains : {X : Type 0} (xs : List X) (x : X) → Contains xs x → IsIn xs x
IsIn-contains [] x h = absurd (omega (arith, h.1))
IsIn-contains (y ∷ xs) x h = elim (Contains-cases y xs x h) [ inl e ↦ inl e | inr there ↦ inr (IsIn-contains xs x there) ]
