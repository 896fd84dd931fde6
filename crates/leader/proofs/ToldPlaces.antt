-- The place where it is kept who told of a ballot and value of an instance.
-- Needed by `tell`.
use Rattle.std.proofs.Common.{◌≡◌, ◌∙◌, ℕ, suc, ◌+◌, ◌<◌, Bool, true, false, not, ◌&&◌, ◌||◌, List, [], ◌∷◌, ◌++◌, length, get_or, set}
use Rattle.std.proofs.Common.{Option, Some, None, sym, ap, refl, arith}
use Rattle.std.specs.Prelude.{cond, if◌then◌else◌, find}
use Rattle.std.specs.List.{list_any, position_or_len}
use Rattle.std.specs.Option.{option_map_or}
use Rattle.std.proofs.lemmas.Bool.{true≢false}
use Rattle.std.proofs.lemmas.List.{set-get_or}
use Rattle.xid.specs.declared.transaction.Vote.{Vote}
use Rattle.wire.specs.declared.items.InstanceAccept.{InstanceAccept}
use Rattle.ballot.specs.Majority.{has, is_majority}
use Rattle.leader.specs.declared.instance.Told.{Told}
use Rattle.leader.specs.Courses.{nobody, joined, is_place_of, told_of, with_member, with_teller, completes, first_told, told_by, told_once}
use Rattle.leader.specs.Courses.{makes_majority}
use Rattle.leader.proofs.Basics.{nat_self}
use Rattle.leader.proofs.Telling.{vote_self}

abbrev members_in : List Bool → Option Told → List Bool
members_in none found = option_map_or (λ row. row.members) found none

module _ (i b : ℕ) (v : Vote) where
  abbrev place : List Told → ℕ
  place rows = position_or_len (is_place_of i b v) rows

  -- what stands at the place
  found : (rows : List Told) (d : Told) → place rows < length rows → find (is_place_of i b v) rows ≡ Some (get_or rows (place rows) d)
  found [] d within = absurd (omega (arith, within))
  found (row ∷ rows) d within = by (is_place_of i b v row) within (found rows d)
    where
      by : (t : Bool) → cond (not t) (1 + place rows) 0 < suc (length rows)
          → (place rows < length rows → find (is_place_of i b v) rows ≡ Some (get_or rows (place rows) d))
          → cond t (Some row) (find (is_place_of i b v) rows) ≡ Some (get_or (row ∷ rows) (cond (not t) (1 + place rows) 0) d)
      by true less rest = refl
      by false less rest =
          let next : 1 + place rows ≡ suc (place rows) = omega arith in
          rest (omega (arith, less)) ∙ ap (λ n. Some (get_or (row ∷ rows) n d)) (sym next)

  -- none does
  not_found : (rows : List Told) → list_any (is_place_of i b v) rows ≡ false → find (is_place_of i b v) rows ≡ None
  not_found [] none = refl
  not_found (row ∷ rows) none = by (is_place_of i b v row) none (not_found rows)
    where
      by : (t : Bool) → (t || list_any (is_place_of i b v) rows) ≡ false
          → (list_any (is_place_of i b v) rows ≡ false → find (is_place_of i b v) rows ≡ None)
          → cond t (Some row) (find (is_place_of i b v) rows) ≡ None
      by true none rest = absurd (true≢false none)
      by false none rest = rest none

  module _ (a : ℕ) where
    -- one more, at the place
    told_there : (rows : List Told) (d : Told) → place rows < length rows
        → told_by i b v a rows ≡ set rows (place rows) (with_member a (get_or rows (place rows) d))
    told_there [] d within = absurd (omega (arith, within))
    told_there (row ∷ rows) d within = by (is_place_of i b v row) within (told_there rows d)
      where
        by : (t : Bool) → cond (not t) (1 + place rows) 0 < suc (length rows)
            → (place rows < length rows → told_by i b v a rows ≡ set rows (place rows) (with_member a (get_or rows (place rows) d)))
            → (if t then with_member a row ∷ rows else row ∷ told_by i b v a rows)
            ≡ set (row ∷ rows) (cond (not t) (1 + place rows) 0)
            (with_member a (get_or (row ∷ rows) (cond (not t) (1 + place rows) 0) d))
        by true less rest = refl
        by false less rest =
            let next : 1 + place rows ≡ suc (place rows) = omega arith in
            ap (λ more. row ∷ more) (rest (omega (arith, less)))
            ∙ (λ k. set (row ∷ rows) (sym next k) (with_member a (get_or (row ∷ rows) (sym next k) d)))

    -- or at a new one
    told_new : (rows : List Told) → list_any (is_place_of i b v) rows ≡ false → told_by i b v a rows ≡ rows ++ first_told i b v a ∷ []
    told_new [] none = refl
    told_new (row ∷ rows) none = by (is_place_of i b v row) none (told_new rows)
      where
        by : (t : Bool) → (t || list_any (is_place_of i b v) rows) ≡ false
            → (list_any (is_place_of i b v) rows ≡ false → told_by i b v a rows ≡ rows ++ first_told i b v a ∷ [])
            → (if t then with_member a row ∷ rows else row ∷ told_by i b v a rows) ≡ row ∷ (rows ++ first_told i b v a ∷ [])
        by true none rest = absurd (true≢false none)
        by false none rest = ap (λ more. row ∷ more) (rest none)

    -- who told then
    told_now : (rows : List Told) → told_of (told_by i b v a rows) i b v ≡ joined a (members_in nobody (find (is_place_of i b v) rows))
    told_now [] =
        ap (λ t. members_in [] (cond t (Some (first_told i b v a)) None)) (λ k. nat_self b k && vote_self v k && nat_self i k)
    told_now (row ∷ rows) = by (is_place_of i b v row) refl (told_now rows)
      where
        by : (t : Bool) → is_place_of i b v row ≡ t
            → told_of (told_by i b v a rows) i b v ≡ joined a (members_in nobody (find (is_place_of i b v) rows))
            → told_of (if t then with_member a row ∷ rows else row ∷ told_by i b v a rows) i b v
            ≡ joined a (members_in nobody (cond t (Some row) (find (is_place_of i b v) rows)))
        by true e rest = ap (λ t. members_in [] (cond t (Some (with_member a row)) (find (is_place_of i b v) rows))) e
        by false e rest = ap (λ t. members_in [] (cond t (Some row) (find (is_place_of i b v) (told_by i b v a rows)))) e ∙ rest

module _ (n a : ℕ) (item : InstanceAccept) (rows : List Told) where
  abbrev here : ℕ
  here = position_or_len (is_place_of item.instance item.ballot item.vote) rows

  abbrev told_it : List Told → List Bool
  told_it list = told_of list item.instance item.ballot item.vote

  abbrev then_ : List Told
  then_ = told_by item.instance item.ballot item.vote a rows

  module _ (k : ℕ) (old : Told) (at : k ≡ here) (within : k < length rows) (read : old ≡ get_or rows k old) where
    read_here : old ≡ get_or rows here old
    read_here = read ∙ ap (λ m. get_or rows m old) at

    stands : find (is_place_of item.instance item.ballot item.vote) rows ≡ Some old
    stands = found item.instance item.ballot item.vote rows old (omega (arith, at, within)) ∙ ap Some (sym read_here)

    told_before : told_it rows ≡ old.members
    told_before = ap (members_in []) stands

    -- the one at the place tells
    pub told_at : (new : Told) → new ≡ with_teller a old → set rows k new ≡ told_once a item rows
    told_at new is = by (has old.members a) refl
      where
        by : (t : Bool) → has old.members a ≡ t → set rows k new ≡ told_once a item rows
        by true e = ap (set rows k) (is ∙ ap (λ t. if t then old else with_member a old) e ∙ read) ∙ set-get_or rows k old
            ∙ sym (ap (λ t. if t then rows else then_) (ap (λ m. has m a) told_before ∙ e))
        by false e = ap (set rows k) (is ∙ ap (λ t. if t then old else with_member a old) e)
            ∙ (λ m. set rows (at m) (with_member a (read_here m)))
            ∙ sym (told_there item.instance item.ballot item.vote a rows old (omega (arith, at, within)))
            ∙ sym (ap (λ t. if t then rows else then_) (ap (λ m. has m a) told_before ∙ e))

    -- one more who told makes a majority at its place where it does among all
    pub makes_at : completes n a old ≡ makes_majority n a item rows
    makes_at = λ m. not (has (sym told_before m) a) && is_majority n (has (told_after m))
      where
        told_after : joined a old.members ≡ told_it then_
        told_after = sym (told_now item.instance item.ballot item.vote a rows ∙ ap (λ o. joined a (members_in nobody o)) stands)

  module _ (none : list_any (is_place_of item.instance item.ballot item.vote) rows ≡ false) where
    nothing : find (is_place_of item.instance item.ballot item.vote) rows ≡ None
    nothing = not_found item.instance item.ballot item.vote rows none

    -- it is the first to tell
    pub told_first : rows ++ first_told item.instance item.ballot item.vote a ∷ [] ≡ told_once a item rows
    told_first =
        sym (told_new item.instance item.ballot item.vote a rows none)
        ∙ sym (ap (λ o. if has (members_in [] o) a then rows else then_) nothing)

    -- so it is where nobody told of that ballot and value before
    pub makes_first : is_majority n (has (joined a nobody)) ≡ makes_majority n a item rows
    makes_first = λ m. not (has (members_in [] (sym nothing m)) a) && is_majority n (has (told_after m))
      where
        told_after : joined a nobody ≡ told_it then_
        told_after = sym (told_now item.instance item.ballot item.vote a rows ∙ ap (λ o. joined a (members_in nobody o)) nothing)
