-- Passing over the items of a bundle.
-- Needed by `are_counted` and `take_passed`; BundleKinds; crate stable_record.
use Rattle.std.proofs.Common.{◌≡◌, ℕ, zero, suc, ◌+◌, ◌-◌, ◌<◌, ◌≤◌, ◌&&◌, ◌==◌, Bool, true, false, cond, ltb, leb, List, [], ◌∷◌, length}
use Rattle.std.proofs.Common.{map, Option, Some, None, refl, sym, ap, subst, ◌∙◌, arith}
use Rattle.std.specs.List.{AllByRecursion}
use Rattle.std.specs.List.Sorted.{IsStrictlyIncreasing}
use Rattle.std.proofs.lemmas.Bool.{le-leb, ltb-false, leb-true}
use Rattle.std.proofs.lemmas.Bool.Decides.{nat_tests}
use Rattle.std.proofs.Math.Dec.{eqb-suc-zero}
use Rattle.xid.specs.Limits.{most_branches}
use Rattle.wire.specs.Reading.{byte_at, list_at, items_at}
use Rattle.wire.proofs.Ascending.{IsFrom, from_zero, from_next, ascend_with, tail_up}
use Rattle.wire.proofs.Spelled.{some_same, step, unless}
use Rattle.wire.specs.SpelledItems.{is_end, items_from, are_items}

-- two tests hold where both do
pub both : (a b : Bool) → (a && b) ≡ true → (a ≡ true) × (b ≡ true)
both true b e = (refl, e)
both false b e = absurd (cc (e))

module _ {X : Type 0} (one : List ℕ → Option (X × List ℕ)) (is : X → Bool) (instance : X → ℕ) where
  -- ---- as the loop goes

  abbrev left : ℕ → ℕ → List ℕ → Bool
  left least n bytes = items_from one is instance least n bytes

  step_to : (least n : ℕ) (bytes : List ℕ) (x : X) (after : List ℕ) → one bytes ≡ Some (x, after)
      → left least (suc n) bytes ≡ (is x && (leb least (instance x) && left (instance x + 1) n after))
  unfolding items_from
  step_to least n bytes x after e = rw e refl

  step_none : (least n : ℕ) (bytes : List ℕ) → one bytes ≡ None → left least (suc n) bytes ≡ false
  unfolding items_from
  step_none least n bytes e = rw e refl

  module _ (least n : ℕ) (bytes : List ℕ) where
    -- where nothing can be taken, the items that are left are none
    pub next_none : None ≡ one bytes → left least (suc n) bytes ≡ false
    next_none e = step_none least n bytes (sym e)

    -- so it is where what was taken fails the test
    pub next_fails : (x : X) (after : List ℕ) → Some (x, after) ≡ one bytes → is x ≡ false → left least (suc n) bytes ≡ false
    next_fails x after e fails = step_to least n bytes x after (sym e) ∙ rw fails refl

    -- and where its instance is too low
    pub next_low : (x : X) (after : List ℕ) → Some (x, after) ≡ one bytes → instance x < least → left least (suc n) bytes ≡ false
    next_low x after e low =
        let below : leb least (instance x) ≡ false = grind (arith, nat_tests, low) in
        step_to least n bytes x after (sym e) ∙ rw below (both_false (is x))
      where
        both_false : (t : Bool) → (t && false) ≡ false
        both_false true = refl
        both_false false = refl

    -- an item that passes leads on to those behind it
    pub next_goes : (x : X) (after : List ℕ) → Some (x, after) ≡ one bytes → is x ≡ true → least ≤ instance x
        → left least (suc n) bytes ≡ left (instance x + 1) n after
    next_goes x after e holds le =
        let low : leb least (instance x) ≡ true = le-leb _ _ le in
        step_to least n bytes x after (sym e) ∙ rw (holds, low) refl

  -- where all items were passed over, the bytes end
  pub at_end : (least count i : ℕ) (bytes : List ℕ) → count ≤ i → left least (count - i) bytes ≡ is_end bytes
  unfolding items_from
  at_end least count i bytes le = let k : count - i ≡ 0 = omega arith in rw k refl

  -- ---- what was passed over

  pub record Passed (least n : ℕ) (bytes : List ℕ) : Type 0 where
    pub items : List X
    pub read : list_at one n bytes ≡ Some (items, [])
    pub counted : length items ≡ n
    pub each : AllByRecursion (λ x. is x ≡ true) items
    pub from : IsFrom least (map instance items)
    pub ascending : IsStrictlyIncreasing (map instance items)

  ended : (bytes : List ℕ) → is_end bytes ≡ true → bytes ≡ []
  ended [] e = refl
  ended (x ∷ xs) e = absurd (cc (e))

  reads : (n : ℕ) (bytes : List ℕ) (x : X) (after : List ℕ) (xs : List X) → one bytes ≡ Some (x, after)
      → list_at one n after ≡ Some (xs, [])
      → list_at one (suc n) bytes ≡ Some (x ∷ xs, [])
  unfolding list_at
  reads n bytes x after xs e es = rw (e, es) refl

  pub passed : (n least : ℕ) (bytes : List ℕ) → left least n bytes ≡ true → Passed least n bytes
  unfolding items_from list_at
  passed zero least bytes e = record {
    items = [];
    read = ap (λ (xs : List ℕ). Some ([], xs)) (ended bytes e);
    counted = refl;
    each = tt;
    from = tt;
    ascending = λ k lt. absurd (omega arith);
  }
  passed (suc n) least bytes e = by (one bytes) refl (λ least bytes e. passed n least bytes e)
    where
      by : (read : Option (X × List ℕ)) → one bytes ≡ read
          → ((least : ℕ) (bytes : List ℕ) → left least n bytes ≡ true → Passed least n bytes) → Passed least (suc n) bytes
      by None er go = absurd (cc (step_none least n bytes er, e))
      by (Some (x, after)) er go =
          let one-is = both _ _ (sym (step_to least n bytes x after er) ∙ e) in
          let low-is = both _ _ one-is.1 in
          let others = go (instance x + 1) after low-is.1 in
          record {
            items = x ∷ others.items;
            read = reads n bytes x after others.items er others.read;
            counted = ap suc others.counted;
            each = (one-is.0, others.each);
            from = leb-true least (instance x) low-is.0;
            ascending = ascend_with (instance x) (map instance others.items) others.from others.ascending;
          }

  -- ---- items are passed over
  -- items that were read, nothing after them, that pass
  abbrev Holds : ℕ → List X × List ℕ → Type 0
  Holds least x =
      (x.1 ≡ []) × AllByRecursion (λ y. is y ≡ true) x.0 × IsFrom least (map instance x.0) × IsStrictlyIncreasing (map instance x.0)

  again : (n least : ℕ) (bytes : List ℕ) (x : List X × List ℕ) → list_at one n bytes ≡ Some x → Holds least x → left least n bytes ≡ true
  unfolding items_from list_at
  again zero least bytes x e = subst (λ (x : List X × List ℕ). Holds least x → is_end bytes ≡ true) (some_same ([], bytes) x e)
      (λ (h : Holds least ([], bytes)). ap is_end h.0)
  again (suc n) least bytes x e =
      step (one bytes) _ e (λ first ef e. step (list_at one n first.1) _ e (λ others eo e.
      subst (λ (x : List X × List ℕ). Holds least x → left least (suc n) bytes ≡ true) (some_same (first.0 ∷ others.0, others.1) x e)
      (λ (h : Holds least (first.0 ∷ others.0, others.1)).
      let low : leb least (instance first.0) ≡ true = le-leb _ _ h.2 in
      let rest = again n (instance first.0 + 1) first.1 others eo (
        h.0,
        h.1.1,
        from_next (instance first.0) (map instance others.0) h.3,
        tail_up (instance first.0) (map instance others.0) h.3,
      ) in
      step_to least n bytes first.0 first.1 ef ∙ rw (h.1.0, low, rest) refl)))

  -- ---- behind their count

  pub record Are (bytes : List ℕ) : Type 0 where
    pub items : List X
    pub read : items_at one bytes ≡ Some (items, [])
    pub some : 1 ≤ length items
    pub few : length items ≤ most_branches
    pub each : AllByRecursion (λ x. is x ≡ true) items
    pub ascending : IsStrictlyIncreasing (map instance items)

  counted : (count : ℕ) → (count == 0) ≡ false → ltb most_branches count ≡ false → (1 ≤ count) × (count ≤ most_branches)
  counted zero some few = absurd (cc (some))
  counted (suc n) some few = (omega arith, ltb-false _ _ few)

  -- what was passed over are items that pass the test and ascend
  pub are : (bytes : List ℕ) → are_items one is instance bytes ≡ true → Are bytes
  unfolding are_items items_at
  are [] e = absurd (cc (e))
  are (count ∷ rest) e = by (count == 0) (ltb most_branches count) refl refl e
    where
      by : (none many : Bool) → (count == 0) ≡ none → ltb most_branches count ≡ many
          → cond none false (cond many false (left 0 count rest)) ≡ true → Are (count ∷ rest)
      by true many en em e = absurd (cc (e))
      by false true en em e = absurd (cc (e))
      by false false en em e =
          let all = passed count 0 rest e in
          let limits = counted count en em in
          record {
            items = all.items;
            read = rw (en, em) all.read;
            some = omega (arith, limits.0, all.counted);
            few = omega (arith, limits.1, all.counted);
            each = all.each;
            ascending = all.ascending;
          }

  -- items that pass the test and ascend are passed over
  pub are_again : (bytes : List ℕ) (xs : List X) → items_at one bytes ≡ Some (xs, []) → AllByRecursion (λ x. is x ≡ true) xs
      → IsStrictlyIncreasing (map instance xs) → are_items one is instance bytes ≡ true
  unfolding are_items items_at
  are_again bytes xs e each up =
      step (byte_at bytes) _ e (λ count ec e.
      let some = unless (count.0 == 0) _ (xs, []) e in
      let few = unless (ltb most_branches count.0) _ (xs, []) some.1 in
      rw (ec, some.0, few.0) (again count.0 0 count.1 (xs, []) few.1 (refl, each, from_zero (map instance xs), up)))

-- bytes end where there are none
pub end_is : (bytes : List ℕ) → (length bytes == 0) ≡ is_end bytes
end_is [] = refl
end_is (x ∷ xs) = eqb-suc-zero (length xs)
