-- The instances of a transaction, by their places, and the items of a bundle, one after the other.
-- Needed by 6 functions of this crate; 6 files here.
use Rattle.std.proofs.Common.{◌≡◌, ◌∙◌, ◌==◌, ℕ, suc, ◌+◌, ◌<◌, ◌≤◌, Bool, true, false, ◌&&◌, ◌||◌, cond, List, [], ◌∷◌, ◌++◌}
use Rattle.std.proofs.Common.{length, get_or, drop, map, Option, Some, None, refl, sym, ap, subst, append_assoc, arith}
use Rattle.std.specs.Prelude.{filter, filter_map, is_some, IfSome, MatchOption, IsTrue}
use Rattle.std.specs.List.{AllByRecursion, list_any, list_all, cons_option}
use Rattle.std.proofs.Math.Seq.{drop-cons}
use Rattle.std.proofs.lemmas.Bool.{eq-eqb, eqb-true, ne_eqb}
use Rattle.std.proofs.lemmas.List.{append-nil, drop_all, get_or-map, length-map, length-append}
use Rattle.std.proofs.lemmas.List.Kept.{AllPairs-from_increasing, IsStrictlyIncreasing-filter}
use Rattle.std.proofs.lemmas.List.Sums.{position_or_len_is}
use Rattle.xid.specs.Transactions.{TxParts, BranchParts, IsTx, is_at, participants, is_participant, nth_branch, rm_numbers}
use Rattle.wire.specs.Messages.{AreInstances}
use Rattle.acceptor.specs.Slots.{place_of, listed_items, with_item}

-- what stands where no branch does
abbrev pub blank : BranchParts
blank = record { rm = 0; bqual = [] }

-- ---- places

-- the instance of a branch has the branch's place
pub place_of_nth : (tx : TxParts) (place : ℕ) → IsTx tx → place < length tx.branches → place_of tx (nth_branch tx place).rm ≡ place
place_of_nth tx place is lt =
    position_or_len_is (is_at (nth_branch tx place).rm) tx.branches place blank (omega arith) earlier (λ _. eq-eqb _ _ refl)
  where
    earlier : (k : ℕ) → k < place → is_at (nth_branch tx place).rm (get_or tx.branches k blank) ≡ false
    earlier k below =
        let len : length (rm_numbers tx.branches) ≡ length tx.branches = length-map tx.branches (λ b. b.rm) in
        let up = AllPairs-from_increasing (rm_numbers tx.branches) is.branches.ascending k place 0 below (omega (arith, len, lt)) in
        let one = get_or-map (λ (b : BranchParts). b.rm) tx.branches k blank 0 (omega (arith, below, lt)) in
        let two = get_or-map (λ (b : BranchParts). b.rm) tx.branches place blank 0 lt in
        ne_eqb _ _ (λ e. absurd (omega (arith, up, one, two, e)))

-- the instances from a place on
pub drop_step : (tx : TxParts) (place : ℕ) → place < length tx.branches
    → drop place (participants tx) ≡ (nth_branch tx place).rm ∷ drop (place + 1) (participants tx)
drop_step tx place lt =
    let len : length (participants tx) ≡ length tx.branches = length-map tx.branches (λ b. b.rm) in
    let here = get_or-map (λ (b : BranchParts). b.rm) tx.branches place blank 0 lt in
    let next : suc place ≡ place + 1 = omega arith in
    drop-cons (participants tx) place 0 (omega (arith, len, lt)) ∙ (λ i. here i ∷ drop (next i) (participants tx))

-- behind the last place there are no participants
pub drop_end : (tx : TxParts) (place : ℕ) → length tx.branches ≤ place → drop place (participants tx) ≡ []
drop_end tx place le =
    let len : length (participants tx) ≡ length tx.branches = length-map tx.branches (λ b. b.rm) in
    drop_all place (participants tx) (omega (arith, len, le))

-- ---- a test of each instance

module _ (tx : TxParts) (q : ℕ → Bool) (place : ℕ) where
  -- a test of all participants goes on where one passes
  pub all_goes_on : place < length tx.branches → q (nth_branch tx place).rm ≡ true
      → list_all q (drop place (participants tx)) ≡ list_all q (participants tx)
      → list_all q (drop (place + 1) (participants tx)) ≡ list_all q (participants tx)
  all_goes_on lt passed e =
      ap (λ b. b && list_all q (drop (place + 1) (participants tx))) (sym passed) ∙ sym (ap (list_all q) (drop_step tx place lt)) ∙ e

  -- it stops where one fails
  pub all_stops : place < length tx.branches → q (nth_branch tx place).rm ≡ false
      → list_all q (drop place (participants tx)) ≡ list_all q (participants tx) → false ≡ list_all q (participants tx)
  all_stops lt failed e =
      ap (λ b. b && list_all q (drop (place + 1) (participants tx))) (sym failed) ∙ sym (ap (list_all q) (drop_step tx place lt)) ∙ e

  -- at the end all have passed
  pub all_ends : length tx.branches ≤ place → list_all q (drop place (participants tx)) ≡ list_all q (participants tx)
      → true ≡ list_all q (participants tx)
  all_ends le e = sym (ap (list_all q) (drop_end tx place le)) ∙ e

  -- a test of any participant goes on where one fails
  pub any_goes_on : place < length tx.branches → q (nth_branch tx place).rm ≡ false
      → list_any q (drop place (participants tx)) ≡ list_any q (participants tx)
      → list_any q (drop (place + 1) (participants tx)) ≡ list_any q (participants tx)
  any_goes_on lt failed e =
      ap (λ b. b || list_any q (drop (place + 1) (participants tx))) (sym failed) ∙ sym (ap (list_any q) (drop_step tx place lt)) ∙ e

  -- it stops where one passes
  pub any_stops : place < length tx.branches → q (nth_branch tx place).rm ≡ true
      → list_any q (drop place (participants tx)) ≡ list_any q (participants tx) → true ≡ list_any q (participants tx)
  any_stops lt passed e =
      ap (λ b. b || list_any q (drop (place + 1) (participants tx))) (sym passed) ∙ sym (ap (list_any q) (drop_step tx place lt)) ∙ e

  -- at the end none has passed
  pub any_ends : length tx.branches ≤ place → list_any q (drop place (participants tx)) ≡ list_any q (participants tx)
      → false ≡ list_any q (participants tx)
  any_ends le e = sym (ap (list_any q) (drop_end tx place le)) ∙ e

-- one more item
each_next : {X : Type 0} (P : X → Type 0) (front : List X) (x : X) → AllByRecursion P front → P x → AllByRecursion P (front ++ x ∷ [])
each_next P [] x each one = (one, tt)
each_next P (y ∷ front) x each one = (each.0, each_next P front x each.1 one)

-- ---- an item of each instance that has one, gathered by places

pub record Gathers {X : Type 0} (tx : TxParts) (h : ℕ → Option X) (P : X → Type 0) (items : Option (List X)) (place : ℕ) : Type 0 where
  pub rest : listed_items items ++ filter_map h (drop place (participants tx)) ≡ filter_map h (participants tx)
  pub few : length (listed_items items) ≤ place
  pub some : IfSome items (λ xs. 1 ≤ length xs)
  pub each : AllByRecursion P (listed_items items)

module _ {X : Type 0} {tx : TxParts} {h : ℕ → Option X} {P : X → Type 0} {items : Option (List X)} {place : ℕ} where
  -- what follows the items, with the one of this place
  split_rest : (item : Option X) → place < length tx.branches → item ≡ h (nth_branch tx place).rm → Gathers tx h P items place
      → listed_items items ++ cons_option item (filter_map h (drop (place + 1) (participants tx))) ≡ filter_map h (participants tx)
  split_rest item lt e g =
      ap (λ (o : Option X). listed_items items ++ cons_option o (filter_map h (drop (place + 1) (participants tx)))) e
      ∙ sym (ap (λ ns. listed_items items ++ filter_map h ns) (drop_step tx place lt)) ∙ g.rest

  -- the items of one participant more
  pub gathers_next : (item : Option X) → place < length tx.branches → item ≡ h (nth_branch tx place).rm → IfSome item P
      → Gathers tx h P items place → Gathers tx h P (with_item items item) (place + 1)
  gathers_next None lt e one g = record { rest = split_rest None lt e g; few = omega (arith, g.few); some = g.some; each = g.each }
  gathers_next (Some x) lt e one g =
      let len : length (listed_items items ++ x ∷ []) ≡ length (listed_items items) + 1 = length-append (listed_items items) (x ∷ []) in
      record {
        rest =
            append_assoc (listed_items items) (x ∷ []) (filter_map h (drop (place + 1) (participants tx))) ∙ split_rest (Some x) lt e g;
        few = omega (arith, g.few, len);
        some = omega (arith, len);
        each = each_next P (listed_items items) x g.each one;
      }

  -- those of all participants
  pub gathered : length tx.branches ≤ place → Gathers tx h P items place → listed_items items ≡ filter_map h (participants tx)
  gathered le g =
      sym (append-nil (listed_items items)) ∙ sym (ap (λ ns. listed_items items ++ filter_map h ns) (drop_end tx place le)) ∙ g.rest

-- ---- the instances of a bundle's items

choose : {X : Type 0} (P : X → Type 0) (b : Bool) (x : X) (xs : List X) → P x → AllByRecursion P xs → AllByRecursion P (cond b (x ∷ xs) xs)
choose P true x xs one each = (one, each)
choose P false x xs one each = each

each_filtered : {X : Type 0} (P : X → Type 0) (p : X → Bool) (xs : List X) → AllByRecursion P xs → AllByRecursion P (filter p xs)
each_filtered P p [] each = tt
each_filtered P p (x ∷ xs) each = choose P (p x) x (filter p xs) each.0 (each_filtered P p xs each.1)

-- each of some branches is among all
pub each_named : (all rest : List BranchParts) → ((b : BranchParts) → list_any (is_at b.rm) rest ≡ true → list_any (is_at b.rm) all ≡ true)
    → AllByRecursion (λ rm. list_any (is_at rm) all ≡ true) (rm_numbers rest)
each_named all [] sub = tt
each_named all (b ∷ rest) sub = (
  sub b (ap (λ t. t || list_any (is_at b.rm) rest) (eq-eqb b.rm b.rm refl)),
  each_named all rest (λ other h. sub other (later (is_at other.rm b) (list_any (is_at other.rm) rest) h)),
)
  where
    later : (s t : Bool) → t ≡ true → (s || t) ≡ true
    later true t h = refl
    later false t h = h

module _ {X : Type 0} (f : X → ℕ) (h : ℕ → Option X) (own : (n : ℕ) (x : X) → h n ≡ Some x → f x ≡ n) where
  first_kept : (n : ℕ) (o : Option X) (rest : List X) → h n ≡ o → map f (cons_option o rest)
      ≡ cond (is_some o) (n ∷ map f rest) (map f rest)
  first_kept n None rest e = refl
  first_kept n (Some x) rest e = ap (λ m. m ∷ map f rest) (own n x e)

  -- the items are of those instances that have one
  pub numbers_kept : (ns : List ℕ) → map f (filter_map h ns) ≡ filter (λ n. is_some (h n)) ns
  numbers_kept [] = refl
  numbers_kept (n ∷ ns) =
      first_kept n (h n) (filter_map h ns) refl ∙ ap (λ rest. cond (is_some (h n)) (n ∷ rest) rest) (numbers_kept ns)

  -- and are instances, ascending
  pub instances_are : (tx : TxParts) → IsTx tx → 1 ≤ length (filter_map h (participants tx))
      → AreInstances tx (map f (filter_map h (participants tx)))
  instances_are tx is some = subst (AreInstances tx) (sym (numbers_kept (participants tx))) (record {
    valid = is;
    some =
        let len : length (map f (filter_map h (participants tx))) ≡ length (filter_map h (participants tx)) =
        length-map (filter_map h (participants tx)) f in
        omega (arith, some, len, ap length (numbers_kept (participants tx)));
    named =
        each_filtered (λ rm. IsTrue (is_participant tx rm)) (λ n. is_some (h n)) (participants tx) (each_named tx.branches tx.branches
        (λ b e. e));
    ascending = IsStrictlyIncreasing-filter (λ n. is_some (h n)) (participants tx) is.branches.ascending;
  })

  -- an instance of the transaction that has one
  pub some_kept : (bs : List BranchParts) (i : ℕ) (x : X) → list_any (is_at i) bs ≡ true → h i ≡ Some x
      → 1 ≤ length (filter_map h (rm_numbers bs))
  some_kept [] i x there e = absurd (cc)
  some_kept (b ∷ bs) i x there e = by (b.rm == i) refl (some_kept bs i x)
    where
      longer : (o : Option X) (rest : List X) → length rest ≤ length (cons_option o rest)
      longer None rest = omega arith
      longer (Some y) rest = omega arith

      by : (t : Bool) → (b.rm == i) ≡ t → (list_any (is_at i) bs ≡ true → h i ≡ Some x → 1 ≤ length (filter_map h (rm_numbers bs)))
          → 1 ≤ length (filter_map h (rm_numbers (b ∷ bs)))
      by true t rest =
          let same : h b.rm ≡ Some x = ap h (eqb-true b.rm i t) ∙ e in
          rw same (omega arith)
      by false t rest =
          let le = longer (h b.rm) (filter_map h (rm_numbers bs)) in
          let tail : list_any (is_at i) bs ≡ true = sym (ap (λ s. s || list_any (is_at i) bs) t) ∙ there in
          omega (arith, le, rest tail e)

  -- the items that were gathered are instances
  pub are_instances : (tx : TxParts) (r : Option (List X)) → IsTx tx → IfSome r (λ xs. 1 ≤ length xs)
      → listed_items r ≡ filter_map h (participants tx) → IfSome r (λ xs. AreInstances tx (map f xs))
  are_instances tx None is some e = tt
  are_instances tx (Some xs) is some e =
      subst (λ ys. AreInstances tx (map f ys)) (sym e) (instances_are tx is (omega (arith, some, ap length e)))

  -- and there are some where an instance has one
  pub is_gathered : (tx : TxParts) (r : Option (List X)) (i : ℕ) (x : X) → is_participant tx i ≡ true → h i ≡ Some x
      → listed_items r ≡ filter_map h (participants tx) → MatchOption r ⊥ (λ xs. xs ≡ filter_map h (participants tx))
  is_gathered tx None i x there e all = absurd (omega (arith, ap length all, some_kept tx.branches i x there e))
  is_gathered tx (Some xs) i x there e all = all
