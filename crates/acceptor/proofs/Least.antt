-- The least ballot that the instances of a transaction took part in.
-- Needed by `is_some_promised` and `least_ballot`; Compacting and Lengths.
use Rattle.std.proofs.Common.{◌≡◌, ◌∙◌, ◌==◌, ℕ, ◌+◌, ◌<◌, ◌≤◌, min, Bool, true, false, ◌||◌, List, [], ◌∷◌, length, map}
use Rattle.std.proofs.Common.{drop, fold, refl, sym, ap, arith}
use Rattle.std.specs.Prelude.{if◌then◌else◌}
use Rattle.std.specs.List.{AllByRecursion, list_any}
use Rattle.std.proofs.lemmas.Bool.{eqb-true, true≢false}
use Rattle.xid.specs.Transactions.{TxParts, BranchParts, IsTx, is_at, participants, rm_numbers, is_participant, nth_branch}
use Rattle.ballot.specs.declared.slot.Slot.{Slot}
use Rattle.protocol.specs.Acceptors.{Slots}
use Rattle.acceptor.specs.Slots.{slot_at, slot_of, slots_of}
use Rattle.acceptor.specs.Compaction.{least, least_ballot, is_promised, common_ballot}
use Rattle.acceptor.proofs.Instances.{place_of_nth, drop_step, drop_end}

-- the least of some numbers is none of those above
pub least_first : (f : ℕ → ℕ) (n : ℕ) (is : List ℕ) → fold min n (map f is) ≤ n
least_first f n [] = omega arith
least_first f n (i ∷ is) = omega (arith, least_first f (min n (f i)) is)

least_each : (f : ℕ → ℕ) (i n : ℕ) (bs : List BranchParts) → list_any (is_at i) bs ≡ true → fold min n (map f (rm_numbers bs)) ≤ f i
least_each f i n [] named = absurd (true≢false (sym named))
least_each f i n (b ∷ bs) named = by (b.rm == i) refl (λ rest. least_each f i (min n (f b.rm)) bs rest)
  where
    by : (t : Bool) → (b.rm == i) ≡ t → (list_any (is_at i) bs ≡ true → fold min (min n (f b.rm)) (map f (rm_numbers bs)) ≤ f i)
        → fold min (min n (f b.rm)) (map f (rm_numbers bs)) ≤ f i
    by true e later =
        let at : f b.rm ≡ f i = ap f (eqb-true b.rm i e) in
        omega (arith, at, least_first f (min n (f b.rm)) (rm_numbers bs))
    by false e later = later (sym (ap (λ t. t || list_any (is_at i) bs) e) ∙ named)

-- the least ballot is no greater than that of any instance
least_low : (slots : Slots) (tx : TxParts) (i : ℕ) → is_participant tx i ≡ true → least_ballot slots tx ≤ (slots tx i).mbal
least_low slots tx i named = from tx.branches named
  where
    from : (bs : List BranchParts) → list_any (is_at i) bs ≡ true → least (map (λ j. (slots tx j).mbal) (rm_numbers bs)) ≤ (slots tx i).mbal
    from [] named = absurd (true≢false (sym named))
    from (b ∷ bs) named = by (b.rm == i) refl
      where
        f : ℕ → ℕ
        f j = (slots tx j).mbal

        by : (t : Bool) → (b.rm == i) ≡ t → fold min (f b.rm) (map f (rm_numbers bs)) ≤ f i
        by true e =
            let at : f b.rm ≡ f i = ap f (eqb-true b.rm i e) in
            omega (arith, at, least_first f (f b.rm) (rm_numbers bs))
        by false e = least_each f i (f b.rm) bs (sym (ap (λ t. t || list_any (is_at i) bs) e) ∙ named)

-- nor is that of a promise for all
pub common_low : (slots : Slots) (tx : TxParts) (i : ℕ) → is_participant tx i ≡ true → common_ballot slots tx ≤ (slots tx i).mbal
common_low slots tx i named = by (list_any (λ j. is_promised (least_ballot slots tx) (slots tx j)) (participants tx))
  where
    by : (t : Bool) → (if t then least_ballot slots tx else 0) ≤ (slots tx i).mbal
    by true = least_low slots tx i named
    by false = omega arith

-- each is at or above the least of all
fold_all : (f : ℕ → ℕ) (m n : ℕ) (is : List ℕ) → m ≤ fold min n (map f is) → AllByRecursion (λ i. m ≤ f i) is
fold_all f m n [] le = tt
fold_all f m n (i ∷ is) le = (omega (arith, le, least_first f (min n (f i)) is), fold_all f m (min n (f i)) is le)

-- the least of some ballots is below each
pub least_all : (f : ℕ → ℕ) (is : List ℕ) → AllByRecursion (λ i. least (map f is) ≤ f i) is
least_all f [] = tt
least_all f (i ∷ is) = (least_first f (f i) is, fold_all f (fold min (f i) (map f is)) (f i) is (omega arith))

-- of greater numbers the least is no less
fold_more : (f h : ℕ → ℕ) (n m : ℕ) (is : List ℕ) → n ≤ m → ((i : ℕ) → f i ≤ h i) → fold min n (map f is) ≤ fold min m (map h is)
fold_more f h n m [] le each = le
fold_more f h n m (i ∷ is) le each = fold_more f h (min n (f i)) (min m (h i)) is (omega (arith, le, each i)) each

-- the least of greater ballots is greater
pub least_more : (f h : ℕ → ℕ) (is : List ℕ) → ((i : ℕ) → f i ≤ h i) → least (map f is) ≤ least (map h is)
least_more f h [] each = omega arith
least_more f h (i ∷ is) each = fold_more f h (f i) (h i) is (each i) each

-- where each is at or above a ballot, the least is
fold_above : (f : ℕ → ℕ) (b n : ℕ) (is : List ℕ) → b ≤ n → AllByRecursion (λ i. b ≤ f i) is → b ≤ fold min n (map f is)
fold_above f b n [] le each = le
fold_above f b n (i ∷ is) le each = fold_above f b (min n (f i)) is (omega (arith, le, each.0)) each.1

-- a ballot below each of some that there are is below their least
pub least_above : (f : ℕ → ℕ) (b : ℕ) (p : ℕ → Bool) (is : List ℕ) → list_any p is ≡ true → AllByRecursion (λ i. b ≤ f i) is
    → b ≤ least (map f is)
least_above f b p [] some each = absurd (true≢false (sym some))
least_above f b p (i ∷ is) some each = fold_above f b (f i) is each.0 each.1

-- ---- found by a walk over the slots

module _ (tx : TxParts) (valid : IsTx tx) (slots : List Slot) where
  abbrev ballots : ℕ → ℕ
  ballots i = (slot_of tx slots i).mbal

  -- the slot at a place is that of the instance there
  pub slot_there : (place : ℕ) (s : Slot) → place < length tx.branches → s ≡ slot_at slots place
      → s ≡ slot_of tx slots (nth_branch tx place).rm
  slot_there place s lt here = here ∙ ap (slot_at slots) (sym (place_of_nth tx place valid lt))

  -- the least after the first instance
  pub least_begins : (s : Slot) → s ≡ slot_at slots 0
      → fold min s.mbal (map ballots (drop 1 (participants tx))) ≡ least_ballot (slots_of tx slots) tx
  least_begins s here =
      let lt : 0 < length tx.branches = omega (arith, valid.branches.some) in
      ap (λ (x : Slot). fold min x.mbal (map ballots (drop 1 (participants tx)))) (slot_there 0 s lt here)
      ∙ sym (ap (λ is. least (map ballots is)) (drop_step tx 0 lt))

  -- after one instance more
  pub least_next : (place n : ℕ) (s : Slot) → place < length tx.branches → s ≡ slot_at slots place
      → fold min n (map ballots (drop place (participants tx))) ≡ least_ballot (slots_of tx slots) tx
      → fold min (min n s.mbal) (map ballots (drop (place + 1) (participants tx))) ≡ least_ballot (slots_of tx slots) tx
  least_next place n s lt here e =
      ap (λ (x : Slot). fold min (min n x.mbal) (map ballots (drop (place + 1) (participants tx)))) (slot_there place s lt here)
      ∙ sym (ap (λ is. fold min n (map ballots is)) (drop_step tx place lt)) ∙ e

  -- after all of them
  pub least_ends : (place n : ℕ) → length tx.branches ≤ place
      → fold min n (map ballots (drop place (participants tx))) ≡ least_ballot (slots_of tx slots) tx
      → n ≡ least_ballot (slots_of tx slots) tx
  least_ends place n le e = sym (ap (λ is. fold min n (map ballots is)) (drop_end tx place le)) ∙ e
