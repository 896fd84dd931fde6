-- Walking over the branches on their bytes.
-- Needed by 8 functions of this crate; crate net_script.
use Rattle.std.proofs.Common.{◌≡◌, ◌≢◌, eqb, ℕ, zero, suc, ◌+◌, ◌-◌, ◌<◌, ◌≤◌, Bool, true, false, ltb, List, [], ◌∷◌, ◌++◌, length, take}
use Rattle.std.proofs.Common.{drop, get_or, Option, Some, None, IsTrue, refl, sym, ap, ◌∙◌, arith, slice_index, slice_set}
use Rattle.std.specs.Prelude.{is_some, nat_lt, not, ◌||◌, ◌&&◌, cond}
use Rattle.std.specs.List.{flat_map, All, list_all, list_any, position_or_len, find, slice_get}
use Rattle.std.specs.List.Sorted.{IsStrictlyIncreasing}
use Rattle.std.proofs.lemmas.Bool.Decides.{nat_tests}
use Rattle.std.proofs.lemmas.Bool.{ltb-true, ltb-false, le-ltb, lt-ltb}
use Rattle.std.proofs.lemmas.List.Concat.{flat_map-cons}
use Rattle.std.proofs.lemmas.List.{get_or-map, get_or-set_other, get_or-set_same}
use Rattle.std.proofs.lemmas.List.Folds.{find_at}
use Rattle.std.proofs.lemmas.Option.{slice_get-get_or, slice_get_past}
use Rattle.std.proofs.lemmas.Grind.{common_steps}
use Rattle.byteorder.specs.Endian.{big_number}
use Rattle.xid.specs.Limits.{most_component}
use Rattle.xid.specs.Transactions.{TxParts, BranchParts, IsBranch, is_at, nth_branch, participants}
use Rattle.wire.specs.Grammar.{branch_spelling}
use Rattle.wire.specs.Reading.{branch_at, component_at}
use Rattle.wire.specs.Spelled.{branches_from}
use Rattle.wire.specs.Versions.{version_2}
use Rattle.wire.proofs.Ascending.{later}
use Rattle.wire.proofs.Fields.{branch_again, wide_2}
use Rattle.wire.proofs.Spelled.{some_same}

-- a branch at the front, by where its fields stand
pub record Stands (bytes : List ℕ) : Type 0 where
  pub long : 3 ≤ length bytes
  pub whole : 3 + slice_index bytes 2 ≤ length bytes
  pub read :
      branch_at version_2 bytes
      ≡ Some (record { rm = big_number 2 bytes; bqual = take (slice_index bytes 2) (drop 3 bytes) }, drop (3 + slice_index bytes 2) bytes)

-- where a branch can be taken, it stands at the front of the bytes
pub stands : (bytes : List ℕ) → IsTrue (is_some (branch_at version_2 bytes)) → Stands bytes
unfolding branch_at component_at
stands [] some = absurd (cc (some))
stands (a ∷ []) some = absurd (cc (some))
stands (a ∷ b ∷ []) some = absurd (cc (some))
stands (a ∷ b ∷ n ∷ rest) some = by (ltb most_component n) (ltb (length rest) n) refl refl
  where
    long : ltb (suc (suc (suc (length rest)))) 2 ≡ false
    long = le-ltb _ _ (omega arith)

    by : (great short : Bool) → ltb most_component n ≡ great → ltb (length rest) n ≡ short → Stands (a ∷ b ∷ n ∷ rest)
    by true short eg es = let none : branch_at version_2 (a ∷ b ∷ n ∷ rest) ≡ None = rw (long, eg) refl in absurd (cc (none, some))
    by false true eg es = let none : branch_at version_2 (a ∷ b ∷ n ∷ rest) ≡ None = rw (long, eg, es) refl in absurd (cc (none, some))
    by false false eg es = record {
      long = omega arith;
      whole = let le : n ≤ length rest = ltb-false (length rest) n es in omega arith;
      read = let e : 3 + n ≡ suc (suc (suc n)) = omega arith in rw (e, long, eg, es) refl;
    }

same_branch : (bytes : List ℕ) (n rm : ℕ) → rm ≡ big_number 2 bytes → 3 + n ≤ length bytes
    → ◌≡◌ {A = Option (BranchParts × List ℕ)}
    (Some (record { rm = rm; bqual = take (3 + n - 3) (drop 3 bytes) }, take (length bytes - (3 + n)) (drop (3 + n) bytes)))
    (Some (record { rm = big_number 2 bytes; bqual = take n (drop 3 bytes) }, drop (3 + n) bytes))
same_branch bytes n rm e le =
    let back : 3 + n - 3 ≡ n = omega arith in
    let all : take (length bytes - (3 + n)) (drop (3 + n) bytes) ≡ drop (3 + n) bytes = grind (arith, common_steps) in
    rw (back, all, e) refl

-- what is read where the fields stand
pub read_there : (bytes : List ℕ) (rm : ℕ) → IsTrue (is_some (branch_at version_2 bytes)) → rm ≡ big_number 2 bytes
    → ◌≡◌ {A = Option (BranchParts × List ℕ)} (Some (
      record { rm = rm; bqual = take (3 + slice_index bytes 2 - 3) (drop 3 bytes) },
      take (length bytes - (3 + slice_index bytes 2)) (drop (3 + slice_index bytes 2) bytes),
    )) (branch_at version_2 bytes)
read_there bytes rm some e = let s = stands bytes some in same_branch bytes (slice_index bytes 2) rm e s.whole ∙ sym s.read

pub drops : {X : Type 0} (xs : List X) (i : ℕ) (d : X) → i < length xs → drop i xs ≡ get_or xs i d ∷ drop (i + 1) xs
drops [] i d lt = absurd (omega arith)
drops (x ∷ xs) zero d lt = refl
drops (x ∷ xs) (suc i) d lt = let e : suc i + 1 ≡ suc (i + 1) = omega arith in rw e (drops xs i d (omega arith))

-- the next branch of a walk
pub next : (bs : List BranchParts) (i : ℕ) (bytes : List ℕ) (d : BranchParts) → All IsBranch bs → i < length bs → bytes ≡ branches_from bs i
    → branch_at version_2 bytes ≡ Some (get_or bs i d, branches_from bs (i + 1))
next bs i bytes d each lt e =
    let is = each i d lt in
    let split : branches_from bs i ≡ branch_spelling version_2 (get_or bs i d) ++ branches_from bs (i + 1) =
    ap (λ (xs : List BranchParts). flat_map (branch_spelling version_2) xs) (drops bs i d lt)
    ∙ flat_map-cons (branch_spelling version_2) (get_or bs i d) (drop (i + 1) bs) in
    ap (branch_at version_2) (e ∙ split) ∙ branch_again version_2 (get_or bs i d) (branches_from bs (i + 1)) wide_2 is.rm is

-- in front of the last, there is a branch to be taken
pub some_next : (bs : List BranchParts) (i : ℕ) (bytes : List ℕ) → All IsBranch bs → i < length bs → bytes ≡ branches_from bs i
    → IsTrue (is_some (branch_at version_2 bytes))
some_next bs i bytes each lt e = let there = next bs i bytes (record { rm = 0; bqual = [] }) each lt e in rw there refl

-- what a walk took
pub record Took (bs : List BranchParts) (i : ℕ) (d : BranchParts) (rm : ℕ) (bqual rest : List ℕ) : Type 0 where
  pub manager : rm ≡ (get_or bs i d).rm
  pub name : bqual ≡ (get_or bs i d).bqual
  pub after : rest ≡ branches_from bs (i + 1)

-- it is the branch of that place
pub took : (bs : List BranchParts) (i : ℕ) (bytes : List ℕ) (d : BranchParts) (rm : ℕ) (bqual rest : List ℕ) → All IsBranch bs
    → i < length bs
    → bytes ≡ branches_from bs i
    → ◌≡◌ {A = Option (BranchParts × List ℕ)} (Some (record { rm = rm; bqual = bqual }, rest)) (branch_at version_2 bytes)
    → Took bs i d rm bqual rest
took bs i bytes d rm bqual rest each lt e got =
    let same = some_same (record { rm = rm; bqual = bqual }, rest) (get_or bs i d, branches_from bs (i + 1))
    (got ∙ next bs i bytes d each lt e) in
    record {
      manager = ap (λ (x : BranchParts × List ℕ). x.0.rm) same;
      name = ap (λ (x : BranchParts × List ℕ). x.0.bqual) same;
      after = ap (λ (x : BranchParts × List ℕ). x.1) same;
    }

-- one passes where the first that does stands among them
pub any_place : {X : Type 0} (p : X → Bool) (xs : List X) → list_any p xs ≡ ltb (position_or_len p xs) (length xs)
any_place p [] = refl
any_place p (x ∷ xs) = by (p x) (any_place p xs)
  where
    next : (n m : ℕ) → ltb n m ≡ ltb (1 + n) (suc m)
    next n m = grind (arith, nat_tests)

    by : (t : Bool) → list_any p xs ≡ ltb (position_or_len p xs) (length xs)
        → (t || list_any p xs) ≡ ltb (cond (not t) (1 + position_or_len p xs) 0) (suc (length xs))
    by true e = sym (lt-ltb 0 (suc (length xs)) (omega arith))
    by false e = e ∙ next (position_or_len p xs) (length xs)

-- none of the branches so far is a resource manager's, nor is the next one
pub none_yet : (bs : List BranchParts) (i rm : ℕ) (d : BranchParts) → (get_or bs i d).rm ≢ rm
    → ((k : ℕ) → k < i → is_at rm (get_or bs k d) ≡ false) → (k : ℕ) → k < i + 1 → is_at rm (get_or bs k d) ≡ false
none_yet bs i rm d other before k less = by (ltb k i) refl
  where
    by : (t : Bool) → ltb k i ≡ t → is_at rm (get_or bs k d) ≡ false
    by true et = before k (ltb-true k i et)
    by false et =
        let same : k ≡ i = omega (arith, less, ltb-false k i et) in
        let no : eqb (get_or bs i d).rm rm ≡ false = grind (arith, nat_tests, other) in
        ap (λ (n : ℕ). is_at rm (get_or bs n d)) same ∙ no

-- ascending numbers are below a number where the last is
pub all_last : (n : ℕ) (ns : List ℕ) (most : ℕ) → IsStrictlyIncreasing (n ∷ ns)
    → list_all (λ n. nat_lt n most) (n ∷ ns) ≡ nat_lt (slice_index (n ∷ ns) (length ns)) most
all_last n [] most up = by (ltb n most)
  where
    by : (t : Bool) → (t && true) ≡ t
    by true = refl
    by false = refl
all_last n (m ∷ ms) most up = by (ltb n most) (ltb m most) refl refl (all_last m ms most (later n m ms up))
  where
    lt : n < m
    lt = up 0 (omega arith)

    by : (t u : Bool) → ltb n most ≡ t → ltb m most ≡ u
        → (u && list_all (λ n. nat_lt n most) ms) ≡ nat_lt (slice_index (m ∷ ms) (length ms)) most
        → (t && (u && list_all (λ n. nat_lt n most) ms)) ≡ nat_lt (slice_index (m ∷ ms) (length ms)) most
    by true u et eu e = e
    by false false et eu e = e
    by false true et eu e = absurd (omega (arith, lt, ltb-true m most eu, ltb-false n most et))

-- numbers that ascend are below a limit where the last one is
pub all_below : (ns : List ℕ) (most : ℕ) → IsStrictlyIncreasing ns → 0 < length ns
    → nat_lt (slice_index ns (length ns - 1)) most ≡ list_all (λ n. nat_lt n most) ns
all_below [] most up some = absurd (omega arith)
all_below (n ∷ ns) most up some =
    let last : suc (length ns) - 1 ≡ length ns = omega arith in
    rw last (sym (all_last n ns most up))

-- the branch of a resource manager, by its place
pub found : (bs : List BranchParts) (rm i : ℕ) (d : BranchParts) → i ≡ position_or_len (is_at rm) bs → i < length bs
    → find (is_at rm) bs ≡ Some (get_or bs i d)
found bs rm i d e lt = find_at (is_at rm) bs ∙ ap (slice_get bs) (sym e) ∙ slice_get-get_or bs i d lt

-- a search that went over all branches finds none
pub not_found : (bs : List BranchParts) (rm i : ℕ) → i ≡ position_or_len (is_at rm) bs → length bs ≤ i → find (is_at rm) bs ≡ None
not_found bs rm i e le = find_at (is_at rm) bs ∙ ap (slice_get bs) (sym e) ∙ slice_get_past bs i le

-- the resource manager of a branch is the participant of its place
pub participant_at : (tx : TxParts) (i rm : ℕ) → i < length tx.branches → rm ≡ (nth_branch tx i).rm → rm ≡ slice_index (participants tx) i
participant_at tx i rm lt e = e ∙ sym (get_or-map (λ (b : BranchParts). b.rm) tx.branches i (record { rm = 0; bqual = [] }) 0 lt)

-- the resource managers of the branches so far, with that of the next one
pub one_more : (tx : TxParts) (rms : List ℕ) (place rm : ℕ) → place < length rms → rm ≡ (nth_branch tx place).rm
    → ((k : ℕ) → k < place → slice_index rms k ≡ (nth_branch tx k).rm)
    → (k : ℕ) → k < place + 1 → slice_index (slice_set rms place rm) k ≡ (nth_branch tx k).rm
one_more tx rms place rm within e before k less = by (ltb k place) refl
  where
    by : (t : Bool) → ltb k place ≡ t → slice_index (slice_set rms place rm) k ≡ (nth_branch tx k).rm
    by true et =
        get_or-set_other rms place k rm 0 (λ same. absurd (omega (arith, same, ltb-true k place et)))
        ∙ before k (ltb-true k place et)
    by false et =
        let same : k ≡ place = omega (arith, less, ltb-false k place et) in
        ap (λ (n : ℕ). slice_index (slice_set rms place rm) n) same ∙ get_or-set_same rms place rm 0 within ∙ e
        ∙ ap (λ (n : ℕ). (nth_branch tx n).rm) (sym same)
