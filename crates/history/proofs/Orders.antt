-- Lists of transactions: which of two stands first, and lists that agree on it.
-- Needed by Conflicts, KeyCourses, SerialReads and SerialTables.
use Rattle.std.proofs.Common.{◌≡◌, ◌≢◌, ◌⊎◌, inl, inr, ◌∙◌, Bool, true, false, ◌||◌, if◌then◌else◌, List, [], ◌∷◌, ◌++◌, Option, Some}
use Rattle.std.proofs.Common.{None, unwrap_or, refl, sym, ap, subst}
use Rattle.std.specs.Prelude.{filter, find}
use Rattle.std.specs.List.{list_any}
use Rattle.std.specs.Option.{option_map_or}
use Rattle.std.proofs.lemmas.Bool.{cond_both, false_from_ne_true, or_cases, or_left, or_right, or_from, both_ways}
use Rattle.xid.specs.Transactions.{TxParts, tx_eq}
use Rattle.xid.proofs.Deciding.{tx_decides, tx_self}
use Rattle.ballot.specs.Greatest.{IsIn}
use Rattle.protocol.proofs.Lists.{IsIn-before, IsIn-after, IsIn-push, any_found, found_any, found_among, any_find, filter_kept}
use Rattle.history.specs.SerialOrder.{with_commit, stands_first, those_before}

abbrev pub either : (tx other : TxParts) → TxParts → Bool
either tx other one = tx_eq tx one || tx_eq other one

-- this one of two stands first
abbrev pub IsFirst : (tx other : TxParts) → List TxParts → Type 0
IsFirst tx other txs = find (either tx other) txs ≡ Some tx

pub first_is : (tx other : TxParts) (txs : List TxParts) → stands_first tx other txs ≡ true → IsFirst tx other txs
first_is tx other txs e = by_found (find (either tx other) txs) refl e
  where
    by_found : (o : Option TxParts) → find (either tx other) txs ≡ o → option_map_or (tx_eq tx) o false ≡ true → IsFirst tx other txs
    by_found None is e = absurd (cc (e))
    by_found (Some one) is e = is ∙ ap Some (sym ((tx_decides tx one).0 e))

pub is_first : (tx other : TxParts) (txs : List TxParts) → IsFirst tx other txs → stands_first tx other txs ≡ true
is_first tx other txs e = ap (λ (o : Option TxParts). option_map_or (tx_eq tx) o false) e ∙ tx_self tx

pub first_in : (tx other : TxParts) (txs : List TxParts) → IsFirst tx other txs → IsIn txs tx
first_in tx other txs e = (found_among (either tx other) txs tx e).0

apart_eq : (tx one : TxParts) → tx ≢ one → tx_eq tx one ≡ false
apart_eq tx one apart = false_from_ne_true _ (λ e. apart ((tx_decides tx one).0 e))

-- one stands there, and the other doesn't
pub first_alone : (tx other : TxParts) (txs : List TxParts) → IsIn txs tx → ¬ IsIn txs other → IsFirst tx other txs
first_alone tx other txs h none =
    let found = any_find (either tx other) txs
    (found_any (either tx other) txs tx h (or_left (tx_eq tx tx) (tx_eq other tx) (tx_self tx))) in
    let among = found_among (either tx other) txs found.0 found.1 in
    found.1 ∙ elim (or_cases (tx_eq tx found.0) (tx_eq other found.0) among.1) [
      | inl own ↦ ap Some (sym ((tx_decides tx found.0).0 own))
      | inr of_other ↦ absurd (none (subst (IsIn txs) (sym ((tx_decides other found.0).0 of_other)) among.0))
    ]

pub find_more : {X : Type 0} (p : X → Bool) (xs ys : List X) (one : X) → find p xs ≡ Some one → find p (xs ++ ys) ≡ Some one
find_more p [] ys one e = absurd (cc (e))
find_more p (x ∷ xs) ys one e = by_test (p x) (find_more p xs ys one) e
  where
    by_test : (b : Bool) → (find p xs ≡ Some one → find p (xs ++ ys) ≡ Some one) → (if b then Some x else find p xs) ≡ Some one
        → (if b then Some x else find p (xs ++ ys)) ≡ Some one
    by_test true rest e = e
    by_test false rest e = rest e

-- what comes later changes nothing
pub first_more : (tx other : TxParts) (xs ys : List TxParts) → IsFirst tx other xs → IsFirst tx other (xs ++ ys)
first_more tx other xs ys e = find_more (either tx other) xs ys tx e

-- of two that stand there one is first
pub one_first : (tx other : TxParts) (txs : List TxParts) → IsIn txs tx → IsFirst tx other txs ⊎ IsFirst other tx txs
one_first tx other txs h =
    let found = any_find (either tx other) txs
    (found_any (either tx other) txs tx h (or_left (tx_eq tx tx) (tx_eq other tx) (tx_self tx))) in
    let among = found_among (either tx other) txs found.0 found.1 in
    elim (or_cases (tx_eq tx found.0) (tx_eq other found.0) among.1) [
      | inl own ↦ inl (found.1 ∙ ap Some (sym ((tx_decides tx found.0).0 own)))
      | inr of_other ↦ inr (turned txs ∙ found.1 ∙ ap Some (sym ((tx_decides other found.0).0 of_other)))
    ]
  where
    swapped : (b c : Bool) → (b || c) ≡ (c || b)
    swapped true true = refl
    swapped true false = refl
    swapped false true = refl
    swapped false false = refl

    turned : (xs : List TxParts) → find (either other tx) xs ≡ find (either tx other) xs
    turned xs = λ i. find (λ (one : TxParts). swapped (tx_eq other one) (tx_eq tx one) i) xs

-- not both ways
pub one_way : (tx other : TxParts) (txs : List TxParts) → tx ≢ other → IsFirst tx other txs → IsFirst other tx txs → ⊥
one_way tx other txs apart e f = elim (one_first tx other txs (first_in tx other txs e)) [
  | inl here ↦ same (sym e ∙ turned txs ∙ f)
  | inr there ↦ same (sym e ∙ turned txs ∙ there)
]
  where
    swapped : (b c : Bool) → (b || c) ≡ (c || b)
    swapped true true = refl
    swapped true false = refl
    swapped false true = refl
    swapped false false = refl

    turned : (xs : List TxParts) → find (either tx other) xs ≡ find (either other tx) xs
    turned xs = λ i. find (λ (one : TxParts). swapped (tx_eq tx one) (tx_eq other one) i) xs

    same : Some tx ≡ Some other → ⊥
    same e = apart (ap (λ (o : Option TxParts). unwrap_or o tx) e)

-- ---- each once

abbrev pub AreOnce : List TxParts → Type 0
AreOnce [] = Unit {0}
AreOnce (tx ∷ txs) = (¬ IsIn txs tx) × AreOnce txs

pub once_push : (txs : List TxParts) (tx : TxParts) → AreOnce txs → ¬ IsIn txs tx → AreOnce (txs ++ tx ∷ [])
once_push [] tx once none = (λ h. h, tt)
once_push (first ∷ txs) tx once none = (
  λ h. elim (IsIn-push txs tx first h) [ inl was ↦ once.0 was | inr is ↦ none (inl (sym is)) ],
  once_push txs tx once.1 (λ h. none (inr h)),
)

pub once_filter : (p : TxParts → Bool) (txs : List TxParts) → AreOnce txs → AreOnce (filter p txs)
once_filter p [] once = tt
once_filter p (tx ∷ txs) once = cond_both (p tx) (tx ∷ filter p txs) (filter p txs) AreOnce
    (λ passes. (λ h. once.0 (filter_kept p txs tx h).0, once_filter p txs once.1)) (λ fails. once_filter p txs once.1)

pub once_commit : (txs : List TxParts) (tx : TxParts) → AreOnce txs → AreOnce (with_commit txs tx)
once_commit txs tx once = cond_both (list_any (tx_eq tx) txs) txs (txs ++ tx ∷ []) AreOnce (λ known. once)
    (λ new. once_push txs tx once (λ h. both_ways (list_any (tx_eq tx) txs) new (found_any (tx_eq tx) txs tx h (tx_self tx))))

-- a transaction that was there, or is now
pub in_commit : (txs : List TxParts) (tx one : TxParts) → IsIn (with_commit txs tx) one → IsIn txs one ⊎ (tx ≡ one)
in_commit txs tx one h = cond_both (list_any (tx_eq tx) txs) txs (txs ++ tx ∷ []) (λ (ts : List TxParts). IsIn ts one
    → IsIn txs one ⊎ (tx ≡ one))
    (λ known was. inl was) (λ new some. IsIn-push txs tx one some) h

pub commit_keeps : (txs : List TxParts) (tx one : TxParts) → IsIn txs one → IsIn (with_commit txs tx) one
commit_keeps txs tx one h = cond_both (list_any (tx_eq tx) txs) txs (txs ++ tx ∷ []) (λ (ts : List TxParts). IsIn ts one) (λ known. h)
    (λ new. IsIn-before txs (tx ∷ []) one h)

pub commit_there : (txs : List TxParts) (tx : TxParts) → IsIn (with_commit txs tx) tx
commit_there txs tx = cond_both (list_any (tx_eq tx) txs) txs (txs ++ tx ∷ []) (λ (ts : List TxParts). IsIn ts tx)
    (λ known. let found = any_found (tx_eq tx) txs known in
    subst (IsIn txs) (sym ((tx_decides tx found.element).0 found.passes)) found.among)
    (λ new. IsIn-after txs (tx ∷ []) tx (inl refl))

pub first_commit : (tx other : TxParts) (txs : List TxParts) (one : TxParts) → IsFirst tx other txs → IsFirst tx other (with_commit txs one)
first_commit tx other txs one e = cond_both (list_any (tx_eq one) txs) txs (txs ++ one ∷ []) (IsFirst tx other) (λ known. e)
    (λ new. first_more tx other txs (one ∷ []) e)

-- ---- filtered lists

find_filtered : (q p : TxParts → Bool) (xs : List TxParts) → ((one : TxParts) → q one ≡ true → p one ≡ true)
    → find q (filter p xs) ≡ find q xs
find_filtered q p [] each = refl
find_filtered q p (x ∷ xs) each = by_test (p x) (each x) (find_filtered q p xs each)
  where
    by_test : (b : Bool) → (q x ≡ true → b ≡ true) → find q (filter p xs) ≡ find q xs
        → find q (if b then x ∷ filter p xs else filter p xs) ≡ find q (x ∷ xs)
    by_test true each rest = ap (λ (o : Option TxParts). if q x then Some x else o) rest
    by_test false each rest = rest
        ∙ sym (ap (λ (t : Bool). if t then Some x else find q xs) (false_from_ne_true (q x) (λ e. absurd (cc (each e)))))

-- of two that pass, the same is first among those that pass
pub first_filtered : (p : TxParts → Bool) (tx other : TxParts) (txs : List TxParts) → p tx ≡ true → p other ≡ true
    → find (either tx other) (filter p txs) ≡ find (either tx other) txs
first_filtered p tx other txs passes also = find_filtered (either tx other) p txs
    (λ one e. elim (or_cases (tx_eq tx one) (tx_eq other one) e) [
      | inl own ↦ subst (λ (t : TxParts). p t ≡ true) ((tx_decides tx one).0 own) passes
      | inr of_other ↦ subst (λ (t : TxParts). p t ≡ true) ((tx_decides other one).0 of_other) also
    ])

-- ---- lists that agree

head_other : (a b x : TxParts) (xs : List TxParts) → x ≢ a → x ≢ b → find (either a b) (x ∷ xs) ≡ find (either a b) xs
head_other a b x xs one two = ap (λ (t : Bool). if t then Some x else find (either a b) xs)
    (or_from (tx_eq a x) (tx_eq b x) (apart_eq a x (λ e. one (sym e))) (apart_eq b x (λ e. two (sym e))))

-- lists of the same transactions, each once, of which the first of any two in one list is first in the other, are the same
pub same_order : (xs ys : List TxParts) → AreOnce xs → AreOnce ys → ((tx : TxParts) → IsIn xs tx → IsIn ys tx)
    → ((tx : TxParts) → IsIn ys tx → IsIn xs tx)
    → ((a b : TxParts) → IsIn xs a → IsIn xs b → a ≢ b → IsFirst a b xs → IsFirst a b ys) → xs ≡ ys
same_order [] [] once also there back order = refl
same_order [] (y ∷ ys) once also there back order = absurd (back y (inl refl))
same_order (x ∷ xs) [] once also there back order = absurd (there x (inl refl))
same_order (x ∷ xs) (y ∷ ys) once also there back order = by_test (tx_eq x y) refl (same_order xs ys once.1 also.1)
  where
    apart_from : (t : TxParts) → IsIn xs t → x ≢ t
    apart_from t h e = once.0 (subst (IsIn xs) (sym e) h)

    by_test : (b : Bool) → tx_eq x y ≡ b → (((tx : TxParts) → IsIn xs tx → IsIn ys tx) → ((tx : TxParts) → IsIn ys tx → IsIn xs tx)
        → ((a b : TxParts) → IsIn xs a → IsIn xs b → a ≢ b → IsFirst a b xs → IsFirst a b ys) → xs ≡ ys) → x ∷ xs ≡ y ∷ ys
    by_test true e rest =
        let same : x ≡ y = (tx_decides x y).0 e in
        λ i. same i ∷ rest
        (λ t h. elim (there t (inr h)) [ inl is ↦ absurd (apart_from t h (same ∙ is)) | inr in_rest ↦ in_rest ])
        (λ t h. elim (back t (inr h)) [
          | inl is ↦ absurd (also.0 (subst (IsIn ys) (sym is ∙ same) h))
          | inr in_rest ↦ in_rest
        ])
        (λ a b h k apart first.
        sym (head_other a b y ys (λ e. apart_from a h (same ∙ e)) (λ e. apart_from b k (same ∙ e)))
        ∙ order a b (inr h) (inr k) apart (head_other a b x xs (apart_from a h) (apart_from b k) ∙ first)) i
    by_test false e rest =
        let apart : x ≢ y = λ same. both_ways (tx_eq x y) e ((tx_decides x y).1 same) in
        let here : IsFirst x y (x ∷ xs) = ap (λ (t : Bool). if t then Some x else find (either x y) xs)
        (or_left (tx_eq x x) (tx_eq y x) (tx_self x)) in
        let then_there = order x y (inl refl) (back y (inl refl)) apart here in
        let first_there : find (either x y) (y ∷ ys) ≡ Some y = ap (λ (t : Bool). if t then Some y else find (either x y) ys)
        (or_right (tx_eq x y) (tx_eq y y) (tx_self y)) in
        absurd (apart (ap (λ (o : Option TxParts). unwrap_or o x) (sym then_there ∙ first_there)))

-- ---- those before one

pub in_before : (tx : TxParts) (txs : List TxParts) (t : TxParts) → IsIn (those_before tx txs) t → IsIn txs t × (tx ≢ t)
in_before tx [] t h = absurd h
in_before tx (one ∷ txs) t h = by_test (tx_eq tx one) refl (in_before tx txs t) h
  where
    by_test : (b : Bool) → tx_eq tx one ≡ b → (IsIn (those_before tx txs) t → IsIn txs t × (tx ≢ t))
        → IsIn (if b then [] else one ∷ those_before tx txs) t → IsIn (one ∷ txs) t × (tx ≢ t)
    by_test true e rest k = absurd k
    by_test false e rest (inl is) = (inl is, λ same. both_ways (tx_eq tx one) e ((tx_decides tx one).1 (same ∙ sym is)))
    by_test false e rest (inr k) = let found = rest k in (inr found.0, found.1)

pub first_before : (t tx : TxParts) (txs : List TxParts) → t ≢ tx → IsFirst t tx txs → IsIn (those_before tx txs) t
first_before t tx [] apart e = absurd (cc (e))
first_before t tx (one ∷ txs) apart e = by_tests (tx_eq t one) (tx_eq tx one) refl refl (first_before t tx txs apart) e
  where
    by_tests : (b c : Bool) → tx_eq t one ≡ b → tx_eq tx one ≡ c → (IsFirst t tx txs → IsIn (those_before tx txs) t)
        → (if b || c then Some one else find (either t tx) txs) ≡ Some t
        → IsIn (if c then [] else one ∷ those_before tx txs) t
    by_tests b true is own rest f = absurd (apart (sym (ap (λ (o : Option TxParts). unwrap_or o t)
        (ap (λ (d : Bool). if d then Some one else find (either t tx) txs) (sym (or_right b true refl)) ∙ f))
        ∙ sym ((tx_decides tx one).0 own)))
    by_tests true false is own rest f = inl (sym ((tx_decides t one).0 is))
    by_tests false false is own rest f = inr (rest f)

pub before_first : (tx : TxParts) (txs : List TxParts) (t : TxParts) → IsIn (those_before tx txs) t → IsFirst t tx txs
before_first tx [] t h = absurd h
before_first tx (one ∷ txs) t h = by_tests (tx_eq t one) (tx_eq tx one) refl refl (before_first tx txs t) h
  where
    by_tests : (b c : Bool) → tx_eq t one ≡ b → tx_eq tx one ≡ c → (IsIn (those_before tx txs) t → IsFirst t tx txs)
        → IsIn (if c then [] else one ∷ those_before tx txs) t → (if b || c then Some one else find (either t tx) txs) ≡ Some t
    by_tests b true is own rest k = absurd k
    by_tests true false is own rest k = ap Some (sym ((tx_decides t one).0 is))
    by_tests false false is own rest (inl same) = absurd (both_ways (tx_eq t one) is ((tx_decides t one).1 (sym same)))
    by_tests false false is own rest (inr k) = rest k

pub first_those : (tx a b : TxParts) (txs : List TxParts) → IsIn (those_before tx txs) a → IsFirst a b txs
    → IsFirst a b (those_before tx txs)
first_those tx a b [] h e = absurd h
first_those tx a b (one ∷ txs) h e = by_test (tx_eq tx one) (either a b one) refl (first_those tx a b txs) h e
  where
    by_test : (c d : Bool) → either a b one ≡ d → (IsIn (those_before tx txs) a → IsFirst a b txs → IsFirst a b (those_before tx txs))
        → IsIn (if c then [] else one ∷ those_before tx txs) a → (if d then Some one else find (either a b) txs) ≡ Some a
        → find (either a b) (if c then [] else one ∷ those_before tx txs) ≡ Some a
    by_test true d is rest k f = absurd k
    by_test false true is rest k f = ap (λ (t : Bool). if t then Some one else find (either a b) (those_before tx txs)) is ∙ f
    by_test false false is rest (inl same) f = absurd (both_ways (either a b one) is
        (or_left (tx_eq a one) (tx_eq b one) ((tx_decides a one).1 (sym same))))
    by_test false false is rest (inr k) f =
        ap (λ (t : Bool). if t then Some one else find (either a b) (those_before tx txs)) is ∙ rest k f

pub once_before : (tx : TxParts) (txs : List TxParts) → AreOnce txs → AreOnce (those_before tx txs)
once_before tx [] once = tt
once_before tx (one ∷ txs) once = cond_both (tx_eq tx one) [] (one ∷ those_before tx txs) AreOnce (λ own. tt)
    (λ other. (λ h. once.0 (in_before tx txs one h).0, once_before tx txs once.1))
