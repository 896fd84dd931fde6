-- The spelled bytes that are kept, and the transactions that are seen of them.
-- Needed by 9 functions of this crate; Before and Sought; crates acceptor, leader, resource_manager and audit.
use Rattle.std.proofs.Common.{◌≡◌, ◌∙◌, ℕ, zero, suc, ◌+◌, ◌<◌, ◌≤◌, Bool, true, false, not, cond, ◌||◌, ltb, List, [], ◌∷◌, ◌++◌, length}
use Rattle.std.proofs.Common.{get_or, map, slice_get, Option, Some, None, refl, sym, ap, subst, arith}
use Rattle.std.specs.Prelude.{MatchOption, position, Result, Ok, Err, IfErr}
use Rattle.std.specs.Bool.{one_answer}
use Rattle.std.specs.Cmp.Lexicographic.{bytes_decides}
use Rattle.std.specs.List.{All, AllByRecursion, IsDistinct, list_any, position_or_len}
use Rattle.std.specs.Option.{option_map}
use Rattle.std.specs.Str.{bytes_eq}
use Rattle.std.proofs.lemmas.Bool.{ltb-true, ltb-false}
use Rattle.std.proofs.lemmas.List.{append-nil, length-map, map-append}
use Rattle.std.proofs.lemmas.List.Elements.{recursion_from_All, All-map, All-push}
use Rattle.std.proofs.lemmas.List.Sums.{prefix_len-le-length}
use Rattle.xid.specs.Transactions.{TxParts, IsTx, tx_eq}
use Rattle.xid.specs.declared.refusals.Refusal.{Refusal}
use Rattle.xid.specs.declared.refusals.Refusal.TheVariants.{NoMemory}
use Rattle.xid.proofs.Deciding.{tx_decides}
use Rattle.wire.specs.Grammar.{tx_spelling}
use Rattle.wire.specs.Versions.{version_2}
use Rattle.wire.specs.Decoding.{tx_in}
use Rattle.wire.specs.declared.grammar.VersionNumber.TheVariants.{Second}
use Rattle.wire.proofs.Fields.{tx_taken, in_version_2, some_same}
use Rattle.wire.proofs.TakenTx.{in_again}
use Rattle.wire.specs.Spelled.{tx_spelled, IsSpelled}
use Rattle.wire.proofs.SpelledAgain.{spelled_is}
use Rattle.transactions.specs.Seen.{place_in, seen_with}

-- ---- tests that answer alike along a list

module _ {X : Type 0} (p q : X → Bool) where
  pub same_place : (xs : List X) → AllByRecursion (λ x. p x ≡ q x) xs → position_or_len p xs ≡ position_or_len q xs
  same_place [] h = refl
  same_place (x ∷ xs) h = λ i. cond (not (h.0 i)) (1 + same_place xs h.1 i) 0

module _ {X Y : Type 0} (f : X → Y) (p : Y → Bool) where
  pub place-map : (xs : List X) → position_or_len p (map f xs) ≡ position_or_len (λ x. p (f x)) xs
  place-map [] = refl
  place-map (x ∷ xs) = ap (λ n. cond (not (p (f x))) (1 + n) 0) (place-map xs)

-- ---- what a place says

module _ {X : Type 0} (p : X → Bool) (xs : List X) where
  abbrev IsTold : Option ℕ → Type 0
  IsTold r = MatchOption r (position_or_len p xs ≡ length xs) (λ n. (n ≡ position_or_len p xs) × (n < length xs))

  told_by : (b : Bool) → ltb (position_or_len p xs) (length xs) ≡ b → IsTold (cond b (Some (position_or_len p xs)) None)
  told_by true t = (refl, ltb-true (position_or_len p xs) (length xs) t)
  told_by false t =
      let le : length xs ≤ position_or_len p xs = ltb-false (position_or_len p xs) (length xs) t in
      omega (arith, le, prefix_len-le-length (λ x. not (p x)) xs)

  -- what a search answers is a place that was told
  pub place_of_position : (r : Option ℕ) → r ≡ position p xs → IsTold r
  place_of_position r e = subst IsTold (sym e) (told_by (ltb (position_or_len p xs) (length xs)) refl)

module _ {X : Type 0} (p : X → Bool) where
  absent_first : (b : Bool) (n m : ℕ) (rest : Bool) → cond (not b) (1 + n) 0 ≡ suc m → (n ≡ m → rest ≡ false) → (b || rest) ≡ false
  absent_first true n m rest e h = absurd (omega arith)
  absent_first false n m rest e h = h (omega arith)

  -- none passes where the place is the length
  pub absent_from_place : (xs : List X) → position_or_len p xs ≡ length xs → list_any p xs ≡ false
  absent_from_place [] e = refl
  absent_from_place (x ∷ xs) e = absent_first (p x) (position_or_len p xs) (length xs) (list_any p xs) e (absent_from_place xs)

  present_first : (b : Bool) (n m : ℕ) (rest : Bool) → cond (not b) (1 + n) 0 < suc m → (n < m → rest ≡ true) → (b || rest) ≡ true
  present_first true n m rest lt h = refl
  present_first false n m rest lt h = h (omega arith)

  -- and some passes where it is less
  pub present_from_place : (xs : List X) → position_or_len p xs < length xs → list_any p xs ≡ true
  present_from_place [] lt = absurd (omega arith)
  present_from_place (x ∷ xs) lt = present_first (p x) (position_or_len p xs) (length xs) (list_any p xs) lt (present_from_place xs)

-- ---- two spellings are the same where the transactions are

one_tx : (tx other : TxParts) → IsTx tx → IsTx other → tx_spelling version_2 tx ≡ tx_spelling version_2 other → tx ≡ other
one_tx tx other is are e =
    let one = tx_taken (tx_spelling version_2 tx) tx [] is (sym (append-nil (tx_spelling version_2 tx))) in
    let two = tx_taken (tx_spelling version_2 tx) other [] are (e ∙ sym (append-nil (tx_spelling version_2 other))) in
    ap (λ (p : TxParts × List ℕ). p.0) (some_same (tx, []) (other, []) (sym one ∙ two))

pub spelled_once : (tx other : TxParts) → IsTx tx → IsTx other
    → bytes_eq (tx_spelling version_2 tx) (tx_spelling version_2 other) ≡ tx_eq tx other
spelled_once tx other is are =
    one_answer (bytes_eq (tx_spelling version_2 tx) (tx_spelling version_2 other)) (tx_eq tx other) (
      λ h. one_tx tx other is are ((bytes_decides (tx_spelling version_2 tx) (tx_spelling version_2 other)).0 h),
      λ e. (bytes_decides (tx_spelling version_2 tx) (tx_spelling version_2 other)).1 (ap (tx_spelling version_2) e),
    )
    (tx_decides tx other)

-- ---- along the keys, of which `bytes` gives the bytes

module _ {K : Type 0} (bytes : K → List ℕ) where
  -- the transactions that are seen of spelled bytes
  abbrev pub seen_of : List K → List TxParts
  seen_of keys = map (λ key. tx_spelled (bytes key)) keys

  -- each of them is one
  pub all_valid : (keys : List K) → All (λ key. IsSpelled (bytes key)) keys → All IsTx (seen_of keys)
  all_valid keys each = All-map IsTx (λ key. tx_spelled (bytes key)) keys (λ k d lt. (each k d lt).valid)

  -- the test of bytes and that of spellings
  same_bytes : (spelled : List ℕ) (keys : List K) → All (λ key. IsSpelled (bytes key)) keys
      → AllByRecursion (λ key. bytes_eq spelled (bytes key) ≡ bytes_eq spelled (tx_spelling version_2 (tx_spelled (bytes key)))) keys
  same_bytes spelled keys each =
      recursion_from_All (λ key. bytes_eq spelled (bytes key) ≡ bytes_eq spelled (tx_spelling version_2 (tx_spelled (bytes key)))) keys
      (λ k d lt. ap (bytes_eq spelled) (each k d lt).spelled)

  -- bytes are found where the transactions that they spell would be
  pub place_by_bytes : (spelled : List ℕ) (keys : List K) → All (λ key. IsSpelled (bytes key)) keys
      → position (λ key. bytes_eq spelled (bytes key)) keys ≡ position (λ tx. bytes_eq spelled (tx_spelling version_2 tx)) (seen_of keys)
  place_by_bytes spelled keys each =
      let place = same_place (λ key. bytes_eq spelled (bytes key)) (λ key. bytes_eq spelled (tx_spelling version_2 (tx_spelled
      (bytes key))))
      keys (same_bytes spelled keys each)
      ∙ sym (place-map (λ key. tx_spelled (bytes key)) (λ tx. bytes_eq spelled (tx_spelling version_2 tx)) keys) in
      let len : length (seen_of keys) ≡ length keys = length-map keys (λ key. tx_spelled (bytes key)) in
      λ i. cond (ltb (place i) (sym len i)) (Some (place i)) None

-- the place by spelling is the place of the transaction
pub place_by_tx : (tx : TxParts) (seen : List TxParts) → IsTx tx → All IsTx seen
    → position_or_len (λ other. bytes_eq (tx_spelling version_2 tx) (tx_spelling version_2 other)) seen ≡ position_or_len (tx_eq tx) seen
place_by_tx tx seen is each =
    same_place (λ other. bytes_eq (tx_spelling version_2 tx) (tx_spelling version_2 other)) (tx_eq tx) seen
    (recursion_from_All (λ other. bytes_eq (tx_spelling version_2 tx) (tx_spelling version_2 other) ≡ tx_eq tx other) seen
    (λ k d lt. spelled_once tx (get_or seen k d) is (each k d lt)))

-- so a transaction is found by its bytes
pub position_by_tx : (spelled : List ℕ) (tx : TxParts) (seen : List TxParts) → IsTx tx → spelled ≡ tx_spelling version_2 tx → All IsTx seen
    → position (λ other. bytes_eq spelled (tx_spelling version_2 other)) seen ≡ position (tx_eq tx) seen
position_by_tx spelled tx seen is e each =
    ap (λ (bytes : List ℕ). position (λ other. bytes_eq bytes (tx_spelling version_2 other)) seen) e
    ∙ ap (λ (n : ℕ). cond (ltb n (length seen)) (Some n) None) (place_by_tx tx seen is each)

-- ---- one more transaction

module _ (seen : List TxParts) (tx : TxParts) where
  -- a transaction that is found was seen, at its place
  pub seen_before : (n : ℕ) → Some n ≡ position (tx_eq tx) seen → (n ≡ place_in seen tx) × (seen ≡ seen_with seen tx)
  seen_before n e =
      let told = place_of_position (tx_eq tx) seen (Some n) e in
      let any = present_from_place (tx_eq tx) seen (omega (arith, told)) in
      (told.0, sym (ap (λ (b : Bool). cond b seen (seen ++ tx ∷ [])) any))

  -- and what stands at its place was seen
  pub seen_already : (n : ℕ) → (n ≡ place_in seen tx) × (n < length seen) → seen ≡ seen_with seen tx
  seen_already n told =
      let any = present_from_place (tx_eq tx) seen (omega (arith, told)) in
      sym (ap (λ (b : Bool). cond b seen (seen ++ tx ∷ [])) any)

  -- one that isn't found was not seen
  pub not_seen : None ≡ position (tx_eq tx) seen → list_any (tx_eq tx) seen ≡ false
  not_seen e = absent_from_place (tx_eq tx) seen (place_of_position (tx_eq tx) seen None e)

module _ {K : Type 0} (bytes : K → List ℕ) (keys : List K) (key : K) (tx : TxParts) (is : IsTx tx)
    (spelled : bytes key ≡ tx_spelling version_2 tx) where
  -- one key more is one transaction more
  pub seen_pushed : list_any (tx_eq tx) (seen_of bytes keys) ≡ false → seen_of bytes (keys ++ key ∷ []) ≡ seen_with (seen_of bytes keys) tx
  seen_pushed absent =
      map-append (λ other. tx_spelled (bytes other)) keys (key ∷ [])
      ∙ ap (λ (last : TxParts). seen_of bytes keys ++ last ∷ []) (spelled_is (bytes key) tx is spelled)
      ∙ sym (ap (λ (b : Bool). cond b (seen_of bytes keys) (seen_of bytes keys ++ tx ∷ [])) absent)

  -- and all keys are spelled
  pub spelled_pushed : All (λ other. IsSpelled (bytes other)) keys → All (λ other. IsSpelled (bytes other)) (keys ++ key ∷ [])
  spelled_pushed each =
      let back = spelled_is (bytes key) tx is spelled in
      All-push (λ other. IsSpelled (bytes other)) keys key each
      (record { valid = subst IsTx (sym back) is; spelled = spelled ∙ ap (tx_spelling version_2) (sym back) })

-- ---- no two are the same

module _ {K : Type 0} (bytes : K → List ℕ) where
  -- a test of bytes is that of transactions
  same_tests : (a b : K) → IsSpelled (bytes a) → IsSpelled (bytes b)
      → bytes_eq (bytes a) (bytes b) ≡ tx_eq (tx_spelled (bytes a)) (tx_spelled (bytes b))
  same_tests a b is are =
      (λ i. bytes_eq (is.spelled i) (are.spelled i)) ∙ spelled_once (tx_spelled (bytes a)) (tx_spelled (bytes b)) is.valid are.valid

  all_apart : (a : K) (keys : List K) → IsSpelled (bytes a) → AllByRecursion (λ key. IsSpelled (bytes key)) keys
      → AllByRecursion (λ b. bytes_eq (bytes a) (bytes b) ≡ false) keys
      → AllByRecursion (λ tx. tx_eq (tx_spelled (bytes a)) tx ≡ false) (seen_of bytes keys)
  all_apart a [] is each h = tt
  all_apart a (b ∷ keys) is each h = (sym (same_tests a b is each.0) ∙ h.0, all_apart a keys is each.1 h.1)

  distinct : (keys : List K) → AllByRecursion (λ key. IsSpelled (bytes key)) keys
      → IsDistinct (λ a b. bytes_eq (bytes a) (bytes b)) keys → IsDistinct tx_eq (seen_of bytes keys)
  unfolding IsDistinct
  distinct [] each apart = tt
  distinct (a ∷ keys) each apart = (all_apart a keys each.0 each.1 apart.0, distinct keys each.1 apart.1)

  -- keys that are apart spell transactions that are
  pub seen_distinct : (keys : List K) → All (λ key. IsSpelled (bytes key)) keys
      → IsDistinct (λ a b. bytes_eq (bytes a) (bytes b)) keys → IsDistinct tx_eq (seen_of bytes keys)
  seen_distinct keys each apart = distinct keys (recursion_from_All (λ key. IsSpelled (bytes key)) keys each) apart

  -- ---- the transaction of a number

  pub get_of : (keys : List K) (n : ℕ) → slice_get (seen_of bytes keys) n ≡ option_map (λ key. tx_spelled (bytes key)) (slice_get keys n)
  get_of [] n = refl
  get_of (key ∷ keys) zero = refl
  get_of (key ∷ keys) (suc n) = get_of keys n

  valid_of : (key : K) (keys : List K) (n : ℕ) → AllByRecursion (λ key. IsSpelled (bytes key)) keys → slice_get keys n ≡ Some key
      → IsSpelled (bytes key)
  valid_of key [] n each e = absurd (cc)
  valid_of key (first ∷ keys) zero each e = subst (λ k. IsSpelled (bytes k)) (one first key e) each.0
    where
      one : (a b : K) → Some a ≡ Some b → a ≡ b
      one a b e = cc
  valid_of key (first ∷ keys) (suc n) each e = valid_of key keys n each.1 e

  pub spelled_at : (key : K) (keys : List K) (n : ℕ) → All (λ key. IsSpelled (bytes key)) keys → slice_get keys n ≡ Some key
      → IsSpelled (bytes key)
  spelled_at key keys n each e = valid_of key keys n (recursion_from_All (λ key. IsSpelled (bytes key)) keys each) e

  -- what is taken of a key's bytes is its transaction
  pub got_tx : (spelled : List ℕ) (key : K) (keys : List K) (n : ℕ) (tx : TxParts) (after : List ℕ)
      → All (λ key. IsSpelled (bytes key)) keys
      → slice_get keys n ≡ Some key → spelled ≡ bytes key
      → ((other : TxParts) (rest : List ℕ) → IsTx other → spelled ≡ tx_spelling version_2 other ++ rest → (tx ≡ other) × (after ≡ rest))
      → Some tx ≡ slice_get (seen_of bytes keys) n
  got_tx spelled key keys n tx after each at e told =
      let is = spelled_at key keys n each at in
      let same = told (tx_spelled (bytes key)) [] is.valid (e ∙ is.spelled
      ∙ sym (append-nil (tx_spelling version_2 (tx_spelled (bytes key))))) in
      ap Some same.0 ∙ sym (get_of keys n ∙ ap (option_map (λ key. tx_spelled (bytes key))) at)

  -- bytes that are a key's spell a transaction
  pub taken_at : (spelled : List ℕ) (key : K) (keys : List K) (n : ℕ) → All (λ key. IsSpelled (bytes key)) keys → slice_get keys n
      ≡ Some key
      → spelled ≡ bytes key
      → ¬ ((other : TxParts) (rest : List ℕ) → IsTx other → ¬ (spelled ≡ tx_spelling version_2 other ++ rest))
  taken_at spelled key keys n each at e told =
      let is = spelled_at key keys n each at in
      told (tx_spelled (bytes key)) [] is.valid (e ∙ is.spelled ∙ sym (append-nil (tx_spelling version_2 (tx_spelled (bytes key)))))

  -- ---- the number of a key

  one_bytes : (a b : List ℕ) → bytes_eq a b ≡ bytes_eq b a
  one_bytes a b = one_answer (bytes_eq a b) (bytes_eq b a) (bytes_decides a b)
      (λ h. sym ((bytes_decides b a).0 h), λ e. (bytes_decides b a).1 (sym e))

  apart_at : (first key : K) (keys : List K) (n : ℕ) → AllByRecursion (λ b. bytes_eq (bytes first) (bytes b) ≡ false) keys
      → slice_get keys n ≡ Some key → bytes_eq (bytes first) (bytes key) ≡ false
  apart_at first key [] n each e = absurd (cc)
  apart_at first key (other ∷ keys) zero each e = subst (λ k. bytes_eq (bytes first) (bytes k) ≡ false) (one other key e) each.0
    where
      one : (a b : K) → Some a ≡ Some b → a ≡ b
      one a b e = cc
  apart_at first key (other ∷ keys) (suc n) each e = apart_at first key keys n each.1 e

  -- a key of no two the same stands at its number
  number_at : (key : K) (keys : List K) (n : ℕ) → IsDistinct (λ a b. bytes_eq (bytes a) (bytes b)) keys → slice_get keys n ≡ Some key
      → position_or_len (λ other. bytes_eq (bytes key) (bytes other)) keys ≡ n
  unfolding IsDistinct
  number_at key [] n apart e = absurd (cc)
  number_at key (first ∷ keys) zero apart e =
      ap (λ (b : Bool). cond (not b) (1 + position_or_len (λ other. bytes_eq (bytes key) (bytes other)) keys) 0)
      ((bytes_decides (bytes key) (bytes first)).1 (ap bytes (sym (one first key e))))
    where
      one : (a b : K) → Some a ≡ Some b → a ≡ b
      one a b e = cc
  number_at key (first ∷ keys) (suc n) apart e =
      let past : position_or_len (λ other. bytes_eq (bytes key) (bytes other)) (first ∷ keys)
      ≡ 1 + position_or_len (λ other. bytes_eq (bytes key) (bytes other)) keys =
      ap (λ (b : Bool). cond (not b) (1 + position_or_len (λ other. bytes_eq (bytes key) (bytes other)) keys) 0)
      (one_bytes (bytes key) (bytes first) ∙ apart_at first key keys n apart.0 e) in
      let later = number_at key keys n apart.1 e in
      omega (arith, past, later)

  within_at : (key : K) (keys : List K) (n : ℕ) → slice_get keys n ≡ Some key → n < length keys
  within_at key [] n e = absurd (cc)
  within_at key (first ∷ keys) zero e = omega arith
  within_at key (first ∷ keys) (suc n) e = let lt = within_at key keys n e in omega (arith, lt)

  -- where the bytes of a number's key are these, the transaction that they spell stands there
  pub stands_at : (spelled : List ℕ) (key : K) (keys : List K) (n : ℕ) → All (λ key. IsSpelled (bytes key)) keys
      → IsDistinct (λ a b. bytes_eq (bytes a) (bytes b)) keys → slice_get keys n ≡ Some key → spelled ≡ bytes key
      → (n ≡ position_or_len (λ tx. bytes_eq spelled (tx_spelling version_2 tx)) (seen_of bytes keys)) × (n < length (seen_of bytes keys))
  stands_at spelled key keys n each apart at e =
      let here = number_at key keys n apart at in
      let place = same_place (λ key. bytes_eq spelled (bytes key))
      (λ key. bytes_eq spelled (tx_spelling version_2 (tx_spelled (bytes key)))) keys (same_bytes bytes spelled keys each)
      ∙ sym (place-map (λ key. tx_spelled (bytes key)) (λ tx. bytes_eq spelled (tx_spelling version_2 tx)) keys) in
      let within = within_at key keys n at in
      let len : length (seen_of bytes keys) ≡ length keys = length-map keys (λ key. tx_spelled (bytes key)) in (
        sym here ∙ ap (λ (xs : List ℕ). position_or_len (λ other. bytes_eq xs (bytes other)) keys) (sym e) ∙ place,
        omega (arith, within, len),
      )

-- a refused transaction that wasn't seen before
pub with_absent : (seen now : List TxParts) (tx : TxParts) (r : Result ℕ Refusal) → list_any (tx_eq tx) seen ≡ false
    → IfErr r (λ e. (e ≡ NoMemory) × (now ≡ seen))
    → IfErr r (λ e. (e ≡ NoMemory) × (list_any (tx_eq tx) seen ≡ false) × (now ≡ seen))
with_absent seen now tx (Ok number) absent h = tt
with_absent seen now tx (Err e) absent h = (h.0, absent, h.1)

-- a transaction stands where its spelling does
pub place_of_spelling : (spelled : List ℕ) (tx : TxParts) (seen : List TxParts) → IsTx tx → spelled ≡ tx_spelling version_2 tx
    → All IsTx seen
    → position_or_len (λ other. bytes_eq spelled (tx_spelling version_2 other)) seen ≡ place_in seen tx
place_of_spelling spelled tx seen is e each =
    ap (λ (bytes : List ℕ). position_or_len (λ other. bytes_eq bytes (tx_spelling version_2 other)) seen) e ∙ place_by_tx tx seen is each

-- ---- what is taken from the front of bytes

-- what a spelling begins is its transaction
front_is : (bytes : List ℕ) (tx : TxParts) (rest : List ℕ) → IsTx tx → bytes ≡ tx_spelling version_2 tx ++ rest
    → tx_in version_2 bytes ≡ Some (tx, rest)
front_is bytes tx rest is e = ap (tx_in version_2) e ∙ in_again Second tx rest (in_version_2 is)

-- a transaction that is taken is the one that was spelled
pub taken_is : (bytes : List ℕ) (tx : TxParts) (after : List ℕ) → Some (tx, after) ≡ tx_in version_2 bytes
    → (other : TxParts) (rest : List ℕ) → IsTx other → bytes ≡ tx_spelling version_2 other ++ rest → (tx ≡ other) × (after ≡ rest)
taken_is bytes tx after got other rest is e =
    let same = some_same (tx, after) (other, rest) (got ∙ front_is bytes other rest is e) in
    (ap (λ (p : TxParts × List ℕ). p.0) same, ap (λ (p : TxParts × List ℕ). p.1) same)

-- where none is taken, none was spelled
pub none_is : (bytes : List ℕ) → None ≡ tx_in version_2 bytes
    → (other : TxParts) (rest : List ℕ) → IsTx other → ¬ (bytes ≡ tx_spelling version_2 other ++ rest)
none_is bytes got other rest is e = let same = got ∙ front_is bytes other rest is e in absurd (cc (same))
