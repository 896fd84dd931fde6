-- Keys that are found by a hint or by what the others say.
-- Needed by 6 functions of this crate; Sought.
use Rattle.std.proofs.Common.{◌≡◌, ◌∙◌, ℕ, zero, suc, ◌+◌, ◌<◌, ◌≤◌, Bool, true, false, not, cond, ◌&&◌, ltb, List, [], ◌∷◌, ◌++◌, length}
use Rattle.std.proofs.Common.{get_or, slice_get, Option, Some, None, is_some, refl, sym, ap, subst, arith}
use Rattle.std.specs.Prelude.{if◌then◌else◌, position, nat_eq}
use Rattle.std.specs.Cmp.Lexicographic.{bytes_decides}
use Rattle.std.specs.List.{IsDistinct, position_or_len}
use Rattle.std.specs.Map.{lookup}
use Rattle.std.specs.Str.{bytes_eq}
use Rattle.std.proofs.lemmas.Bool.{ltb-true, ltb-false, eq-eqb, false_from_ne_true}
use Rattle.std.proofs.lemmas.List.Elements.{recursion_from_All}
use Rattle.std.proofs.lemmas.Option.{slice_get_read}
use mathlib.Core.Logic.{inl, inr}
use Rattle.wire.proofs.Spelled.{some_same}
use Rattle.transactions.specs.Found.{is_at, found, or_new, hint_of, other_of, IsFound, IsIndex, IsPlaced}
use Rattle.transactions.specs.declared.hashed.HashedPlaces.{HashedPlaces}
use Rattle.hashing.specs.Hashing.{hash_of}
use Rattle.hashing.specs.declared.keys.WordKey.{WordKey}

same : (k : List ℕ) → bytes_eq k k ≡ true
same k = (bytes_decides k k).1 refl

-- ---- one entry more

-- what is found of other keys is found still
pub or_old : (o : Option ℕ) (place : ℕ) → or_new o false place ≡ o
or_old (Some known) place = refl
or_old None place = refl

-- a look-up among one key more
pub lookup_pushed : {K : Type 0} (test : K → Bool) (es : List (K × ℕ)) (key : K) (place : ℕ)
    → lookup test (es ++ (key, place) ∷ []) ≡ or_new (lookup test es) (test key) place
lookup_pushed test [] key place = refl
lookup_pushed {K} test (e ∷ es) key place = by (test e.0) (lookup_pushed test es key place)
  where
    by : (b : Bool) → lookup test (es ++ (key, place) ∷ []) ≡ or_new (lookup test es) (test key) place
        → cond b (Some e.1) (lookup test (es ++ (key, place) ∷ [])) ≡ or_new (cond b (Some e.1) (lookup test es)) (test key) place
    by true rest = refl
    by false rest = rest

-- what `get` gives
pub key_got : {K : Type 0} (keys : List K) (n : ℕ) (key : K) → true ≡ ltb n (length keys) → key ≡ get_or keys n key
    → Some key ≡ slice_get keys n
key_got keys n key t e = sym (slice_get_read keys (length keys) n key refl (ltb-true _ _ (sym t)) e)

-- the key at a place, of keys that are lent
pub key_lent : {K : Type 0} (lent keys : List K) (n : ℕ) (key : K) → lent ≡ keys → true ≡ ltb n (length lent) → key ≡ get_or lent n key
    → slice_get keys n ≡ Some key
key_lent lent keys n key same t e = sym (key_got lent n key t e ∙ ap (λ (ks : List _). slice_get ks n) same)

module _ {K : Type 0} (bytes : K → List ℕ) where
  -- the key of a place where bytes stand
  pub key_at : (keys : List K) (k : List ℕ) (n : ℕ) → is_at bytes keys k n ≡ true
      → (key : K) × (slice_get keys n ≡ Some key) × (k ≡ bytes key)
  key_at [] k n e = absurd (cc)
  key_at (x ∷ xs) k zero e = (x, refl, (bytes_decides k (bytes x)).0 e)
  key_at (x ∷ xs) k (suc n) e = key_at xs k n e

  at_key : (keys : List K) (k : List ℕ) (n : ℕ) (d : K) → n < length keys → bytes_eq k (bytes (get_or keys n d)) ≡ true
      → is_at bytes keys k n ≡ true
  at_key [] k n d lt e = absurd (omega (arith, lt))
  at_key (x ∷ xs) k zero d lt e = e
  at_key (x ∷ xs) k (suc n) d lt e = at_key xs k n d (omega (arith, lt)) e

  -- what is found has the bytes, where that holds of what the others say
  found_at : (keys : List K) (k : List ℕ) (hint other : Option ℕ) (n : ℕ) → ((p : ℕ) → other ≡ Some p → is_at bytes keys k p ≡ true)
      → found bytes keys k hint other ≡ Some n → is_at bytes keys k n ≡ true
  found_at keys k None other n told e = absurd (cc)
  found_at keys k (Some p) other n told e = by (is_at bytes keys k p) refl e
    where
      by : (b : Bool) → is_at bytes keys k p ≡ b → (if b then Some p else other) ≡ Some n → is_at bytes keys k n ≡ true
      by true here e = ap (is_at bytes keys k) (sym (some_same p n e)) ∙ here
      by false here e = told n e

  -- ---- the first place of bytes

  abbrev test : List ℕ → K → Bool
  test k key = bytes_eq k (bytes key)

  earlier : (b : Bool) (p m : ℕ) → b ≡ true → cond (not b) (1 + p) 0 < suc m
  earlier true p m e = omega arith
  earlier false p m e = absurd (cc)

  later : (b : Bool) (p m : ℕ) → p < m → cond (not b) (1 + p) 0 < suc m
  later true p m lt = omega arith
  later false p m lt = omega (arith, lt)

  present : (keys : List K) (k : List ℕ) (n : ℕ) → is_at bytes keys k n ≡ true → position_or_len (test k) keys < length keys
  present [] k n e = absurd (cc)
  present (x ∷ xs) k zero e = earlier (test k x) (position_or_len (test k) xs) (length xs) e
  present (x ∷ xs) k (suc n) e = later (test k x) (position_or_len (test k) xs) (length xs) (present xs k n e)

  stands : (keys : List K) (k : List ℕ) → position_or_len (test k) keys < length keys
      → is_at bytes keys k (position_or_len (test k) keys) ≡ true
  stands [] k lt = absurd (omega (arith, lt))
  stands (x ∷ xs) k lt = by (test k x) refl lt (stands xs k)
    where
      by : (b : Bool) → test k x ≡ b → cond (not b) (1 + position_or_len (test k) xs) 0 < suc (length xs)
          → (position_or_len (test k) xs < length xs → is_at bytes xs k (position_or_len (test k) xs) ≡ true)
          → is_at bytes (x ∷ xs) k (cond (not b) (1 + position_or_len (test k) xs) 0) ≡ true
      by true e lt rest = e
      by false e lt rest =
          let next : suc (position_or_len (test k) xs) ≡ 1 + position_or_len (test k) xs = omega arith in
          subst (λ (n : ℕ). is_at bytes (x ∷ xs) k n ≡ true) next (rest (omega (arith, lt)))

  place_is : (keys : List K) (k : List ℕ) (r : Option ℕ) → ((n : ℕ) → r ≡ Some n → is_at bytes keys k n ≡ true)
      → ((n : ℕ) → is_at bytes keys k n ≡ true → r ≡ Some n) → r ≡ position (test k) keys
  place_is keys k r told each = by (ltb (position_or_len (test k) keys) (length keys)) refl
    where
      none : length keys ≤ position_or_len (test k) keys → (o : Option ℕ) → r ≡ o → r ≡ None
      none le None e = e
      none le (Some n) e = let lt = present keys k n (told n e) in absurd (omega (arith, le, lt))

      by : (b : Bool) → ltb (position_or_len (test k) keys) (length keys) ≡ b → r ≡ cond b (Some (position_or_len (test k) keys)) None
      by true t = each (position_or_len (test k) keys) (stands keys k (ltb-true _ _ t))
      by false t = none (ltb-false _ _ t) r refl

  -- no two keys have the same bytes, where bytes stand at one place alone
  apart : (keys : List K) → ((k : List ℕ) (n m : ℕ) → is_at bytes keys k n ≡ true → is_at bytes keys k m ≡ true → n ≡ m)
      → IsDistinct (λ a b. bytes_eq (bytes a) (bytes b)) keys
  unfolding IsDistinct
  apart [] one = tt
  apart (x ∷ xs) one = (
    recursion_from_All (λ y. bytes_eq (bytes x) (bytes y) ≡ false) xs
        (λ n d lt. false_from_ne_true (bytes_eq (bytes x) (bytes (get_or xs n d))) (λ e. differ n d lt e)),
    apart xs (λ k n m a b. less n m (one k (suc n) (suc m) a b)),
  )
    where
      less : (n m : ℕ) → suc n ≡ suc m → n ≡ m
      less n m e = omega (arith, e)

      differ : (n : ℕ) (d : K) → n < length xs → ¬ (bytes_eq (bytes x) (bytes (get_or xs n d)) ≡ true)
      differ n d lt e =
          let same_place : 0 ≡ suc n = one (bytes x) 0 (suc n) (same (bytes x)) (at_key xs (bytes x) n d lt e) in
          absurd (omega (arith, same_place))

  module _ (words : WordKey) (keys : List K) (hint : ℕ → Option ℕ) (other : List ℕ → Option ℕ)
      (index : IsIndex bytes words keys hint other) where
    abbrev found_of : List ℕ → Option ℕ
    found_of k = found bytes keys k (hint (hash_of words k)) (other k)

    own_place : (k : List ℕ) (n : ℕ) → is_at bytes keys k n ≡ true → found_of k ≡ Some n
    own_place k n e =
        let at = key_at keys k n e in
        subst (λ (q : List ℕ). found_of q ≡ Some n) (sym at.2) (index.own n at.0 at.1)

    -- what is found is the first place
    pub found_first : (k : List ℕ) → found_of k ≡ position (test k) keys
    found_first k = place_is keys k (found_of k) (λ n e. found_at keys k (hint (hash_of words k)) (other k) n (index.others k) e)
        (own_place k)

    -- where bytes stand is their one place
    pub settled : (k : List ℕ) (hash : ℕ) (r : Option ℕ) → hash ≡ hash_of words k
        → IsFound bytes keys k (found bytes keys k (hint hash) (other k)) r → r ≡ found_of k
    settled k hash r is told = by r (subst (λ (h : ℕ). IsFound bytes keys k (found bytes keys k (hint h) (other k)) r) is told)
      where
        by : (r : Option ℕ) → IsFound bytes keys k (found_of k) r → r ≡ found_of k
        by r (inl e) = e
        by None (inr at) = absurd at
        by (Some n) (inr at) = sym (own_place k n at)

    -- no two keys have the same bytes
    pub found_apart : IsDistinct (λ a b. bytes_eq (bytes a) (bytes b)) keys
    found_apart = apart keys (λ k n m a b. some_same n m (sym (own_place k n a) ∙ own_place k m b))

  -- ---- one key more

  module _ (key : K) where
    grown : (keys : List K) (q : List ℕ) (n : ℕ) → bytes_eq q (bytes key) ≡ false
        → is_at bytes (keys ++ key ∷ []) q n ≡ is_at bytes keys q n
    grown [] q zero e = e
    grown [] q (suc n) e = refl
    grown (x ∷ xs) q zero e = refl
    grown (x ∷ xs) q (suc n) e = grown xs q n e

    stays : (keys : List K) (q : List ℕ) (n : ℕ) → is_at bytes keys q n ≡ true → is_at bytes (keys ++ key ∷ []) q n ≡ true
    stays [] q n e = absurd (cc)
    stays (x ∷ xs) q zero e = e
    stays (x ∷ xs) q (suc n) e = stays xs q n e

    last : (keys : List K) (q : List ℕ) → is_at bytes (keys ++ key ∷ []) q (length keys) ≡ bytes_eq q (bytes key)
    last [] q = refl
    last (x ∷ xs) q = last xs q

    only_last : (keys : List K) (q : List ℕ) (p : ℕ) → is_at bytes keys q p ≡ false → is_at bytes (keys ++ key ∷ []) q p ≡ true
        → p ≡ length keys
    only_last [] q zero e f = refl
    only_last [] q (suc p) e f = absurd (cc)
    only_last (x ∷ xs) q zero e f = absurd (cc)
    only_last (x ∷ xs) q (suc p) e f = ap suc (only_last xs q p e f)

    old_or_last : (keys : List K) (n : ℕ) (other : K) → slice_get (keys ++ key ∷ []) n ≡ Some other → (G : Type 0)
        → (slice_get keys n ≡ Some other → G) → (n ≡ length keys → key ≡ other → G) → G
    old_or_last [] zero other at G f g = g refl (one key other at)
      where
        one : (a b : K) → Some a ≡ Some b → a ≡ b
        one a b e = cc
    old_or_last [] (suc n) other at G f g = absurd (cc)
    old_or_last (x ∷ xs) zero other at G f g = f at
    old_or_last (x ∷ xs) (suc n) other at G f g = old_or_last xs n other at G f (λ e. g (ap suc e))

    -- other bytes are found as before
    still : (keys : List K) (q : List ℕ) (hint other : Option ℕ) (is_new : Bool) (n : ℕ) → bytes_eq q (bytes key) ≡ false
        → found bytes keys q hint other ≡ Some n
        → found bytes (keys ++ key ∷ []) q (or_new hint is_new (length keys)) other ≡ Some n
    still keys q (Some p) other is_new n e f = ap (λ (b : Bool). if b then Some p else other) (grown keys q p e) ∙ f
    still keys q None other is_new n e f = absurd (cc)

    same_other : (o : Option ℕ) (b c : Bool) (place : ℕ) → c ≡ false → or_new o (b && c) place ≡ o
    same_other (Some p) b c place e = refl
    same_other None true c place e = ap (λ (b : Bool). if b then Some place else None) e
    same_other None false c place e = refl

    -- and these at the end
    newly : (keys : List K) (hint other : Option ℕ) (same_hash same_bytes : Bool) → same_hash ≡ true → same_bytes ≡ true
        → found bytes keys (bytes key) hint other ≡ None
        → found bytes (keys ++ key ∷ []) (bytes key) (or_new hint (not (is_some hint) && same_hash) (length keys))
        (or_new other (is_some hint && same_bytes) (length keys)) ≡ Some (length keys)
    newly keys None other same_hash same_bytes hash_is bytes_are e =
        ap (λ (b : Bool). found bytes (keys ++ key ∷ []) (bytes key) (if b then Some (length keys) else None)
        (or_new other false (length keys))) hash_is
        ∙ ap (λ (b : Bool). if b then Some (length keys) else or_new other false (length keys)) (last keys (bytes key) ∙ same (bytes key))
    newly keys (Some p) other same_hash same_bytes hash_is bytes_are e = by (is_at bytes keys (bytes key) p) refl e
      where
        ended : other ≡ None → (b : Bool) → is_at bytes keys (bytes key) p ≡ false → is_at bytes (keys ++ key ∷ []) (bytes key) p ≡ b
            → (if b then Some p else or_new other same_bytes (length keys)) ≡ Some (length keys)
        ended none true before now = ap Some (only_last keys (bytes key) p before now)
        ended none false before now = λ k. or_new (none k) (bytes_are k) (length keys)

        by : (b : Bool) → is_at bytes keys (bytes key) p ≡ b → (if b then Some p else other) ≡ None
            → found bytes (keys ++ key ∷ []) (bytes key) (Some p) (or_new other same_bytes (length keys)) ≡ Some (length keys)
        by true before none = absurd (cc)
        by false before none = ended none (is_at bytes (keys ++ key ∷ []) (bytes key) p) before refl

    kept : (keys : List K) (q : List ℕ) (o : Option ℕ) (b c : Bool) (place n : ℕ)
        → (o ≡ Some n → is_at bytes keys q n ≡ true) → (c ≡ true → is_at bytes keys q place ≡ true)
        → or_new o (b && c) place ≡ Some n → is_at bytes keys q n ≡ true
    kept keys q (Some p) b c place n old new e = old e
    kept keys q None true true place n old new e = ap (is_at bytes keys q) (sym (some_same place n e)) ∙ new refl
    kept keys q None true false place n old new e = absurd (cc)
    kept keys q None false c place n old new e = absurd (cc)

    module _ (words : WordKey) (keys : List K) (hint hint_now : ℕ → Option ℕ) (other other_now : List ℕ → Option ℕ) where
      pub index_added : IsIndex bytes words keys hint other
          → found bytes keys (bytes key) (hint (hash_of words (bytes key))) (other (bytes key)) ≡ None
          → ((h : ℕ) → hint_now h
          ≡ or_new (hint h) (not (is_some (hint (hash_of words (bytes key)))) && nat_eq h (hash_of words (bytes key))) (length keys))
          → ((q : List ℕ) → other_now q
          ≡ or_new (other q) (is_some (hint (hash_of words (bytes key))) && bytes_eq q (bytes key)) (length keys))
          → IsIndex bytes words (keys ++ key ∷ []) hint_now other_now
      index_added index absent hints others = record { own = own; others = said }
        where
          taken : Bool
          taken = is_some (hint (hash_of words (bytes key)))

          differs : (n : ℕ) (x : K) → slice_get keys n ≡ Some x → bytes_eq (bytes x) (bytes key) ≡ false
          differs n x at = false_from_ne_true (bytes_eq (bytes x) (bytes key)) (λ e.
              let eq : bytes x ≡ bytes key = (bytes_decides (bytes x) (bytes key)).0 e in
              let there : Some n ≡ None = sym (index.own n x at)
              ∙ ap (λ (q : List ℕ). found bytes keys q (hint (hash_of words q)) (other q)) eq ∙ absent in
              absurd (cc (there)))

          own : (n : ℕ) (x : K) → slice_get (keys ++ key ∷ []) n ≡ Some x
              → found bytes (keys ++ key ∷ []) (bytes x) (hint_now (hash_of words (bytes x))) (other_now (bytes x)) ≡ Some n
          own n x at = old_or_last keys n x at
              (found bytes (keys ++ key ∷ []) (bytes x) (hint_now (hash_of words (bytes x))) (other_now (bytes x)) ≡ Some n)
              (λ before.
              let e = differs n x before in
              (λ k. found bytes (keys ++ key ∷ []) (bytes x) (hints (hash_of words (bytes x)) k)
              ((others (bytes x) ∙ same_other (other (bytes x)) (is_some (hint (hash_of words (bytes key))))
              (bytes_eq (bytes x) (bytes key))
              (length keys) e) k))
              ∙ still keys (bytes x) (hint (hash_of words (bytes x))) (other (bytes x))
              (not (is_some (hint (hash_of words (bytes key)))) && nat_eq (hash_of words (bytes x)) (hash_of words (bytes key)))
              n e (index.own n x before))
              (λ is_last is_key.
              ap (λ (y : K). found bytes (keys ++ key ∷ []) (bytes y) (hint_now (hash_of words (bytes y))) (other_now (bytes y)))
              (sym is_key)
              ∙ (λ k. found bytes (keys ++ key ∷ []) (bytes key) (hints (hash_of words (bytes key)) k) (others (bytes key) k))
              ∙ newly keys (hint (hash_of words (bytes key))) (other (bytes key))
              (nat_eq (hash_of words (bytes key)) (hash_of words (bytes key)))
              (bytes_eq (bytes key) (bytes key)) (eq-eqb (hash_of words (bytes key)) (hash_of words (bytes key)) refl)
              (same (bytes key)) absent
              ∙ ap Some (sym is_last))

          said : (q : List ℕ) (n : ℕ) → other_now q ≡ Some n → is_at bytes (keys ++ key ∷ []) q n ≡ true
          said q n e = kept (keys ++ key ∷ []) q (other q) (is_some (hint (hash_of words (bytes key))))
              (bytes_eq q (bytes key)) (length keys) n
              (λ before. stays keys q n (index.others q n before)) (λ eq. last keys q ∙ eq) (sym (others q) ∙ e)

  -- ---- one more in hashed places

  -- an index of one key more, where it was placed
  pub index_placed : (words : WordKey) (old new : HashedPlaces) (keys : List K) (hash place : ℕ) (k : List ℕ) (key : K)
      → IsIndex bytes words keys (hint_of old) (other_of old) → found bytes keys k (hint_of old hash) (other_of old k) ≡ None
      → IsPlaced old new hash k place → hash ≡ hash_of words k → k ≡ bytes key → place ≡ length keys
      → IsIndex bytes words (keys ++ key ∷ []) (hint_of new) (other_of new)
  index_placed words old new keys hash place k key index absent placed hashed spelled at_end =
      let hash_is : hash ≡ hash_of words (bytes key) = hashed ∙ ap (hash_of words) spelled in
      index_added key words keys (hint_of old) (hint_of new) (other_of old) (other_of new) index
      ((λ i. found bytes keys (sym spelled i) (hint_of old (sym hash_is i)) (other_of old (sym spelled i))) ∙ absent)
      (λ h. placed.hints h
      ∙ (λ i. or_new (hint_of old h) (not (is_some (hint_of old (hash_is i))) && nat_eq h (hash_is i)) (at_end i)))
      (λ q. placed.others q
      ∙ (λ i. or_new (other_of old q) (is_some (hint_of old (hash_is i)) && bytes_eq q (spelled i)) (at_end i)))
