-- Keys that are sorted, and of which each that is the one before it is let go: all are left exactly where no two are the same.
use Rattle.std.proofs.Common.{◌≡◌, ◌≢◌, ◌∙◌, refl, sym, ap, subst, ℕ, ◌≤◌, suc, Bool, true, false, arith}
use Rattle.std.proofs.Common.{List, [], ◌∷◌, length, map, ◌↔◌, IsPermutation, nat_cmp}
use Rattle.std.specs.List.{AllPairs, AllByRecursion, IsDistinct, dedup, dedup_from}
use Rattle.std.specs.List.Sorted.{IsSorted, IsStrictlySortedBy}
use mathlib.Core.Path.{fun_ext}
use Rattle.std.specs.Cmp.{IsTotalOrder}
use Rattle.std.specs.Cmp.Lexicographic.{slice_cmp}
use Rattle.std.specs.Str.{bytes_eq}
use Rattle.std.proofs.lemmas.Bool.{cond_both}
use Rattle.std.proofs.lemmas.Cmp.{nat_list_cmp_total}
use Rattle.std.proofs.lemmas.List.{get_or-map, length-map}
use Rattle.std.proofs.lemmas.List.Kept.{IsStrictlySortedBy-dedup}
use Rattle.std.proofs.lemmas.List.Sorted.{IsPermutation-sym}
use Rattle.std.proofs.lemmas.Map.Keys.{IsDistinct-from_sorted, IsDistinct-IsPermutation, IsDistinct-head, IsDistinct-tail}
use Rattle.std.proofs.lemmas.Map.Made.{AllPairs-from_IsDistinct, IsDistinct-from_AllPairs}
use Rattle.std.proofs.lemmas.Map.Text.{is_eq-slice_cmp}
use Rattle.std.proofs.lemmas.Slice.Eq.{bytes_eq-Decides}
use Rattle.net_script.specs.Basics.{Row}

module _ {K : Type 0} (E : K → K → Bool) where
  fewer : (k : K) (xs : List K) → length (dedup_from E k xs) ≤ suc (length xs)
  fewer k [] = omega arith
  fewer k (x ∷ xs) =
      cond_both (E x k) (dedup_from E k xs) (k ∷ dedup_from E x xs) (λ l. length l ≤ suc (suc (length xs)))
      (λ _. omega (arith, fewer k xs)) (λ _. omega (arith, fewer x xs))

  all_left : (k : K) (xs : List K) → length (dedup_from E k xs) ≡ suc (length xs) → dedup_from E k xs ≡ k ∷ xs
  all_left k [] _ = refl
  all_left k (x ∷ xs) long =
      cond_both (E x k) (dedup_from E k xs) (k ∷ dedup_from E x xs) (λ l. length l ≡ suc (suc (length xs)) → l ≡ k ∷ x ∷ xs)
      (λ _ l. absurd (omega (arith, fewer k xs, l)))
      (λ _ l. ap (λ (l : List K). k ∷ l) (all_left x xs (omega (arith, l)))) long

  -- where as many are left as there were, none was let go
  pub none_goes : (xs : List K) → length (dedup E xs) ≡ length xs → dedup E xs ≡ xs
  none_goes [] _ = refl
  none_goes (x ∷ xs) long = all_left x xs long

module _ {K : Type 0} (E : K → K → Bool) (flips : (x y : K) → E x y ≡ E y x) where
  stays : (k : K) (xs : List K) → IsDistinct E (k ∷ xs) → dedup_from E k xs ≡ k ∷ xs
  stays k [] _ = refl
  stays k (x ∷ xs) apart =
      let differs : E x k ≡ false = flips x k ∙ (IsDistinct-head E k (x ∷ xs) apart).0 in
      rw differs (ap (λ (l : List K). k ∷ l) (stays x xs (IsDistinct-tail E k (x ∷ xs) apart)))

  -- of distinct keys none is let go
  pub all_stay : (xs : List K) → IsDistinct E xs → dedup E xs ≡ xs
  all_stay [] _ = refl
  all_stay (x ∷ xs) apart = stays x xs apart

module _ {K : Type 0} (f : K → List ℕ) where
  each_mapped : (k : K) (xs : List K) → AllByRecursion (λ y. bytes_eq (f k) (f y) ≡ false) xs
      → AllByRecursion (λ text. bytes_eq (f k) text ≡ false) (map f xs)
  each_mapped k [] h = h
  each_mapped k (x ∷ xs) h = (h.0, each_mapped k xs h.1)

  each_given : (k : K) (xs : List K) → AllByRecursion (λ text. bytes_eq (f k) text ≡ false) (map f xs)
      → AllByRecursion (λ y. bytes_eq (f k) (f y) ≡ false) xs
  each_given k [] h = h
  each_given k (x ∷ xs) h = (h.0, each_given k xs h.1)

  -- keys are distinct by their texts exactly where the texts are distinct
  mapped : (xs : List K) → IsDistinct (λ x y. bytes_eq (f x) (f y)) xs → IsDistinct bytes_eq (map f xs)
  unfolding IsDistinct
  mapped [] h = h
  mapped (x ∷ xs) h = (each_mapped x xs h.0, mapped xs h.1)

  given : (xs : List K) → IsDistinct bytes_eq (map f xs) → IsDistinct (λ x y. bytes_eq (f x) (f y)) xs
  unfolding IsDistinct
  given [] h = h
  given (x ∷ xs) h = (each_given x xs h.0, given xs h.1)

-- rows of distinct keys
rows_apart : (rows : List Row) → AllPairs (λ x y. x ≢ y) (map (λ (row : Row). row.key) rows) → AllPairs (λ a b. a.key ≢ b.key) rows
rows_apart rows apart i j d lt within same =
    let key : Row → List ℕ = λ row. row.key in
    let long = length-map rows key in
    apart i j [] lt (omega (arith, long))
    (get_or-map key rows i d [] (omega arith) ∙ same ∙ sym (get_or-map key rows j d [] within))

keys_apart : (rows : List Row) → AllPairs (λ a b. a.key ≢ b.key) rows → AllPairs (λ x y. x ≢ y) (map (λ (row : Row). row.key) rows)
keys_apart [] apart i j d lt within same = absurd (omega arith)
keys_apart (row ∷ rest) apart i j d lt within same =
    let key : Row → List ℕ = λ row. row.key in
    let rows : List Row = row ∷ rest in
    let long : length (map key rows) ≡ length rows = length-map rows key in
    apart i j row lt (omega (arith, long, within))
    (sym (get_or-map key rows i row d (omega (arith, long, within))) ∙ same ∙ get_or-map key rows j row d (omega (arith, long, within)))

same_answers : (a b : Bool) → (a ≡ true → b ≡ true) → (b ≡ true → a ≡ true) → a ≡ b
same_answers true b to back = sym (to refl)
same_answers false true to back = back refl
same_answers false false to back = refl

module _ {K : Type 0} (f : K → List ℕ) where
  ordered : IsTotalOrder (λ (x y : K). slice_cmp nat_cmp (f x) (f y))
  ordered = record {
    antisymm = λ x y. nat_list_cmp_total.antisymm (f x) (f y);
    trans = λ x y z. nat_list_cmp_total.trans (f x) (f y) (f z);
    congr = λ x y z. nat_list_cmp_total.congr (f x) (f y) (f z);
  }

  -- whether keys have one text
  abbrev pub alike : K → K → Bool
  alike x y = bytes_eq (f x) (f y)

  flips : (x y : K) → alike x y ≡ alike y x
  flips x y = same_answers (alike x y) (alike y x)
      (λ e. (bytes_eq-Decides (f y) (f x)).1 (sym ((bytes_eq-Decides (f x) (f y)).0 e)))
      (λ e. (bytes_eq-Decides (f x) (f y)).1 (sym ((bytes_eq-Decides (f y) (f x)).0 e)))

  -- of the sorted keys of rows as many are left as there are rows exactly where the rows' keys are distinct
  pub distinct_by_sorting : (rows : List Row) (keys sorted : List K) → map f keys ≡ map (λ (row : Row). row.key) rows
      → IsPermutation keys sorted → length sorted ≡ length keys → IsSorted (λ (x y : K). slice_cmp nat_cmp (f x) (f y)) sorted
      → (length (dedup alike sorted) ≡ length rows) ↔ AllPairs (λ a b. a.key ≢ b.key) rows
  distinct_by_sorting rows keys sorted same moved many up =
      let texts = map (λ (row : Row). row.key) rows in
      let long : length sorted ≡ length rows =
      many ∙ sym (length-map keys f) ∙ ap length same ∙ length-map rows (λ (row : Row). row.key) in (
        λ e.
            let whole : dedup alike sorted ≡ sorted = none_goes alike sorted (e ∙ sym long) in
            let rises = IsStrictlySortedBy-dedup ordered (λ x y. sym (is_eq-slice_cmp (f x) (f y))) sorted up in
            let apart : IsDistinct alike sorted =
            subst (λ (e : K → K → Bool). IsDistinct e sorted) (fun_ext (λ x. fun_ext (λ y. is_eq-slice_cmp (f x) (f y))))
            (IsDistinct-from_sorted (λ (x y : K). slice_cmp nat_cmp (f x) (f y)) sorted
            (subst (IsStrictlySortedBy (λ (x y : K). slice_cmp nat_cmp (f x) (f y))) whole rises)) in
            let keys_are : IsDistinct alike keys =
            IsDistinct-IsPermutation alike flips sorted keys (IsPermutation-sym keys sorted moved) apart in
            rows_apart rows (AllPairs-from_IsDistinct bytes_eq-Decides texts (subst (IsDistinct bytes_eq) same (mapped f keys keys_are))),
        λ pairs.
            let apart : IsDistinct bytes_eq (map f keys) =
            subst (IsDistinct bytes_eq) (sym same) (IsDistinct-from_AllPairs bytes_eq-Decides texts (keys_apart rows pairs)) in
            let sorted_are : IsDistinct alike sorted = IsDistinct-IsPermutation alike flips keys sorted moved (given f keys apart) in
            ap length (all_stay alike flips sorted sorted_are) ∙ long,
      )
