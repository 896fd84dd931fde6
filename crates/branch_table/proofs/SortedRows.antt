-- The rows among places of different keys, sorted once, are the table.
-- Needed by `Places::rows`.
use Rattle.std.proofs.Common.{◌≡◌, ◌∙◌, ◌⊎◌, ℕ, suc, ◌+◌, Bool, true, false, ◌&&◌, cond, List, [], ◌∷◌, get_or, map, Option, Some, None}
use Rattle.std.proofs.Common.{refl, sym, ap, subst, arith, inl, inr}
use Rattle.std.specs.List.{AllByRecursion, IsDistinct, cons_option, list_any}
use Rattle.std.specs.List.Sorted.{IsSortedByKey, IsPermutation}
use Rattle.std.specs.Option.{option_map}
use Rattle.std.specs.Cmp.Lexicographic.{slice_cmp}
use Rattle.std.specs.Ordering.{nat_cmp, is_lt}
use Rattle.std.specs.Str.{bytes_eq}
use Rattle.std.proofs.lemmas.Bool.{and_from, and_parts, both_ways, or_cases, or_left, or_right}
use Rattle.std.proofs.lemmas.List.Sorted.{IsPermutation-map, list_any-IsPermutation}
use Rattle.std.proofs.lemmas.Map.Keys.{IsDistinct-IsPermutation}
use Rattle.std.proofs.lemmas.Slice.Eq.{bytes_eq-Decides}
use Rattle.protocol.specs.declared.rows.Row.{Row}
use Rattle.protocol.specs.Branches.{row_at}
use Rattle.protocol.proofs.TouchedKeys.{later_by}
use Rattle.branch_table.specs.Parts.{place_at, rows_in, table_of}
use Rattle.branch_table.proofs.TableRows.{AscendRows, Known, before_more, first_value, flipped, same_rows, table_ascends, table_at}

-- the keys of places, and of rows
abbrev pub keys_known : Known → List (List ℕ)
keys_known places = map (λ place. place.0) places

abbrev row_keys : List Row → List (List ℕ)
row_keys rows = map (λ row. row.key) rows

-- none of these keys is this one
abbrev AreOthers : List ℕ → List (List ℕ) → Type 0
AreOthers key keys = AllByRecursion (λ (other : List ℕ). bytes_eq key other ≡ false) keys

-- the row of a key, if it has one, before other rows
abbrev front : List ℕ → Option (List ℕ) → List Row → List Row
front key value rows = cons_option (option_map (λ (v : List ℕ). record { key = key; value = v }) value) rows

-- ---- the rows among places are of different keys

others_apart : (key : List ℕ) (places : Known) → AreOthers key (keys_known places) → AreOthers key (row_keys (rows_in places))
others_apart key [] apart = tt
others_apart key (place ∷ places) apart = by place.1.value (others_apart key places apart.1)
  where
    by : (value : Option (List ℕ)) → AreOthers key (row_keys (rows_in places))
        → AreOthers key (row_keys (front place.0 value (rows_in places)))
    by None rest = rest
    by (Some v) rest = (apart.0, rest)

rows_apart : (places : Known) → IsDistinct bytes_eq (keys_known places) → IsDistinct bytes_eq (row_keys (rows_in places))
unfolding IsDistinct
rows_apart [] apart = apart
rows_apart (place ∷ places) apart = by place.1.value (others_apart place.0 places apart.0) (rows_apart places apart.1)
  where
    by : (value : Option (List ℕ)) → AreOthers place.0 (row_keys (rows_in places)) → IsDistinct bytes_eq (row_keys (rows_in places))
        → IsDistinct bytes_eq (row_keys (front place.0 value (rows_in places)))
    by None others rest = rest
    by (Some v) others rest = (others, rest)

-- ---- what they have at a key is what is known of it

absent_row : (key : List ℕ) (rows : List Row) → AreOthers key (row_keys rows) → row_at rows key ≡ None
absent_row key [] others = refl
absent_row key (row ∷ rows) others =
    ap (λ (b : Bool). cond b (Some row.value) (row_at rows key)) (flipped row.key key ∙ others.0) ∙ absent_row key rows others.1

row_in : (places : Known) (key : List ℕ) → IsDistinct bytes_eq (keys_known places)
    → row_at (rows_in places) key ≡ (place_at places key).value
unfolding IsDistinct
row_in [] key apart = refl
row_in (place ∷ places) key apart =
    by (bytes_eq key place.0) place.1.value refl (row_in places key apart.1) ∙ sym (first_value place places key)
  where
    by : (b : Bool) (value : Option (List ℕ)) → bytes_eq key place.0 ≡ b → row_at (rows_in places) key ≡ (place_at places key).value
        → row_at (front place.0 value (rows_in places)) key ≡ cond (bytes_eq key place.0) value (place_at places key).value
    by true None e rest =
        subst (λ (k : List ℕ). row_at (rows_in places) k ≡ None) (sym ((bytes_eq-Decides key place.0).0 e))
        (absent_row place.0 (rows_in places) (others_apart place.0 places apart.0))
        ∙ sym (ap (λ (t : Bool). cond t None (place_at places key).value) e)
    by true (Some v) e rest =
        ap (λ (t : Bool). cond t (Some v) (row_at (rows_in places) key)) (flipped place.0 key ∙ e)
        ∙ sym (ap (λ (t : Bool). cond t (Some v) (place_at places key).value) e)
    by false None e rest = rest ∙ sym (ap (λ (t : Bool). cond t None (place_at places key).value) e)
    by false (Some v) e rest =
        ap (λ (t : Bool). cond t (Some v) (row_at (rows_in places) key)) (flipped place.0 key ∙ e) ∙ rest
        ∙ sym (ap (λ (t : Bool). cond t (Some v) (place_at places key).value) e)

-- ---- in another order they have the same at each key

abbrev is_row_of : (key value : List ℕ) → Row → Bool
is_row_of key value row = bytes_eq row.key key && bytes_eq row.value value

found_to : (rows : List Row) (key value : List ℕ) → row_at rows key ≡ Some value → list_any (is_row_of key value) rows ≡ true
found_to [] key value found = absurd (cc (found))
found_to (row ∷ rows) key value found = by (bytes_eq row.key key) refl (found_to rows key value)
  where
    by : (b : Bool) → bytes_eq row.key key ≡ b → (row_at rows key ≡ Some value → list_any (is_row_of key value) rows ≡ true)
        → list_any (is_row_of key value) (row ∷ rows) ≡ true
    by true e rest =
        let here : Some row.value ≡ Some value = sym (ap (λ (t : Bool). cond t (Some row.value) (row_at rows key)) e) ∙ found in
        let same : row.value ≡ value = cc (here) in
        or_left (is_row_of key value row) (list_any (is_row_of key value) rows)
        (and_from (bytes_eq row.key key) (bytes_eq row.value value) e ((bytes_eq-Decides row.value value).1 same))
    by false e rest =
        or_right (is_row_of key value row) (list_any (is_row_of key value) rows)
        (rest (sym (ap (λ (t : Bool). cond t (Some row.value) (row_at rows key)) e) ∙ found))

found_from : (rows : List Row) (key value : List ℕ) → IsDistinct bytes_eq (row_keys rows)
    → list_any (is_row_of key value) rows ≡ true → row_at rows key ≡ Some value
unfolding IsDistinct
found_from [] key value apart found = absurd (cc (found))
found_from (row ∷ rows) key value apart found =
    by (bytes_eq row.key key) refl (or_cases (is_row_of key value row) (list_any (is_row_of key value) rows) found)
    (found_from rows key value apart.1)
  where
    by : (b : Bool) → bytes_eq row.key key ≡ b
        → (is_row_of key value row ≡ true) ⊎ (list_any (is_row_of key value) rows ≡ true)
        → (list_any (is_row_of key value) rows ≡ true → row_at rows key ≡ Some value)
        → cond (bytes_eq row.key key) (Some row.value) (row_at rows key) ≡ Some value
    by true e (inl here) rest =
        ap (λ (t : Bool). cond t (Some row.value) (row_at rows key)) e
        ∙ ap Some ((bytes_eq-Decides row.value value).0 (and_parts (bytes_eq row.key key) (bytes_eq row.value value) here).1)
    by true e (inr later) rest =
        let none = subst (λ (k : List ℕ). row_at rows k ≡ None) ((bytes_eq-Decides row.key key).0 e) (absent_row row.key rows apart.0) in
        let some = rest later in
        absurd (cc (none, some))
    by false e (inl here) rest =
        absurd (both_ways (bytes_eq row.key key) e (and_parts (bytes_eq row.key key) (bytes_eq row.value value) here).0)
    by false e (inr later) rest = ap (λ (t : Bool). cond t (Some row.value) (row_at rows key)) e ∙ rest later

same_found : (rows sorted : List Row) → IsDistinct bytes_eq (row_keys rows) → IsDistinct bytes_eq (row_keys sorted)
    → IsPermutation rows sorted → (key : List ℕ) → row_at sorted key ≡ row_at rows key
same_found rows sorted apart also moved key = by (row_at rows key) refl (row_at sorted key) refl
  where
    by : (o : Option (List ℕ)) → row_at rows key ≡ o → (p : Option (List ℕ)) → row_at sorted key ≡ p → row_at sorted key ≡ row_at rows key
    by (Some v) e p f =
        found_from sorted key v also (sym (list_any-IsPermutation (is_row_of key v) rows sorted moved) ∙ found_to rows key v e) ∙ sym e
    by None e None f = f ∙ sym e
    by None e (Some v) f =
        let found = found_from rows key v apart (list_any-IsPermutation (is_row_of key v) rows sorted moved ∙ found_to sorted key v f) in
        absurd (cc (e, found))

-- ---- sorted by their keys they ascend

sorted_ascend : (rows : List Row) → IsSortedByKey (λ (row : Row). row.key) (slice_cmp nat_cmp) rows → IsDistinct bytes_eq (row_keys rows)
    → AscendRows rows
unfolding IsDistinct
sorted_ascend [] sorted apart = tt
sorted_ascend (row ∷ []) sorted apart = (tt, tt)
sorted_ascend (row ∷ next ∷ rows) sorted apart =
    let cmp = slice_cmp nat_cmp in
    let less = later_by row.key next.key (cmp next.key row.key) refl apart.0.0
    (sorted 0 row (omega arith) (omega arith)) in
    let rest = sorted_ascend (next ∷ rows)
    (λ k d le lt.
    let more : suc k + 1 ≡ suc (k + 1) = omega arith in
    subst (λ (n : ℕ). is_lt (cmp (get_or (row ∷ next ∷ rows) n d).key (get_or (row ∷ next ∷ rows) (suc k) d).key) ≡ false) more
    (sorted (suc k) d (omega arith) (omega (arith, lt)))) apart.1 in
    ((less, before_more row.key next.key rows less rest.0), rest)

-- sorted by their keys, the rows of places are the table
pub sorted_table : (places : Known) (sorted : List Row) → IsDistinct bytes_eq (keys_known places)
    → IsPermutation (rows_in places) sorted → IsSortedByKey (λ (row : Row). row.key) (slice_cmp nat_cmp) sorted → sorted ≡ table_of places
sorted_table places sorted apart moved ordered =
    let rows = rows_apart places apart in
    let also = IsDistinct-IsPermutation bytes_eq flipped (row_keys (rows_in places)) (row_keys sorted)
    (IsPermutation-map (λ (row : Row). row.key) (rows_in places) sorted moved) rows in
    same_rows sorted (table_of places) (sorted_ascend sorted ordered also) (table_ascends places)
    (λ key. same_found (rows_in places) sorted rows also moved key ∙ row_in places key apart ∙ sym (table_at places key))
