-- The rows of an ordered map, and what a change of one entry makes of them.
use Rattle.std.proofs.Common.{◌≡◌, ◌∙◌, ℕ, Bool, true, false, not, cond, List, [], ◌∷◌, Some, refl, sym, ap, subst}
use Rattle.std.specs.Prelude.{filter}
use Rattle.std.specs.List.{AllByRecursion}
use Rattle.std.specs.List.Sorted.{IsStrictlySortedBy}
use Rattle.std.specs.Map.{lookup, remove_entry, keys_of}
use Rattle.std.specs.BTreeMap.{insert_entry}
use Rattle.std.specs.Cmp.Lexicographic.{slice_cmp}
use Rattle.std.specs.Ordering.{nat_cmp, is_eq, match_ordering}
use Rattle.std.specs.Str.{bytes_eq}
use Rattle.std.specs.declared.cmp.Ordering.{Ordering}
use Rattle.std.specs.declared.cmp.Ordering.TheVariants.{Less, Equal, Greater}
use Rattle.std.proofs.lemmas.Bool.Decides.{same_from_decides}
use Rattle.std.proofs.lemmas.Map.Text.{is_eq-slice_cmp}
use Rattle.std.proofs.lemmas.Slice.Eq.{bytes_eq-Decides}
use Rattle.safety.specs.Vocabulary.{Row}
use Rattle.protocol.specs.Branches.{row_at}
use Rattle.protocol.specs.Tables.{put_row}
use Rattle.audit.specs.Books.{rows_in}

abbrev cmp : List ℕ → List ℕ → Ordering
cmp = slice_cmp nat_cmp

pub flipped : (x y : List ℕ) → bytes_eq x y ≡ bytes_eq y x
flipped x y =
    let here = bytes_eq-Decides x y in
    let there = bytes_eq-Decides y x in
    same_from_decides _ _ here ((λ e. sym (there.0 e)), (λ e. there.1 (sym e)))

-- a key that is compared is equal, or isn't
same_by : (x y : List ℕ) (o : Ordering) → cmp x y ≡ o → bytes_eq x y ≡ is_eq o
same_by x y o e = sym (is_eq-slice_cmp x y) ∙ ap is_eq e

abbrev pub row_of : List ℕ → List ℕ → Row
row_of key value = record { key = key; value = value }

module _ {K : Type 0} (f : K → List ℕ) where
  abbrev pub Entries : Type 0
  Entries = List (K × List ℕ)

  abbrev pub key_cmp : K → K → Ordering
  key_cmp x y = cmp (f x) (f y)

  -- all keys come after this one
  abbrev AreAfter : List ℕ → Entries → Type 0
  AreAfter k es = AllByRecursion (λ (y : K). cmp k (f y) ≡ Less) (keys_of es)

  sorted_head : (e : K × List ℕ) (es : Entries) → IsStrictlySortedBy key_cmp (keys_of (e ∷ es)) → AreAfter (f e.0) es
  unfolding IsStrictlySortedBy
  sorted_head e es sorted = sorted.0

  sorted_tail : (e : K × List ℕ) (es : Entries) → IsStrictlySortedBy key_cmp (keys_of (e ∷ es)) → IsStrictlySortedBy key_cmp (keys_of es)
  unfolding IsStrictlySortedBy
  sorted_tail e es sorted = sorted.1

  -- ---- what is read

  pub row_found : (q : List ℕ) (es : Entries) → row_at (rows_in f es) q ≡ lookup (λ k. is_eq (cmp q (f k))) es
  row_found q [] = refl
  row_found q ((x, v) ∷ es) = rw (flipped (f x) q, is_eq-slice_cmp q (f x)) (by (bytes_eq q (f x)) (row_found q es))
    where
      by : (b : Bool) → row_at (rows_in f es) q ≡ lookup (λ k. is_eq (cmp q (f k))) es
          → cond b (Some v) (row_at (rows_in f es) q) ≡ cond b (Some v) (lookup (λ k. is_eq (cmp q (f k))) es)
      by true rest = refl
      by false rest = rest

  -- ---- a row is put

  pub row_put : (k : K) (v : List ℕ) (es : Entries)
      → rows_in f (insert_entry key_cmp es k v) ≡ put_row (rows_in f es) (row_of (f k) v)
  row_put k v [] = refl
  row_put k v ((x, w) ∷ es) = by (cmp (f k) (f x)) refl (row_put k v es)
    where
      by : (o : Ordering) → cmp (f k) (f x) ≡ o → rows_in f (insert_entry key_cmp es k v) ≡ put_row (rows_in f es) (row_of (f k) v)
          → rows_in f (match_ordering o ((k, v) ∷ (x, w) ∷ es) ((x, v) ∷ es) ((x, w) ∷ insert_entry key_cmp es k v))
          ≡ put_row (row_of (f x) w ∷ rows_in f es) (row_of (f k) v)
      by Less e rest = rw (flipped (f x) (f k), same_by (f k) (f x) Less e, e) refl
      by Equal e rest =
          rw (flipped (f x) (f k), same_by (f k) (f x) Equal e)
          (ap (λ key. row_of key v ∷ rows_in f es) (sym ((bytes_eq-Decides (f k) (f x)).0 (same_by (f k) (f x) Equal e))))
      by Greater e rest =
          rw (flipped (f x) (f k), same_by (f k) (f x) Greater e, e)
          (ap (λ rows. row_of (f x) w ∷ rows) rest)

  -- ---- a row is taken out

  none_filtered : (q : List ℕ) (es : Entries) → AreAfter q es
      → filter (λ row. not (bytes_eq row.key q)) (rows_in f es) ≡ rows_in f es
  none_filtered q [] after = refl
  none_filtered q ((x, v) ∷ es) after =
      rw (flipped (f x) q, same_by q (f x) Less after.0) (ap (λ rows. row_of (f x) v ∷ rows) (none_filtered q es after.1))

  pub row_removed : (q : List ℕ) (es : Entries) → IsStrictlySortedBy key_cmp (keys_of es)
      → rows_in f (remove_entry (λ k. is_eq (cmp q (f k))) es) ≡ filter (λ row. not (bytes_eq row.key q)) (rows_in f es)
  row_removed q [] sorted = refl
  row_removed q ((x, v) ∷ es) sorted =
      by (bytes_eq q (f x)) refl (sorted_head (x, v) es sorted) (row_removed q es (sorted_tail (x, v) es sorted))
    where
      after : bytes_eq q (f x) ≡ true → AreAfter (f x) es → AreAfter q es
      after e up = subst (λ k. AreAfter k es) (sym ((bytes_eq-Decides q (f x)).0 e)) up

      by : (b : Bool) → bytes_eq q (f x) ≡ b → AreAfter (f x) es
          → rows_in f (remove_entry (λ k. is_eq (cmp q (f k))) es) ≡ filter (λ row. not (bytes_eq row.key q)) (rows_in f es)
          → rows_in f (remove_entry (λ k. is_eq (cmp q (f k))) ((x, v) ∷ es))
          ≡ filter (λ row. not (bytes_eq row.key q)) (rows_in f ((x, v) ∷ es))
      by true e up rest = rw (is_eq-slice_cmp q (f x), flipped (f x) q, e) (sym (none_filtered q es (after e up)))
      by false e up rest =
          rw (is_eq-slice_cmp q (f x), flipped (f x) q, e) (ap (λ rows. row_of (f x) v ∷ rows) rest)
