-- Rows stay within the limits.
-- Needed by `Places::leave` and `Places::put`; PlaceTable.
use Rattle.std.proofs.Common.{◌≡◌, ℕ, Bool, true, not, ◌&&◌, nat_lt, nat_le, cond, List, [], ◌∷◌, length, refl}
use Rattle.std.specs.Prelude.{filter}
use Rattle.std.specs.Ordering.{nat_cmp, is_lt}
use Rattle.std.specs.Cmp.Lexicographic.{slice_cmp}
use Rattle.std.specs.Str.{bytes_eq}
use Rattle.std.proofs.lemmas.Bool.{and_from, and_parts, cond_both, le-leb, lt-ltb}
use Rattle.xid.specs.Limits.{most_key, most_value}
use Rattle.stable_record.specs.declared.fact.Act.{Act}
use Rattle.stable_record.specs.Facts.{IsKey, IsValue}
use Rattle.protocol.specs.declared.rows.Row.{Row}
use Rattle.protocol.specs.Tables.{put_row, rows_after}
use Rattle.branch_table.specs.TableStates.{are_rows, is_row}

-- a key and a value that fit make a row that does
pub row_fits : (key value : List ℕ) → IsKey key → IsValue value → is_row (record { key = key; value = value }) ≡ true
row_fits key value k v =
    and_from (nat_lt 0 (length key) && nat_le (length key) most_key) (nat_le (length value) most_value)
    (and_from (nat_lt 0 (length key)) (nat_le (length key) most_key) (lt-ltb 0 (length key) k.some) (le-leb (length key) most_key k.few))
    (le-leb (length value) most_value v.few)

-- rows with one more that is put
pub put_fits : (rows : List Row) (row : Row) → are_rows rows ≡ true → is_row row ≡ true → are_rows (put_row rows row) ≡ true
put_fits [] row are is = and_from (is_row row) true is refl
put_fits (first ∷ rows) row are is =
    let parts = and_parts (is_row first) (are_rows rows) are in
    cond_both (bytes_eq first.key row.key) (row ∷ rows)
    (cond (is_lt (slice_cmp nat_cmp row.key first.key)) (row ∷ first ∷ rows) (first ∷ put_row rows row)) (λ rs. are_rows rs ≡ true)
    (λ same. and_from (is_row row) (are_rows rows) is parts.1)
    (λ other. cond_both (is_lt (slice_cmp nat_cmp row.key first.key)) (row ∷ first ∷ rows) (first ∷ put_row rows row)
    (λ rs. are_rows rs ≡ true)
    (λ before. and_from (is_row row) (are_rows (first ∷ rows)) is are)
    (λ after. and_from (is_row first) (are_rows (put_row rows row)) parts.0 (put_fits rows row parts.1 is)))

-- some of the rows
pub kept_fit : (p : Row → Bool) (rows : List Row) → are_rows rows ≡ true → are_rows (filter p rows) ≡ true
kept_fit p [] are = refl
kept_fit p (first ∷ rows) are =
    let parts = and_parts (is_row first) (are_rows rows) are in
    cond_both (p first) (first ∷ filter p rows) (filter p rows) (λ rs. are_rows rs ≡ true)
    (λ passes. and_from (is_row first) (are_rows (filter p rows)) parts.0 (kept_fit p rows parts.1))
    (λ fails. kept_fit p rows parts.1)

-- rows after an act, whose value fits if it puts one
pub after_fit : (rows : List Row) (key : List ℕ) (act : Act)
    → ((value : List ℕ) → act ≡ Act.Put value → is_row (record { key = key; value = value }) ≡ true)
    → are_rows rows ≡ true → are_rows (rows_after rows key act) ≡ true
after_fit rows key Act.Read fits are = are
after_fit rows key (Act.Put value) fits are = put_fits rows (record { key = key; value = value }) are (fits value refl)
after_fit rows key Act.Del fits are = kept_fit (λ row. not (bytes_eq row.key key)) rows are
