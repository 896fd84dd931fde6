-- The rows of a table ascend by their keys, and stay as they are when they are put in order again.
-- Needed by Above and Shortened.
use Rattle.std.proofs.Common.{◌≡◌, ◌∙◌, ℕ, Bool, true, false, not, cond, List, [], ◌∷◌, ◌++◌, refl, sym, ap, subst, append-nil}
use Rattle.std.proofs.Common.{append_assoc}
use Rattle.std.specs.Prelude.{filter, filter_map, fold}
use Rattle.std.specs.Cmp.Lexicographic.{slice_cmp}
use Rattle.std.specs.Ordering.{nat_cmp, is_lt, is_eq, ordering_reverse}
use Rattle.std.specs.Str.{bytes_eq}
use Rattle.std.specs.declared.cmp.Ordering.{Ordering}
use Rattle.std.specs.declared.cmp.Ordering.TheVariants.{Less, Equal, Greater}
use Rattle.std.proofs.lemmas.Bool.{and_from, cond_both}
use Rattle.std.proofs.lemmas.Cmp.{nat_list_cmp_total}
use Rattle.std.proofs.lemmas.Map.Text.{is_eq-slice_cmp}
use Rattle.std.proofs.lemmas.Slice.Eq.{bytes_eq-Decides}
use Rattle.xid.specs.Transactions.{TxParts}
use Rattle.stable_record.specs.declared.fact.Act.{Act}
use Rattle.stable_record.specs.declared.fact.FactKind.{FactKind as Fact}
use Rattle.stable_record.specs.declared.fact.Touched.{Touched}
use Rattle.protocol.specs.declared.rows.Row.{Row}
use Rattle.protocol.specs.Tables.{commit_of, keys_voted, put_row, rows_after, table, with_writes}
use Rattle.protocol.proofs.TouchedKeys.{less_from}
use Rattle.resource_manager.specs.Compacted.{are_ascending}

abbrev cmp : List ℕ → List ℕ → Ordering
cmp = slice_cmp nat_cmp

-- all rows come after a key
abbrev AreAfter : List ℕ → List Row → Type 0
AreAfter key [] = Unit {0}
AreAfter key (row ∷ rows) = (cmp key row.key ≡ Less) × AreAfter key rows

-- each row comes before all that follow it
abbrev pub Ascend : List Row → Type 0
Ascend [] = Unit {0}
Ascend (row ∷ rows) = AreAfter row.key rows × Ascend rows

-- rows that ascend pass the test
pub ascending : (rows : List Row) → Ascend rows → are_ascending rows ≡ true
ascending [] are = refl
ascending (row ∷ []) are = refl
ascending (row ∷ next ∷ rows) are =
    and_from (is_lt (cmp row.key next.key)) (are_ascending (next ∷ rows)) (ap is_lt are.0.0) (ascending (next ∷ rows) are.1)

-- ---- what keeps the order

same_key : (x y : List ℕ) → bytes_eq x y ≡ true → x ≡ y
same_key x y e = (bytes_eq-Decides x y).0 e

after_before : (k l : List ℕ) (rows : List Row) → cmp k l ≡ Less → AreAfter l rows → AreAfter k rows
after_before k l [] less after = tt
after_before k l (row ∷ rows) less after = (nat_list_cmp_total.trans k l row.key less after.0, after_before k l rows less after.1)

-- of two keys one is before the other, or they are the same
less_by : (x y : List ℕ) (o : Ordering) → cmp x y ≡ o → is_lt (cmp x y) ≡ false → bytes_eq y x ≡ false → cmp y x ≡ Less
less_by x y Less e lt eq = absurd (cc (sym (ap is_lt e) ∙ lt))
less_by x y Equal e lt eq =
    absurd (cc (sym ((bytes_eq-Decides y x).1 (sym (same_key x y (sym (is_eq-slice_cmp x y) ∙ ap is_eq e)))) ∙ eq))
less_by x y Greater e lt eq = nat_list_cmp_total.antisymm y x ∙ ap ordering_reverse e

put_after : (key : List ℕ) (rows : List Row) (row : Row) → AreAfter key rows → cmp key row.key ≡ Less → AreAfter key (put_row rows row)
put_after key [] row after less = (less, tt)
put_after key (first ∷ rows) row after less =
    cond_both (bytes_eq first.key row.key) (row ∷ rows)
    (cond (is_lt (cmp row.key first.key)) (row ∷ first ∷ rows) (first ∷ put_row rows row))
    (AreAfter key) (λ same. (less, after.1))
    (λ other. cond_both (is_lt (cmp row.key first.key)) (row ∷ first ∷ rows) (first ∷ put_row rows row) (AreAfter key)
    (λ before. (less, after)) (λ not_before. (after.0, put_after key rows row after.1 less)))

put_ascends : (rows : List Row) (row : Row) → Ascend rows → Ascend (put_row rows row)
put_ascends [] row are = (tt, tt)
put_ascends (first ∷ rows) row are =
    cond_both (bytes_eq first.key row.key) (row ∷ rows)
    (cond (is_lt (cmp row.key first.key)) (row ∷ first ∷ rows) (first ∷ put_row rows row))
    Ascend (λ same. (subst (λ key. AreAfter key rows) (same_key first.key row.key same) are.0, are.1))
    (λ other. cond_both (is_lt (cmp row.key first.key)) (row ∷ first ∷ rows) (first ∷ put_row rows row) Ascend
    (λ before.
    let less = less_from (cmp row.key first.key) before in ((less, after_before row.key first.key rows less are.0), are))
    (λ not_before. (
      put_after first.key rows row are.0 (less_by row.key first.key (cmp row.key first.key) refl not_before other),
      put_ascends rows row are.1,
    )))

module _ (p : Row → Bool) where
  kept_after : (key : List ℕ) (rows : List Row) → AreAfter key rows → AreAfter key (filter p rows)
  kept_after key [] after = tt
  kept_after key (row ∷ rows) after =
      cond_both (p row) (row ∷ filter p rows) (filter p rows) (AreAfter key) (λ passes. (after.0, kept_after key rows after.1))
      (λ fails. kept_after key rows after.1)

  kept_ascends : (rows : List Row) → Ascend rows → Ascend (filter p rows)
  kept_ascends [] are = tt
  kept_ascends (row ∷ rows) are =
      cond_both (p row) (row ∷ filter p rows) (filter p rows) Ascend (λ passes. (kept_after row.key rows are.0, kept_ascends rows are.1))
      (λ fails. kept_ascends rows are.1)

written_ascends : (rows : List Row) (key : List ℕ) (act : Act) → Ascend rows → Ascend (rows_after rows key act)
written_ascends rows key Act.Read are = are
written_ascends rows key (Act.Put value) are = put_ascends rows (record { key = key; value = value }) are
written_ascends rows key Act.Del are = kept_ascends (λ row. not (bytes_eq row.key key)) rows are

writes_ascend : (rows : List Row) (keys : List Touched) → Ascend rows → Ascend (with_writes rows keys)
writes_ascend rows [] are = are
writes_ascend rows (touched ∷ keys) are =
    writes_ascend (rows_after rows touched.key touched.act) keys (written_ascends rows touched.key touched.act are)

commits_ascend : (facts : List Fact) (rows : List Row) (txs : List TxParts) → Ascend rows
    → Ascend (fold (λ before tx. with_writes before (keys_voted facts tx)) rows txs)
commits_ascend facts rows [] are = are
commits_ascend facts rows (tx ∷ txs) are =
    commits_ascend facts (with_writes rows (keys_voted facts tx)) txs (writes_ascend rows (keys_voted facts tx) are)

puts_ascend : (before rows : List Row) → Ascend before → Ascend (fold put_row before rows)
puts_ascend before [] are = are
puts_ascend before (row ∷ rows) are = puts_ascend (put_row before row) rows (put_ascends before row are)

-- the rows of a table ascend
pub table_ascends : (first : List Row) (facts : List Fact) → Ascend (table first facts)
table_ascends first facts = commits_ascend facts (fold put_row [] first) (filter_map commit_of facts) (puts_ascend [] first tt)

-- ---- rows in order

-- a row behind rows that are before it is put there
put_last : (rows : List Row) (row : Row) (more : List Row) → Ascend (rows ++ row ∷ more) → put_row rows row ≡ rows ++ row ∷ []
put_last [] row more are = refl
put_last (first ∷ rows) row more are =
    let less = first_less first.key rows are.0 in
    let apart : bytes_eq first.key row.key ≡ false = sym (is_eq-slice_cmp first.key row.key) ∙ ap is_eq less in
    let behind : is_lt (cmp row.key first.key) ≡ false =
    ap is_lt (nat_list_cmp_total.antisymm row.key first.key ∙ ap ordering_reverse less) in
    ap (λ t. cond t (row ∷ rows) (cond (is_lt (cmp row.key first.key)) (row ∷ first ∷ rows) (first ∷ put_row rows row))) apart
    ∙ ap (λ t. cond t (row ∷ first ∷ rows) (first ∷ put_row rows row)) behind ∙ ap (λ rs. first ∷ rs) (put_last rows row more are.1)
  where
    first_less : (key : List ℕ) (rs : List Row) → AreAfter key (rs ++ row ∷ more) → cmp key row.key ≡ Less
    first_less key [] after = after.0
    first_less key (r ∷ rs) after = first_less key rs after.1

again_behind : (before rows : List Row) → Ascend (before ++ rows) → fold put_row before rows ≡ before ++ rows
again_behind before [] are = sym (append-nil before)
again_behind before (row ∷ rows) are =
    let same = append_assoc before (row ∷ []) rows in
    ap (λ rs. fold put_row rs rows) (put_last before row rows are)
    ∙ again_behind (before ++ row ∷ []) rows (subst Ascend (sym same) are) ∙ same

-- rows in order are the same when they are put in order
pub put_again : (rows : List Row) → Ascend rows → fold put_row [] rows ≡ rows
put_again rows are = again_behind [] rows are
