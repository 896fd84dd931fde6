-- The rows of a resource manager's table keep the limits of keys and values, and ascend.
use Rattle.std.proofs.Common.{◌≡◌, Bool, true, not, List, [], ◌∷◌, Option, Some, None, refl, ap, subst, ℕ}
use Rattle.std.specs.Prelude.{filter, filter_map, find, fold}
use Rattle.std.specs.Cmp.Lexicographic.{slice_cmp}
use Rattle.std.specs.List.{AllByRecursion}
use Rattle.std.specs.Option.{option_map_or}
use Rattle.std.specs.Ordering.{nat_cmp, is_lt}
use Rattle.std.specs.Str.{bytes_eq}
use Rattle.std.proofs.lemmas.Bool.{and_from, cond_both}
use Rattle.std.proofs.lemmas.List.Elements.{All-from_recursion}
use Rattle.xid.specs.Transactions.{TxParts, tx_eq}
use Rattle.ballot.specs.Greatest.{IsIn}
use Rattle.stable_record.specs.Facts.{IsFact, IsTouched, IsAct, IsKey}
use Rattle.stable_record.specs.declared.fact.Act.{Act}
use Rattle.stable_record.specs.declared.fact.FactKind.{FactKind as Fact}
use Rattle.stable_record.specs.declared.fact.Touched.{Touched}
use Rattle.protocol.specs.declared.rows.Row.{Row}
use Rattle.protocol.specs.Facts.{Bound, branch_bound_by}
use Rattle.protocol.specs.Tables.{commit_of, keys_voted, put_row, rows_after, table, with_writes}
use Rattle.protocol.proofs.Lists.{filter_map_given, found_among}
use Rattle.protocol.proofs.Manager.Apart.{bound_is}
use Rattle.branch_table.proofs.TableRows.{AscendRows, first_ascend, writes_ascend}
use Rattle.net_script.specs.Items.{IsRow}
use Rattle.net_script.specs.TraceLines.{are_ascending, AreFinalRows}

-- each row keeps the limits
abbrev pub KeepLimits : List Row → Type 0
KeepLimits rows = AllByRecursion IsRow rows

-- ---- what keeps the limits

put_keeps : (rows : List Row) (row : Row) → KeepLimits rows → IsRow row → KeepLimits (put_row rows row)
put_keeps [] row are is = (is, tt)
put_keeps (first ∷ rows) row are is =
    cond_both (bytes_eq first.key row.key) _ _ KeepLimits (λ same. (is, are.1))
    (λ other. cond_both (is_lt (slice_cmp nat_cmp row.key first.key)) _ _ KeepLimits (λ before. (is, are))
    (λ after. (are.0, put_keeps rows row are.1 is)))

taken_keep : (p : Row → Bool) (rows : List Row) → KeepLimits rows → KeepLimits (filter p rows)
taken_keep p [] are = tt
taken_keep p (row ∷ rows) are =
    cond_both (p row) (row ∷ filter p rows) (filter p rows) KeepLimits (λ passes. (are.0, taken_keep p rows are.1))
    (λ fails. taken_keep p rows are.1)

act_keeps : (rows : List Row) (key : List ℕ) (act : Act) → KeepLimits rows → IsKey key → IsAct act → KeepLimits (rows_after rows key act)
act_keeps rows key Act.Read are is fits = are
act_keeps rows key (Act.Put value) are is fits =
    put_keeps rows (record { key = key; value = value }) are (record { key = is; value = fits })
act_keeps rows key Act.Del are is fits = taken_keep (λ (row : Row). not (bytes_eq row.key key)) rows are

writes_keep : (rows : List Row) (keys : List Touched) → KeepLimits rows → AllByRecursion IsTouched keys → KeepLimits (with_writes rows keys)
writes_keep rows [] are fit = are
writes_keep rows (touched ∷ keys) are fit =
    writes_keep (rows_after rows touched.key touched.act) keys
    (act_keeps rows touched.key touched.act are fit.0.key fit.0.act) fit.1

pub puts_keep : (before rows : List Row) → KeepLimits before → KeepLimits rows → KeepLimits (fold put_row before rows)
puts_keep before [] are more = are
puts_keep before (row ∷ rows) are more = puts_keep (put_row before row) rows (put_keeps before row are more.0) more.1

-- rows whose keys ascend, as a reader asks
ascending : (rows : List Row) → AscendRows rows → are_ascending rows ≡ true
ascending [] are = refl
ascending (row ∷ []) are = refl
ascending (row ∷ next ∷ rows) are =
    and_from (is_lt (slice_cmp nat_cmp row.key next.key)) (are_ascending (next ∷ rows)) (ap is_lt are.0.0) (ascending (next ∷ rows) are.1)

-- ---- a table

module _ (facts : List Fact) (stored : (fact : Fact) → IsIn facts fact → IsFact fact) where
  pub bound_fits : (bound : Bound) → IsIn facts (Fact.VotePrepared bound.tx bound.keys) → AllByRecursion IsTouched bound.keys
  bound_fits bound h = (stored (Fact.VotePrepared bound.tx bound.keys) h).1.each

  keys_by : (tx : TxParts) (o : Option Bound) → find (λ bound. tx_eq tx bound.tx) (filter_map branch_bound_by facts) ≡ o
      → AllByRecursion IsTouched (option_map_or (λ (bound : Bound). bound.keys) o [])
  keys_by tx None e = tt
  keys_by tx (Some bound) e =
      let found = found_among (λ (b : Bound). tx_eq tx b.tx) (filter_map branch_bound_by facts) bound e in
      let given = filter_map_given branch_bound_by facts bound found.0 in
      bound_fits bound (subst (IsIn facts) (bound_is given.source bound given.gives) given.among)

  keys_fit : (tx : TxParts) → AllByRecursion IsTouched (keys_voted facts tx)
  keys_fit tx = keys_by tx (find (λ bound. tx_eq tx bound.tx) (filter_map branch_bound_by facts)) refl

  commits_keep : (rows : List Row) (txs : List TxParts) → KeepLimits rows
      → KeepLimits (fold (λ before tx. with_writes before (keys_voted facts tx)) rows txs)
  commits_keep rows [] are = are
  commits_keep rows (tx ∷ txs) are =
      commits_keep (with_writes rows (keys_voted facts tx)) txs (writes_keep rows (keys_voted facts tx) are (keys_fit tx))

  pub table_keeps : (first : List Row) → KeepLimits first → KeepLimits (table first facts)
  table_keeps first are = commits_keep (fold put_row [] first) (filter_map commit_of facts) (puts_keep [] first tt are)

  commits_ascend : (rows : List Row) (txs : List TxParts) → AscendRows rows
      → AscendRows (fold (λ before tx. with_writes before (keys_voted facts tx)) rows txs)
  commits_ascend rows [] are = are
  commits_ascend rows (tx ∷ txs) are =
      commits_ascend (with_writes rows (keys_voted facts tx)) txs (writes_ascend rows (keys_voted facts tx) are)

  pub table_is_final : (first : List Row) → KeepLimits first → AreFinalRows (table first facts)
  table_is_final first are = record {
    each = All-from_recursion IsRow (table first facts) (table_keeps first are);
    ascending = ascending (table first facts)
        (commits_ascend (fold put_row [] first) (filter_map commit_of facts) (first_ascend [] first tt));
  }
