-- The rows that stand behind a snapshot.
-- Needed by `take_rows`, `take_snapshot` and the code of `snapshots`; Loading.
use Rattle.std.proofs.Common.{◌≡◌, ◌∙◌, ℕ, suc, ◌-◌, Bool, true, false, ◌&&◌, List, [], ◌∷◌, ◌++◌, refl, sym, ap, subst, append_assoc}
use Rattle.std.proofs.Common.{append-nil, inl, inr, arith, length-append}
use Rattle.std.specs.Prelude.{◌⊎◌, map, Option, Some, length, slice_get}
use Rattle.std.specs.Option.{option_map_or}
use Rattle.std.specs.List.{list_all}
use Rattle.std.specs.Cmp.Lexicographic.{slice_cmp}
use Rattle.std.specs.Ordering.{nat_cmp, is_lt}
use Rattle.std.proofs.lemmas.Bool.{and_parts, and_from, both_ways}
use Rattle.std.proofs.lemmas.List.{map-append}
use Rattle.std.proofs.lemmas.List.Folds.{list_all-append}
use Rattle.xid.specs.declared.refusals.Refusal.{Refusal}
use Rattle.xid.specs.declared.refusals.Refusal.TheVariants.{Damaged, NoMemory}
use Rattle.stable_record.specs.declared.entry.EntryKind.{EntryKind as Entry}
use Rattle.stable_record.specs.declared.entry.EntryKind.TheVariants as entries
use Rattle.stable_record.specs.Grammar.{IsStored, IsFramed, HasNoFrame}
use Rattle.stable_record.proofs.Framed.{framed_same, nothing_stored}
use Rattle.protocol.specs.declared.rows.Row.{Row}
use Rattle.resource_manager.specs.Compacted.{row_entry, are_ascending, is_about_tx}
use Rattle.branch_table.specs.TableStates.{is_row}
use Rattle.node_core.specs.Opening.{IsReadUpTo, row_of, is_snapshot, may_follow, AreRowsTo, AreAllRows, IsSnapshot, TakesNothing}
use Rattle.node_core.proofs.Reading.{nothing_read, read_more, read_both, damaged_on}

-- ---- one row

-- the entry of which this is the row
pub entry_of_row : (entry : Entry) (row : Row) → row_of entry ≡ Some row → entry ≡ row_entry row
entry_of_row (entries.Row key value) row is =
    let whole : Some (record { key = key; value = value }) ≡ Some row = is in
    let same : record { key = key; value = value } ≡ row = cc (whole) in
    ap row_entry same
entry_of_row (entries.Fact fact) row is = absurd (cc (is))
entry_of_row entries.Snapshot row is = absurd (cc (is))
entry_of_row (entries.PastCommitted tx) row is = absurd (cc (is))
entry_of_row (entries.PastAborted tx) row is = absurd (cc (is))

-- an entry has one row
pub same_row : (a b : Row) → row_entry a ≡ row_entry b → a ≡ b
same_row a b is =
    let whole : Some a ≡ Some b = ap row_of is in
    cc (whole)

-- ---- ascending keys

-- a row that may follow ascending ones ascends with them
ascending_then : (rows : List Row) (row : Row) → are_ascending rows ≡ true → may_follow rows row ≡ true
    → are_ascending (rows ++ row ∷ []) ≡ true
ascending_then [] row a f = refl
ascending_then (last ∷ []) row a f = and_from (is_lt (slice_cmp nat_cmp last.key row.key)) true f refl
ascending_then (first ∷ second ∷ rows) row a f =
    let p = and_parts (is_lt (slice_cmp nat_cmp first.key second.key)) (are_ascending (second ∷ rows)) a in
    and_from (is_lt (slice_cmp nat_cmp first.key second.key)) (are_ascending ((second ∷ rows) ++ row ∷ [])) p.0
    (ascending_then (second ∷ rows) row p.1 f)

-- among ascending rows each may follow those before it
follows_among : (rows : List Row) (row : Row) (later : List Row) → are_ascending (rows ++ row ∷ later) ≡ true → may_follow rows row ≡ true
follows_among [] row later a = refl
follows_among (last ∷ []) row later a =
    (and_parts (is_lt (slice_cmp nat_cmp last.key row.key)) (are_ascending (row ∷ later)) a).0
follows_among (first ∷ second ∷ rows) row later a =
    follows_among (second ∷ rows) row later
    (and_parts (is_lt (slice_cmp nat_cmp first.key second.key)) (are_ascending ((second ∷ rows) ++ row ∷ later)) a).1

-- whether a row may follow others is asked of the last of them
pub follows_last : (rows : List Row) (row : Row) → may_follow rows row
    ≡ option_map_or (λ (last : Row). is_lt (slice_cmp nat_cmp last.key row.key)) (slice_get rows (length rows - 1)) true
follows_last [] row = refl
follows_last (last ∷ []) row = refl
follows_last (first ∷ second ∷ rows) row =
    let test : Option Row → Bool = λ o. option_map_or (λ (last : Row). is_lt (slice_cmp nat_cmp last.key row.key)) o true in
    let less : length (second ∷ rows) - 1 ≡ length rows = omega arith in
    let more : length (first ∷ second ∷ rows) - 1 ≡ suc (length rows) = omega arith in
    follows_last (second ∷ rows) row ∙ ap (λ k. test (slice_get (second ∷ rows) k)) less
    ∙ ap (λ k. test (slice_get (first ∷ second ∷ rows) k)) (sym more)

-- ---- rows that were read

module _ (bytes rest after : List ℕ) (rows : List Row) (entry : Entry) (h : AreRowsTo bytes rest rows) (framed : IsFramed entry rest after)
  where
    -- one row more stands behind those that were read
    pub rows_on : (row : Row) → row_of entry ≡ Some row → may_follow rows row ≡ true → is_row row ≡ true
        → AreRowsTo bytes after (rows ++ row ∷ [])
    rows_on row is follows short =
        let all : map row_entry rows ++ entry ∷ [] ≡ map row_entry (rows ++ row ∷ []) =
        ap (λ e. map row_entry rows ++ e ∷ []) (entry_of_row entry row is) ∙ sym (map-append row_entry rows (row ∷ [])) in
        record {
          up_to = subst (IsReadUpTo bytes after) all (read_more bytes rest after (map row_entry rows) entry h.up_to framed);
          ascending = ascending_then rows row h.ascending follows;
          short = list_all-append is_row rows (row ∷ [])
              ∙ and_from (list_all is_row rows) (is_row row && true) h.short (and_from (is_row row) true short refl);
        }

    -- it is a row that may not follow
    pub rows_break : (row : Row) → row_of entry ≡ Some row → may_follow rows row ≡ false → AreAllRows bytes rest rows
    rows_break row is not = record {
      read = h;
      last = λ other left framed_other.
          let same = (framed_same entry (row_entry other) rest after left framed framed_other).0 in
          let a : row_of entry ≡ Some other = ap row_of same in
          let b : Some row ≡ Some other = sym is ∙ a in
          let c : row ≡ other = cc (b) in
          subst (λ r. may_follow rows r ≡ false) c not;
    }

-- rows whose reading was refused leave nothing taken
pub rows_none : (bytes rest : List ℕ) (rows : List Row) (e : Refusal) → AreRowsTo bytes rest rows
    → ((e ≡ Damaged) × HasNoFrame rest) ⊎ (e ≡ NoMemory) → TakesNothing bytes e
rows_none bytes rest rows e h (inl is) = inl (is.0, damaged_on bytes rest (map row_entry rows) h.up_to (nothing_stored rest is.1))
rows_none bytes rest rows e h (inr is) = inr is

-- ---- the snapshot

-- rows are known by their entries, up to what is about transactions
same_rows : (seen others rows : List Row) (later more : List Entry) → map row_entry others ++ later ≡ map row_entry rows ++ more
    → list_all is_about_tx later ≡ true
    → ((row : Row) (left : List Entry) → more ≡ row_entry row ∷ left → may_follow (seen ++ rows) row ≡ false)
    → are_ascending (seen ++ others) ≡ true → (others ≡ rows) × (later ≡ more)
same_rows seen [] [] later more is about last ascending = (refl, is)
same_rows seen [] (r ∷ rows) later more is about last ascending =
    let a : list_all is_about_tx (row_entry r ∷ (map row_entry rows ++ more)) ≡ true =
    subst (λ es. list_all is_about_tx es ≡ true) is about in
    absurd (cc (a))
same_rows seen (o ∷ others) [] later more is about last ascending =
    let f = last o (map row_entry others ++ later) (sym is) in
    let g : may_follow seen o ≡ false = subst (λ rs. may_follow rs o ≡ false) (append-nil seen) f in
    absurd (both_ways (may_follow seen o) g (follows_among seen o others ascending))
same_rows seen (o ∷ others) (r ∷ rows) later more is about last ascending =
    let whole : row_entry o ∷ (map row_entry others ++ later) ≡ row_entry r ∷ (map row_entry rows ++ more) = is in
    let head : row_entry o ≡ row_entry r = cc (whole) in
    let rest : map row_entry others ++ later ≡ map row_entry rows ++ more = cc (whole) in
    let same = same_row o r head in
    let s = same_rows (seen ++ o ∷ []) others rows later more rest about
    (λ row left e. subst (λ rs. may_follow rs row ≡ false)
    (ap (λ x. seen ++ x ∷ rows) (sym same) ∙ sym (append_assoc seen (o ∷ []) rows)) (last row left e))
    (subst (λ rs. are_ascending rs ≡ true) (sym (append_assoc seen (o ∷ []) others)) ascending) in
    ((λ i. same i ∷ s.0 i), s.1)

-- what is stored begins with a frame
framed_front : (bytes : List ℕ) (entry : Entry) (left : List Entry) (tail : List ℕ) → IsStored bytes (entry ∷ left) tail
    → (after : List ℕ) × IsFramed entry bytes after
framed_front bytes entry left tail stored = (stored.0, stored.1)

module _ (bytes after : List ℕ) (entry : Entry) (framed : IsFramed entry bytes after) where
  snapshot_is : (e : Entry) → is_snapshot e ≡ true → e ≡ entries.Snapshot
  snapshot_is entries.Snapshot h = refl
  snapshot_is (entries.Fact fact) h = absurd (cc (h))
  snapshot_is (entries.Row key value) h = absurd (cc (h))
  snapshot_is (entries.PastCommitted tx) h = absurd (cc (h))
  snapshot_is (entries.PastAborted tx) h = absurd (cc (h))

  -- a snapshot with all its rows was taken
  pub taken_snapshot : is_snapshot entry ≡ true → (rest : List ℕ) (rows : List Row) → AreAllRows after rest rows
      → IsSnapshot bytes rest rows
  taken_snapshot is rest rows h =
      let first : IsReadUpTo bytes after (entries.Snapshot ∷ []) =
      subst (λ e. IsReadUpTo bytes after (e ∷ [])) (snapshot_is entry is)
      (read_more bytes bytes after [] entry (nothing_read bytes) framed) in
      let both : IsReadUpTo bytes rest (entries.Snapshot ∷ map row_entry rows) =
      read_both bytes after rest (entries.Snapshot ∷ []) (map row_entry rows) first h.read.up_to in
      let all : length bytes ≡ length (both.place.0 ++ rest) = ap length both.place.1 in
      record {
        few = omega (arith, all, length-append both.place.0 rest);
        up_to = both;
        ascending = h.read.ascending;
        short = h.read.short;
        only = λ all tail others facts stored c.
            let came = both.came all tail stored in
            let whole : entries.Snapshot ∷ (map row_entry others ++ c.later) ≡ entries.Snapshot ∷ (map row_entry rows ++ came.0) =
            sym c.all_is ∙ came.1 in
            let is : map row_entry others ++ c.later ≡ map row_entry rows ++ came.0 = cc (whole) in
            let same = same_rows [] others rows c.later came.0 is c.about
            (λ row left e.
            let front = framed_front rest (row_entry row) left tail (subst (λ es. IsStored rest es tail) e came.2) in
            h.last row front.0 front.1)
            c.ascending in
            (same.0, subst (λ es. IsStored rest es tail) (sym same.1) came.2);
      }

  -- a snapshot behind which nothing could be taken is none
  pub snapshot_damaged : (e : Refusal) → TakesNothing after e → TakesNothing bytes e
  snapshot_damaged e (inl is) =
      inl (is.0, damaged_on bytes after (entry ∷ []) (read_more bytes bytes after [] entry (nothing_read bytes) framed) is.1)
  snapshot_damaged e (inr is) = inr is

-- where its frame can't be read, nothing is taken
pub nothing_taken : (bytes : List ℕ) (e : Refusal) → ((e ≡ Damaged) × HasNoFrame bytes) ⊎ (e ≡ NoMemory) → TakesNothing bytes e
nothing_taken bytes e (inl is) = inl (is.0, nothing_stored bytes is.1)
nothing_taken bytes e (inr is) = inr is
