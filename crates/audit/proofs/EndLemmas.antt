-- The first fault in the last rows: for `Judge::verdict`.
use Rattle.std.proofs.Common.{◌≡◌, ◌∙◌, ◌⊎◌, inl, inr, ℕ, ◌+◌, ◌-◌, ◌<◌, ◌≤◌, Bool, true, false, ◌&&◌, ◌||◌, eqb, ltb, List, [], ◌∷◌, ◌++◌}
use Rattle.std.proofs.Common.{length, map, suc, take, drop, Some, None, refl, sym, ap, subst, arith}
use Rattle.std.specs.Prelude.{filter}
use Rattle.std.specs.List.{flat_map}
use Rattle.std.proofs.lemmas.Bool.Decides.{nat_tests}
use Rattle.std.proofs.lemmas.Bool.{and_parts, ltb-true, ltb-false}
use Rattle.std.proofs.lemmas.List.{append_assoc, length-append, length-take-le, take_all, take-append-drop}
use Rattle.std.proofs.lemmas.List.Elements.{All-take}
use Rattle.transactions.proofs.First.{or_true}
use Rattle.safety.specs.Vocabulary.{Row}
use Rattle.net_script.specs.declared.trace_lines.TraceLine.TheVariants.{Contents}
use Rattle.net_script.specs.Traces.{head_text, entry_text, final_line, final_lines}
use Rattle.net_script.specs.TraceLines.{AreFinalRows, entry_lines, rows_lines, lines_of}
use Rattle.net_script.specs.TraceReading.{IsBegun}
use Rattle.history.specs.SerialOrder.{first_commits}
use Rattle.net_script.specs.declared.values.Trace.{Trace}
use Rattle.audit.specs.Told.{history_of}
use Rattle.audit.specs.Stretches.{stretches_back}
use Rattle.audit.specs.ToldTables.{first_tables, table_told, are_tables}
use Rattle.audit.specs.Consistent.{committed_back, is_order_kept, is_consistent, reads_are_serial, serial_table}
use Rattle.audit.specs.Books.{rows_of, stretch_of, has_committed, Reaches}
use Rattle.audit.specs.FloorBooks.{are_above}
use Rattle.audit.specs.Faults.{keeps, Tells, HasNoFault, IsFound}
use Rattle.audit.specs.declared.faults.Question.{Question}
use Rattle.audit.specs.declared.faults.Fault.{Fault}
use Rattle.audit.specs.declared.judge.Judge.{Judge}
use Rattle.audit.specs.Following.{Follows}
use Rattle.audit.specs.Noting.{HasNoted}
use Rattle.audit.proofs.FaultLemmas.{entries_right, both_kept, failed_by}
use Rattle.audit.proofs.SerialLemmas.{order_so}
use Rattle.audit.proofs.HearingLemmas.{wrong_trace}
use Rattle.audit.proofs.RowTests.{tables_fewer, tables_fail}

-- ---- a trace with fewer last rows

abbrev with_rows : Trace → ℕ → Trace
with_rows t n = record t { finals = take n t.finals }

rows_many : (n : ℕ) (fs : List (List Row)) → length (rows_lines n fs) ≡ length fs
rows_many n [] = refl
rows_many n (f ∷ fs) = ap suc (rows_many (suc n) fs)

lines_many : (t : Trace)
    → length (lines_of t) ≡ suc (length (map Contents t.tables) + (length (flat_map entry_lines t.entries) + length t.finals))
lines_many t =
    let tables = map Contents t.tables in
    let entries = flat_map entry_lines t.entries in
    ap suc (length-append tables (entries ++ rows_lines 0 t.finals)
    ∙ ap (λ n. length tables + n) (length-append entries (rows_lines 0 t.finals) ∙ ap (λ n. length entries + n) (rows_many 0 t.finals)))

finals_split : (n : ℕ) (xs ys : List (List Row)) → final_lines n (xs ++ ys) ≡ final_lines n xs ++ final_lines (n + length xs) ys
finals_split n [] ys =
    let same : n ≡ n + 0 = omega arith in
    ap (λ k. final_lines k ys) same
finals_split n (x ∷ xs) ys =
    let same : suc n + length xs ≡ n + suc (length xs) = omega arith in
    ap (λ l. final_line n x ++ l) (finals_split (suc n) xs ys ∙ ap (λ k. final_lines (suc n) xs ++ final_lines k ys) same)
    ∙ sym (append_assoc (final_line n x) (final_lines (suc n) xs) (final_lines (n + suc (length xs)) ys))

begun_rows : (t : Trace) (n : ℕ) → IsBegun t → n ≤ length t.finals → IsBegun (with_rows t n)
begun_rows t n is le =
    let short = length-take-le n t.finals le in
    record {
      sizes = is.sizes;
      tables = is.tables;
      managers = is.managers;
      once = is.once;
      entries = is.entries;
      finals = All-take AreFinalRows n t.finals is.finals;
      few = let few = is.few in omega (arith, short, few, le);
      named = let named = is.named in omega (arith, short, named, le);
    }

module _ (bytes : List ℕ) (lines : ℕ) (t : Trace) (tells : Tells bytes lines t) where
  abbrev rows : ℕ
  rows = length t.finals

  enough : rows ≤ lines
  enough = let many = lines_many t in let counted = tells.counted in omega (arith, many, counted)

  tells_rows : (n count : ℕ) → n ≤ rows → count + rows ≡ lines + n → Tells bytes count (with_rows t n)
  tells_rows n count le is =
      let head = head_text t.sizes t.tables ++ flat_map entry_text t.entries in
      let front = final_lines 0 (take n t.finals) in
      let back = final_lines (0 + length (take n t.finals)) (drop n t.finals) in
      let all : final_lines 0 t.finals ≡ front ++ back =
      ap (final_lines 0) (sym (take-append-drop n t.finals)) ∙ finals_split 0 (take n t.finals) (drop n t.finals) in
      record {
        valid = begun_rows t n tells.valid le;
        counted =
            let many = lines_many t in
            let fewer = lines_many (with_rows t n) in
            let counted = tells.counted in
            omega (arith, many, fewer, counted, length-take-le n t.finals le, is);
        rest = back ++ tells.rest;
        text =
            tells.text ∙ ap (λ l. (head ++ l) ++ tells.rest) all
            ∙ ap (λ l. l ++ tells.rest) (sym (append_assoc head front back)) ∙ append_assoc (head ++ front) back tells.rest;
      }

-- ---- the questions that last rows are asked

abbrev tables_kept : Trace → List (List Row) → Bool
tables_kept t = are_tables (λ rm. table_told (first_tables t.tables) rm (history_of t.entries)) 0

abbrev order_kept : Trace → List (List Row) → Bool
order_kept t =
    is_order_kept (first_tables t.tables) (stretches_back (history_of t.entries)) (committed_back (history_of t.entries))
    (first_commits (history_of t.entries))

abbrev reads_kept : Trace → Bool
reads_kept t = reads_are_serial (first_tables t.tables) (stretches_back (history_of t.entries)) (first_commits (history_of t.entries))

abbrev serial : Trace → ℕ → List Row
serial t rm =
    serial_table (first_tables t.tables) (stretches_back (history_of t.entries)) rm
    (filter (committed_back (history_of t.entries) rm) (first_commits (history_of t.entries)))

order_fewer : (t : Trace) (i n : ℕ) → i ≤ n → order_kept t (take n t.finals) ≡ true → order_kept t (take i t.finals) ≡ true
order_fewer t i n le h =
    let parts = and_parts (reads_kept t) (are_tables (serial t) 0 (take n t.finals)) h in
    let rest = tables_fewer (serial t) 0 t.finals i n le parts.1 in
    λ k. parts.0 k && rest k

order_fails : (t : Trace) (n : ℕ) → order_kept t (take n t.finals) ≡ false → order_kept t t.finals ≡ false
order_fails t n h = by (reads_kept t) h
  where
    by : (b : Bool) → (b && are_tables (serial t) 0 (take n t.finals)) ≡ false → (b && are_tables (serial t) 0 t.finals) ≡ false
    by true wrong = tables_fail (serial t) 0 t.finals n wrong
    by false wrong = refl

some_rows : (fs : List (List Row)) → 0 < length fs → eqb (length fs) 0 ≡ false
some_rows [] some = absurd (omega (arith, some))
some_rows (f ∷ fs) some = grind (arith, nat_tests)

-- where all entries are right, so is a trace whose last rows are, and else it isn't
consistent : (t : Trace) → entries_right t ≡ true → tables_kept t t.finals ≡ true → order_kept t t.finals ≡ true
    → keeps Question.Floors t ≡ true → is_consistent t ≡ true
consistent t right tables order above = λ i. right i && tables i && order i && above i

tables_wrong : (t : Trace) → tables_kept t t.finals ≡ false → is_consistent t ≡ false
tables_wrong t wrong =
    ap (λ b. entries_right t && b && order_kept t t.finals && keeps Question.Floors t) wrong ∙ by (entries_right t)
  where
    by : (b : Bool) → (b && false && order_kept t t.finals && keeps Question.Floors t) ≡ false
    by true = refl
    by false = refl

order_wrong : (t : Trace) → order_kept t t.finals ≡ false → is_consistent t ≡ false
order_wrong t wrong =
    ap (λ b. entries_right t && tables_kept t t.finals && b && keeps Question.Floors t) wrong
    ∙ by (entries_right t) (tables_kept t t.finals)
  where
    by : (b c : Bool) → (b && c && false && keeps Question.Floors t) ≡ false
    by true true = refl
    by true false = refl
    by false c = refl

floors_wrong : (t : Trace) → keeps Question.Floors t ≡ false → is_consistent t ≡ false
floors_wrong t wrong =
    ap (λ b. entries_right t && tables_kept t t.finals && order_kept t t.finals && b) wrong
    ∙ by (entries_right t && tables_kept t t.finals && order_kept t t.finals)
  where
    by : (b : Bool) → (b && false) ≡ false
    by true = refl
    by false = refl

module _ (bytes : List ℕ) (lines : ℕ) (t : Trace) (tells : Tells bytes lines t) (some : 0 < length t.finals)
    (right : entries_right t ≡ true) (above : keeps Question.Floors t ≡ true)
    (entries : (n : ℕ) → 0 < n → n + length t.finals ≤ lines → HasNoFault bytes n)
    (told explained : ℕ) (tables : Reaches (tables_kept t) t.finals told) (order : Reaches (order_kept t) t.finals explained) where
  abbrev all : ℕ
  all = length t.finals

  kept : (keeps Question.Changes t ≡ true) × (keeps Question.Gets t ≡ true)
  kept = both_kept t right

  tables_at : (n : ℕ) → 0 < n → n ≤ told → keeps Question.Tables (with_rows t n) ≡ true
  tables_at n pos le =
      tables_fewer (λ rm. table_told (first_tables t.tables) rm (history_of t.entries)) 0 t.finals n told le
      (tables.kept (omega (arith, pos, le)))

  order_at : (n : ℕ) → 0 < n → n ≤ explained → keeps Question.Order (with_rows t n) ≡ true
  order_at n pos le =
      ap (λ b. eqb (length (take n t.finals)) 0 || b) (order_fewer t n explained le (order.kept (omega (arith, pos, le))))
      ∙ or_true (eqb (length (take n t.finals)) 0)

  -- up to rows that are right there is no fault
  before_row : (n : ℕ) → n ≤ told → n ≤ explained → (count : ℕ) → 0 < count → count + all ≤ lines + n → (b : Bool)
      → ltb lines (count + all) ≡ b → HasNoFault bytes count
  before_row n as_told as_explained count pos le false q = entries count pos (ltb-false lines (count + all) q)
  before_row n as_told as_explained count pos le true q =
      let less = ltb-true lines (count + all) q in
      let within = tables.within in
      let m = count + all - lines in
      let some_row : 0 < m = omega (arith, less) in
      let same : count + all ≡ lines + m = omega (arith, less) in
      let few : m ≤ n = omega (arith, same, le) in
      record {
        so_far = with_rows t m;
        told = tells_rows bytes lines t tells m count (omega (arith, few, as_told, within)) same;
        none = failed_by (with_rows t m) true true true true true kept.0 kept.1 (tables_at m some_row (omega (arith, few, as_told)))
            (order_at m some_row (omega (arith, few, as_explained))) above;
      }

  -- the line of a row by how many rows there are from it on
  line_of : (n : ℕ) → n < all → (lines - ((all - n) - 1)) + all ≡ lines + suc n
  line_of n lt = let many = enough bytes lines t tells in omega (arith, lt, many)

  pub in_tables : told < all → told ≤ explained
      → IsFound bytes t (Some (record { question = Question.Tables; line = lines - ((all - told) - 1) }))
  in_tables lt le =
      let n : ℕ = suc told in
      let next : told + 1 ≡ suc told = omega arith in
      let wrong : tables_kept t (take (suc told) t.finals) ≡ false =
      ap (λ k. tables_kept t (take k t.finals)) (sym next) ∙ tables.next lt in
      let is = line_of told lt in (
        tables_wrong t (tables_fail _ 0 t.finals (suc told) wrong),
        record {
          so_far = with_rows t (suc told);
          told = tells_rows bytes lines t tells (suc told) (lines - ((all - told) - 1)) (omega (arith, lt)) is;
          fails = failed_by (with_rows t (suc told)) true true false (keeps Question.Order (with_rows t (suc told))) true kept.0 kept.1
              wrong refl above;
          before = λ count pos less.
              before_row told (omega arith) le count pos (omega (arith, is, less)) (ltb lines (count + all)) refl;
        },
      )

  pub in_order : explained < all → (told < all → explained < told)
      → IsFound bytes t (Some (record { question = Question.Order; line = lines - ((all - explained) - 1) }))
  in_order lt higher =
      let next : explained + 1 ≡ suc explained = omega arith in
      let wrong : order_kept t (take (suc explained) t.finals) ≡ false =
      ap (λ k. order_kept t (take k t.finals)) (sym next) ∙ order.next lt in
      let le : suc explained ≤ told = above_told (ltb told all) refl in
      let filled : 0 < length (take (suc explained) t.finals) =
      omega (arith, length-take-le (suc explained) t.finals (omega (arith, lt))) in
      let is = line_of explained lt in (
        order_wrong t (order_fails t (suc explained) wrong),
        record {
          so_far = with_rows t (suc explained);
          told = tells_rows bytes lines t tells (suc explained) (lines - ((all - explained) - 1)) (omega (arith, lt)) is;
          fails = failed_by (with_rows t (suc explained)) true true true false true kept.0 kept.1
              (tables_at (suc explained) (omega arith) le) (λ i. some_rows (take (suc explained) t.finals) filled i || wrong i) above;
          before = λ count pos less.
              before_row explained (omega (arith, le)) (omega arith) count pos (omega (arith, is, less)) (ltb lines (count + all)) refl;
        },
      )
    where
      above_told : (b : Bool) → ltb told all ≡ b → suc explained ≤ told
      above_told true q = omega (arith, higher (ltb-true told all q))
      above_told false q = omega (arith, ltb-false told all q, lt)

  pub in_none : all ≤ told → all ≤ explained → IsFound bytes t None
  in_none as_told as_explained =
      consistent t right
      (ap (tables_kept t) (sym (take_all told t.finals as_told)) ∙ tables.kept (omega (arith, some, as_told)))
      (ap (order_kept t) (sym (take_all explained t.finals as_explained)) ∙ order.kept (omega (arith, some, as_explained))) above

-- ---- a judge's verdict

pub reaches_same : (p q : List (List Row) → Bool) (fs gs : List (List Row)) (n : ℕ) → ((xs : List (List Row)) → p xs ≡ q xs) → fs ≡ gs
    → Reaches p fs n → Reaches q gs n
reaches_same p q fs gs n same is reaches =
    subst (λ xs. Reaches q xs n) is (record {
      within = reaches.within;
      kept = λ pos. sym (same (take n fs)) ∙ reaches.kept pos;
      next = λ lt. sym (same (take (n + 1) fs)) ∙ reaches.next lt;
    })

module _ (bytes : List ℕ) (judge : Judge) (lines : ℕ) (t : Trace) (noted : HasNoted bytes judge lines (Some t))
    (tells : Tells bytes lines t) (some : 0 < length t.finals) (none : judge.fault ≡ None) (told explained rows : ℕ)
    (many : rows ≡ length judge.auditor.finals.items)
    (tables : Reaches (are_tables (rows_of judge.auditor.ledger.tables) 0) judge.auditor.finals.items told)
    (order : Reaches (is_order_kept (first_tables judge.auditor.tables.items) (stretch_of judge.auditor.ledger.branches)
    (has_committed judge.auditor.ledger.views) judge.auditor.ledger.firsts) judge.auditor.finals.items explained) where
  right : judge.auditor.is_right ≡ true
  right = noted.right none

  follows : Follows (first_tables t.tables) (history_of t.entries) judge.auditor.ledger
  follows = noted.heard.follows right

  entries_so : entries_right t ≡ true
  entries_so = sym noted.heard.right ∙ right

  same_rows : judge.auditor.finals.items ≡ t.finals
  same_rows = noted.heard.finals_are right

  many_so : length t.finals ≡ rows
  many_so = sym (many ∙ ap length same_rows)

  tables_so : Reaches (tables_kept t) t.finals told
  tables_so =
      reaches_same (are_tables (rows_of judge.auditor.ledger.tables) 0) (tables_kept t) judge.auditor.finals.items t.finals told
      (λ xs. λ i. are_tables (λ rm. follows.tables rm i) 0 xs) same_rows tables

  abbrev by_ledger : List (List Row) → Bool
  by_ledger =
      is_order_kept (first_tables judge.auditor.tables.items) (stretch_of judge.auditor.ledger.branches)
      (has_committed judge.auditor.ledger.views) judge.auditor.ledger.firsts

  order_reached : Reaches (order_kept t) t.finals explained
  order_reached =
      reaches_same by_ledger (order_kept t) judge.auditor.finals.items t.finals explained
      (λ xs. ap (λ ts. is_order_kept (first_tables ts) (stretch_of judge.auditor.ledger.branches) (has_committed judge.auditor.ledger.views)
      judge.auditor.ledger.firsts xs) noted.heard.tables_are
      ∙ order_so (first_tables t.tables) (history_of t.entries) judge.auditor.ledger xs follows) same_rows order

  pub found_in_tables : told < rows → told ≤ explained
      → IsFound bytes t (Some (record { question = Question.Tables; line = lines - ((rows - told) - 1) }))
  found_in_tables lt le =
      subst (λ k. IsFound bytes t (Some (record { question = Question.Tables; line = lines - ((k - told) - 1) }))) many_so
      (in_tables bytes lines t tells some entries_so (noted.above none) (noted.none none) told explained tables_so order_reached
      (omega (arith, lt, many_so)) le)

  pub found_in_order : explained < rows → (told < rows → explained < told)
      → IsFound bytes t (Some (record { question = Question.Order; line = lines - ((rows - explained) - 1) }))
  found_in_order lt above =
      subst (λ k. IsFound bytes t (Some (record { question = Question.Order; line = lines - ((k - explained) - 1) }))) many_so
      (in_order bytes lines t tells some entries_so (noted.above none) (noted.none none) told explained tables_so order_reached
      (omega (arith, lt, many_so))
      (λ less. above (omega (arith, less, many_so))))

  pub found_none : rows ≤ told → rows ≤ explained → IsFound bytes t None
  found_none as_told as_explained =
      in_none bytes lines t tells some entries_so (noted.above none) (noted.none none) told explained tables_so order_reached
      (omega (arith, as_told, many_so)) (omega (arith, as_explained, many_so))

-- a fault that was noted is the first
pub found_noted : (bytes : List ℕ) (judge : Judge) (lines : ℕ) (t : Trace) (fault : Fault) → HasNoted bytes judge lines (Some t)
    → judge.fault ≡ Some fault → IsFound bytes t (Some fault)
found_noted bytes judge lines t fault noted is =
    let was = noted.fault fault is in
    (by was.1, was.0)
  where
    by : (judge.auditor.is_right ≡ false) ⊎ (are_above (Some t) ≡ false) → is_consistent t ≡ false
    by (inl wrong) = sym (wrong_trace t (sym noted.heard.right ∙ wrong))
    by (inr below) = floors_wrong t below
