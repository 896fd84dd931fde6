-- What writes make of rows, key by key; ascending rows that have the same at each key are the same; and the rows among places, in order.
-- Needed by `Places::put` and `Places::value_at`; KeyPlaces, PlaceTable, SortedRows and TableKept; crates history and run_traces.
use Rattle.std.proofs.Common.{◌≡◌, ◌∙◌, ℕ, Bool, true, false, not, cond, List, [], ◌∷◌, Option, Some, None, unwrap_or, refl, sym, ap, subst}
use Rattle.std.specs.Prelude.{filter, fold}
use Rattle.std.specs.List.{AllByRecursion}
use Rattle.std.specs.Map.{lookup}
use Rattle.std.specs.Cmp.Lexicographic.{slice_cmp}
use Rattle.std.specs.Ordering.{nat_cmp, is_lt, is_eq, ordering_reverse}
use Rattle.std.specs.Str.{bytes_eq}
use Rattle.std.specs.declared.cmp.Ordering.{Ordering}
use Rattle.std.specs.declared.cmp.Ordering.TheVariants.{Less, Equal, Greater}
use Rattle.std.proofs.lemmas.Bool.{cond_both, both_ways, false_from_ne_true, not-true, not-false}
use Rattle.std.proofs.lemmas.Bool.Decides.{same_from_decides}
use Rattle.std.proofs.lemmas.Cmp.{nat_list_cmp_total}
use Rattle.std.proofs.lemmas.Map.Text.{is_eq-slice_cmp}
use Rattle.std.proofs.lemmas.Slice.Eq.{bytes_eq-Decides}
use Rattle.stable_record.specs.declared.fact.Act.{Act}
use Rattle.stable_record.specs.declared.fact.Touched.{Touched}
use Rattle.stable_record.specs.Facts.{AreAscending}
use Rattle.protocol.specs.declared.rows.Row.{Row}
use Rattle.protocol.specs.Branches.{row_at, value_after}
use Rattle.protocol.specs.Managers.{act_on}
use Rattle.protocol.specs.Tables.{put_row, rows_after, with_writes}
use Rattle.protocol.proofs.TouchedKeys.{absent, tail_ascends, less_from, apart_from, later_by, untouched}
use Rattle.branch_table.specs.Parts.{act_to, no_place, place_at, table_of}
use Rattle.branch_table.specs.declared.places.Place.{Place}

-- ---- the order of keys

-- a key comes before those of all these rows
abbrev pub IsBefore : List ℕ → List Row → Type 0
IsBefore key rows = AllByRecursion (λ (row : Row). slice_cmp nat_cmp key row.key ≡ Less) rows

-- the keys of rows ascend
abbrev pub AscendRows : List Row → Type 0
AscendRows [] = Unit {0}
AscendRows (row ∷ rows) = IsBefore row.key rows × AscendRows rows

-- what stands in front of a key stands in front of a greater one
pub before_more : (key other : List ℕ) (rows : List Row) → slice_cmp nat_cmp key other ≡ Less → IsBefore other rows → IsBefore key rows
before_more key other [] less are = tt
before_more key other (row ∷ rows) less are =
    (nat_list_cmp_total.trans key other row.key less are.0, before_more key other rows less are.1)

-- there is no row of a key before them
none_before : (key : List ℕ) (rows : List Row) → IsBefore key rows → row_at rows key ≡ None
none_before key [] are = refl
none_before key (row ∷ rows) are =
    ap (λ (b : Bool). cond b (Some row.value) (row_at rows key)) (apart_from key row.key are.0) ∙ none_before key rows are.1

-- ---- a row put or taken away

put_before : (key : List ℕ) (rows : List Row) (row : Row) → slice_cmp nat_cmp key row.key ≡ Less → IsBefore key rows
    → IsBefore key (put_row rows row)
put_before key [] row less are = (less, tt)
put_before key (first ∷ rows) row less are =
    cond_both (bytes_eq first.key row.key) _ _ (IsBefore key) (λ same. (less, are.1))
    (λ apart. cond_both (is_lt (slice_cmp nat_cmp row.key first.key)) _ _ (IsBefore key) (λ here. (less, (are.0, are.1)))
    (λ there. (are.0, put_before key rows row less are.1)))

put_ascends : (rows : List Row) (row : Row) → AscendRows rows → AscendRows (put_row rows row)
put_ascends [] row are = (tt, tt)
put_ascends (first ∷ rows) row are =
    cond_both (bytes_eq first.key row.key) _ _ AscendRows
    (λ same. (subst (λ (k : List ℕ). IsBefore k rows) ((bytes_eq-Decides first.key row.key).0 same) are.0, are.1))
    (λ apart. cond_both (is_lt (slice_cmp nat_cmp row.key first.key)) _ _ AscendRows
    (λ here. let less = less_from (slice_cmp nat_cmp row.key first.key) here in
    ((less, before_more row.key first.key rows less are.0), are))
    (λ there. (
      put_before first.key rows row (later_by first.key row.key (slice_cmp nat_cmp row.key first.key) refl apart there) are.0,
      put_ascends rows row are.1,
    )))

taken_before : (p : Row → Bool) (key : List ℕ) (rows : List Row) → IsBefore key rows → IsBefore key (filter p rows)
taken_before p key [] are = tt
taken_before p key (row ∷ rows) are =
    cond_both (p row) (row ∷ filter p rows) (filter p rows) (IsBefore key) (λ passes. (are.0, taken_before p key rows are.1))
    (λ fails. taken_before p key rows are.1)

taken_ascends : (p : Row → Bool) (rows : List Row) → AscendRows rows → AscendRows (filter p rows)
taken_ascends p [] are = tt
taken_ascends p (row ∷ rows) are =
    cond_both (p row) (row ∷ filter p rows) (filter p rows) AscendRows
    (λ passes. (taken_before p row.key rows are.0, taken_ascends p rows are.1)) (λ fails. taken_ascends p rows are.1)

pub after_ascends : (rows : List Row) (key : List ℕ) (act : Act) → AscendRows rows → AscendRows (rows_after rows key act)
after_ascends rows key Act.Read are = are
after_ascends rows key (Act.Put value) are = put_ascends rows (record { key = key; value = value }) are
after_ascends rows key Act.Del are = taken_ascends (λ (row : Row). not (bytes_eq row.key key)) rows are

-- rows ascend after writes
pub writes_ascend : (rows : List Row) (keys : List Touched) → AscendRows rows → AscendRows (with_writes rows keys)
writes_ascend rows [] are = are
writes_ascend rows (t ∷ keys) are = writes_ascend (rows_after rows t.key t.act) keys (after_ascends rows t.key t.act are)

-- and after rows that were put one by one
pub first_ascend : (rows first : List Row) → AscendRows rows → AscendRows (fold put_row rows first)
first_ascend rows [] are = are
first_ascend rows (row ∷ first) are = first_ascend (put_row rows row) first (put_ascends rows row are)

-- ---- what is there then

put_there : (rows : List Row) (row : Row) (key : List ℕ) → AscendRows rows
    → row_at (put_row rows row) key ≡ cond (bytes_eq row.key key) (Some row.value) (row_at rows key)
put_there [] row key are = refl
put_there (first ∷ rows) row key are =
    let goal = λ (after : List Row). row_at after key ≡ cond (bytes_eq row.key key) (Some row.value) (row_at (first ∷ rows) key) in
    cond_both (bytes_eq first.key row.key) _ _ goal
    (λ same. subst (λ (k : List ℕ). cond (bytes_eq row.key key) (Some row.value) (row_at rows key)
    ≡ cond (bytes_eq row.key key) (Some row.value) (cond (bytes_eq k key) (Some first.value) (row_at rows key)))
    (sym ((bytes_eq-Decides first.key row.key).0 same)) (in_its_place (bytes_eq row.key key) (Some row.value) (Some first.value)
    (row_at rows key)))
    (λ apart. cond_both (is_lt (slice_cmp nat_cmp row.key first.key)) _ _ goal (λ here. refl)
    (λ there. ap (λ (o : Option (List ℕ)). cond (bytes_eq first.key key) (Some first.value) o) (put_there rows row key are.1)
    ∙ either_first (bytes_eq first.key key) (bytes_eq row.key key) (Some first.value) (Some row.value) (row_at rows key)
    (λ e. false_from_ne_true (bytes_eq row.key key) (λ f. both_ways (bytes_eq first.key row.key) apart
    ((bytes_eq-Decides first.key row.key).1 ((bytes_eq-Decides first.key key).0 e ∙ sym ((bytes_eq-Decides row.key key).0 f)))))))
  where
    in_its_place : (b : Bool) (new old rest : Option (List ℕ)) → cond b new rest ≡ cond b new (cond b old rest)
    in_its_place true new old rest = refl
    in_its_place false new old rest = refl

    either_first : (b c : Bool) (x y rest : Option (List ℕ)) → (b ≡ true → c ≡ false) → cond b x (cond c y rest) ≡ cond c y (cond b x rest)
    either_first true true x y rest one = absurd (cc (one refl))
    either_first true false x y rest one = refl
    either_first false c x y rest one = refl

taken_there : (rows : List Row) (gone key : List ℕ)
    → row_at (filter (λ (row : Row). not (bytes_eq row.key gone)) rows) key ≡ cond (bytes_eq gone key) None (row_at rows key)
taken_there [] gone key = none_either (bytes_eq gone key)
  where
    none_either : (b : Bool) → None ≡ cond b None (row_at [] key)
    none_either true = refl
    none_either false = refl
taken_there (row ∷ rows) gone key =
    let rest = filter (λ (r : Row). not (bytes_eq r.key gone)) rows in
    cond_both (not (bytes_eq row.key gone)) (row ∷ rest) rest
    (λ (left : List Row). row_at left key ≡ cond (bytes_eq gone key) None (row_at (row ∷ rows) key))
    (λ kept. ap (λ (o : Option (List ℕ)). cond (bytes_eq row.key key) (Some row.value) o) (taken_there rows gone key)
    ∙ either_first (bytes_eq row.key key) (bytes_eq gone key) (Some row.value) (row_at rows key)
    (λ e. false_from_ne_true (bytes_eq gone key) (λ f. both_ways (bytes_eq row.key gone) (not-true (bytes_eq row.key gone) kept)
    ((bytes_eq-Decides row.key gone).1 ((bytes_eq-Decides row.key key).0 e ∙ sym ((bytes_eq-Decides gone key).0 f))))))
    (λ cut. taken_there rows gone key
    ∙ subst (λ (k : List ℕ). cond (bytes_eq gone key) None (row_at rows key)
    ≡ cond (bytes_eq gone key) None (cond (bytes_eq k key) (Some row.value) (row_at rows key)))
    (sym ((bytes_eq-Decides row.key gone).0 (not-false (bytes_eq row.key gone) cut))) (hidden (bytes_eq gone key) (Some row.value)
    (row_at rows key)))
  where
    either_first : (b c : Bool) (x rest : Option (List ℕ)) → (b ≡ true → c ≡ false) → cond b x (cond c None rest)
        ≡ cond c None (cond b x rest)
    either_first true true x rest one = absurd (cc (one refl))
    either_first true false x rest one = refl
    either_first false c x rest one = refl

    hidden : (b : Bool) (x rest : Option (List ℕ)) → cond b None rest ≡ cond b None (cond b x rest)
    hidden true x rest = refl
    hidden false x rest = refl

-- what a row has after a write
pub after_there : (rows : List Row) (key : List ℕ) (act : Act) (k : List ℕ) → AscendRows rows
    → row_at (rows_after rows key act) k ≡ cond (bytes_eq key k) (value_after act (row_at rows k)) (row_at rows k)
after_there rows key Act.Read k are = either_way (bytes_eq key k) (row_at rows k)
  where
    either_way : (b : Bool) (o : Option (List ℕ)) → o ≡ cond b o o
    either_way true o = refl
    either_way false o = refl
after_there rows key (Act.Put value) k are = put_there rows (record { key = key; value = value }) k are
after_there rows key Act.Del k are = taken_there rows key k

later_unread : (u : Touched) (us : List Touched) (key : List ℕ) → bytes_eq u.key key ≡ true → AreAscending (u ∷ us)
    → act_on us key ≡ Act.Read
later_unread u [] key e ascends = refl
later_unread u (v ∷ us) key e ascends =
    subst (λ (z : List ℕ). act_on (v ∷ us) z ≡ Act.Read) ((bytes_eq-Decides u.key key).0 e)
    (untouched (v ∷ us) u.key (absent v us u.key ascends.1 ascends.0))

-- touched keys, of which each stands once
pub keys_there : (rows : List Row) (keys : List Touched) (k : List ℕ) → AscendRows rows → AreAscending keys
    → row_at (with_writes rows keys) k ≡ value_after (act_on keys k) (row_at rows k)
keys_there rows [] k are ascending = refl
keys_there rows (t ∷ keys) k are ascending =
    keys_there (rows_after rows t.key t.act) keys k (after_ascends rows t.key t.act are) (tail_ascends t keys ascending)
    ∙ ap (value_after (act_on keys k)) (after_there rows t.key t.act k are)
    ∙ by_own (bytes_eq t.key k) refl
  where
    by_own : (own : Bool) → bytes_eq t.key k ≡ own
        → value_after (act_on keys k) (cond own (value_after t.act (row_at rows k)) (row_at rows k))
        ≡ value_after (cond own t.act (act_on keys k)) (row_at rows k)
    by_own true e = ap (λ (act : Act). value_after act (value_after t.act (row_at rows k))) (later_unread t keys k e ascending)
    by_own false e = refl

-- ---- rows with the same at each key

own_there : (row : Row) (rows : List Row) → row_at (row ∷ rows) row.key ≡ Some row.value
own_there row rows =
    ap (λ (b : Bool). cond b (Some row.value) (row_at rows row.key)) ((bytes_eq-Decides row.key row.key).1 refl)

-- ascending rows that have the same at each key are the same
pub same_rows : (rows others : List Row) → AscendRows rows → AscendRows others → ((k : List ℕ) → row_at rows k ≡ row_at others k) → rows
    ≡ others
same_rows [] [] are also same = refl
same_rows [] (other ∷ others) are also same = absurd (cc (same other.key, own_there other others))
same_rows (row ∷ rows) [] are also same = absurd (cc (same row.key, own_there row rows))
same_rows (row ∷ rows) (other ∷ others) are also same =
    by_order (λ rest. same_rows rows others are.1 also.1 rest) (slice_cmp nat_cmp row.key other.key) refl
  where
    values : row.key ≡ other.key → row.value ≡ other.value
    values e =
        let found : Some row.value ≡ Some other.value = sym (own_there row rows) ∙ same row.key
        ∙ ap (row_at (other ∷ others)) e ∙ own_there other others in
        ap (λ (o : Option (List ℕ)). unwrap_or o row.value) found

    tails : row.key ≡ other.key → (k : List ℕ) (own : Bool) → bytes_eq row.key k ≡ own → row_at rows k ≡ row_at others k
    tails e k true is =
        let here = (bytes_eq-Decides row.key k).0 is in
        subst (λ (z : List ℕ). row_at rows z ≡ None) here (none_before row.key rows are.0)
        ∙ sym (subst (λ (z : List ℕ). row_at others z ≡ None) (sym e ∙ here) (none_before other.key others also.0))
    tails e k false is =
        sym (ap (λ (b : Bool). cond b (Some row.value) (row_at rows k)) is) ∙ same k
        ∙ ap (λ (b : Bool). cond b (Some other.value) (row_at others k)) (ap (λ (z : List ℕ). bytes_eq z k) (sym e) ∙ is)

    by_order : (((k : List ℕ) → row_at rows k ≡ row_at others k) → rows ≡ others) → (o : Ordering) → slice_cmp nat_cmp row.key other.key
        ≡ o → row ∷ rows ≡ other ∷ others
    by_order rest Less e =
        let none = none_before row.key (other ∷ others) (e, before_more row.key other.key others e also.0) in
        let some = own_there row rows in
        let found = same row.key in
        absurd (cc (none, some, found))
    by_order rest Greater e =
        let less : slice_cmp nat_cmp other.key row.key ≡ Less =
        nat_list_cmp_total.antisymm other.key row.key ∙ ap ordering_reverse e in
        let none = none_before other.key (row ∷ rows) (less, before_more other.key row.key rows less are.0) in
        let some = own_there other others in
        let found = same other.key in
        absurd (cc (none, some, found))
    by_order rest Equal e =
        let key : row.key ≡ other.key = (bytes_eq-Decides row.key other.key).0 (sym (is_eq-slice_cmp row.key other.key) ∙ ap is_eq e) in
        let value = values key in
        λ i. record { key = key i; value = value i } ∷ rest (λ k. tails key k (bytes_eq row.key k) refl) i

-- ---- the rows among places

-- the test of keys reads both ways
pub flipped : (x y : List ℕ) → bytes_eq x y ≡ bytes_eq y x
flipped x y =
    let here = bytes_eq-Decides x y in
    let there = bytes_eq-Decides y x in
    same_from_decides _ _ here ((λ e. sym (there.0 e)), (λ e. there.1 (sym e)))

-- what is known of each key: its value and its holders
abbrev pub Known : Type 0
Known = List (List ℕ × Place)

-- the table of places ascends
pub table_ascends : (places : Known) → AscendRows (table_of places)
table_ascends [] = tt
table_ascends (place ∷ places) = after_ascends (table_of places) place.0 (act_to place.1.value) (table_ascends places)

-- the value of a key among places, by the first of them
pub first_value : (place : List ℕ × Place) (places : Known) (key : List ℕ)
    → (place_at (place ∷ places) key).value ≡ cond (bytes_eq key place.0) place.1.value (place_at places key).value
first_value place places key = by (bytes_eq key place.0)
  where
    by : (b : Bool) → (unwrap_or (cond b (Some place.1) (lookup (bytes_eq key) places)) no_place).value
        ≡ cond b place.1.value (place_at places key).value
    by true = refl
    by false = refl

-- the table has at each key what is known of it
pub table_at : (places : Known) (key : List ℕ) → row_at (table_of places) key ≡ (place_at places key).value
table_at [] key = refl
table_at (place ∷ places) key =
    after_there (table_of places) place.0 (act_to place.1.value) key (table_ascends places)
    ∙ (λ i. cond (flipped place.0 key i) (stays place.1.value (row_at (table_of places) key) i) (table_at places key i))
    ∙ sym (first_value place places key)
  where
    stays : (value before : Option (List ℕ)) → value_after (act_to value) before ≡ value
    stays None before = refl
    stays (Some v) before = refl

-- the table after a last act on a key
pub table_after : (old new : Known) (key : List ℕ) (act : Act)
    → ((other : List ℕ) → (place_at new other).value
    ≡ cond (bytes_eq key other) (value_after act (place_at old other).value) (place_at old other).value)
    → table_of new ≡ rows_after (table_of old) key act
table_after old new key act changed =
    same_rows (table_of new) (rows_after (table_of old) key act) (table_ascends new)
    (after_ascends (table_of old) key act (table_ascends old))
    (λ other. table_at new other ∙ changed other
    ∙ (λ i. cond (bytes_eq key other) (value_after act (sym (table_at old other) i)) (sym (table_at old other) i))
    ∙ sym (after_there (table_of old) key act other (table_ascends old)))
