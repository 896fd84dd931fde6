-- Tests of last rows, one resource manager after another.
use Rattle.std.proofs.Common.{◌≡◌, ◌∙◌, ℕ, zero, suc, ◌+◌, ◌<◌, ◌≤◌, Bool, true, false, ◌&&◌, List, [], ◌∷◌, length, get_or, take}
use Rattle.std.proofs.Common.{refl, sym, ◌==◌, ap, arith, eqb-true}
use Rattle.std.specs.Cmp.Lexicographic.{pointwise}
use Rattle.std.proofs.lemmas.Bool.{and_parts}
use Rattle.std.proofs.lemmas.Bool.Decides.{nat_tests}
use Rattle.std.proofs.lemmas.List.{take_all}
use Rattle.safety.specs.Vocabulary.{Row}
use Rattle.protocol.specs.Rows.{row_eq}
use Rattle.audit.specs.ToldTables.{are_tables}
use Rattle.audit.specs.Books.{Reaches}

and_assoc : (a b c : Bool) → (a && (b && c)) ≡ ((a && b) && c)
and_assoc true b c = refl
and_assoc false b c = refl

and_one : (a : Bool) → (a && true) ≡ a
and_one true = refl
and_one false = refl

module _ (table : ℕ → List Row) where
  -- one resource manager more
  pub tables_more : (r : ℕ) (fs : List (List Row)) (i : ℕ) (d : List Row) → i < length fs
      → are_tables table r (take (suc i) fs) ≡ (are_tables table r (take i fs) && pointwise row_eq (get_or fs i d) (table (r + i)))
  tables_more r [] i d lt = absurd (omega (arith, lt))
  tables_more r (x ∷ xs) zero d lt =
      let same : r ≡ r + 0 = omega arith in
      and_one (pointwise row_eq x (table r)) ∙ ap (λ n. pointwise row_eq x (table n)) same
  tables_more r (x ∷ xs) (suc i) d lt =
      let same : suc r + i ≡ r + suc i = omega arith in
      ap (λ b. pointwise row_eq x (table r) && b) (tables_more (suc r) xs i d (omega (arith, lt)))
      ∙ and_assoc (pointwise row_eq x (table r)) (are_tables table (suc r) (take i xs))
      (pointwise row_eq (get_or xs i d) (table (suc r + i)))
      ∙ ap (λ n. (pointwise row_eq x (table r) && are_tables table (suc r) (take i xs)) && pointwise row_eq (get_or xs i d) (table n)) same

  -- what holds of some rows holds of fewer
  pub tables_fewer : (r : ℕ) (fs : List (List Row)) (i n : ℕ) → i ≤ n → are_tables table r (take n fs) ≡ true
      → are_tables table r (take i fs) ≡ true
  tables_fewer r fs zero n le h = refl
  tables_fewer r fs (suc i) zero le h = absurd (omega (arith, le))
  tables_fewer r [] (suc i) (suc n) le h = refl
  tables_fewer r (x ∷ xs) (suc i) (suc n) le h =
      let parts = and_parts (pointwise row_eq x (table r)) (are_tables table (suc r) (take n xs)) h in
      let rest = tables_fewer (suc r) xs i n (omega (arith, le)) parts.1 in
      λ k. parts.0 k && rest k

  -- what fails of some rows fails of all
  pub tables_fail : (r : ℕ) (fs : List (List Row)) (n : ℕ) → are_tables table r (take n fs) ≡ false → are_tables table r fs ≡ false
  tables_fail r fs zero h = absurd (cc (h))
  tables_fail r [] (suc n) h = h
  tables_fail r (x ∷ xs) (suc n) h = by (pointwise row_eq x (table r)) (tables_fail (suc r) xs n) h
    where
      by : (b : Bool) → (are_tables table (suc r) (take n xs) ≡ false → are_tables table (suc r) xs ≡ false)
          → (b && are_tables table (suc r) (take n xs)) ≡ false → (b && are_tables table (suc r) xs) ≡ false
      by true rest wrong = rest wrong
      by false rest wrong = refl

  row_at : (fs : List (List Row)) (i : ℕ) (d : List Row) → i < length fs → (b : Bool) → pointwise row_eq (get_or fs i d) (table i) ≡ b
      → are_tables table 0 (take i fs) ≡ true → are_tables table 0 (take (i + 1) fs) ≡ b
  row_at fs i d lt b is before =
      let next : i + 1 ≡ suc i = omega arith in
      let same : 0 + i ≡ i = omega arith in
      ap (λ k. are_tables table 0 (take k fs)) next ∙ tables_more 0 fs i d lt
      ∙ (λ j. before j && pointwise row_eq (get_or fs i d) (table (same j))) ∙ is

  pub next_right : (fs : List (List Row)) (i : ℕ) (d : List Row) → i < length fs → true ≡ pointwise row_eq (get_or fs i d) (table i)
      → are_tables table 0 (take i fs) ≡ true → are_tables table 0 (take (i + 1) fs) ≡ true
  next_right fs i d lt is before = row_at fs i d lt true (sym is) before

  pub reaches_here : (fs : List (List Row)) (i : ℕ) (d : List Row) → i < length fs → false ≡ pointwise row_eq (get_or fs i d) (table i)
      → are_tables table 0 (take i fs) ≡ true → Reaches (are_tables table 0) fs i
  reaches_here fs i d lt is before = record {
    within = omega (arith, lt);
    kept = λ _. before;
    next = λ _. row_at fs i d lt false (sym is) before;
  }

  -- all rows are right where they are as many
  pub reaches_all : (fs : List (List Row)) (n : ℕ) → Reaches (are_tables table 0) fs n → (n == length fs) ≡ are_tables table 0 fs
  reaches_all fs n reaches = by (n == length fs) refl
    where
      whole : (gs : List (List Row)) → n ≡ length gs → (0 < n → are_tables table 0 (take n gs) ≡ true) → are_tables table 0 gs ≡ true
      whole [] is kept = refl
      whole (g ∷ gs) is kept =
          ap (are_tables table 0) (sym (take_all n (g ∷ gs) (omega (arith, is)))) ∙ kept (omega (arith, is))

      by : (b : Bool) → (n == length fs) ≡ b → b ≡ are_tables table 0 fs
      by true q = sym (whole fs (eqb-true n (length fs) q) reaches.kept)
      by false q =
          let within = reaches.within in
          let less : n < length fs = grind (arith, nat_tests) in
          sym (tables_fail 0 fs (n + 1) (reaches.next less))
