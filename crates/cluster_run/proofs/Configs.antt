-- The cluster that a script asks for.
use Rattle.std.proofs.Common.{◌≡◌, ◌∙◌, inl, inr, ℕ, ◌&&◌, ◌||◌, ◌<◌, Bool, true, false, List, [], ◌∷◌}
use Rattle.std.proofs.Common.{length, refl, sym, ap, subst, Result, Err}
use Rattle.std.specs.Prelude.{◌==◌, nat_lt, nat_le, IfErr, MatchResult}
use Rattle.std.specs.List.{All, AllByRecursion, list_all, range_with_len}
use Rattle.std.proofs.lemmas.Bool.{and_cases, and_from, both_ways, cond_both, eq-eqb, le-leb, lt-ltb, ltb-true}
use Rattle.std.proofs.lemmas.List.Elements.{recursion_from_All}
use Rattle.std.proofs.lemmas.List.Folds.{list_all-map}
use Rattle.std.proofs.lemmas.List.FromFn.{length-map-range_with_len}
use Rattle.xid.specs.Limits.{most_key, most_value, most_leaders, most_managers}
use Rattle.xid.proofs.Texts.{first_true, second_true}
use Rattle.xid.specs.declared.refusals.Refusal.{Refusal}
use Rattle.safety.specs.Vocabulary.{Row}
use Rattle.cluster_run.specs.Runs.{is_in_limits}
use Rattle.cluster_run.specs.Traces.{each_manager, first_rows_of}
use Rattle.branch_table.specs.TableStates.{are_rows, is_row}
use Rattle.node_core.specs.Configs.{are_sizes, config_of, is_config}
use Rattle.net_script.specs.Items.{IsContents, IsRow}
use Rattle.net_script.specs.declared.values.Sizes.{Sizes}
use Rattle.net_script.specs.declared.values.Table.{Table}

-- ---- first contents

row_within : (row : Row) → IsRow row → is_row row ≡ true
row_within row is =
    and_from (nat_lt 0 (length row.key) && nat_le (length row.key) most_key) (nat_le (length row.value) most_value)
    (and_from (nat_lt 0 (length row.key)) (nat_le (length row.key) most_key) (lt-ltb 0 (length row.key) is.key.some)
    (le-leb (length row.key) most_key is.key.few))
    (le-leb (length row.value) most_value is.value.few)

rows_within : (rows : List Row) → AllByRecursion IsRow rows → are_rows rows ≡ true
rows_within [] are = refl
rows_within (row ∷ rows) are = and_from (is_row row) (are_rows rows) (row_within row are.0) (rows_within rows are.1)

first_within : (tables : List Table) → AllByRecursion IsContents tables → (rm : ℕ) → are_rows (first_rows_of tables rm) ≡ true
first_within [] are rm = refl
first_within (table ∷ tables) are rm =
    cond_both (table.rm == rm) table.rows (first_rows_of tables rm) (λ rows. are_rows rows ≡ true)
    (λ own. rows_within table.rows (recursion_from_All IsRow table.rows (are.0).rows.each))
    (λ other. first_within tables are.1 rm)

all_pass : (p : ℕ → Bool) → ((n : ℕ) → p n ≡ true) → (ns : List ℕ) → list_all p ns ≡ true
all_pass p each [] = refl
all_pass p each (n ∷ ns) = and_from (p n) (list_all p ns) (each n) (all_pass p each ns)

tables_within : (tables : List Table) → All IsContents tables → (count : ℕ)
    → list_all are_rows (each_manager (first_rows_of tables) count) ≡ true
tables_within tables are count =
    list_all-map are_rows (first_rows_of tables) (range_with_len 0 count)
    ∙ all_pass (λ rm. are_rows (first_rows_of tables rm)) (first_within tables (recursion_from_All IsContents tables are))
    (range_with_len 0 count)

-- ---- the cluster

-- within the limits there is a resource manager
pub some_managers : (sizes : Sizes) → is_in_limits sizes ≡ true → 0 < sizes.rms
some_managers sizes limits =
    let kinds = (sizes.acceptors == 1 || sizes.acceptors == 3 || sizes.acceptors == 5 || sizes.acceptors == 7)
    && (nat_lt 0 sizes.leaders && nat_le sizes.leaders most_leaders) in
    ltb-true 0 sizes.rms
    (first_true (nat_lt 0 sizes.rms) (nat_le sizes.rms most_managers)
    (second_true kinds (nat_lt 0 sizes.rms && nat_le sizes.rms most_managers) limits))

module _ (sizes : Sizes) (tables : List Table) (a l m : ℕ) (first : List (List Row)) (acceptors : a ≡ sizes.acceptors)
    (leaders : l ≡ sizes.leaders) (managers : m ≡ sizes.rms) (rows : first ≡ each_manager (first_rows_of tables) m) where
  limits_are : are_sizes a l m ≡ is_in_limits sizes
  limits_are =
      ap (λ (n : ℕ). are_sizes n l m) acceptors ∙ ap (λ (n : ℕ). are_sizes sizes.acceptors n m) leaders
      ∙ ap (are_sizes sizes.acceptors sizes.leaders) managers

  -- sizes that make no cluster are outside the limits
  pub outside_limits : All IsContents tables → is_config (config_of a l m first) ≡ false → is_in_limits sizes ≡ false
  outside_limits are none =
      elim (and_cases (are_sizes a l m && (length first == m)) (list_all are_rows first) none) [
        | inl sizes_or_count ↦ elim (and_cases (are_sizes a l m) (length first == m) sizes_or_count) [
          | inl out ↦ sym limits_are ∙ out
          | inr other ↦
              absurd (both_ways (length first == m) other
              (eq-eqb (length first) m (ap length rows ∙ length-map-range_with_len (first_rows_of tables) 0 m)))
        ]
        | inr bad ↦
            absurd (both_ways (list_all are_rows first) bad
            (ap (list_all are_rows) rows ∙ tables_within tables are m))
      ]

-- what holds of an error that is handed on
pub handed_on : {X : Type 0} (P : Refusal → Type 0) (result : Result X Refusal) (e : Refusal) → result ≡ Err e → P e → IfErr result P
handed_on {X} P result e is holds = subst (λ (r : Result X Refusal). IfErr r P) (sym is) holds

pub matched : {X : Type 0} (P : X → Type 0) (Q : Refusal → Type 0) (result : Result X Refusal) (e : Refusal) → result ≡ Err e → Q e
    → MatchResult result P Q
matched {X} P Q result e is holds = subst (λ (r : Result X Refusal). MatchResult r P Q) (sym is) holds
