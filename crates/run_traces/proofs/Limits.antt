-- What the limits of a script say of its cluster, and of its first tables.
use Rattle.std.proofs.Common.{◌≡◌, ◌∙◌, ℕ, ◌<◌, ◌≤◌, true, ◌&&◌, ◌||◌, List, [], ◌∷◌, length, Option}
use Rattle.std.proofs.Common.{inl, inr, refl, sym, ap, subst, unwrap_or, arith, nat_lt, nat_le}
use Rattle.std.specs.Prelude.{◌==◌}
use Rattle.std.specs.List.{AllByRecursion}
use Rattle.std.proofs.lemmas.Bool.{and_from, and_parts, cases_lt, cond_both, eqb-true, le-leb, leb-true, ltb-true, or_cases}
use Rattle.std.proofs.lemmas.List.Elements.{recursion_from_All}
use Rattle.std.proofs.lemmas.List.FromFn.{get_or-map-range_with_len, length-map-range_with_len}
use Rattle.std.proofs.lemmas.Option.{slice_get_past, unwrap_or-slice_get}
use Rattle.xid.specs.Limits.{most_leaders, most_managers}
use Rattle.safety.specs.Vocabulary.{Row}
use Rattle.protocol.specs.Nodes.{first_rows}
use Rattle.net_script.specs.declared.values.Script.{Script}
use Rattle.net_script.specs.declared.values.Sizes.{Sizes}
use Rattle.net_script.specs.declared.values.Table.{Table}
use Rattle.net_script.specs.Items.{IsContents, IsRow}
use Rattle.net_script.specs.Items as items
use Rattle.net_script.specs.Scripts.{IsScript}
use Rattle.cluster_run.specs.Runs.{is_in_limits}
use Rattle.cluster_run.specs.Traces.{config_of, each_manager, first_rows_of}
use Rattle.run_traces.specs.Machine.{IsLimited}
use Rattle.run_traces.proofs.Rows.{KeepLimits}

-- ---- sizes

few_acceptors : (n : ℕ) → (n == 1 || n == 3 || n == 5 || n == 7) ≡ true → n ≤ 7
few_acceptors n e = elim (or_cases (n == 1 || n == 3 || n == 5) (n == 7) e) [
  | inl five ↦ elim (or_cases (n == 1 || n == 3) (n == 5) five) [
    | inl three ↦ elim (or_cases (n == 1) (n == 3) three) [
      | inl is ↦ omega (arith, eqb-true n 1 is)
      | inr is ↦ omega (arith, eqb-true n 3 is)
    ]
    | inr is ↦ omega (arith, eqb-true n 5 is)
  ]
  | inr is ↦ omega (arith, eqb-true n 7 is)
]

-- what the limits say, size by size
record AreSizes (s : Sizes) : Type 0 where
  kinds : (s.acceptors == 1 || s.acceptors == 3 || s.acceptors == 5 || s.acceptors == 7) ≡ true
  some : 0 < s.leaders
  leaders : s.leaders ≤ most_leaders
  one : 0 < s.rms
  managers : s.rms ≤ most_managers

sizes_are : (s : Sizes) → is_in_limits s ≡ true → AreSizes s
sizes_are s limits =
    let kinds = (s.acceptors == 1 || s.acceptors == 3 || s.acceptors == 5 || s.acceptors == 7) in
    let leaders = nat_lt 0 s.leaders && nat_le s.leaders most_leaders in
    let both = and_parts (kinds && leaders) (nat_lt 0 s.rms && nat_le s.rms most_managers) limits in
    let front = and_parts kinds leaders both.0 in
    let middle = and_parts (nat_lt 0 s.leaders) (nat_le s.leaders most_leaders) front.1 in
    let back = and_parts (nat_lt 0 s.rms) (nat_le s.rms most_managers) both.1 in
    record {
      kinds = front.0;
      some = ltb-true 0 s.leaders middle.0;
      leaders = leb-true s.leaders most_leaders middle.1;
      one = ltb-true 0 s.rms back.0;
      managers = leb-true s.rms most_managers back.1;
    }

-- the limits of a run are those that a reader of traces asks for
pub within_limits : (s : Sizes) → is_in_limits s ≡ true → items.is_in_limits s ≡ true
within_limits s limits =
    let are = sizes_are s limits in
    let kinds = (s.acceptors == 1 || s.acceptors == 3 || s.acceptors == 5 || s.acceptors == 7) in
    let leaders = nat_le 1 s.leaders && nat_le s.leaders most_leaders in
    and_from (kinds && leaders) (nat_le 1 s.rms && nat_le s.rms most_managers)
    (and_from kinds leaders are.kinds
    (and_from (nat_le 1 s.leaders) (nat_le s.leaders most_leaders) (le-leb 1 s.leaders (omega (arith, are.some)))
    (le-leb s.leaders most_leaders are.leaders)))
    (and_from (nat_le 1 s.rms) (nat_le s.rms most_managers) (le-leb 1 s.rms (omega (arith, are.one)))
    (le-leb s.rms most_managers are.managers))

pub few_managers : (s : Sizes) → is_in_limits s ≡ true → s.rms ≤ most_managers
few_managers s limits = (sizes_are s limits).managers

pub limited : (s : Script) → is_in_limits s.sizes ≡ true → IsLimited (config_of s)
limited s limits =
    let are = sizes_are s.sizes limits in
    record {
      acceptors = few_acceptors s.sizes.acceptors are.kinds;
      some = are.some;
      leaders = are.leaders;
      managers = are.managers;
    }

-- ---- first tables

contents_keep : (tables : List Table) → AllByRecursion IsContents tables → (rm : ℕ) → KeepLimits (first_rows_of tables rm)
contents_keep [] are rm = tt
contents_keep (table ∷ tables) are rm =
    cond_both (table.rm == rm) table.rows (first_rows_of tables rm) KeepLimits
    (λ own. recursion_from_All IsRow table.rows are.0.rows.each) (λ other. contents_keep tables are.1 rm)

-- no line is about a resource manager that isn't there
none_outside : (tables : List Table) (count rm : ℕ) → AllByRecursion (λ (table : Table). table.rm < count) tables → count ≤ rm
    → first_rows_of tables rm ≡ []
none_outside [] count rm are over = refl
none_outside (table ∷ tables) count rm are over =
    cond_both (table.rm == rm) table.rows (first_rows_of tables rm) (λ (rows : List Row). rows ≡ [])
    (λ own. let here = eqb-true table.rm rm own in let below = are.0 in absurd (omega (arith, here, below, over)))
    (λ other. none_outside tables count rm are.1 over)

-- the first rows of a script's cluster are those of its lines
pub rows_are : (s : Script) → IsScript s → (rm : ℕ) → first_rows (config_of s) rm ≡ first_rows_of s.tables rm
rows_are s is rm =
    let lists = each_manager (first_rows_of s.tables) s.sizes.rms in
    let count : length lists ≡ s.sizes.rms = length-map-range_with_len (first_rows_of s.tables) 0 s.sizes.rms in
    elim (cases_lt rm s.sizes.rms) [
      | inl inside ↦ unwrap_or-slice_get lists rm []
          ∙ get_or-map-range_with_len (first_rows_of s.tables) 0 s.sizes.rms rm rm [] inside (omega arith)
      | inr outside ↦ ap (λ (o : Option (List Row)). unwrap_or o []) (slice_get_past lists rm (omega (arith, count, outside)))
          ∙ sym (none_outside s.tables s.sizes.rms rm
          (recursion_from_All (λ (table : Table). table.rm < s.sizes.rms) s.tables is.managers) outside)
    ]

pub first_keep : (s : Script) → IsScript s → (rm : ℕ) → KeepLimits (first_rows (config_of s) rm)
first_keep s is rm =
    subst KeepLimits (sym (rows_are s is rm)) (contents_keep s.tables (recursion_from_All IsContents s.tables is.tables) rm)
