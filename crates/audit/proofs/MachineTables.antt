-- In a run of the machine the tables that an auditor makes are those looked back at.
use Rattle.std.proofs.Common.{◌≡◌, inl, inr, ◌∙◌, ℕ, suc, ◌+◌, ◌<◌, true, not, ◌&&◌, List, [], ◌∷◌, ◌++◌, length}
use Rattle.std.proofs.Common.{get_or, reverse, Option, Some, None, refl, sym, ap, subst, arith}
use Rattle.std.specs.Prelude.{filter_map, fold}
use Rattle.std.specs.Cmp.Lexicographic.{pointwise}
use Rattle.std.specs.List.{cons_option, take_while}
use Rattle.std.specs.Option.{option_map_or, option_and_then}
use Rattle.std.proofs.lemmas.List.Elements.{filter_map-append}
use Rattle.std.proofs.lemmas.List.Sums.{fold-append}
use Rattle.std.proofs.lemmas.Cmp.{nat_list_eq_equiv}
use Rattle.xid.specs.Names.{XidParts}
use Rattle.xid.specs.Transactions.{TxParts, xid_at}
use Rattle.stable_record.specs.declared.fact.FactKind.TheVariants as stored
use Rattle.protocol.specs.Basics.{Touched}
use Rattle.safety.specs.Vocabulary.{Action, Change, Row, Step}
use Rattle.protocol.specs.Effects.{Config}
use Rattle.protocol.specs.Holds.{IsIn}
use Rattle.protocol.specs.Nodes.{NodeState, first_rows}
use Rattle.protocol.specs.Rows.{row_eq}
use Rattle.protocol.specs.Tables.{put_row, with_writes}
use Rattle.protocol.specs.Worlds.{World, step_of, world_step}
use Rattle.history.specs.Lines.{change_at, changes_at}
use Rattle.history.specs.LookingBack.{is_start, done_at, writes_in}
use Rattle.history.specs.Writes.{accepted_writes, writes_of, is_committed_view, changed_to, commit_order, table_back}
use Rattle.history.proofs.Kept.{kept_ever, voted_undone}
use Rattle.history.proofs.Moves.{manager_in, IsMove, Quiet, Restarted, Called, Stored, event_moved}
use Rattle.history.proofs.Runs.{IsRun, AtFirst, Then, reverse_more}
use Rattle.history.proofs.SerialTables as tables
use Rattle.history.proofs.Told.{sound, told_ever}
use Rattle.audit.specs.ToldTables.{commit_at, table_told, are_tables}
use Rattle.audit.proofs.MachineStretches.{writes_same}

-- ---- one step more

abbrev commit : Change → Option TxParts
commit = changed_to is_committed_view

order_more : (rm : ℕ) (step : Step) (before : List Step)
    → commit_order rm (step ∷ before) ≡ commit_order rm before ++ cons_option (commit_at rm step) []
order_more rm step before =
    ap (filter_map commit) (reverse_more (change_at rm step) (changes_at rm before))
    ∙ filter_map-append commit (reverse (changes_at rm before)) (cons_option (change_at rm step) [])
    ∙ ap (λ (txs : List TxParts). commit_order rm before ++ txs) (by (change_at rm step))
  where
    by : (o : Option Change) → filter_map commit (cons_option o []) ≡ cons_option (option_and_then commit o) []
    by None = refl
    by (Some change) = refl

module _ (config : Config) (world : World) (before : List Step) (run : IsRun config world before) (rm : ℕ) (new : NodeState) (step : Step)
    (move : IsMove config rm (manager_in config world rm) new step.event step.answer step.now) where
  abbrev old : NodeState
  old = manager_in config world rm

  undone_by : (tx : TxParts) (keys : List Touched) (x : XidParts) → IsIn old.facts (stored.VotePrepared tx keys) → xid_at tx rm ≡ Some x
      → IsMove config rm old new step.event step.answer step.now → done_at rm x step ≡ None
  undone_by tx keys x h name (Quiet is) = is.silent.calls x
  undone_by tx keys x h name (Restarted is) = is.calls x
  undone_by tx keys x h name (Stored is) = is.calls x
  undone_by tx keys x h name (Called is) =
      voted_undone config rm old new step before (told_ever config world before rm run) (sound config world before rm run)
      (kept_ever config world before rm run) is tx keys x h name

  -- nothing more is written in the branch of a committed transaction
  writes_stay : (tx : TxParts) → IsIn (commit_order rm before) tx → writes_of rm (step ∷ before) tx ≡ writes_of rm before tx
  writes_stay tx h = by (xid_at tx rm) refl
    where
      by : (o : Option XidParts) → xid_at tx rm ≡ o
          → option_map_or (λ x. accepted_writes rm x (step ∷ before)) o [] ≡ option_map_or (λ x. accepted_writes rm x before) o []
      by None name = refl
      by (Some x) name =
          let vote = tables.found config world before rm run tx
          (subst (λ (txs : List TxParts). IsIn txs tx) (sym (tables.commits_are config world before rm run)) h) in
          ap (λ (o : Option Action). reverse (writes_in (take_while (λ action. not (is_start action))
          (cons_option o (filter_map (done_at rm x) before)))))
          (undone_by tx vote.keys x vote.stands name move)

  same_fold : (txs : List TxParts) (rows : List Row) → ((tx : TxParts) → IsIn txs tx → IsIn (commit_order rm before) tx)
      → fold (λ so_far tx. with_writes so_far (writes_of rm before tx)) rows txs
      ≡ fold (λ so_far tx. with_writes so_far (writes_of rm (step ∷ before) tx)) rows txs
  same_fold [] rows each = refl
  same_fold (tx ∷ txs) rows each =
      same_fold txs (with_writes rows (writes_of rm before tx)) (λ t h. each t (inr h))
      ∙ ap (λ ws. fold (λ so_far t. with_writes so_far (writes_of rm (step ∷ before) t)) (with_writes rows ws) txs)
      (sym (writes_stay tx (each tx (inl refl))))

  table_more : (first : List Row) → table_back first rm (step ∷ before)
      ≡ option_map_or (λ tx. with_writes (table_back first rm before) (writes_of rm (step ∷ before) tx)) (commit_at rm step)
      (table_back first rm before)
  table_more first =
      ap (fold write base) (order_more rm step before)
      ∙ fold-append write base (commit_order rm before) (cons_option (commit_at rm step) [])
      ∙ ap (λ rows. fold write rows (cons_option (commit_at rm step) [])) (sym (same_fold (commit_order rm before) base (λ tx h. h)))
      ∙ by (commit_at rm step) (table_back first rm before)
    where
      base : List Row
      base = fold put_row [] first

      write : List Row → TxParts → List Row
      write so_far tx = with_writes so_far (writes_of rm (step ∷ before) tx)

      by : (o : Option TxParts) (rows : List Row) → fold write rows (cons_option o [])
          ≡ option_map_or (λ tx. with_writes rows (writes_of rm (step ∷ before) tx)) o rows
      by None rows = refl
      by (Some tx) rows = refl

-- the table that the lines tell
pub told_back : (config : Config) (world : World) (history : List Step) → IsRun config world history → (rm : ℕ)
    → table_told (λ r. fold put_row [] (first_rows config r)) rm history ≡ table_back (first_rows config rm) rm history
told_back config _ _ AtFirst rm = refl
told_back config _ _ (Then world before event fault run) rm =
    let result = world_step config world event fault in
    let step = step_of world event result in
    let first = λ (r : ℕ). fold put_row [] (first_rows config r) in
    (λ i. option_map_or (λ tx. with_writes (told_back config world before run rm i)
    (writes_same config result.world (step ∷ before) (Then world before event fault run) rm tx i)) (commit_at rm step)
    (told_back config world before run rm i))
    ∙ sym (table_more config world before run rm (manager_in config result.world rm) step (event_moved config world rm event fault)
    (first_rows config rm))

-- ---- the last rows

row_same : (row : Row) → row_eq row row ≡ true
row_same row = (λ i. nat_list_eq_equiv.refl row.key i && nat_list_eq_equiv.refl row.value i)

rows_same : (rows : List Row) → pointwise row_eq rows rows ≡ true
rows_same [] = refl
rows_same (row ∷ rows) = (λ i. row_same row i && rows_same rows i)

pub are_so : (f : ℕ → List Row) (from : ℕ) (lists : List (List Row))
    → ((i : ℕ) → i < length lists → get_or lists i [] ≡ f (from + i)) → are_tables f from lists ≡ true
are_so f from [] each = refl
are_so f from (rows ∷ lists) each =
    let here : from + 0 ≡ from = omega arith in
    (λ i. (ap (pointwise row_eq rows) (sym (each 0 (omega arith) ∙ ap f here)) ∙ rows_same rows) i
    && are_so f (suc from) lists (λ k lt.
    let next : from + suc k ≡ suc from + k = omega arith in
    each (suc k) (omega (arith, lt)) ∙ ap f next) i)
