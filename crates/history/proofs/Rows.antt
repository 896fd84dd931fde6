-- What accepted writes make of rows, key by key: the last one of each key stands.
-- Needed by TablesBack.
use Rattle.std.proofs.Common.{◌≡◌, ◌∙◌, ℕ, Bool, true, false, cond, List, [], ◌∷◌, Option, Some, refl, sym, ap}
use Rattle.std.specs.Prelude.{find, reverse}
use Rattle.std.specs.Option.{option_map_or}
use Rattle.std.specs.List.{AllByRecursion}
use Rattle.std.specs.Str.{bytes_eq}
use Rattle.std.proofs.lemmas.List.{reverse-append}
use Rattle.std.proofs.lemmas.List.Sums.{fold-append}
use Rattle.stable_record.specs.Facts.{AreAscending}
use Rattle.protocol.specs.Basics.{Act, Touched}
use Rattle.safety.specs.Vocabulary.{Action, Put, Del, Row}
use Rattle.protocol.specs.Branches.{row_at, value_after}
use Rattle.protocol.specs.Managers.{act_on}
use Rattle.protocol.specs.Tables.{with_writes}
use Rattle.branch_table.proofs.TableRows.{AscendRows, after_there, keys_there, same_rows, writes_ascend}
use Rattle.history.specs.LookingBack.{writes_in, last_act_on}

-- writes one after another: the last one of each key stands
abbrev overwrites : Touched → Type 0
overwrites t = (o p : Option (List ℕ)) → value_after t.act o ≡ value_after t.act p

writes_there : (rows : List Row) (writes : List Touched) (k : List ℕ) → AscendRows rows → AllByRecursion overwrites writes
    → row_at (with_writes rows (reverse writes)) k ≡ value_after (last_act_on writes k) (row_at rows k)
writes_there rows [] k are each = refl
writes_there rows (t ∷ writes) k are each =
    ap (λ (ts : List Touched). row_at (with_writes rows ts) k) (reverse-append (t ∷ []) writes)
    ∙ ap (λ (rs : List Row). row_at rs k) (fold-append _ rows (reverse writes) (t ∷ []))
    ∙ after_there (with_writes rows (reverse writes)) t.key t.act k (writes_ascend rows (reverse writes) are)
    ∙ by_own (bytes_eq t.key k) (row_at (with_writes rows (reverse writes)) k) (writes_there rows writes k are each.1)
  where
    by_own : (own : Bool) (there : Option (List ℕ)) → there ≡ value_after (last_act_on writes k) (row_at rows k)
        → cond own (value_after t.act there) there
        ≡ value_after (option_map_or (λ write. write.act) (cond own (Some t) (find (λ write. bytes_eq write.key k) writes)) Act.Read)
        (row_at rows k)
    by_own true there e = each.0 there (row_at rows k)
    by_own false there e = e

writes_overwrite : (actions : List Action) → AllByRecursion overwrites (writes_in actions)
writes_overwrite [] = tt
writes_overwrite (Put key value ∷ actions) = (λ o p. refl, writes_overwrite actions)
writes_overwrite (Del key ∷ actions) = (λ o p. refl, writes_overwrite actions)
writes_overwrite (action ∷ actions) = writes_overwrite actions

-- accepted writes make of ascending rows what touched keys do that have the same last acts
pub same_writes : (rows : List Row) (keys : List Touched) (actions : List Action) → AscendRows rows → AreAscending keys
    → ((k : List ℕ) → act_on keys k ≡ last_act_on (writes_in actions) k)
    → with_writes rows keys ≡ with_writes rows (reverse (writes_in actions))
same_writes rows keys actions are ascending acts =
    same_rows (with_writes rows keys) (with_writes rows (reverse (writes_in actions))) (writes_ascend rows keys are)
    (writes_ascend rows (reverse (writes_in actions)) are)
    (λ k. keys_there rows keys k are ascending ∙ ap (λ (act : Act). value_after act (row_at rows k)) (acts k)
    ∙ sym (writes_there rows (writes_in actions) k are (writes_overwrite actions)))
