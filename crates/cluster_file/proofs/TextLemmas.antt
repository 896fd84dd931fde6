-- One piece more of a text, and one element more that is put behind a list.
use Rattle.std.proofs.Common.{◌≡◌, ◌∙◌, ◌+◌, ◌<◌, ◌==◌, ◌&&◌, true, ℕ, List, ◌++◌, length, take, get_or, ap, sym}
use Rattle.std.proofs.lemmas.List.{take_more, flat_map_more}
use Rattle.std.proofs.lemmas.Bool.{and_parts, eqb-true}
use Rattle.std.specs.List.{flat_map, list_all}
use Rattle.branch_table.specs.TableStates.{are_rows}
use Rattle.node_core.specs.Configs.{are_sizes, is_config}
use Rattle.protocol.specs.Effects.{Config}

-- the same, where nothing stands before
pub text_more_first : {X : Type 0} (f : X → List ℕ) (head : List ℕ) (xs : List X) (i : ℕ) (d : X) → i < length xs
    → (head ++ flat_map f (take i xs)) ++ f (get_or xs i d) ≡ head ++ flat_map f (take (i + 1) xs)
text_more_first f head xs i d below =
    flat_map_more f head (take i xs) (get_or xs i d) ∙ ap (λ ys. head ++ flat_map f ys) (sym (take_more xs i d below))

-- a cluster has a table for each resource manager
pub tables_long : (config : Config) → is_config config ≡ true → length config.tables ≡ config.managers
tables_long config valid =
    let outer = and_parts (are_sizes config.acceptors config.leaders config.managers && (length config.tables == config.managers))
    (list_all are_rows config.tables) valid in
    let inner = and_parts (are_sizes config.acceptors config.leaders config.managers) (length config.tables == config.managers) outer.0 in
    eqb-true (length config.tables) config.managers inner.1
