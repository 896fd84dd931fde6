use Rattle.std.proofs.Common.{◌≡◌, true, not, eqb, take}
use Rattle.std.specs.List.{list_all}
use Rattle.net_script.proofs.scripts.is_free.Given as goal

abbrev pub invariant-loop-table : goal.invariant-loop-table
invariant-loop-table l = list_all (λ table. not (eqb table.rm l.rm)) (take l.table-index l.tables) ≡ true
