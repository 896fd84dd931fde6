use Rattle.std.proofs.Common.{◌≡◌, ◌++◌, Ok}
use Rattle.toml.specs.View.{members_view, table_view}
use Rattle.cluster_file.specs.Mistakes.{◌>>=◌}
use Rattle.cluster_file.specs.Rows.{rows_from}
use Rattle.cluster_file.proofs.tables.rows_of.Given as goal

-- the rows so far, and those that are left
abbrev pub invariant-loop-key : goal.invariant-loop-key
invariant-loop-key l =
    rows_from l.rows.path.now (table_view l.rows.table.now)
    ≡ rows_from l.rows.path.now (members_view l.key-iterator) >>= (λ more. Ok (l.all.items ++ more))
