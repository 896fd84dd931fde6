use Rattle.std.proofs.Common.{ℕ, List, ◌++◌, length, take}
use Rattle.std.specs.Int.{w64, to_be_bytes}
use Rattle.std.specs.List.{flat_map}
use Rattle.sha2.specs.Hashers.{Holds256}
use Rattle.cluster_file.specs.Texts.{row_text}
use Rattle.cluster_file.proofs.digesting.add_table.Given as goal

-- the rows so far have gone in
abbrev pub invariant-loop-row : goal.invariant-loop-row
invariant-loop-row l =
    (m : List ℕ) → Holds256 l.fn.hasher m
    → Holds256 l.hasher (m ++ (to_be_bytes w64 (length l.rows) ++ flat_map row_text (take l.row-index l.rows)))
