use Rattle.std.proofs.Common.{◌≡◌, ◌++◌, map}
use Rattle.branch_table.specs.Outcomes.{prepared_names}
use Rattle.branch_table.specs.Parts.{branch_of}
use Rattle.branch_table.proofs.branches.Branches.prepared.Given as goal

abbrev pub invariant-loop-xid : goal.invariant-loop-xid
invariant-loop-xid l = l.names.items ++ prepared_names (map (λ entry. branch_of entry.0 entry.1) l.xid-iterator) ≡ prepared_names l.self
