use Rattle.std.proofs.Common.{◌≡◌, ◌<◌, ℕ, get_or}
use Rattle.stable_record.specs.declared.fact.Touched.{Touched}
use Rattle.branch_table.proofs.keys.are_same.Given as goal

abbrev pub invariant-loop-at : goal.invariant-loop-at
invariant-loop-at l = (k : ℕ) (d : Touched) → k < l.at → get_or l.keys k d ≡ get_or l.others k d
