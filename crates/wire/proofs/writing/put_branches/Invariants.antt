use Rattle.std.proofs.Common.{◌≡◌, ℕ, ◌+◌, ◌*◌, ◌≤◌, ◌++◌, length, take, drop}
use Rattle.std.specs.List.{flat_map}
use Rattle.wire.specs.Versions.{version_2}
use Rattle.wire.specs.Grammar.{branch_spelling}
use Rattle.wire.specs.declared.grammar.TheConstants.{MAX_BRANCH_BYTES}
use Rattle.wire.proofs.writing.put_branches.Given as goal

abbrev pub invariant-loop-i : goal.invariant-loop-i
invariant-loop-i l = record {
  end : l.at ≡ l.initial.at + length (flat_map (branch_spelling version_2) (take l.i l.tx.branches));
  few : l.at ≤ l.initial.at + MAX_BRANCH_BYTES * l.i;
  shown : take l.at l.out ≡ take l.initial.at l.initial.out ++ flat_map (branch_spelling version_2) (take l.i l.tx.branches);
  rest : (n : ℕ) → l.at ≤ n → drop n l.out ≡ drop n l.initial.out;
}
