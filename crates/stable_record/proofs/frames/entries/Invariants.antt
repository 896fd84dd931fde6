use Rattle.std.proofs.Common.{◌≡◌, ℕ, List, ◌++◌, length}
use Rattle.stable_record.specs.declared.entry.EntryKind.{EntryKind as Entry}
use Rattle.stable_record.specs.Grammar.{IsStored}
use Rattle.stable_record.proofs.frames.entries.Given as goal

abbrev pub invariant-loop-entry : goal.invariant-loop-entry
invariant-loop-entry l = record {
  goes : (more : List Entry) (tail : List ℕ) → IsStored l.rest more tail → IsStored l.bytes (l.all.items ++ more) tail;
  came : (all : List Entry) (tail : List ℕ) → IsStored l.bytes all tail → (more : List Entry) × IsStored l.rest more tail;
  place : (before : List ℕ) × (l.bytes ≡ before ++ l.rest);
}

abbrev pub decreases-loop-entry : goal.decreases-loop-entry
decreases-loop-entry l = length l.rest
