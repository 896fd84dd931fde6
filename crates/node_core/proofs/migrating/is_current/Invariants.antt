use Rattle.std.proofs.Common.{List, [], length}
use Rattle.stable_record.specs.declared.entry.EntryKind.{EntryKind as Entry}
use Rattle.stable_record.specs.Grammar.{IsStored}
use Rattle.node_core.proofs.Current.{IsCurrentUpTo}
use Rattle.node_core.proofs.migrating.is_current.Given as goal

abbrev pub invariant-loop-len : goal.invariant-loop-len
invariant-loop-len l = (all : List Entry) → IsStored l.bytes all [] → IsCurrentUpTo l.bytes l.rest all

abbrev pub decreases-loop-len : goal.decreases-loop-len
decreases-loop-len l = length l.rest
