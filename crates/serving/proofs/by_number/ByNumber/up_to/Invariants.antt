use Rattle.std.proofs.Common.{◌≡◌, ◌||◌}
use Rattle.std.specs.BTreeMap.Range.{entries_between}
use Rattle.std.specs.Ordering.{nat_cmp}
use Rattle.std.specs.Set.{is_member}
use Rattle.std.specs.declared.ops.Bound.TheVariants.{Included, Unbounded}
use Rattle.xid.specs.Names.{XidParts, xid_eq}
use Rattle.serving.proofs.ByNumberLemmas.{in_any}
use Rattle.serving.proofs.by_number.ByNumber.up_to.Given as goal

-- the names that were found, with those of the entries that are left, are those of all
abbrev pub invariant-loop-names : goal.invariant-loop-names
invariant-loop-names l =
    (x : XidParts) → (is_member xid_eq l.found.keys x || in_any x l.names-iterator)
    ≡ in_any x (entries_between nat_cmp Unbounded (Included l.last) l.self.numbers.entries)
