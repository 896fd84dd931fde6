use Rattle.std.proofs.Common.{◌≡◌, Some, map}
use Rattle.std.specs.List.{list_any}
use Rattle.xid.specs.Places.{is_xid_below}
use Rattle.branch_table.specs.Parts.{branch_of}
use Rattle.branch_table.proofs.branches.Branches.has_below.Given as goal

abbrev pub invariant-loop-xid : goal.invariant-loop-xid
invariant-loop-xid l =
    list_any (λ branch. is_xid_below (Some l.floor) branch.xid) (map (λ entry. branch_of entry.0 entry.1) l.xid-iterator)
    ≡ list_any (λ branch. is_xid_below (Some l.floor) branch.xid) l.self
