use Rattle.std.proofs.Common.{◌≡◌, ◌||◌, take}
use Rattle.std.specs.Set.{is_member}
use Rattle.xid.specs.Names.{XidParts, xid_eq}
use Rattle.serving.proofs.by_number.add_all.Given as goal

-- those from before, and the names so far
abbrev pub invariant-loop-xid : goal.invariant-loop-xid
invariant-loop-xid l =
    (x : XidParts) → is_member xid_eq l.found.keys x
    ≡ (is_member xid_eq l.initial.found.keys x || is_member xid_eq (take l.xid-index l.names) x)
