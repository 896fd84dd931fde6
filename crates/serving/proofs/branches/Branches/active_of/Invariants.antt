use Rattle.std.proofs.Common.{◌≡◌, take}
use Rattle.std.specs.Prelude.{filter}
use Rattle.serving.specs.Noted.{is_active_of, is_known_as}
use Rattle.serving.specs.ByNumber.{under}
use Rattle.serving.proofs.branches.Branches.active_of.Given as goal

-- those of the names so far
abbrev pub invariant-loop-xid : goal.invariant-loop-xid
invariant-loop-xid l =
    l.found.items ≡ filter (is_known_as (is_active_of l.client) l.self) (take l.xid-index (under l.self.started l.client))
