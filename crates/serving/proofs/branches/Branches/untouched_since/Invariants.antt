use Rattle.std.proofs.Common.{◌≡◌, take}
use Rattle.std.specs.Prelude.{filter}
use Rattle.serving.specs.Noted.{is_known_as, is_untouched}
use Rattle.serving.proofs.branches.Branches.untouched_since.Given as goal

-- those of the names so far
abbrev pub invariant-loop-xid : goal.invariant-loop-xid
invariant-loop-xid l =
    l.found.items ≡ filter (is_known_as (is_untouched l.since) l.self) (take l.xid-index l.names)
