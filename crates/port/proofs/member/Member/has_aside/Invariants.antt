use Rattle.std.proofs.Common.{◌≡◌, false, map, take}
use Rattle.std.specs.List.{list_any}
use Rattle.port.specs.Members.{is_aside, item_of}
use Rattle.port.proofs.member.Member.has_aside.Given as goal

-- none of the first so many is
abbrev pub invariant-loop-i : goal.invariant-loop-i
invariant-loop-i g l =
    list_any (is_aside l.fn.self.floored.floor) (map (item_of l.fn.self.floored.node.who) (take l.i l.fn.inputs)) ≡ false
