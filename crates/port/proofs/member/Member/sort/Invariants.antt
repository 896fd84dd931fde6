use Rattle.std.proofs.Common.{map, take}
use Rattle.port.specs.Members.{item_of}
use Rattle.port.proofs.Taking.{AreSorted}
use Rattle.port.proofs.member.Member.sort.Given as goal

-- the first so many are sorted
abbrev pub invariant-loop-i : goal.invariant-loop-i
invariant-loop-i g l =
    AreSorted l.fn.self.floored.floor (map (item_of l.fn.self.floored.node.who) (take l.i l.fn.inputs)) l.group.items l.asides.items
