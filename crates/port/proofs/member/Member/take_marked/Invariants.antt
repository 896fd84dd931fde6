use Rattle.std.proofs.Common.{map}
use Rattle.port.specs.Members.{item_of}
use Rattle.port.proofs.Taking.{HaveTaken}
use Rattle.port.proofs.member.Member.take_marked.Given as goal

-- the first so many were taken
abbrev pub invariant-loop-i : goal.invariant-loop-i
invariant-loop-i g l =
    HaveTaken l.i l.fn.marks (map (item_of l.fn.self.floored.node.who) l.fn.inputs) l.fn.self l.self l.fn.outs l.outs
