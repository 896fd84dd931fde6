use Rattle.std.proofs.Common.{List, map, true}
use Rattle.port.specs.Members.{Item, item_of}
use Rattle.port.proofs.Taking.{HaveTaken}
use Rattle.port.proofs.member.Member.take_each.Given as goal

-- the first so many were taken
abbrev pub invariant-loop-i : goal.invariant-loop-i
invariant-loop-i g l =
    let items : List Item = map (item_of l.fn.self.floored.node.who) l.fn.inputs in
    HaveTaken l.i (map (λ item. true) items) items l.fn.self l.self l.fn.outs l.outs
