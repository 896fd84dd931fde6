use Rattle.std.proofs.Common.{◌++◌, List, ℕ, Vec, drop}
use Rattle.std.specs.declared.alloc.Global.{Global}
use Rattle.port.specs.Members.{MemberParts}
use Rattle.letter_port.specs.LetterPorts.{LetterParts}
use Rattle.node_process.specs.Saying.{SaysAll}
use Rattle.node_process.proofs.saying.say_all.Given as goal

-- where what is said to the others comes behind what was said, all is said
abbrev pub invariant-loop-item : goal.invariant-loop-item
invariant-loop-item g l =
    (is : MemberParts) (after : LetterParts g.row.P.Denot) (more : List (Vec ℕ Global))
    → SaysAll g.P.Port.sent l.desk.terms (drop l.item-index l.items) l.node is l.port after more
    → SaysAll g.P.Port.sent l.desk.terms l.items l.fn.node is l.fn.port after (l.said.items ++ more)
