use Rattle.std.proofs.Common.{◌≡◌, List}
use Rattle.slab.specs.Slab.{Slab}
use Rattle.port.specs.Members.{MemberParts}
use Rattle.serving.specs.Clients.{ClientParts}
use Rattle.node_process.specs.Awaiting.{HearStandings, Waiting}
use Rattle.node_process.proofs.awaiting.answer_awaited.Given as goal

-- what the clients so far heard, and then the others, is what all hear; and no client came
abbrev pub invariant-loop-key : goal.invariant-loop-key
invariant-loop-key g l = record {
  hear : (more : List Waiting) (is : MemberParts) (last : Slab ClientParts) → HearStandings l.now more l.node is l.clients.seats last
      → (heard : List Waiting) × HearStandings l.now heard l.fn.node is l.fn.clients.seats last;
  count : l.clients.count ≡ l.fn.clients.count;
}
