-- A process asks its node where transactions stand.
use Rattle.std.specs.Prelude.{◌≡◌, List, [], ◌∷◌}
use Rattle.xid.specs.Transactions.{TxParts}
use Rattle.protocol.specs.Nodes.{Asked}
use Rattle.protocol.specs.declared.answers.Answer.{Answer}
use Rattle.protocol.specs.declared.nodes.NodeId.{NodeId}
use Rattle.node_core.specs.declared.output.Output.{Output}
use Rattle.port.specs.Members.{Acts, MemberParts, Takes}
use Rattle.serving.specs.Happenings.{question}

-- a question to a node, where a transaction stands, and what came of it
pub record Asking : Type 0 where
  pub tx : TxParts
  pub out : Output

-- these questions were put to a node, one after another
abbrev pub AsksEach : NodeId → List Asking → (was is : MemberParts) → Type 0
AsksEach who [] was is = is ≡ was
AsksEach who (one ∷ more) was is =
    (next : MemberParts) × Takes (Acts (Asked (question who one.tx))) was next one.out × AsksEach who more next is

-- a node was asked where transactions stand, and nothing else
pub record Asks (who : NodeId) (was is : MemberParts) : Type 0 where
  pub asked : List Asking
  pub each : AsksEach who asked was is

-- a node was asked where a transaction stands, and gave this answer
pub record IsAnswered (who : NodeId) (tx : TxParts) (was is : MemberParts) (answer : Answer) : Type 0 where
  pub out : Output
  pub takes : Takes (Acts (Asked (question who tx))) was is out
  pub answer_is : answer ≡ out.reply
