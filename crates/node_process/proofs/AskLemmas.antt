-- Questions that are put to a node, one after another: what a round of work, and the wishes of its clients, ask of it.
use Rattle.std.proofs.Common.{◌≡◌, ◌++◌, ◌∷◌, [], List, refl, subst}
use Rattle.xid.specs.Transactions.{TxParts}
use Rattle.protocol.specs.Nodes.{Asked}
use Rattle.protocol.specs.declared.nodes.NodeId.{NodeId}
use Rattle.protocol.specs.declared.requests.Request.{Request}
use Rattle.node_core.specs.declared.output.Output.{Output}
use Rattle.port.specs.Members.{Acts, MemberParts, Takes}
use Rattle.serving.specs.Happenings.{question}
use Rattle.node_process.specs.Asking.{Asking, Asks, AsksEach, IsAnswered}

-- nothing was asked
pub asks_none : (who : NodeId) (node : MemberParts) → Asks who node node
asks_none who node = record { asked = []; each = refl }

-- one question was put
pub asks_one : (who : NodeId) (tx : TxParts) (request : Request) (was is : MemberParts) (out : Output) → request ≡ question who tx
    → Takes (Acts (Asked request)) was is out → Asks who was is
asks_one who tx request was is out same takes = record {
  asked = record { tx = tx; out = out } ∷ [];
  each = (is, subst (λ (r : Request). Takes (Acts (Asked r)) was is out) same takes, refl);
}

-- and answered
pub answered_one : (who : NodeId) (tx : TxParts) (request : Request) (was is : MemberParts) (out : Output) → request ≡ question who tx
    → Takes (Acts (Asked request)) was is out → IsAnswered who tx was is out.reply
answered_one who tx request was is out same takes = record {
  out = out;
  takes = subst (λ (r : Request). Takes (Acts (Asked r)) was is out) same takes;
  answer_is = refl;
}

each_both : (who : NodeId) (first second : List Asking) (was mid is : MemberParts) → AsksEach who first was mid → AsksEach who second mid is
    → AsksEach who (first ++ second) was is
each_both who [] second was mid is same more = subst (λ (node : MemberParts). AsksEach who second node is) same more
each_both who (one ∷ rest) second was mid is (next, takes, each) more = (next, takes, each_both who rest second next mid is each more)

-- some questions were put, and then others
pub asks_both : (who : NodeId) (was mid is : MemberParts) → Asks who was mid → Asks who mid is → Asks who was is
asks_both who was mid is first second = record {
  asked = first.asked ++ second.asked;
  each = each_both who first.asked second.asked was mid is first.each second.each;
}
