use Rattle.std.proofs.Common.{◌∙◌, ◌++◌, append-nil}
use Rattle.node_core.proofs.sends.NodeSends.remind.Goals as goal

pub returns : goal.returns
returns c =
    (λ i. c.clear.ensures i ++ (c.args.vote ++ c.args.question ++ c.clear-2.ensures i)) ∙ append-nil (c.args.vote ++ c.args.question)
