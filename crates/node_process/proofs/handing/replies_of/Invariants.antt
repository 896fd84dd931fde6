use Rattle.std.proofs.Common.{◌≡◌, Bor, map, take}
use Rattle.protocol.specs.declared.answers.Answer.{Answer}
use Rattle.node_core.specs.declared.output.Output.{Output}
use Rattle.node_process.proofs.handing.replies_of.Given as goal

-- what the node replied to the inputs so far
abbrev pub invariant-loop-out : goal.invariant-loop-out
invariant-loop-out l =
    map (λ (reply : Bor Answer). reply.now) l.replies.items ≡ map (λ (out : Output). out.reply) (take l.out-index l.outs)
