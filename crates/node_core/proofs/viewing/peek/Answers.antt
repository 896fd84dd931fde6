use Rattle.std.proofs.Common.{◌∙◌}
use Rattle.node_core.proofs.Looking.{peeked, unpeeked}
use Rattle.node_core.proofs.viewing.peek.Goals as goal

pub returns-in-Ok-read_role : goal.returns-in-Ok-read_role
returns-in-Ok-read_role g c = λ config sizes.
    peeked config c.args.who c.args.own.now _ _ c.in-Ok-read_role.read.0 c.in-Ok-read_role.read.1 c.deref.result.now
    (c.deref.ensures.value ∙ c.in-Ok.ensures.bytes) c.in-Ok.ensures.step (c.in-Ok-read_role.ensures.read config sizes)

pub returns : goal.returns
returns g c = λ config sizes.
    unpeeked config c.args.who c.args.own.now _ _ c.deref.result.now c.in-Err-read_role.refusal
    (c.deref.ensures.value ∙ c.in-Ok.ensures.bytes) c.in-Ok.ensures.step (c.in-Err-read_role.ensures.read config sizes)
