use Rattle.std.proofs.Common.{◌∙◌}
use Rattle.node_core.proofs.Loading.{replay_refused, load_cut, load_done, load_stopped}
use Rattle.node_core.proofs.opening.load.Goals as goal

pub returns-in-Err-read_role : goal.returns-in-Err-read_role
returns-in-Err-read_role g c = λ config sizes.
    replay_refused config c.args.who c.args.own.now _ _ c.deref.result.now c.in-Err-read_role.refusal
    (c.deref.ensures.value ∙ c.in-Ok.ensures.bytes) c.in-Ok.ensures.step (c.in-Err-read_role.ensures.read config sizes)

pub returns-in-Err-cut_tail : goal.returns-in-Err-cut_tail
returns-in-Err-cut_tail g c = λ config sizes.
    load_cut config c.args.who c.args.own.now _ c.in-Ok-read_role.read.0 c.in-Ok-read_role.read.1 _ c.deref.result.now
    (c.deref.ensures.value ∙ c.in-Ok.ensures.bytes) c.in-Ok.ensures.step (c.in-Ok-read_role.ensures.read config sizes) _
    c.in-Err-cut_tail.error c.from-in-Err-cut_tail.result c.from-in-Err-cut_tail.ensures c.in-Err-cut_tail.ensures

pub returns-in-Ok-migrate : goal.returns-in-Ok-migrate
returns-in-Ok-migrate g c = λ config sizes.
    load_done config c.args.who c.args.own.now _ c.in-Ok-read_role.read.0 c.in-Ok-read_role.read.1 _ c.deref.result.now
    (c.deref.ensures.value ∙ c.in-Ok.ensures.bytes) c.in-Ok.ensures.step (c.in-Ok-read_role.ensures.read config sizes) _ _
    c.in-Ok-cut_tail.ensures c.in-Ok-migrate.ensures

pub returns : goal.returns
returns g c = λ config sizes.
    load_stopped config c.args.who c.args.own.now _ c.in-Ok-read_role.read.0 c.in-Ok-read_role.read.1 _ c.deref.result.now
    (c.deref.ensures.value ∙ c.in-Ok.ensures.bytes) c.in-Ok.ensures.step (c.in-Ok-read_role.ensures.read config sizes) _ _
    c.in-Ok-cut_tail.ensures c.in-Err-migrate.refusal c.in-Err-migrate.ensures
