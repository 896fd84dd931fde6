use Rattle.std.proofs.Common.{◌≡◌, ◌⊎◌, rules}
use Rattle.xid.specs.declared.refusals.Refusal.TheVariants.{NoMemory}
use Rattle.cluster_run.proofs.Configs.{handed_on}
use Rattle.udp_run.specs.Runs.{RefusesSite}
use Rattle.udp_run.proofs.Finding.{are_sizes_of}
use Rattle.udp_run.proofs.Taken.{nodes_refused, ports_refused}
use Rattle.udp_run.proofs.opening.open.Goals as goal

pub returns-in_err-nodes-clause-err : goal.returns-in_err-nodes-clause-err
returns-in_err-nodes-clause-err c =
    handed_on (λ e. (e ≡ NoMemory) ⊎ RefusesSite c.args.config.now e) c.from_residual.result c.in_err-nodes.field-0.0 (search rules)
    (nodes_refused c.args.config.now c.sizes-sizes.result c.sizes-sizes.ensures.sizes c.in_err-nodes.field-0.0 c.in_err-nodes.ensures.err)

pub bind_all-requires : goal.bind_all-requires
bind_all-requires c =
    are_sizes_of c.args.config.now c.sizes-sizes.result c.sizes-sizes.ensures.sizes c.sizes-sizes.ensures.valid

pub returns-in_err-ports-clause-err : goal.returns-in_err-ports-clause-err
returns-in_err-ports-clause-err c =
    handed_on (λ e. (e ≡ NoMemory) ⊎ RefusesSite c.args.config.now e) c.from_residual-in_err-ports.result c.in_err-ports.field-0.0
    (search rules)
    (ports_refused c.args.config.now c.sizes-sizes.result c.in_ok-nodes.nodes.items c.sizes-sizes.ensures.sizes
    c.in_ok-nodes.ensures.ok c.in_err-ports.field-0.0 c.in_err-ports.ensures.err)
