use Rattle.std.proofs.Common.{◌≡◌, ◌⊎◌, rules}
use Rattle.xid.specs.declared.refusals.Refusal.TheVariants.{NoMemory}
use Rattle.cluster_run.proofs.Configs.{handed_on}
use Rattle.udp_run.specs.Runs.{RefusesNext}
use Rattle.udp_run.proofs.Taken.{next_refused, one_opened, place_among}
use Rattle.udp_run.proofs.opening.open_nodes.Goals as goal

pub open_node-requires : goal.open_node-requires
open_node-requires c =
    place_among c.args.config.now c.args.sizes c.requires c.node_in-who.result c.loop-at.at c.node_in-who.ensures.placed

pub returns-in_err-open_node-clause-err : goal.returns-in_err-open_node-clause-err
returns-in_err-open_node-clause-err c =
    handed_on (λ e. (e ≡ NoMemory) ⊎ RefusesNext c.args.config.now c.args.sizes e) c.from_residual.result c.in_err-open_node.field-0.0
    (search rules)
    (next_refused c.args.config.now c.args.sizes c.loop-at.nodes.items c.loop-at.at c.node_in-who.result c.loop-at.invariant
    c.node_in-who.ensures.placed c.in_err-open_node.field-0.0 c.in_err-open_node.ensures.err)

pub loop-at-preserved : goal.loop-at-preserved
loop-at-preserved c =
    one_opened c.args.config.now c.args.sizes c.loop-at.at c.loop-at.nodes.items c.push.new.self.items c.in_ok-open_node.field-0
    c.node_in-who.result c.loop-at.invariant c.in_ok-push.ensures.items c.node_in-who.ensures.placed c.in_ok-open_node.ensures.ok
