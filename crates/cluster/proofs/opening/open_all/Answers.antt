use Rattle.std.proofs.Common.{◌∙◌, ap, arith, []}
use Rattle.std.proofs.lemmas.Iterator.Adapters.{YieldsList-from_vec}
use Rattle.std.proofs.lemmas.Iterator.Consumers.{YieldsList-turn}
use Rattle.node_core.specs.Configs.{config_by}
use Rattle.node_core.proofs.Placed.{next_among}
use Rattle.node_core.specs.Places.{node_in}
use Rattle.cluster.proofs.Opened.{count_here, begun_next, unmade_next}
use Rattle.cluster.proofs.opening.open_all.Goals as goal

pub node_in-who-requires : goal.node_in-who-requires
node_in-who-requires g c =
    let turn =
    YieldsList-turn (YieldsList-from_vec {s = c.into_iter-device-iterator.result} c.args.records.items
    c.into_iter-device-iterator.ensures.into_iter_gives.0
    (c.into_iter-device-iterator.ensures.into_iter_gives.1 ∙ c.args.records.ok.0)) c.loop-device.yielded c.loop-device.device-iterator
    c.loop-device.yielded_by c.next.result c.next.new.self
    c.in-Some.device c.in-Some.is c.next.ensures.steps in
    let here =
    count_here g.R.Record.held c.args.config.now c.args.sizes c.requires.sizes c.args.records.items c.loop-device.yielded
    c.loop-device.nodes.items c.loop-device.invariant in
    omega (arith, turn.0, here, c.loop-device.nodes.ok.0, c.requires.count, c.len.ensures)

pub open_new-requires : goal.open_new-requires
open_new-requires g c =
    let turn =
    YieldsList-turn (YieldsList-from_vec {s = c.into_iter-device-iterator.result} c.args.records.items
    c.into_iter-device-iterator.ensures.into_iter_gives.0
    (c.into_iter-device-iterator.ensures.into_iter_gives.1 ∙ c.args.records.ok.0)) c.loop-device.yielded c.loop-device.device-iterator
    c.loop-device.yielded_by c.next.result c.next.new.self
    c.in-Some.device c.in-Some.is c.next.ensures.steps in
    let here =
    count_here g.R.Record.held c.args.config.now c.args.sizes c.requires.sizes c.args.records.items c.loop-device.yielded
    c.loop-device.nodes.items c.loop-device.invariant in
    next_among c.args.config.now c.args.sizes c.requires.sizes c.len.result c.node_in-who.result c.node_in-who.ensures.named
    (omega (arith, turn.0, here, c.loop-device.nodes.ok.0, c.requires.count, c.len.ensures))

pub returns-in-Err-clause-err : goal.returns-in-Err-clause-err
returns-in-Err-clause-err g c =
    let turn =
    YieldsList-turn (YieldsList-from_vec {s = c.into_iter-device-iterator.result} c.args.records.items
    c.into_iter-device-iterator.ensures.into_iter_gives.0
    (c.into_iter-device-iterator.ensures.into_iter_gives.1 ∙ c.args.records.ok.0)) c.loop-device.yielded c.loop-device.device-iterator
    c.loop-device.yielded_by c.next.result c.next.new.self
    c.in-Some.device c.in-Some.is c.next.ensures.steps in
    unmade_next g.R.Record.held c.args.config.now c.args.sizes c.requires.sizes c.args.records.items c.loop-device.yielded
    c.loop-device.nodes.items c.loop-device.invariant c.in-Some.device turn.0 turn.1 c.in-Err.refusal c.in-Err.ensures.err

pub loop-device-preserved : goal.loop-device-preserved
loop-device-preserved g c =
    let turn =
    YieldsList-turn (YieldsList-from_vec {s = c.into_iter-device-iterator.result} c.args.records.items
    c.into_iter-device-iterator.ensures.into_iter_gives.0
    (c.into_iter-device-iterator.ensures.into_iter_gives.1 ∙ c.args.records.ok.0)) c.loop-device.yielded c.loop-device.device-iterator
    c.loop-device.yielded_by c.next.result c.next.new.self
    c.in-Some.device c.in-Some.is c.next.ensures.steps in
    begun_next g.R.Record.held c.args.config.now c.args.sizes c.requires.sizes c.args.records.items c.loop-device.yielded
    c.loop-device.nodes.items c.loop-device.invariant c.in-Some.device turn.0 turn.1 c.node_in-who.result
    (c.node_in-who.ensures.named ∙ ap (node_in (config_by c.args.sizes [])) (c.len.ensures ∙ c.loop-device.nodes.ok.0)) c.in-Ok.node
    c.in-Ok.ensures.ok c.push.new.self.items c.in_ok-push.ensures.items
