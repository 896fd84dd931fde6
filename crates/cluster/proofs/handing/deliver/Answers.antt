use Rattle.std.proofs.Common.{sym}
use Rattle.network.specs.Networks.{shown}
use Rattle.protocol.specs.declared.events.Event.TheVariants.{Deliver}
use Rattle.cluster.proofs.Handed.{deliver_room, deliver_made, deliver_nowhere, delivered_none, no_room}
use Rattle.cluster.proofs.handing.deliver.Goals as goal

pub put_out-requires : goal.put_out-requires
put_out-requires g c =
    deliver_room c.args.sizes c.args.nodes.now.items c.args.network.now c.make_room.new.network c.mark-2.new.self c.args.number
    c.make_room.ensures.same c.mark-2.ensures.stands (shown c.in-Some.kept) c.in-Some.ensures (shown c.in-Some-get.kept)
    c.in-Some-get.ensures c.in-Some-place_of.at c.in-Some-place_of.ensures c.index_mut-node.result.now c.step_into.new.self
    c.step_into.new.out
    c.index_mut-node.ensures.value c.step_into.ensures c.requires.0 c.requires.1 c.most_heard.result
    c.most_heard.ensures.bound c.mark-2.ensures.spare c.mark-2.ensures.spare_bytes c.in-Ok.ensures.room

pub returns : goal.returns
returns g c =
    deliver_made c.args.sizes c.args.nodes.now.items c.args.network.now c.make_room.new.network c.mark-2.new.self c.args.number
    c.make_room.ensures.same c.mark-2.ensures.stands (shown c.in-Some.kept) c.in-Some.ensures (shown c.in-Some-get.kept)
    c.in-Some-get.ensures c.in-Some-place_of.at c.in-Some-place_of.ensures c.index_mut-node.result.now c.step_into.new.self
    c.step_into.new.out
    c.index_mut-node.ensures.value c.step_into.ensures c.put_out.new.network c.put_out.new.answered c.put_out.ensures.sent
    c.put_out.ensures.answer
    c.put_out.ensures.now

pub returns-in-None : goal.returns-in-None
returns-in-None g c =
    delivered_none c.args.sizes c.args.nodes.now.items c.args.network.now c.args.number c.in-None.ensures c.answers.new.self
    c.answers.ensures.answer c.answers.ensures.now

pub returns-in-Err : goal.returns-in-Err
returns-in-Err g c = λ notices.
    no_room (Deliver c.args.number) c.args.sizes c.args.nodes.now.items c.args.network.now c.make_room.new.network notices
    c.make_room.ensures.same c.answers-in-Err.new.self c.answers-in-Err.ensures.answer c.answers-in-Err.ensures.now

pub returns-in_default : goal.returns-in_default
returns-in_default g c =
    deliver_nowhere c.args.sizes c.args.nodes.now.items c.args.network.now c.make_room.new.network c.mark.new.self c.args.number
    c.make_room.ensures.same c.mark.ensures.stands (shown c.in-Some.kept) c.in-Some.ensures (sym c.in_default.ensures)
    c.answers-in_default.new.self c.answers-in_default.ensures.answer c.answers-in_default.ensures.now
