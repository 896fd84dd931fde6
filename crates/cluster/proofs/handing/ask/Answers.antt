use Rattle.protocol.specs.declared.events.Event.TheVariants.{Ask}
use Rattle.cluster.proofs.Handed.{ask_room, ask_made, asked_nowhere, no_room}
use Rattle.cluster.proofs.handing.ask.Goals as goal

pub put_out-requires : goal.put_out-requires
put_out-requires g c =
    ask_room c.args.sizes c.args.nodes.now.items c.args.network.now c.make_room.new.network c.make_room.ensures.same c.args.who c.in-Some.at
    c.in-Some.ensures c.args.request.now c.index_mut-node.result.now c.step_into.new.self c.step_into.new.out c.index_mut-node.ensures.value
    c.step_into.ensures c.requires.0 c.requires.1 c.most_asked.result
    c.most_asked.ensures.bound
    c.in-Ok.ensures.room

pub returns : goal.returns
returns g c =
    ask_made c.args.sizes c.args.nodes.now.items c.args.network.now c.make_room.new.network c.make_room.ensures.same c.args.who c.in-Some.at
    c.in-Some.ensures c.args.request.now c.index_mut-node.result.now c.step_into.new.self c.step_into.new.out c.index_mut-node.ensures.value
    c.step_into.ensures c.put_out.new.network c.put_out.new.answered c.put_out.ensures.sent c.put_out.ensures.answer c.put_out.ensures.now

pub returns-in_default : goal.returns-in_default
returns-in_default g c = λ notices config world s.
    asked_nowhere config world c.args.sizes c.args.nodes.now.items c.args.network.now notices s c.args.who c.in_default.ensures
    c.answers.new.self c.answers.ensures.answer c.answers.ensures.now c.args.request.now

pub returns-in-Err : goal.returns-in-Err
returns-in-Err g c = λ notices.
    no_room (Ask c.args.who c.args.request.now) c.args.sizes c.args.nodes.now.items c.args.network.now c.make_room.new.network notices
    c.make_room.ensures.same c.answers-in-Err.new.self c.answers-in-Err.ensures.answer c.answers-in-Err.ensures.now
