use Rattle.std.proofs.Common.{◌∙◌, ap}
use Rattle.serving.specs.Happenings.{question}
use Rattle.node_process.proofs.AskLemmas.{answered_one, asks_one}
use Rattle.node_process.proofs.standing.answer_of.Goals as goal

pub returns-clause-asks : goal.returns-clause-asks
returns-clause-asks g c =
    asks_one c.args.who c.args.tx.now c.in_ok-request.request c.args.node.now c.take.new.self c.take.result
    (c.in_ok-request.ensures ∙ ap (question c.args.who) c.of.ensures)
    c.take.ensures

pub returns-clause-answered : goal.returns-clause-answered
returns-clause-answered g c =
    answered_one c.args.who c.args.tx.now c.in_ok-request.request c.args.node.now c.take.new.self c.take.result
    (c.in_ok-request.ensures ∙ ap (question c.args.who) c.of.ensures)
    c.take.ensures
