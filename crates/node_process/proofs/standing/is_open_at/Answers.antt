use Rattle.node_process.proofs.DueLemmas.{open_by}
use Rattle.node_process.proofs.standing.is_open_at.Goals as goal

pub returns-clause-says : goal.returns-clause-says
returns-clause-says g c =
    open_by c.args.who c.args.tx.now c.args.node.now c.answer_of.new.node c.in_ok-answer.answer c.says_open.result
    c.in_ok-answer.ensures.answered c.says_open.ensures
