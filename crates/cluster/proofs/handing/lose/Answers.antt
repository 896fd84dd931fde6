use Rattle.cluster.proofs.Handed.{lost_none, lost_one}
use Rattle.cluster.proofs.handing.lose.Goals as goal

pub returns-then-not-mark : goal.returns-then-not-mark
returns-then-not-mark c =
    lost_none c.args.network.now c.mark.new.self c.args.number c.answers.new.self c.if-not-mark.ensures.found c.mark.ensures.stands
    c.answers.ensures.answer c.answers.ensures.now

pub returns : goal.returns
returns c =
    lost_one c.args.network.now c.mark.new.self c.args.number c.answers-2.new.self c.if-not-mark.ensures.found c.mark.ensures.stands
    c.answers-2.ensures.answer c.answers-2.ensures.now
