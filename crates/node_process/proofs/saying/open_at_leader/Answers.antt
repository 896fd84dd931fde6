use Rattle.node_process.proofs.AskLemmas.{asks_both, asks_none}
use Rattle.node_process.proofs.saying.open_at_leader.Goals as goal

pub loop-place-init : goal.loop-place-init
loop-place-init g c = asks_none c.args.desk.now.terms.who c.args.node.now

pub loop-place-preserved : goal.loop-place-preserved
loop-place-preserved g c =
    asks_both c.args.desk.now.terms.who c.args.node.now c.loop-place.node c.push_open.new.node c.loop-place.invariant c.push_open.ensures

pub returns-in_err-push_open : goal.returns-in_err-push_open
returns-in_err-push_open g c =
    asks_both c.args.desk.now.terms.who c.args.node.now c.loop-place.node c.push_open.new.node c.loop-place.invariant c.push_open.ensures
