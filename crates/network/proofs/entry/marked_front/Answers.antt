use Rattle.network.proofs.Front.{front_more, front_stops, front_ends}
use Rattle.network.proofs.entry.marked_front.Goals as goal

pub loop-front-preserved : goal.loop-front-preserved
loop-front-preserved c =
    front_more (λ e. e.marked) c.args.entries.now c.loop-front.front _ c.loop-front-test.true c.if-entries-front.true c.loop-front.invariant

pub returns-else-entries-front : goal.returns-else-entries-front
returns-else-entries-front c =
    front_stops (λ e. e.marked) c.args.entries.now c.loop-front.front _ c.if-entries-front.false c.loop-front.invariant

pub returns-after-loop-front : goal.returns-after-loop-front
returns-after-loop-front c = front_ends (λ e. e.marked) c.args.entries.now c.loop-front.front c.loop-front-test.false c.loop-front.invariant
