use Rattle.std.proofs.Common.{sym, ◌∙◌}
use Rattle.wire.proofs.Ends.{goes, stops, is_done}
use Rattle.wire.proofs.spelled_tx.after_branches.Goals as goal

pub returns-in_err-rm : goal.returns-in_err-rm
returns-in_err-rm c =
    rw c.from_residual.ensures
    (sym (stops c.loop.least c.args.count c.loop.counter c.loop.rest.now c.loop-test.true c.in_err-rm.ensures.value) ∙ c.loop.invariant)

pub loop-preserved : goal.loop-preserved
loop-preserved c =
    sym (goes c.loop.least c.args.count c.loop.counter c.loop.rest.now c.in_ok-rm.rm c.in_ok-rm.after.now c.loop-test.true
    c.in_ok-rm.ensures.value)
    ∙ c.loop.invariant

pub returns : goal.returns
returns c = sym (is_done c.loop.least c.args.count c.loop.counter c.loop.rest.now c.loop-test.false) ∙ c.loop.invariant
