use Rattle.std.proofs.Common.{[], None, Some, sym, append-nil}
use Rattle.resource_manager.specs.Open.{open_at}
use Rattle.resource_manager.proofs.Entries.{written_step}
use Rattle.resource_manager.proofs.manager.ResourceManager.prepared.Goals as goal

pub loop-number-preserved-in_default : goal.loop-number-preserved-in_default
loop-number-preserved-in_default c =
    written_step open_at c.args.self.now _ c.self.view_is c.begun-number-items.result.now c.loop-number.number-index _ None
    [] c.loop-number.txs.items c.loop-number.txs.items c.loop-number-test.true c.in_default.ensures
    c.loop-number.invariant (sym (append-nil c.loop-number.txs.items))

pub loop-number-preserved : goal.loop-number-preserved
loop-number-preserved c =
    written_step open_at c.args.self.now _ c.self.view_is c.begun-number-items.result.now c.loop-number.number-index _
    (Some c.in-Some.tx) [] c.loop-number.txs.items c.push_open.new.txs.items c.loop-number-test.true c.in-Some.ensures
    c.loop-number.invariant c.in_ok-push_open.ensures.ok
