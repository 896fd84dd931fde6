use Rattle.std.proofs.Common.{◌∙◌}
use Rattle.wire.specs.Reading.{list_at}
use Rattle.wire.proofs.Loop.{goes_on, is_done}
use Rattle.stable_record.specs.Reading.{touched_at}
use Rattle.stable_record.proofs.ReadKeys.{refused}
use Rattle.stable_record.proofs.reading.take_touched_keys.Goals as goal

pub returns-in-Err : goal.returns-in-Err
returns-in-Err c =
    refused c.loop.keys.items c.args.count c.loop.counter c.loop.rest.now (list_at touched_at c.args.count c.args.bytes.now) c.in-Err.e
    c.loop-test.true c.loop.invariant.same c.in-Err.ensures

pub loop-preserved : goal.loop-preserved
loop-preserved c =
    rw c.in_ok-push-in-Ok.ensures.items (record {
      same =
          goes_on touched_at c.loop.keys.items c.args.count c.loop.counter c.loop.rest.now
          (list_at touched_at c.args.count c.args.bytes.now)
          c.in-Ok.touched c.in-Ok.after.now c.loop-test.true c.in-Ok.ensures c.loop.invariant.same;
    })

pub returns : goal.returns
returns c =
    is_done touched_at c.loop.keys.items c.args.count c.loop.counter c.loop.rest.now (list_at touched_at c.args.count c.args.bytes.now)
    c.loop-test.false c.loop.invariant.same ∙ cc (c.new.ensures)
