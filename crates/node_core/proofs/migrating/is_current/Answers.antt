use Rattle.std.proofs.Common.{arith}
use Rattle.node_core.proofs.Current.{current_end, current_on, current_not, not_empty, all_there}
use Rattle.node_core.proofs.migrating.is_current.Goals as goal

pub returns-in_default : goal.returns-in_default
returns-in_default c = λ all stored.
    current_end c.args.bytes.now c.loop-len.rest.now all (c.loop-len.invariant all stored) c.in_default.ensures

pub returns-then-len-eq0 : goal.returns-then-len-eq0
returns-then-len-eq0 c = λ all stored.
    let some = not_empty c.args.bytes.now c.loop-len.rest.now all (c.loop-len.invariant all stored) c.in-Some.len c.in-Some.body.now
    c.in-Some.ensures in
    absurd (omega (arith, some, c.if-len-eq0.true))

pub returns-then-body-len : goal.returns-then-body-len
returns-then-body-len c = λ all stored.
    let few = all_there c.args.bytes.now c.loop-len.rest.now all (c.loop-len.invariant all stored) c.in-Some.len c.in-Some.body.now
    c.in-Some.ensures in
    absurd (omega (arith, few, c.if-body-len.true))

pub returns-then-not-is_second : goal.returns-then-not-is_second
returns-then-not-is_second c = λ all stored.
    current_not c.args.bytes.now c.loop-len.rest.now all (c.loop-len.invariant all stored) c.in-Some.len c.in-Some.body.now
    c.in-Some.ensures c.if-not-is_second.ensures

pub loop-len-preserved : goal.loop-len-preserved
loop-len-preserved c = λ all stored.
    current_on c.args.bytes.now c.loop-len.rest.now all (c.loop-len.invariant all stored) c.in-Some.len c.in-Some.body.now
    c.in-Some.ensures c.split_at.result.1.now c.split_at.ensures.back c.if-not-is_second.ensures
