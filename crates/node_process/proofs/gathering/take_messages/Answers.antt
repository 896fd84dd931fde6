use Rattle.std.proofs.Common.{inl, inr}
use Rattle.node_process.proofs.GatherLemmas.{receives_more, receives_none, takes_both, takes_last, takes_none}
use Rattle.node_process.proofs.gathering.take_messages.Goals as goal

pub returns-then-not-may_wait-clause-receives : goal.returns-then-not-may_wait-clause-receives
returns-then-not-may_wait-clause-receives g c = receives_none g.P.Port.received c.args.port.now

pub returns-then-not-may_wait-clause-ok : goal.returns-then-not-may_wait-clause-ok
returns-then-not-may_wait-clause-ok g c =
    (takes_none g.P.Port.received c.args.port.now c.args.items.now.items, λ _. inl c.if-not-may_wait.true)

pub loop-init : goal.loop-init
loop-init g c = record {
  taken = takes_none g.P.Port.received c.args.port.now c.args.items.now.items;
  receives = receives_none g.P.Port.received c.args.port.now;
}

pub returns-then-not-branch-clause-ok : goal.returns-then-not-branch-clause-ok
returns-then-not-branch-clause-ok g c =
    let last = c.in_ok-take_from.ensures.ok in
    let all = takes_last g.P.Port.received c.args.port.now c.loop.port c.take_from.new.port c.args.items.now.items c.loop.items.items
    c.take_from.new.items.items c.loop.invariant.taken (last.0, last.1 c.if-not-branch.true) in
    (all.0, λ _. inr all.1)

pub returns-then-not-branch-clause-receives : goal.returns-then-not-branch-clause-receives
returns-then-not-branch-clause-receives g c =
    receives_more g.P.Port.received c.args.port.now c.loop.port c.take_from.new.port c.loop.invariant.receives c.take_from.ensures.receives

pub returns-in_err-take_from-clause-receives : goal.returns-in_err-take_from-clause-receives
returns-in_err-take_from-clause-receives g c =
    receives_more g.P.Port.received c.args.port.now c.loop.port c.take_from.new.port c.loop.invariant.receives c.take_from.ensures.receives

pub returns-clause-ok : goal.returns-clause-ok
returns-clause-ok g c = (c.loop.invariant.taken, λ over. absurd (cc))

pub loop-preserved : goal.loop-preserved
loop-preserved g c = record {
  taken = takes_both g.P.Port.received c.args.port.now c.loop.port c.take_from.new.port c.args.items.now.items c.loop.items.items
      c.take_from.new.items.items c.loop.invariant.taken c.in_ok-take_from.ensures.ok.0;
  receives = receives_more g.P.Port.received c.args.port.now c.loop.port c.take_from.new.port c.loop.invariant.receives
      c.take_from.ensures.receives;
}
