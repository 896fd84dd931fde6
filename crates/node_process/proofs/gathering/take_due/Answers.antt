use Rattle.std.proofs.Common.{[], ◌++◌, ◌∷◌, refl, inl, arith, length-append}
use Rattle.node_process.proofs.AskLemmas.{asks_both, asks_none}
use Rattle.node_process.proofs.DueLemmas.{due_ends, these_more, these_none}
use Rattle.node_process.proofs.gathering.take_due.Goals as goal

pub loop-init : goal.loop-init
loop-init g c = record {
  asks = asks_none c.args.who c.args.node.now;
  due = ([], these_none c.args.who c.args.now c.args.node.now c.args.watches.now c.args.items.now.items, omega arith);
}

pub returns-in_err-take_next-clause-asks : goal.returns-in_err-take_next-clause-asks
returns-in_err-take_next-clause-asks g c =
    asks_both c.args.who c.args.node.now c.loop.node c.take_next.new.node c.loop.invariant.asks c.take_next.ensures.asks

pub returns-then-not-branch-clause-asks : goal.returns-then-not-branch-clause-asks
returns-then-not-branch-clause-asks g c =
    asks_both c.args.who c.args.node.now c.loop.node c.take_next.new.node c.loop.invariant.asks c.take_next.ensures.asks

pub returns-then-not-branch-clause-due : goal.returns-then-not-branch-clause-due
returns-then-not-branch-clause-due g c =
    let due = c.loop.invariant.due in
    due_ends c.args.who c.args.now due.0 c.args.node.now c.loop.node c.take_next.new.node c.args.watches.now c.loop.watches
    c.take_next.new.watches c.args.items.now.items c.loop.items.items c.take_next.new.items.items due.1
    (c.in_ok-take_next.ensures.none c.if-not-branch.true)

pub returns-clause-due : goal.returns-clause-due
returns-clause-due g c = record {
  taken = c.loop.invariant.due.0;
  last = c.loop.watches;
  these = c.loop.invariant.due.1;
  enough = inl (omega arith, refl);
}

pub loop-preserved : goal.loop-preserved
loop-preserved g c =
    let due = c.loop.invariant.due in
    let next = c.in_ok-take_next.ensures.next c.if-not-branch.false in
    record {
      asks = asks_both c.args.who c.args.node.now c.loop.node c.take_next.new.node c.loop.invariant.asks c.take_next.ensures.asks;
      due = (
        due.0 ++ next.one ∷ [],
        these_more c.args.who c.args.now due.0 c.args.node.now c.loop.node c.take_next.new.node c.args.watches.now c.loop.watches
            c.take_next.new.watches c.args.items.now.items c.loop.items.items c.take_next.new.items.items due.1 next,
        omega (arith, length-append due.0 (next.one ∷ [])),
      );
    }
