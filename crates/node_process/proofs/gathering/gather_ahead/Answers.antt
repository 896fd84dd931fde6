use Rattle.std.proofs.Common.{List, subst}
use Rattle.serving.specs.declared.group.Item.{Item}
use Rattle.node_process.specs.Gathering.{TakesPending}
use Rattle.node_process.proofs.gathering.gather_ahead.Goals as goal

pub returns-clause-ahead : goal.returns-clause-ahead
returns-clause-ahead g c = record {
  pending = c.take_pending.new.items.items;
  takes = subst (λ (none : List Item). TakesPending c.args.desk.now.pending.items c.take_pending.new.pending.items none
      c.take_pending.new.items.items) c.new-items.ensures.items c.in_ok-take_pending.ensures.takes;
  all = c.in_ok-take_pending.ensures.all;
  asked = c.take_due.new.items.items;
  due = c.in_ok-take_due.ensures.due;
  messages = c.in_ok-desk.ensures.ok.0;
  emptied = c.in_ok-desk.ensures.ok.1;
}
