use Rattle.std.proofs.Common.{Bool, subst}
use Rattle.node_process.specs.Due.{IsOpenAt}
use Rattle.node_process.proofs.DueLemmas.{keeps_time, next_open, next_settled}
use Rattle.node_process.proofs.gathering.take_next.Goals as goal

pub returns-then-is_open-clause-next : goal.returns-then-is_open-clause-next
returns-then-is_open-clause-next g c _ =
    let due = c.in-Some.due in
    next_open c.args.who c.args.now due.tx due.turn c.in_ok-request.request c.args.node.now c.is_open_at.new.node c.args.watches.now
    c.next_due.new.self c.again.new.self c.args.items.now.items c.push_asked.new.items.items
    (subst (λ (b : Bool). IsOpenAt c.args.who due.tx c.args.node.now c.is_open_at.new.node b) c.if-is_open.true
    c.in_ok-is_open.ensures.says)
    c.in-Some.ensures.some
    (record { schedule = c.next_due.ensures.schedule; on_time = c.next_due.ensures.on_time c.args.now }) c.in_ok-again.ensures.ok
    (record { schedule = c.again.ensures.schedule; on_time = c.again.ensures.on_time }) c.in_ok-request.ensures c.in_ok-push_asked.ensures

pub returns-clause-next : goal.returns-clause-next
returns-clause-next g c _ =
    let due = c.in-Some.due in
    next_settled c.args.who c.args.now due.tx due.turn c.args.node.now c.is_open_at.new.node c.args.watches.now c.next_due.new.self
    c.settle.new.self c.args.items.now.items
    (subst (λ (b : Bool). IsOpenAt c.args.who due.tx c.args.node.now c.is_open_at.new.node b) c.if-is_open.false
    c.in_ok-is_open.ensures.says)
    c.in-Some.ensures.some
    (record { schedule = c.next_due.ensures.schedule; on_time = c.next_due.ensures.on_time c.args.now }) c.settle.ensures.only
    (keeps_time c.args.now c.next_due.new.self c.settle.new.self c.settle.ensures.schedule c.settle.ensures.queues)
