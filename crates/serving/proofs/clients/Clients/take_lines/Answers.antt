use Rattle.std.proofs.Common.{None, arith}
use Rattle.std.proofs.lemmas.List.{get_or_past}
use Rattle.serving.proofs.RangeLemmas.{range_all}
use Rattle.serving.proofs.UntoldLemmas.{untold_both}
use Rattle.serving.proofs.clients.Clients.take_lines.Goals as goal

pub returns-in_err-take_range-clause-untold : goal.returns-in_err-take_range-clause-untold
returns-in_err-take_range-clause-untold c = c.take_range.ensures.untold

pub returns-in_err-take_range-2-clause-untold : goal.returns-in_err-take_range-2-clause-untold
returns-in_err-take_range-2-clause-untold c =
    untold_both c.args.self.now.seats c.take_range.new.self.seats c.take_range-2.new.self.seats c.take_range.ensures.untold
    c.take_range-2.ensures.untold

pub returns-clause-ok : goal.returns-clause-ok
returns-clause-ok c =
    range_all c.args.terms.now c.within-first.result c.capacity-places.result c.args.self.now.seats c.take_range.new.self.seats
    c.take_range-2.new.self.seats c.args.items.now.items c.take_range.new.items.items c.take_range-2.new.items.items c.within-first.ensures
    (λ key beyond. get_or_past c.args.self.now.seats.slots key None (omega (arith, beyond, c.capacity-places.ensures.slots)))
    c.in_ok-take_range.ensures.ok c.in_ok-take_range-2.ensures.ok

pub returns-clause-untold : goal.returns-clause-untold
returns-clause-untold c =
    untold_both c.args.self.now.seats c.take_range.new.self.seats c.take_range-2.new.self.seats c.take_range.ensures.untold
    c.take_range-2.ensures.untold
