use Rattle.std.proofs.Common.{length, sym, subst}
use Rattle.transactions.specs.Seen.{AreInside}
use Rattle.leader.proofs.Listing.{roomier}
use Rattle.leader.proofs.courses.Courses.reserve.Goals as goal

pub invariant_of-self : goal.invariant_of-self
invariant_of-self c = (
  c.self.invariant.0,
  subst (AreInside (length c.self.inside.transactions)) (sym c.reserve.ensures.numbers) c.self.invariant.1,
)

pub returns-clause-same : goal.returns-clause-same
returns-clause-same c =
    roomier c.self.inside.transactions c.self.inside.rows.items c.self.inside.begun c.reserve.new.self c.args.self.now c.self.view_is
    c.reserve.ensures.numbers
