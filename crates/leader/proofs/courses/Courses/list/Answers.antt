use Rattle.leader.proofs.Listing.{still_courses, listed_now, as_before}
use Rattle.leader.proofs.courses.Courses.list.Goals as goal

pub returns-clause-ok : goal.returns-clause-ok
returns-clause-ok c =
    listed_now c.self.inside.transactions c.self.inside.rows.items c.self.inside.begun c.add.new.self c.args.self.now c.self.view_is
    c.args.tx.now c.args.place c.requires c.add.result c.len.ensures.distinct c.self.invariant.1 c.add.ensures.ok

pub returns-clause-kept : goal.returns-clause-kept
returns-clause-kept c =
    as_before c.self.inside.transactions c.self.inside.rows.items c.self.inside.begun c.add.new.self c.args.self.now c.self.view_is
    c.args.tx.now c.args.place c.requires c.add.result c.add.ensures.kept

pub invariant_of-self : goal.invariant_of-self
invariant_of-self c = (
  c.self.invariant.0,
  still_courses c.self.inside.transactions c.self.inside.rows.items c.self.inside.begun c.add.new.self c.args.self.now c.self.view_is
      c.args.tx.now c.args.place c.requires c.add.result c.self.invariant.1 c.add.ensures.ok c.add.ensures.kept,
)
