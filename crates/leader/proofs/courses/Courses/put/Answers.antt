use Rattle.std.proofs.Common.{◌∙◌, ◌∷◌, ◌++◌, [], ap}
use Rattle.leader.proofs.Left.{put_inside, put_parts}
use Rattle.leader.proofs.courses.Courses.put.Goals as goal

pub invariant_of-self-2 : goal.invariant_of-self-2
invariant_of-self-2 c =
    put_inside c.self.inside.transactions c.self.inside.rows.items c.self.inside.begun c.self.invariant c.args.tx.now c.args.course
    c.args.self.now c.self.view_is c.requires c.insert_view.new.self c.push_reserved.new.self.items c.in_ok-place.ensures.ok.1
    (c.push_reserved.ensures.items ∙ ap (λ rows. rows ++ c.args.course ∷ []) c.reserve.ensures.items)

pub returns-clause-now : goal.returns-clause-now
returns-clause-now c =
    put_parts c.self.inside.transactions c.self.inside.rows.items c.self.inside.begun c.self.invariant c.args.tx.now c.args.course
    c.args.self.now c.self.view_is c.requires c.insert_view.new.self c.push_reserved.new.self.items c.in_ok-place.ensures.ok.1
    (c.push_reserved.ensures.items ∙ ap (λ rows. rows ++ c.args.course ∷ []) c.reserve.ensures.items)
