use Rattle.std.proofs.Common.{◌∙◌, ◌∷◌, ◌++◌, []}
use Rattle.leader.proofs.PlaceSteps.{added_inside, added_kept, added_there}
use Rattle.leader.proofs.courses.Courses.add_place.Goals as goal

pub invariant_of-self-2 : goal.invariant_of-self-2
invariant_of-self-2 c =
    added_inside c.self.inside.transactions c.self.inside.rows.items c.self.inside.begun c.self.invariant c.args.tx.now c.args.self.now
    c.self.view_is
    c.requires c.insert_view.new.self c.push_reserved.new.self.items c.in-Ok-insert_view.ensures.ok.1
    (c.push_reserved.ensures.items ∙ (λ k. c.reserve.ensures.items k ++ c.in-Ok.ensures.ok k ∷ []))

pub returns-clause-there : goal.returns-clause-there
returns-clause-there c =
    added_there c.self.inside.transactions c.self.inside.rows.items c.self.inside.begun c.self.invariant c.args.tx.now c.args.self.now
    c.self.view_is
    c.requires c.insert_view.new.self c.push_reserved.new.self.items c.in-Ok-insert_view.ensures.ok.1
    (c.push_reserved.ensures.items ∙ (λ k. c.reserve.ensures.items k ++ c.in-Ok.ensures.ok k ∷ [])) c.in-Ok-insert_view.place
    c.in-Ok-insert_view.ensures.ok.0

pub returns-clause-kept : goal.returns-clause-kept
returns-clause-kept c =
    added_kept c.self.inside.transactions c.self.inside.rows.items c.self.inside.begun c.self.invariant c.args.tx.now c.args.self.now
    c.self.view_is
    c.requires c.insert_view.new.self c.push_reserved.new.self.items c.in-Ok-insert_view.ensures.ok.1
    (c.push_reserved.ensures.items ∙ (λ k. c.reserve.ensures.items k ++ c.in-Ok.ensures.ok k ∷ []))
