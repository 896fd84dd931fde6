use Rattle.std.proofs.Common.{◌∙◌, [], ◌∷◌, ◌++◌, ap}
use Rattle.resource_manager.specs.declared.course.Course.{Course}
use Rattle.resource_manager.proofs.Numbers.{saw_begun, saw_below, saw_number, saw_whole}
use Rattle.resource_manager.proofs.courses.Courses.see.Goals as goal

pub invariant_of-self-2 : goal.invariant_of-self-2
invariant_of-self-2 c =
    let ts = c.self.inside.transactions in
    let absent = c.in_default.ensures in
    let added = c.in-Ok.ensures.ok.1 in (
      saw_whole ts c.insert_view.new.self c.args.tx.now absent added c.self.inside.courses.items c.push_reserved.new.self.items
          (c.push_reserved.ensures.items ∙ ap (λ cs. cs ++ Course.Working ∷ []) c.reserve.ensures.items) c.self.invariant.0,
      saw_below ts c.insert_view.new.self c.args.tx.now absent added c.self.inside.begun.items c.self.invariant.1,
    )

pub returns-clause-begun : goal.returns-clause-begun
returns-clause-begun c =
    saw_begun c.self.inside.transactions c.insert_view.new.self c.args.tx.now c.in_default.ensures c.in-Ok.ensures.ok.1
    c.self.inside.begun.items c.self.invariant.1
    ∙ ap (λ parts. parts.begun) c.self.view_is

pub returns-clause-number : goal.returns-clause-number
returns-clause-number c =
    let saw = saw_number c.self.inside.transactions c.insert_view.new.self c.args.tx.now c.in_default.ensures c.in-Ok.ensures.ok.1 in
    (c.in-Ok.ensures.ok.0 ∙ saw.0, saw.1)
