use Rattle.std.proofs.Common.{◌∙◌, sym, ap, subst}
use Rattle.audit.specs.Books.{IsNumberOf, views_in}
use Rattle.audit.proofs.ViewLemmas.{course_is, moved_so}
use Rattle.audit.proofs.views.Views.change.Goals as goal

pub returns-clause-ok : goal.returns-clause-ok
returns-clause-ok c =
    let tx = c.args.change.now.tx in
    let number = subst (λ v. IsNumberOf v tx c.in_ok-number.number) (sym c.self.view_is) c.in_ok-number.ensures.ok in
    let course =
    course_is c.self.inside.transactions c.self.inside.courses.items tx c.in_ok-number.number number c.index.result.now c.index.ensures
    ∙ ap (λ v. views_in v tx) c.self.view_is in
    moved_so c.args.self.now c.see.new.self c.set.new.self c.args.change.now c.in-Some.place c.from.result c.from.ensures
    c.in-Some.ensures.value
    c.see.ensures.same c.index.result.now course c.if-not-may_move.ensures c.set.ensures
