use Rattle.std.proofs.Common.{◌∙◌, cond, set, sym, ap, subst}
use Rattle.xid.specs.Transactions.{tx_eq}
use Rattle.audit.specs.Books.{IsNumberOf, views_in}
use Rattle.audit.proofs.ViewLemmas.{course_is, view_set}
use Rattle.audit.proofs.views.Views.set.Goals as goal

pub returns : goal.returns
returns c = λ other.
    let ts = c.self.inside.transactions in
    let rows = c.self.inside.courses.items in
    let tx = c.args.tx.now in
    let number = subst (λ v. IsNumberOf v tx c.args.number) (sym c.self.view_is) c.requires in
    view_set ts rows c.args.number tx c.args.place c.args.view c.set.new.self number c.self.invariant
    (c.set.ensures ∙ ap (λ vs. set vs c.args.place c.args.view)
    (course_is ts rows tx c.args.number number c.index_mut.result.now c.index_mut.ensures.value))
    other
    ∙ (λ i. cond (tx_eq other tx) (set (views_in (c.self.view_is i) other) c.args.place c.args.view) (views_in (c.self.view_is i) other))
