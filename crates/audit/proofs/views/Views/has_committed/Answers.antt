use Rattle.std.proofs.Common.{◌∙◌, sym, ap}
use Rattle.history.specs.Writes.{is_committed_view}
use Rattle.audit.specs.Books.{view_in}
use Rattle.audit.proofs.ViewLemmas.{unnoted}
use Rattle.audit.proofs.views.Views.has_committed.Goals as goal

pub returns-in-None : goal.returns-in-None
returns-in-None c =
    ap is_committed_view (sym (unnoted c.self.inside.transactions c.self.inside.courses.items c.args.tx.now c.self.invariant
    c.in-None.ensures.place c.args.place))
    ∙ ap (λ v. is_committed_view (view_in v c.args.tx.now c.args.place)) c.self.view_is
