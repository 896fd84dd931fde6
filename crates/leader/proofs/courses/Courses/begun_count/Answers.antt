use Rattle.std.proofs.Common.{◌∙◌, ap, length, sym, subst}
use Rattle.std.specs.List.{IsDistinct}
use Rattle.std.proofs.lemmas.List.{length-map}
use Rattle.xid.specs.Transactions.{tx_eq}
use Rattle.transactions.proofs.Places.{begun_once}
use Rattle.leader.proofs.courses.Courses.begun_count.Goals as goal

pub returns-clause-value : goal.returns-clause-value
returns-clause-value c =
    c.len-2.ensures.value ∙ sym (length-map c.self.inside.begun.numbers _) ∙ ap (λ k. length k.begun) c.self.view_is

pub returns-clause-distinct : goal.returns-clause-distinct
returns-clause-distinct c =
    subst (λ k. IsDistinct tx_eq k.begun) c.self.view_is
    (begun_once c.self.inside.transactions c.len.ensures.distinct c.self.inside.begun.numbers c.self.invariant.1 c.len-2.ensures.distinct)
