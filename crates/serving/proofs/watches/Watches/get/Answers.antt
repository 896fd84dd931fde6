use Rattle.std.proofs.Common.{◌∙◌, List, ℕ, Some, refl, sym, ap, subst}
use Rattle.wire.specs.Spelled.{tx_spelled, IsSpelled}
use Rattle.serving.proofs.NameLemmas.{listed, not_listed}
use Rattle.serving.proofs.watches.Watches.get.Goals as goal

pub returns-in-Some : goal.returns-in-Some
returns-in-Some c =
    let old = c.args.self.now in
    let same = c.deref.ensures.value in
    listed old.watched old.keys.entries c.args.place c.in-Some.spelled.now _ c.unspelled.result old.named old.spelled
    c.in-Some.ensures.entry
    c.in-Some.ensures.value
    (λ whole. c.unspelled.ensures (subst IsSpelled (sym same) whole) ∙ ap (λ (bytes : List ℕ). Some (tx_spelled bytes)) same)

pub returns-in-None : goal.returns-in-None
returns-in-None c = not_listed c.args.self.now.keys.entries c.args.place _ _ c.in-None.ensures.entry refl
