use Rattle.std.proofs.Common.{◌∙◌, sym, ap, length, eq-eqb, eqb-true}
use Rattle.std.proofs.lemmas.List.Filters.{dedup_is}
use Rattle.net_script.proofs.KeyLemmas.{distinct_by_sorting}
use Rattle.net_script.proofs.items.are_distinct.Goals as goal

pub returns-clause-ok : goal.returns-clause-ok
returns-clause-ok c =
    let sorted = c.sort_unstable.new.self.items in
    let left = c.len.ensures ∙ c.dedup.new.self.ok.0 ∙ ap length (dedup_is _ sorted c.dedup.new.self.items c.dedup.ensures.filtered) in
    let distinct = distinct_by_sorting (λ key. key.now) c.args.rows.now c.in_ok-keys.keys.items sorted c.in_ok-keys.ensures.ok
    c.sort_unstable.ensures.permutation
    (sym c.sort_unstable.new.self.ok.0 ∙ c.sort_unstable.ensures.len ∙ c.in_ok-keys.keys.ok.0) c.sort_unstable.ensures.sorted in
    (λ e. distinct.0 (sym left ∙ eqb-true _ _ e), λ pairs. eq-eqb _ _ (left ∙ distinct.1 pairs))
