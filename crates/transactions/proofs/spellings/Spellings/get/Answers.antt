use Rattle.std.proofs.Common.{◌≡◌, ◌∙◌, ℕ, ◌≤◌, ◌∷◌, List, get_or, length, slice_get, sym, ap, subst, arith}
use Rattle.std.specs.List.{PartBy}
use Rattle.std.specs.Option.{option_map}
use Rattle.std.proofs.lemmas.Bool.{ltb-false}
use Rattle.transactions.proofs.Cutting.{cut_at, no_cut_at, cut_within, part_is}
use Rattle.transactions.proofs.Index.{key_lent}
use Rattle.transactions.proofs.spellings.Spellings.get.Goals as goal

pub returns-in_err-end : goal.returns-in_err-end
returns-in_err-end c =
    let ends = c.self.inside.ends.items in
    let past : length ends ≤ c.args.number =
    omega (arith, ltb-false _ _ (sym c.in_err-end.ensures.lookup.0), ap length c.deref.ensures.value) in
    ap (option_map (λ spelled. spelled.now)) c.from_residual.ensures ∙ sym (no_cut_at c.self.inside.bytes.items 0 ends c.args.number past)
    ∙ ap (λ kept. slice_get kept c.args.number) c.self.view_is

pub returns : goal.returns
returns c =
    let bytes = c.self.inside.bytes.items in
    let ends = c.self.inside.ends.items in
    let end = c.in_ok-end.field-0.now in
    let here = key_lent c.deref.result.now ends c.args.number end c.deref.ensures.value
    c.in_ok-end.ensures.lookup.0 c.in_ok-end.ensures.lookup.1 in
    let start : c.start_of-start.result ≡ get_or (0 ∷ ends) c.args.number 0 =
    c.start_of-start.ensures ∙ ap (λ (es : List ℕ). get_or (0 ∷ es) c.args.number 0) c.deref-2.ensures.value in
    let within = cut_within 0 ends (length bytes) c.args.number end c.self.invariant here in
    part_is (λ spelled. spelled.now) bytes (get_or (0 ∷ ends) c.args.number 0) end c.get-2.result
    (subst (λ (at : ℕ). PartBy (λ spelled. spelled.now) bytes at end c.get-2.result) start
    (subst (λ (items : List ℕ). PartBy (λ spelled. spelled.now) items c.start_of-start.result end c.get-2.result) c.deref-3.ensures.value
    c.get-2.ensures.lookup))
    within.0 within.1
    ∙ sym (cut_at bytes 0 ends c.args.number end here) ∙ ap (λ kept. slice_get kept c.args.number) c.self.view_is
