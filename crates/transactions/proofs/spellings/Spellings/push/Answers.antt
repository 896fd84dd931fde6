use Rattle.std.proofs.Common.{◌≡◌, ◌∙◌, ◌∷◌, ◌++◌, [], length, ap, arith}
use Rattle.transactions.proofs.Cutting.{cuts_pushed, ends_pushed}
use Rattle.transactions.proofs.spellings.Spellings.push.Goals as goal

pub invariant_of-self-2 : goal.invariant_of-self-2
invariant_of-self-2 c =
    let at_end : c.len.result ≡ length c.extend_from_slice.new.self.items =
    omega (arith, c.len.ensures, c.extend_from_slice.new.self.ok.0) in
    ends_pushed c.self.inside.bytes.items c.args.spelled.now c.extend_from_slice.new.self.items c.self.inside.ends.items
    c.push.new.self.items c.len.result c.self.invariant c.in_ok-extend_from_slice.ensures.items at_end
    (c.in_ok-push.ensures.items ∙ ap (λ ends. ends ++ c.len.result ∷ []) c.in_ok-reserve.ensures.items)

pub returns-clause-ok : goal.returns-clause-ok
returns-clause-ok c =
    let at_end : c.len.result ≡ length c.extend_from_slice.new.self.items =
    omega (arith, c.len.ensures, c.extend_from_slice.new.self.ok.0) in
    cuts_pushed c.self.inside.bytes.items c.args.spelled.now c.extend_from_slice.new.self.items c.self.inside.ends.items
    c.push.new.self.items c.len.result c.self.invariant c.in_ok-extend_from_slice.ensures.items at_end
    (c.in_ok-push.ensures.items ∙ ap (λ ends. ends ++ c.len.result ∷ []) c.in_ok-reserve.ensures.items)
    ∙ ap (λ kept. kept ++ c.args.spelled.now ∷ []) c.self.view_is
