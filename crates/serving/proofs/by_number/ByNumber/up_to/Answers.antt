use Rattle.std.proofs.Common.{◌≡◌, ◌∙◌, true, false, inl, inr, sym, ap}
use Rattle.std.specs.Set.{is_member}
use Rattle.std.proofs.lemmas.Bool.{or_cases}
use Rattle.xid.specs.Names.{xid_eq}
use Rattle.serving.proofs.ByNumberLemmas.{in_any, reached}
use Rattle.serving.proofs.by_number.ByNumber.up_to.Goals as goal

pub returns : goal.returns
returns c number x by there =
    let either = c.loop-names.invariant x ∙ reached c.args.self.now.numbers.entries c.args.last number x by there in
    elim (or_cases (is_member xid_eq c.loop-names.found.keys x) (in_any x c.loop-names.names-iterator) either) [
      | inl found ↦ found
      | inr left ↦ let wrong : false ≡ true = sym (ap (in_any x) c.in-None.ensures.steps.0) ∙ left in absurd (cc (wrong))
    ]
