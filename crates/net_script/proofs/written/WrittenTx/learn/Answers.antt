use Rattle.std.proofs.Common.{◌≡◌, ◌∙◌, List, ℕ, ◌++◌, sym, ap}
use Rattle.wire.specs.Grammar.{tx_spelling}
use Rattle.wire.specs.Versions.{version_2}
use Rattle.wire.proofs.SpelledAgain.{spelled_is}
use Rattle.net_script.specs.Basics.{tx_text}
use Rattle.net_script.proofs.written.WrittenTx.learn.Goals as goal

pub invariant_of-self-2 : goal.invariant_of-self-2
invariant_of-self-2 c = λ is.
    let spelled : c.extend_from_slice.new.self.items ≡ tx_spelling version_2 c.args.tx.now =
    c.in_ok-extend_from_slice.ensures.items ∙ ap (λ (l : List ℕ). l ++ c.as_bytes.result.now) c.clear.ensures.items
    ∙ c.as_bytes.ensures.value in
    c.in_ok-put_text.ensures.ok
    ∙ ap (λ (l : List ℕ). l ++ tx_text c.args.tx.now) c.clear-2.ensures.items
    ∙ ap tx_text (sym (spelled_is c.extend_from_slice.new.self.items c.args.tx.now c.as_bytes.ensures.valid spelled))
