use Rattle.std.proofs.Common.{◌∙◌, List, ℕ, ◌∷◌, sym, subst}
use Rattle.std.proofs.lemmas.Slice.Eq.{bytes_eq-Decides}
use Rattle.net_script.specs.Writing.{Puts}
use Rattle.net_script.proofs.TraceLemmas.{text_again}
use Rattle.net_script.proofs.written.WrittenTx.put.Goals as goal

pub returns-then-eq-clause-puts : goal.returns-then-eq-clause-puts
returns-then-eq-clause-puts c =
    subst (λ (text : List ℕ). Puts c.args.out.now.items c.put_word.new.out.items c.put_word.result (32 ∷ text))
    (c.as_slice-then-eq.ensures.value
    ∙ text_again c.self.inside.spelled.items c.self.inside.text.items c.args.tx.now c.as_bytes.ensures.valid c.self.invariant
    (sym c.as_slice.ensures.value
    ∙ (bytes_eq-Decides c.as_slice.result.now c.as_bytes.result.now).0 (sym c.eq.ensures ∙ c.if-eq.true)
    ∙ c.as_bytes.ensures.value))
    c.put_word.ensures.puts

pub returns-clause-puts : goal.returns-clause-puts
returns-clause-puts c =
    subst (λ (text : List ℕ). Puts c.args.out.now.items c.put_word-2.new.out.items c.put_word-2.result (32 ∷ text))
    (c.as_slice-2.ensures.value
    ∙ text_again c.self-2.inside.spelled.items c.self-2.inside.text.items c.args.tx.now c.as_bytes.ensures.valid c.self-2.invariant
    (c.self-2.view_is ∙ c.in_ok-learn.ensures.ok))
    c.put_word-2.ensures.puts
