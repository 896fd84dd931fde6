use Rattle.std.proofs.Common.{◌≡◌, ◌∙◌, ◌==◌, List, ℕ, true, ap, sym, subst, inl, inr}
use Rattle.std.proofs.lemmas.Result.{on_ok_weaker}
use Rattle.xid.specs.Text.{lacks}
use Rattle.serving.specs.Clients.{ClientParts, is_proving, WaitsForNone}
use Rattle.serving.proofs.HearLemmas.{broken_asks_not, empty_lacks, hears_lines, hears_nothing, hears_proof, proof_due}
use Rattle.serving.proofs.client.Client.take_lines.Goals as goal
use Rattle.serving.proofs.client.Client.take_lines.Goals.{then-is_empty-via-then-is_empty}
use Rattle.serving.proofs.client.Client.take_lines.Goals.{then-is_empty-via-else-is_empty+then-not-may_ask}
use Rattle.serving.proofs.client.Client.take_lines.Goals.{then-is_proving-via-then-is_proving}
use Rattle.serving.proofs.client.Client.take_lines.Goals.{then-is_proving-via-else-is_proving+then-self}

pub returns-then-is_empty-clause-ok : goal.returns-then-is_empty-clause-ok
returns-then-is_empty-clause-ok c =
    let none : WaitsForNone c.args.self.now = elim c.then-is_empty.branch [
      | then-is_empty-via-then-is_empty w ↦
          inr (inl (subst (λ (bytes : List ℕ). lacks 10 bytes ≡ true) (ap (λ (p : ClientParts). p.input) c.self.view_is)
          (empty_lacks c.self.inside.input.items (ap (λ (n : ℕ). n == 0) (sym c.self.inside.input.ok.0) ∙ sym c.is_empty.ensures
          ∙ w.if-is_empty.true))))
      | then-is_empty-via-else-is_empty+then-not-may_ask w ↦ inl (sym w.may_ask.ensures ∙ w.if-not-may_ask.true)
    ] in
    hears_nothing c.args.terms.now c.args.key c.args.self.now c.args.items.now.items none

pub returns-then-is_proving-clause-ok : goal.returns-then-is_proving-clause-ok
returns-then-is_proving-clause-ok c =
    let new : ClientParts = c.take_proof.new.self in
    let none : WaitsForNone new = elim c.then-is_proving.branch [
      | then-is_proving-via-then-is_proving w ↦
          proof_due new (c.in_ok-take_proof.ensures.due (ap (λ (p : ClientParts). is_proving p.stage) (sym c.self-2.view_is)
          ∙ sym c.is_proving.ensures ∙ w.if-is_proving.true))
      | then-is_proving-via-else-is_proving+then-self w ↦
          inl (broken_asks_not new (ap (λ (p : ClientParts). p.is_broken) (sym c.self-2.view_is) ∙ w.if-self.true))
    ] in
    hears_proof c.args.terms.now c.args.key c.args.self.now new c.args.items.now.items
    (sym c.may_ask.ensures ∙ c.if-not-may_ask.false) c.in_ok-take_proof.ensures.ok none

pub returns-clause-ok : goal.returns-clause-ok
returns-clause-ok c =
    on_ok_weaker c.take_commands.result (hears_lines c.args.terms.now c.args.key c.args.self.now c.take_proof.new.self
    c.take_commands.new.self c.args.items.now.items c.take_commands.new.items.items (sym c.may_ask.ensures ∙ c.if-not-may_ask.false)
    c.in_ok-take_proof.ensures.ok
    (ap (λ (p : ClientParts). is_proving p.stage) (sym c.self-2.view_is) ∙ sym c.is_proving.ensures ∙ c.if-is_proving.false))
    c.take_commands.ensures.ok
