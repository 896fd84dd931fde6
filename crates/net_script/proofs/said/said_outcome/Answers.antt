use Rattle.std.proofs.Common.{◌≡◌, List, ◌∷◌, ℕ, sym, ap, ◌∙◌, refl, codes}
use Rattle.std.proofs.lemmas.Bool.{iff_false}
use Rattle.net_script.specs.declared.trace_lines.TraceLine.TheVariants.{Happened, Served}
use Rattle.net_script.specs.Lines.{words}
use Rattle.net_script.proofs.Arms.{passes}
use Rattle.net_script.proofs.EventLemmas.{event_apart}
use Rattle.net_script.proofs.TraceLineLemmas.{arrow_fails, answer_fails, event_fails, outcome_told}
use Rattle.net_script.proofs.said.said_outcome.Goals as goal

head : {xs ys : List (List ℕ)} {x y : List ℕ} → x ∷ xs ≡ y ∷ ys → x ≡ y
head e = cc

tail : {xs ys : List (List ℕ)} {x y : List ℕ} → x ∷ xs ≡ y ∷ ys → xs ≡ ys
tail e = cc

pub returns-in_default : goal.returns-in_default
returns-in_default c = λ said is e. arrow_fails c.args.line.now c.requires c.in_default.ensures said is e

pub returns-in_err-answer : goal.returns-in_err-answer
returns-in_err-answer c =
    passes (λ e. refl) (λ none said is e. answer_fails c.args.line.now _ _ c.requires c.in-Some.ensures none said is e) _ _
    c.from_residual.ensures.1 c.in_err-answer.ensures

pub returns-in_default-next_word : goal.returns-in_default-next_word
returns-in_default-next_word c = λ said is e.
    event_fails c.args.line.now _ _ c.requires c.in-Some.ensures (λ n q x. absurd (cc (sym c.in_default-next_word.ensures ∙ x)))
    (λ y q x. absurd (cc (sym c.in_default-next_word.ensures ∙ x))) said is e

pub returns-in_default-last_node : goal.returns-in_default-last_node
returns-in_default-last_node c = λ said is e.
    event_fails c.args.line.now _ _ c.requires c.in-Some.ensures
    (λ n q x. c.in_default-last_node.ensures n q (tail (sym c.in-Some-next_word.ensures.cut ∙ x)))
    (λ y q x. event_apart (codes "serve") y refl
    (sym (c.is_word.ensures.0 c.if-is_word.true) ∙ head (sym c.in-Some-next_word.ensures.cut ∙ x))) said is e

pub returns-then-is_word : goal.returns-then-is_word
returns-then-is_word c =
    let name = c.is_word.ensures.0 c.if-is_word.true in
    let node = c.in-Some-last_node.ensures in
    let answer = c.in_ok-answer.ensures in
    outcome_told c.args.line.now c.in-Some.front.now c.in-Some.back.now (Served c.in-Some-last_node.node c.in_ok-answer.answer) c.requires
    c.in-Some.ensures.0 (node.0, answer.0)
    (c.in-Some-next_word.ensures.cut ∙ ap (λ (w : List ℕ). w ∷ words c.in-Some-next_word.args.now) name
    ∙ ap (λ (ws : List (List ℕ)). codes "serve" ∷ ws) node.1) answer.1

pub returns-in_err-event : goal.returns-in_err-event
returns-in_err-event c =
    passes (λ e. refl)
    (λ none said is e. event_fails c.args.line.now _ _ c.requires c.in-Some.ensures
    (λ n q x. iff_false c.is_word.ensures c.if-is_word.false (head (sym c.in-Some-next_word.ensures.cut ∙ x)))
    (λ y q x. none y q (sym c.in-Some-next_word.ensures.cut ∙ x)) said is e) _ _ c.from_residual-in_err-event.ensures.1
    c.in_err-event.ensures

pub returns : goal.returns
returns c =
    let event = c.in_ok-event.ensures in
    let answer = c.in_ok-answer.ensures in
    outcome_told c.args.line.now c.in-Some.front.now c.in-Some.back.now (Happened c.in_ok-event.event c.in_ok-answer.answer) c.requires
    c.in-Some.ensures.0 (event.0, answer.0) (c.in-Some-next_word.ensures.cut ∙ event.1) answer.1
