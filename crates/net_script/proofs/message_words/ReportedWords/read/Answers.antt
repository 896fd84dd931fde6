use Rattle.std.proofs.Common.{◌≡◌, ◌∙◌, ◌++◌, ℕ, ◌<◌, List, [], ◌∷◌, Option, None, Some, sym, ap, codes, decimal}
use Rattle.std.proofs.lemmas.Bool.{iff_false}
use Rattle.net_script.specs.Basics.{Vote, A}
use Rattle.net_script.specs.Lines.{words, node_text}
use Rattle.net_script.specs.Laws.{acceptor_of, report_front}
use Rattle.net_script.specs.Messages.{vote_text, FitsReport, report_words}
use Rattle.net_script.proofs.Arms.{passes}
use Rattle.net_script.proofs.message_words.ReportedWords.read.Goals as goal

pub returns-in_err-acceptor : goal.returns-in_err-acceptor
returns-in_err-acceptor c =
    passes (λ e. e)
    (λ none y q e.
    let rest = words c.in-Some.rest.now in
    let says = ap (λ (word : List ℕ). word ∷ rest) (sym (c.is_word.ensures.0 c.if-is_word.true)) ∙ (sym c.in-Some.ensures.cut ∙ e) in
    none (acceptor_of y.acceptor, tt) (q.1, tt) (report_front None y.report rest (node_text (A y.acceptor) ∷ []) tt q.0 says).1)
    c.in_err-acceptor.field-0.0 c.from_residual.result c.from_residual.ensures.1 c.in_err-acceptor.ensures

-- a first word that isn't `none`
reported : {given rest : List (List ℕ)} {word : List ℕ} → given ≡ word ∷ rest → (word ≡ codes "none" → ⊥)
    → ((n : ℕ) (v : Vote) (a : ℕ) → FitsReport (Some (n, v)) → a < 256 → given ≡ decimal n ∷ vote_text v ∷ node_text (A a) ∷ [] → ⊥)
    → (r : Option (ℕ × Vote)) (a : ℕ) → FitsReport r → a < 256 → given ≡ report_words r ++ node_text (A a) ∷ [] → ⊥
reported cut other none None a p q e = other (cc)
reported cut other none (Some b) a p q e = none b.0 b.1 a p q e

pub returns-in_err-ballot : goal.returns-in_err-ballot
returns-in_err-ballot c =
    passes (λ e. e)
    (λ none y q e.
    reported c.in-Some.ensures.cut (λ same. iff_false c.is_word.ensures c.if-is_word.false same)
    (λ n v a lt at says. none (n, (v, (acceptor_of a, tt))) (lt, (tt, (at, tt))) says) y.report y.acceptor q.0 q.1 e)
    c.in_err-ballot.field-0.0 c.from_residual-in_err-ballot.result c.from_residual-in_err-ballot.ensures.1 c.in_err-ballot.ensures
