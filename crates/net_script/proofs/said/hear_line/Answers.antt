use Rattle.std.proofs.Common.{◌≡◌, ◌∷◌, ◌∙◌, ℕ, List, true, false, refl, sym, ap}
use Rattle.net_script.specs.Lines.{words}
use Rattle.net_script.specs.TraceLines.{is_tidy}
use Rattle.net_script.specs.Telling.{HearsText}
use Rattle.net_script.proofs.Arms.{passes_on}
use Rattle.net_script.proofs.TraceLineLemmas.{sent_arm, line_text_words, line_text_tidy, line_text_of, told_line}
use Rattle.net_script.proofs.said.hear_line.Goals as goal

pub returns-then-not-is_tidy : goal.returns-then-not-is_tidy
returns-then-not-is_tidy c = λ said is e.
    let tidy : is_tidy c.args.line.now ≡ true = line_text_tidy said c.args.line.now is e in
    let untidy : is_tidy c.args.line.now ≡ false = sym c.is_tidy.ensures ∙ c.if-not-is_tidy.true in
    absurd (cc)

pub returns-in_err-told : goal.returns-in_err-told
returns-in_err-told c =
    let says = c.in-Some.ensures.cut ∙ ap (λ (w : List ℕ). w ∷ words c.in-Some.args.now) (c.is_word.ensures.0 c.if-is_word.true) in
    passes_on (HearsText c.read_told.new.known c.args.line.now) (λ e. refl)
    (λ none said is e. let found = sent_arm said is _ (sym says ∙ line_text_words said _ is e) in none found.value found.fits found.says)
    _ _ c.from_residual.ensures.1 c.in_err-told.ensures

pub returns-then-is_word : goal.returns-then-is_word
returns-then-is_word c =
    told_line c.read_told.new.known c.args.line.now (words c.in-Some.args.now) c.in_ok-told.told c.in_ok-told.ensures
    (sym c.is_tidy.ensures ∙ c.if-not-is_tidy.false)
    (c.in-Some.ensures.cut ∙ ap (λ (w : List ℕ). w ∷ words c.in-Some.args.now) (c.is_word.ensures.0 c.if-is_word.true))

pub returns-in_err-said : goal.returns-in_err-said
returns-in_err-said c =
    passes_on (HearsText c.said_words.new.known c.args.line.now) (λ e. refl)
    (λ none said is e. none said is (sym c.in-Some.ensures.cut ∙ line_text_words said _ is e)) _ _
    c.from_residual-in_err-said.ensures.1 c.in_err-said.ensures

pub returns : goal.returns
returns c =
    let says = c.in_ok-said.ensures in (
      c.in_ok-said.said,
      refl,
      says.0,
      line_text_of c.in_ok-said.said c.args.line.now (sym c.is_tidy.ensures ∙ c.if-not-is_tidy.false) (c.in-Some.ensures.cut ∙ says.1),
    )
