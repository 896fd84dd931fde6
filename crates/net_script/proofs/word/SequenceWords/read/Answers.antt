use Rattle.std.proofs.Common.{◌∙◌, ◌++◌, List, ap, refl, sym, subst, map}
use Rattle.std.specs.List.{All}
use Rattle.std.proofs.lemmas.List.Elements.{All-push}
use Rattle.net_script.specs.Lines.{words}
use Rattle.net_script.proofs.Arms.{passes, word_read, word_unread}
use Rattle.net_script.proofs.word.SequenceWords.read.Goals as goal

pub returns-in_err-read : goal.returns-in_err-read
returns-in_err-read g c =
    passes (λ e. refl)
    (λ none xs are e.
    word_unread (record { same = g.met.W.Word.spelling.one }) c.loop-word.all.items xs _ _ _ _ (c.loop-word.invariant.1, are)
    c.loop-word.invariant.0 c.in-Some.ensures.cut none e)
    _ _ c.from_residual.ensures.1 c.in_err-read.ensures

pub loop-word-preserved : goal.loop-word-preserved
loop-word-preserved g c =
    let pushed = c.in_ok-push.ensures.items in
    let all = c.loop-word.all.items in
    let read = c.in_ok-read.ensures in (
      word_read g.W.Word.text all c.in_ok-read.field-0 _ _ _ _ c.loop-word.invariant.0 c.in-Some.ensures.cut read.1
          ∙ ap (λ (xs : List _). map g.W.Word.text xs ++ words c.in-Some.after.now) (sym pushed),
      subst (All g.W.Word.fits) (sym pushed) (All-push g.W.Word.fits all c.in_ok-read.field-0 c.loop-word.invariant.1 read.0),
    )
