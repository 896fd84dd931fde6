use Rattle.std.proofs.Common.{◌∙◌, ◌∷◌, ◌++◌, List, [], ap, refl, sym, subst, map, length, arith}
use Rattle.std.proofs.lemmas.List.{length-append}
use Rattle.std.proofs.lemmas.List.Elements.{All-nil, All-push}
use Rattle.net_script.specs.Lines.{words}
use Rattle.net_script.specs.Spelling.{AreItems}
use Rattle.net_script.proofs.Arms.{passes, word_read, word_unread, more_follow}
use Rattle.net_script.proofs.word.ItemsWords.read.Goals as goal

pub returns-in_err-read : goal.returns-in_err-read
returns-in_err-read g c =
    passes (λ e. e)
    (λ none is are e.
    word_unread (record { same = g.met.W.Word.spelling.one }) [] is _ _ _ _ (All-nil g.W.Word.fits, are.each) refl
    c.in-Some.ensures.cut none e)
    _ _ c.from_residual.ensures.1 c.in_err-read.ensures

pub returns-in_err-item : goal.returns-in_err-item
returns-in_err-item g c =
    passes (λ e. e)
    (λ none is are e.
    word_unread (record { same = g.met.W.Word.spelling.one }) c.loop-word.items is _ _ _ _ (c.loop-word.invariant.1.each, are.each)
    c.loop-word.invariant.0 c.in-Some-next_word.ensures.cut none e)
    _ _ c.from_residual-in_err-item.ensures.1 c.in_err-item.ensures

pub returns-then-as_slice-ge-MAX_BRANCHES : goal.returns-then-as_slice-ge-MAX_BRANCHES
returns-then-as_slice-ge-MAX_BRANCHES g c = λ is are e.
    let more =
    more_follow g.W.Word.text c.loop-word.items is _ _ _ _ c.loop-word.invariant.0 c.in-Some-next_word.ensures.cut e in
    let few = are.few in
    absurd (omega (arith, ap length c.as_slice.ensures.items))

pub loop-word-preserved : goal.loop-word-preserved
loop-word-preserved g c =
    let pushed = c.push.ensures in
    let items = c.loop-word.items in
    let item = c.in_ok-item.item in
    let read = c.in_ok-item.ensures in
    let are = c.loop-word.invariant.1 in (
      word_read g.W.Word.text items item _ _ _ _ c.loop-word.invariant.0 c.in-Some-next_word.ensures.cut read.1
          ∙ ap (λ (all : List _). map g.W.Word.text all ++ words c.in-Some-next_word.after.now) (sym pushed),
      subst (AreItems g.W.Word.fits) (sym pushed)
          (record {
            some = omega (arith, length-append items (item ∷ []));
            few = omega (arith, length-append items (item ∷ []), ap length c.as_slice.ensures.items);
            each = All-push g.W.Word.fits items item are.each read.0;
          }),
    )
