use Rattle.std.proofs.Common.{◌∙◌, sym, ap, arith}
use Rattle.hashing.specs.Hashing.{mixed, words_taken}
use Rattle.hashing.proofs.Eights.{word_taken, words_ended}
use Rattle.hashing.proofs.bytes.all_taken.Goals as goal

pub loop-word-preserved : goal.loop-word-preserved
loop-word-preserved c =
    let by = c.args.multiplier in
    let step = word_taken by c.loop-word.state c.loop-word.rest.now c.in-Some.word.now c.in-Some.after.now
    (omega (arith, c.in-Some.ensures.cases.2)) c.in-Some.ensures.cases.0 c.in-Some.ensures.cases.1 in
    ap (λ s. words_taken by s c.in-Some.after.now) (c.mixed-state.ensures ∙ ap (mixed by c.loop-word.state) c.from_le_bytes.ensures)
    ∙ step ∙ c.loop-word.invariant

pub returns : goal.returns
returns c =
    let by = c.args.multiplier in
    let all = sym (words_ended by c.loop-word.state c.loop-word.rest.now c.in_default.ensures.cases) ∙ c.loop-word.invariant in
    c.mixed.ensures ∙ (λ k. mixed by (all k) (c.last_word.ensures k))
