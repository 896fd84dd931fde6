use Rattle.std.proofs.Common.{◌++◌, List, ℕ, ap, ◌∙◌}
use Rattle.std.proofs.lemmas.Result.{on_ok_weaker}
use Rattle.net_script.specs.Answers.{answer_words}
use Rattle.net_script.specs.Traces.{spaced_words}
use Rattle.serving.proofs.replies.put_reply.Goals as goal

pub returns : goal.returns
returns c =
    let ws = answer_words c.args.answer.now in
    on_ok_weaker c.put_words.result (λ puts. puts ws
    (c.deref.ensures.value ∙ c.in_ok-put_answer.ensures.ok
    ∙ ap (λ (t : List ℕ). t ++ spaced_words ws) c.new-words.ensures.items)) c.put_words.ensures
