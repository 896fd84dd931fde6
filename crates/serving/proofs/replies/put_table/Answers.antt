use Rattle.std.proofs.Common.{◌++◌, ◌∷◌, List, ℕ, ap, codes, ◌∙◌}
use Rattle.std.proofs.lemmas.Result.{on_ok_weaker}
use Rattle.net_script.specs.Items.{rows_words}
use Rattle.net_script.specs.Traces.{spaced_words}
use Rattle.serving.proofs.replies.put_table.Goals as goal

pub returns : goal.returns
returns c =
    let rows = rows_words c.args.rows.now in
    on_ok_weaker c.put_words.result (λ puts. puts (codes "rows" ∷ rows)
    (c.deref.ensures.value ∙ c.in_ok-put_rows.ensures.ok
    ∙ ap (λ (t : List ℕ). t ++ spaced_words rows) c.in_ok-words.ensures.items)) c.put_words.ensures
