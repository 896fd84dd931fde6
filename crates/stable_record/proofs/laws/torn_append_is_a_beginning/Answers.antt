use Rattle.std.proofs.Common.{ap, ◌∙◌, append_assoc, List, ℕ, ◌++◌, drop, take}
use Rattle.std.proofs.lemmas.List.{take-append-drop}
use Rattle.stable_record.proofs.laws.torn_append_is_a_beginning.Goals as goal

pub returns-clause-beginning : goal.returns-clause-beginning
returns-clause-beginning c bytes frame n =
    (drop n frame, append_assoc bytes (take n frame) (drop n frame) ∙ ap (λ (rest : List ℕ). bytes ++ rest) (take-append-drop n frame))
