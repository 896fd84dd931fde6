use Rattle.net_script.specs.Laws.{cut_item}
use Rattle.net_script.proofs.message_words.item_of.Goals as goal

pub returns-in_err-manager_word : goal.returns-in_err-manager_word
returns-in_err-manager_word c =
    rw c.from_residual-in_err-manager_word.ensures
    (λ n item lt e. c.in_err-manager_word.ensures n lt (cut_item n item _ _ _ lt e c.in_ok-node.ensures).0)
