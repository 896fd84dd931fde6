use Rattle.net_script.specs.Messages.{accepted_text}
use Rattle.net_script.specs.Laws.{same_item}
use Rattle.net_script.proofs.Arms.{passes}
use Rattle.net_script.proofs.message_words.InstanceAcceptWord.read.Goals as goal

pub returns-in_err-ballot : goal.returns-in_err-ballot
returns-in_err-ballot c =
    passes (λ e. e)
    (λ none i fits e.
    none (i.ballot, i.vote) fits.ballot
    (same_item i.instance _ (accepted_text i.ballot i.vote) _ _ fits.instance c.in-Some.ensures.0 e c.in-Some.ensures.1))
    _ _ c.from_residual.ensures.1 c.in_err-ballot.ensures
