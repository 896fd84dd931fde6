use Rattle.net_script.specs.Laws.{cut_accepted}
use Rattle.net_script.proofs.Arms.{passes}
use Rattle.net_script.proofs.message_words.accepted_of.Goals as goal

pub returns-in_default-number : goal.returns-in_default-number
returns-in_default-number c = λ a lt e. c.in_default-number.ensures a.0 lt (cut_accepted a.0 a.1 _ _ _ lt e c.in-Some.ensures).0

pub returns-in_err-vote : goal.returns-in_err-vote
returns-in_err-vote c =
    passes (λ e. e) (λ none a lt e. none a.1 tt (cut_accepted a.0 a.1 _ _ _ lt e c.in-Some.ensures).1)
    _ _ c.from_residual.ensures.1 c.in_err-vote.ensures
