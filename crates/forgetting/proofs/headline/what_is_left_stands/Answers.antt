use Rattle.forgetting.proofs.Left.{left_stands, same_free}
use Rattle.forgetting.proofs.headline.what_is_left_stands.Goals as goal

pub returns-clause-left : goal.returns-clause-left
returns-clause-left c from config next who floor place few all stands up free alike begins =
    left_stands from config next floor place few all up who stands free alike begins

pub returns-clause-free : goal.returns-clause-free
returns-clause-free c = same_free
