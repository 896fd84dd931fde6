use Rattle.serving.proofs.WishLemmas.{awaits_nowhere}
use Rattle.serving.proofs.words.read_await.Goals as goal

pub returns-in_default : goal.returns-in_default
returns-in_default c = λ line begins. awaits_nowhere line c.args.args.now begins c.in_default.ensures
